-- Two keys are the same where they are one.
use Rattle.std.proofs.Common.{◌≡◌, ℕ, Bool, true, false, eqb, eqb-true, eq-eqb, true≢false, refl, sym, subst}
use Rattle.std.specs.Prelude.{IsTrue, ◌&&◌, ◌↔◌}
use Rattle.hc_value.specs.Attrs.{bits_of}
use Rattle.hc_value.specs.declared.key.Key.{Key}
use Rattle.hc_value.specs.declared.prop.Kind.{Kind}
use Rattle.hc_value.specs.declared.prop.Kind.TheVariants.{DataProp, AccessorProp}
use Rattle.hc_links.specs.Chains.{same_kind, same_key}

both : (a b : Bool) → (a && b) ≡ true → (a ≡ true) × (b ≡ true)
both true b h = (refl, h)
both false b h = absurd (true≢false (sym h))

kinds : (a b : Kind) → same_kind a b ≡ true → a ≡ b
kinds DataProp DataProp h = refl
kinds DataProp AccessorProp h = absurd (true≢false (sym h))
kinds AccessorProp DataProp h = absurd (true≢false (sym h))
kinds AccessorProp AccessorProp h = refl

kind-itself : (k : Kind) → same_kind k k ≡ true
kind-itself DataProp = refl
kind-itself AccessorProp = refl

both-of : (a b : Bool) → a ≡ true → b ≡ true → (a && b) ≡ true
both-of true b h k = k
both-of false b h k = absurd (true≢false (sym h))

abbrev key-of : ℕ → Kind → ℕ → Key
key-of name kind bits = record { name = name; kind = kind; attrs = record { 0 = bits } }

one-key : (n m : ℕ) (k l : Kind) (x y : ℕ) → n ≡ m → k ≡ l → x ≡ y → key-of n k x ≡ key-of m l y
one-key n m k l x y e f g = cc

same-one : (a b : Key) → same_key a b ≡ true → a ≡ b
same-one a b h =
    let names = eqb a.name b.name in
    let bits = eqb (bits_of a.attrs) (bits_of b.attrs) in
    let last = both (names && same_kind a.kind b.kind) bits h in
    let first = both names (same_kind a.kind b.kind) last.0 in
    one-key a.name b.name a.kind b.kind (bits_of a.attrs) (bits_of b.attrs) (eqb-true a.name b.name first.0) (kinds a.kind b.kind first.1) (eqb-true (bits_of a.attrs) (bits_of b.attrs) last.1)

pub same-itself : (k : Key) → same_key k k ≡ true
same-itself k =
    let names = eqb k.name k.name in
    let bits = eqb (bits_of k.attrs) (bits_of k.attrs) in
    both-of (names && same_kind k.kind k.kind) bits
    (both-of names (same_kind k.kind k.kind) (eq-eqb k.name k.name refl) (kind-itself k.kind))
    (eq-eqb (bits_of k.attrs) (bits_of k.attrs) refl)

pub same-keys : (a b : Key) → IsTrue (same_key a b) ↔ a ≡ b
same-keys a b = (same-one a b, λ e. subst (λ (k : Key). same_key a k ≡ true) e (same-itself a))
