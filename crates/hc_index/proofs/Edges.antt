-- Two edges are the same exactly where the maps and the keys are.
use Rattle.std.proofs.Common.{◌≡◌, ℕ, Bool, true, false, ◌&&◌, eqb, refl, sym, true≢false, Result, Ok, Err, is_err, OnOk}
use Rattle.std.specs.Bool.{beq}
use Rattle.std.proofs.lemmas.Bool.Decides.{Decides-eqb}
use Rattle.hc_value.specs.Attrs.{bits_of}
use Rattle.hc_value.specs.declared.key.Key.{Key}
use Rattle.hc_value.specs.declared.prop.Kind.{Kind}
use Rattle.hc_value.specs.declared.prop.Kind.TheVariants.{DataProp, AccessorProp}
use Rattle.hc_index.specs.Links.{is_accessor, edge_of, same_edge}

and_parts : (a b : Bool) → (a && b) ≡ true → (a ≡ true) × (b ≡ true)
and_parts true true h = (refl, refl)
and_parts true false h = absurd (true≢false (sym h))
and_parts false b h = absurd (true≢false (sym h))

one_kind : (a b : Kind) → beq (is_accessor a) (is_accessor b) ≡ true → a ≡ b
one_kind DataProp DataProp h = refl
one_kind AccessorProp AccessorProp h = refl
one_kind DataProp AccessorProp h = absurd (true≢false (sym h))
one_kind AccessorProp DataProp h = absurd (true≢false (sym h))

pub one_edge : (m n : ℕ) (k l : Key) → same_edge (edge_of m k) (edge_of n l) ≡ true → (m ≡ n) × (k ≡ l)
one_edge m n k l h =
    let first = and_parts (eqb m n) (eqb k.name l.name && (beq (is_accessor k.kind) (is_accessor l.kind) && eqb (bits_of k.attrs) (bits_of l.attrs))) h in
    let second = and_parts (eqb k.name l.name) (beq (is_accessor k.kind) (is_accessor l.kind) && eqb (bits_of k.attrs) (bits_of l.attrs)) first.1 in
    let third = and_parts (beq (is_accessor k.kind) (is_accessor l.kind)) (eqb (bits_of k.attrs) (bits_of l.attrs)) second.1 in
    let names = (Decides-eqb k.name l.name).0 second.0 in
    let kinds = one_kind k.kind l.kind third.0 in
    let bits = (Decides-eqb (bits_of k.attrs) (bits_of l.attrs)).0 third.1 in
    ((Decides-eqb m n).0 first.0, λ i. record { name = names i; kind = kinds i; attrs = record { 0 = bits i } })

pub when_ok : {A B : Type 0} (r : Result A B) (P : Type 0) → is_err r ≡ false → OnOk r P → P
when_ok (Ok x) P h p = p
when_ok (Err e) P h p = absurd (true≢false h)
