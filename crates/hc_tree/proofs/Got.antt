-- What the fields of a private copy got.
use Rattle.std.proofs.Common.{◌≡◌, ℕ, zero, suc, ◌+◌, ◌<◌, ◌≤◌, Bool, true, false, Option, Some, None, refl, sym, ap, ◌∙◌, subst, arith}
use Rattle.std.specs.Prelude.{IsSomeAnd, nat_lt}
use Rattle.std.proofs.lemmas.Bool.Decides.{nat_tests}
use Rattle.hc_layout.specs.declared.shape.Shape.{Shape}
use Rattle.hc_layout.specs.declared.words.GateWord.{GateWord}
use Rattle.hc_value.specs.declared.field.Detail.{Detail}
use Rattle.hc_heap.specs.declared.kind.Kind.TheVariants.{DetailOfField}
use Rattle.hc_heap.specs.Writes.{Trail}
use Rattle.hc_heap.specs.Readings.{gate_in, owner_in, detail_in}
use Rattle.hc_heap.specs.Lawful.{IsField, Lawful}
use Rattle.hc_heap.specs.Kept.{Adds, UnusedSaysNothing}
use Rattle.hc_heap.specs.Frames.{goes-on-of, same-after}
use Rattle.hc_heap.specs.States.{View, IsHeap}
use Rattle.hc_descs.specs.Entries.{field_at}
use Rattle.hc_tree.specs.Copying.{CopyGets, Extra, HasCopied, HasMore, More, copied_fields}
use Rattle.hc_tree.specs.Details.{DetailsAre, detail_of, detail_at}
use Rattle.hc_tree.specs.Growth.{MakesMap}
use Rattle.hc_tree.specs.Kept.{MapsAreKept, MapsStay}
use Rattle.hc_tree.proofs.Made.{some-with}
use Rattle.hc_tree.proofs.Opening.{some-of}
use Rattle.hc_tree.proofs.Walked.{detail-by, details-stay}

below-or : (f x : ℕ) (C : Type 0) → (f < x → C) → (x ≤ f → C) → C
below-or f x C below above = by (nat_lt f x) refl
  where
    by : (b : Bool) → nat_lt f x ≡ b → C
    by true e = below (grind (arith, nat_tests, e))
    by false e = above (grind (arith, nat_tests, e))

gap : (x f : ℕ) → x ≤ f → (k : ℕ) × (f ≡ x + k)
gap zero f le = (f, omega arith)
gap (suc x) zero le = absurd (omega (arith, le))
gap (suc x) (suc f) le = let rest = gap x f (omega (arith, le)) in let is = rest.1 in (rest.0, omega (arith, is))

-- the field of an entry more
pub extra-got : (more : More) (t : Trail) (c n f : ℕ) (e : Extra) → more ≡ Some e → HasMore more t c n → field_at t c n ≡ Some f → detail_in t f ≡ Some e.1
extra-got more t c n f e is has at =
    let ends : HasMore (Some e) t c n = subst (λ (x : More). HasMore x t c n) is has in
    (subst (λ (o : Option ℕ). IsSomeAnd o (λ y. (owner_in t y ≡ Some c) × (detail_in t y ≡ Some e.1))) at ends.field).1

module _ (maps : MapsAreKept) (unused : UnusedSaysNothing) (v w : View) (c m n : ℕ) (g : GateWord) (heap : IsHeap v) (after : IsHeap w) (shape : w.shape ≡ v.shape)
    (is_open : gate_in v.trail m ≡ Some g) (count : g.entries ≡ n) (writes : Adds (MakesMap v.used None) v.trail w.trail) where
  kept : (f : ℕ) → f < v.used.fields → detail_in w.trail f ≡ detail_in v.trail f
  kept f lt = same-after (λ (t : Trail). detail_in t f) (detail-by v.used None f lt) writes

  later : MapsStay v.trail w.trail
  later = maps v.shape v.trail w.trail heap.lawful (goes-on-of v.shape writes (subst (λ (s : Shape). Lawful s w.trail) shape after.lawful))

  stay : (k : ℕ) → k < n → detail_at w.trail m k ≡ detail_at v.trail m k
  stay k lt = details-stay maps unused v w heap later kept m g is_open k (omega (arith, lt, count))

  above : (k : ℕ) → w.used.fields ≡ v.used.fields + k → (f : ℕ) → v.used.fields + k ≤ f → detail_in w.trail f ≡ detail_in v.trail f
  above k used f le = unused w.used w.trail DetailOfField f after.used (omega (arith, le, used)) ∙ sym (unused v.used v.trail DetailOfField f heap.used (omega (arith, le)))

  -- a field that is none of k new ones
  rest-by : (k : ℕ) → w.used.fields ≡ v.used.fields + k → (f : ℕ) → ((p : ℕ) → p < k → f ≡ v.used.fields + p → ⊥) → detail_in w.trail f ≡ detail_in v.trail f
  rest-by k used f none = below-or f v.used.fields (detail_in w.trail f ≡ detail_in v.trail f) (kept f)
      (λ le. below-or f (v.used.fields + k) (detail_in w.trail f ≡ detail_in v.trail f)
      (λ lt. let p = gap v.used.fields f le in let is = p.1 in absurd (none p.0 (omega (arith, lt, is)) is))
      (above k used f))

  admitted : (k : ℕ) → k < n → (d : Detail) × (detail_at v.trail m k ≡ Some d)
  admitted k lt =
      let made = some-with (λ (f : ℕ). IsField v.trail f) (field_at v.trail m k) ((later.opened m g is_open).entries.fields k (omega (arith, lt, count))) in
      let d = some-of (detail_in v.trail made.0) made.1.1.detail in
      (d.0, ap (detail_of v.trail) made.1.0 ∙ d.1)

  pub copy-got : (fresh : Bool) (more : More) → HasCopied fresh w.trail c m n v.used.fields → w.used.fields ≡ v.used.fields + copied_fields fresh more n
      → ((e : Extra) → more ≡ Some e → detail_in w.trail v.used.fields ≡ Some e.1) → DetailsAre (CopyGets fresh more v.trail m n v.used.fields) v.trail w.trail
  copy-got fresh (Some e) copied used extra = record {
    gets = λ f d got. ap (detail_in w.trail) got.0 ∙ (extra e refl ∙ ap (λ (x : Detail). Some x) (sym got.1));
    rest = λ f none. rest-by 1 used f (λ p lt is. none e.1 (omega (arith, lt, is), refl));
  }
  copy-got true None copied used extra = record {
    gets = λ f d got.
        let here : f ≡ v.used.fields + got.place = omega (arith, got.field) in
        ap (detail_in w.trail) here ∙ ((copied.made got.place got.within).detail ∙ (stay got.place got.within ∙ got.same));
    rest = λ f none. rest-by n used f (λ p lt is.
        let d = admitted p lt in
        none d.0 (record { place = p; from = omega arith; within = lt; field = omega (arith, is); same = d.1 }));
  }
  copy-got false None copied used extra = record {
    gets = λ f d got. absurd (omega (arith, got.from, got.within));
    rest = λ f none. rest-by 0 used f (λ p lt is. absurd (omega (arith, lt)));
  }
