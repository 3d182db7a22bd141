-- A number that stood still at the end of its type lies past every region, as the number that it stands for does.
use Rattle.std.proofs.Common.{◌≡◌, ℕ, ◌≤◌, min, Bool, true, false, List, refl, inl, inr, ap, arith}
use Rattle.std.specs.Prelude.{◌⊎◌, Option, nat_lt}
use Rattle.hc_board.specs.Trail.{Access}
use Rattle.hc_layout.specs.Shape.{IsShape, items_of}
use Rattle.hc_layout.specs.declared.shape.Shape.{Shape}
use Rattle.hc_layout.specs.declared.shape.Region.{Region}
use Rattle.hc_layout.specs.declared.shape.Region.TheVariants.{Maps, Entries, Fields, Links, Objects, Slots, Cells}
use Rattle.hc_heap.specs.Kinds.{region_of}
use Rattle.hc_heap.specs.declared.kind.Kind.{Kind}
use Rattle.hc_broker.specs.Peeks.{Peeked, index_asked, where_there}

end : ℕ
end = 4294967295

module _ (at item items : ℕ) (capped : at ≡ min item 4294967295) (few : items ≤ 4294967295) where
  same-or-past : (below : Bool) → nat_lt item 4294967295 ≡ below → (at ≡ item) ⊎ ((nat_lt at items ≡ false) × (nat_lt item items ≡ false))
  same-or-past true h = inl (grind (arith, h, capped))
  same-or-past false h = inr (grind (arith, h, capped, few), grind (arith, h, few))

few-items : (s : Shape) (r : Region) → IsShape s → items_of s r ≤ 4294967295
few-items s Maps h = let k = h.maps in omega (arith, k)
few-items s Entries h = let k = h.entries in omega (arith, k)
few-items s Fields h = let k = h.fields in omega (arith, k)
few-items s Links h = let k = h.links in omega (arith, k)
few-items s Objects h = let k = h.objects in omega (arith, k)
few-items s Slots h = let k = h.slots in omega (arith, k)
few-items s Cells h = let k = h.cells in omega (arith, k)

module _ (s : Shape) (kind : Kind) (at item : ℕ) where
  same-index : (at ≡ item) ⊎ ((nat_lt at (items_of s (region_of kind)) ≡ false) × (nat_lt item (items_of s (region_of kind)) ≡ false)) → index_asked s kind at ≡ index_asked s kind item
  same-index (inl e) = ap (index_asked s kind) e
  same-index (inr h) = rw (h.0, h.1) refl

  same-there : {T : Type 0} (said : Option T) → (at ≡ item) ⊎ ((nat_lt at (items_of s (region_of kind)) ≡ false) × (nat_lt item (items_of s (region_of kind)) ≡ false)) → where_there s kind at said ≡ where_there s kind item said
  same-there said (inl e) = ap (λ (n : ℕ). where_there s kind n said) e
  same-there said (inr h) = rw (h.0, h.1) refl

pub peeked-capped : {L T : Type 0} {image : L → Option (List ℕ)} {looked : L → List Access → L → Type 0} {s : Shape} {kind : Kind} {at item : ℕ} {form : ℕ → Option T} {old new : L} {said : Option T}
    → IsShape s → at ≡ min item 4294967295 → Peeked image looked s kind at form old new said → Peeked image looked s kind item form old new said
peeked-capped {looked} {s} {kind} {at} {item} {form} {old} {new} fits capped p =
    let which = same-or-past at item (items_of s (region_of kind)) capped (few-items s (region_of kind) fits) (nat_lt item 4294967295) refl in
    let index = same-index s kind at item which in
    record {
      word = p.word;
      looks = rw index at p.looks;
      value = rw index at p.value;
      same = p.same;
      says = rw (same-there s kind at item (form p.word) which) at p.says;
    }
