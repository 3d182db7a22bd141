-- An object with another map that has the same keys.
use Rattle.std.proofs.Common.{◌≡◌, ℕ, ◌<◌, Bool, List, Option, Some, sym, ap, ◌∙◌, subst}
use Rattle.hc_value.specs.declared.prop.Prop.{Prop}
use Rattle.hc_heap.specs.Writes.{Trail}
use Rattle.hc_heap.specs.Readings.{gate_in, prototype_in}
use Rattle.hc_descs.specs.Entries.{count_of, entries_in}
use Rattle.hc_tree.specs.Tree.{gate_with}
use Rattle.hc_table.specs.Changes.{with_link}
use Rattle.hc_table.specs.World.{Object}
use Rattle.hc_slots.specs.Listed.{listed, listed-same}
use Rattle.hc_slots.specs.Meaning.{prop_in, proto_of, is_extensible, fast_props, fast_object}
use Rattle.hc_slots.specs.Fast.{IsFast}
use Rattle.hc_modes.specs.Resettled.{IsResettled}

module _ (old new : Trail) (o m c n : ℕ) (own : Bool) (fast : IsFast old o m (gate_with n own)) (proto : Option ℕ) (it : IsResettled old new o m c n own proto) where
  -- the object has its properties, and another prototype
  pub like-object : fast_object new o c ≡ with_link (fast_object old o m) proto
  like-object =
      let count : count_of old m ≡ n = ap entries_in fast.is_open in
      let same : count_of new c ≡ count_of old m = ap entries_in it.gate ∙ sym count in
      let extensible : is_extensible (gate_in new c) ≡ is_extensible (gate_in old m) = ap is_extensible it.gate ∙ sym (ap is_extensible fast.is_open) in
      let props : fast_props new o c ≡ fast_props old o m =
      ap (listed (prop_in new o c)) same
      ∙ listed-same (prop_in old o m) (prop_in new o c) (count_of old m) (λ k lt. it.props k (subst (λ (x : ℕ). k < x) count lt)) in
      ap (λ (q : Option (Option ℕ)). let x : Object = record { proto = proto_of q; extensible = is_extensible (gate_in new c); props = fast_props new o c } in x) it.prototype
      ∙ ap (λ (b : Bool). let x : Object = record { proto = proto; extensible = b; props = fast_props new o c } in x) extensible
      ∙ ap (λ (ps : List Prop). let x : Object = record { proto = proto; extensible = is_extensible (gate_in old m); props = ps } in x) props

  -- and where the prototype is the one that its map said, it is as it was
  pub same-object : prototype_in old m ≡ Some proto → fast_object new o c ≡ fast_object old o m
  same-object is =
      like-object ∙ ap (λ (q : Option (Option ℕ)). let x : Object = record { proto = proto_of q; extensible = is_extensible (gate_in old m); props = fast_props old o m } in x) (sym is)
