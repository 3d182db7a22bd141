-- What holds of all objects once one of them came to a map in the place of its own.
use Rattle.std.proofs.Common.{◌≡◌, ◌≢◌, ℕ, ◌<◌, ◌++◌, Bool, List, Option, Some, None, length, sym, ap, ◌∙◌}
use Rattle.std.specs.Prelude.{IsTrue}
use Rattle.hc_layout.specs.declared.words.MapBits.{MapBits}
use Rattle.hc_value.specs.declared.field.Detail.{Detail}
use Rattle.hc_heap.specs.Kept.{DetailsRise, FormsAreKept, SetIsKept, StableIsKept, UnusedSaysNothing}
use Rattle.hc_heap.specs.Readings.{bits_in, map_in, prototype_in, root_in}
use Rattle.hc_heap.specs.States.{View}
use Rattle.hc_facts.specs.Laws.{HonestAfter, KeptIsCarried, MovedIsCarried}
use Rattle.hc_tree.specs.Kept.{MapsAreKept}
use Rattle.hc_tree.specs.Tree.{gate_with}
use Rattle.hc_slots.specs.Cases.{some-is}
use Rattle.hc_slots.specs.Fast.{IsFast}
use Rattle.hc_slots.specs.Meaning.{Dictionary}
use Rattle.hc_modes.specs.Admitting.{FactsStay}
use Rattle.hc_modes.specs.Changes.{ChangedBut}
use Rattle.hc_modes.specs.Meaning.{kept_of, world}
use Rattle.hc_modes.specs.Resettled.{HasMovedOn, IsResettled}
use Rattle.hc_modes.specs.Rest.{MarksBut}
use Rattle.hc_modes.specs.State.{AreRoots, IsObjects}
use Rattle.hc_modes.proofs.MovedOn.{on-facts, on-marks, on-sound, on-world}
use Rattle.hc_modes.proofs.Remade.{came-begins, came-changed, came-dead, came-linked, came-protos, came-resettled, came-roots, came-unstable}

module _ {Dies : ℕ → Type 0} {Gets : ℕ → Detail → Type 0} (maps : MapsAreKept) (details : DetailsRise) (set : SetIsKept) (unused : UnusedSaysNothing) (v x : View) (kept : List (Option Dictionary)) (null : Option ℕ) (h : IsObjects v kept null) (o : ℕ)
    (there : o < length kept) (still : kept_of kept o ≡ None) (m n : ℕ) (own : Bool) (proto : Option ℕ) (has : map_in v.trail o ≡ Some m) (fast : IsFast v.trail o m (gate_with n own)) (is : prototype_in v.trail m ≡ Some proto)
    (on : HasMovedOn Dies Gets v x o m n own proto) where
  pub moved-changed : ChangedBut Dies v x o
  moved-changed = came-changed maps details set v on.mid o m on.map n own proto h.heap has fast on.made x on.come

  settled : IsResettled v.trail x.trail o m on.map n own proto
  settled = came-resettled maps details set v on.mid o m on.map n own proto h.heap has fast on.made x on.come

  pub moved-protos : (q : ℕ) → (root_in x.trail q).is_proto ≡ (root_in v.trail q).is_proto
  moved-protos = came-protos maps details set v on.mid o m on.map n own proto h.heap has fast on.made x on.come

  objects : x.used.objects ≡ v.used.objects
  objects = ap (λ (y : View). y.used.objects) on.come.view ∙ on.made.objects

  slots : x.used.slots ≡ v.used.slots
  slots = ap (λ (y : View). y.used.slots) on.come.view ∙ on.made.slots

  unstable : IsTrue (bits_in x.trail m).unstable
  unstable = came-unstable maps details set v on.mid o m on.map n own proto h.heap has fast on.made x on.come

  pub moved-shape : x.shape ≡ v.shape
  moved-shape = moved-changed.shape

  pub moved-world : world x.trail kept ≡ world v.trail kept
  moved-world = on-world maps details unused v x kept null h o there still m on.map n own proto has fast is moved-changed settled moved-protos on.made.fresh objects slots unstable

  pub moved-sound : AreRoots on.mid.trail null → IsObjects x kept null
  moved-sound roots = on-sound maps details unused v x kept null h o there still m on.map n own proto has fast is moved-changed settled moved-protos on.made.fresh objects slots unstable null
      (came-roots maps details set v on.mid o m on.map n own proto h.heap has fast on.made x on.come null roots)

  pub moved-facts : FormsAreKept → StableIsKept → HonestAfter → KeptIsCarried → MovedIsCarried → FactsStay v.shape v.trail x.trail
  moved-facts forms stable honest carried carries =
      on-facts maps details unused v x kept null h o there still m on.map n own proto has fast is moved-changed settled moved-protos on.made.fresh objects slots unstable forms stable honest carried carries

  pub moved-marks : on.map ≢ m → MarksBut Dies v.trail x.trail o
  moved-marks other =
      on-marks maps details unused v x kept null h o there still m on.map n own proto has fast is moved-changed settled moved-protos on.made.fresh objects slots unstable other (on.come.marks.more ++ on.made.writes.more)
      (came-begins maps details set v on.mid o m on.map n own proto h.heap has fast on.made x on.come)
      (came-linked maps details set v on.mid o m on.map n own proto h.heap has fast on.made x on.come)
      (λ yes. ap (λ (b : MapBits). b.unstable) (on.come.bits on.map) ∙ on.made.stable yes)
      (came-dead maps details set v on.mid o m on.map n own proto h.heap has fast on.made x on.come)

  pub moved-left : on.map ≢ m → map_in x.trail o ≢ map_in v.trail o
  moved-left other same = other (some-is on.map m (sym on.come.moved ∙ (same ∙ has)))
