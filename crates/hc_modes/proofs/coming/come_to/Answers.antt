use Rattle.std.proofs.Common.{◌≡◌, ◌<◌, ◌≤◌, ℕ, Option, sym, subst, arith}
use Rattle.std.specs.Prelude.{IsSomeAnd}
use Rattle.hc_layout.specs.declared.words.GateWord.{GateWord}
use Rattle.hc_heap.specs.Readings.{gate_in}
use Rattle.hc_heap.specs.States.{View, IsHeap}
use Rattle.hc_slots.specs.Cases.{some-and}
use Rattle.hc_modes.specs.Resettled.{HasCome}
use Rattle.hc_modes.proofs.Arriving.{come-lawful, has-come, objects-same}
use Rattle.hc_modes.proofs.coming.come_to.Goals as goal

-- a map with n entries has no fewer
no-less : (o : Option GateWord) (n : ℕ) → IsSomeAnd o (λ g. g.entries ≡ n) → IsSomeAnd o (λ g. n ≤ g.entries)
no-less o n h = let g = some-and o (λ x. x.entries ≡ n) h in subst (λ (x : Option GateWord). IsSomeAnd x (λ y. n ≤ y.entries)) (sym g.1.0) (omega (arith, g.1.1))

pub move_slots-requires-clause-map : goal.move_slots-requires-clause-map
move_slots-requires-clause-map g c = no-less (gate_in c.args.h.now.view.trail c.args.map) c.args.n c.requires.map

pub move_slots-requires-clause-other : goal.move_slots-requires-clause-other
move_slots-requires-clause-other g c = no-less (gate_in c.args.h.now.view.trail c.args.other) c.args.n c.requires.other

pub set_object_map-requires-clause-handed : goal.set_object_map-requires-clause-handed
set_object_map-requires-clause-handed g c =
    subst (λ (k : ℕ). c.args.object < k)
    (sym (objects-same c.trees_stay.ensures.law c.unused_says_nothing.ensures.law c.args.h.now.view c.move_slots.new.h.view c.args.object c.args.map c.args.other c.args.n c.stands.ensures.heap c.requires.tree c.requires.within c.move_slots.ensures.moved)) c.requires.handed

pub set_object_map-requires-clause-lawful : goal.set_object_map-requires-clause-lawful
set_object_map-requires-clause-lawful g c =
    come-lawful c.trees_stay.ensures.law c.unused_says_nothing.ensures.law c.args.h.now.view c.move_slots.new.h.view c.args.object c.args.map c.args.other c.args.n c.stands.ensures.heap c.requires.tree c.requires.within c.move_slots.ensures.moved
    c.requires.has c.requires.unstable c.requires.other c.requires.own

pub returns-clause-come : goal.returns-clause-come
returns-clause-come g c =
    let is = c.set_object_map.ensures.view in
    subst (λ (x : View). HasCome c.args.h.now.view x c.args.object c.args.map c.args.other c.args.n) (sym is)
    (has-come c.trees_stay.ensures.law c.unused_says_nothing.ensures.law c.args.h.now.view c.move_slots.new.h.view c.args.object c.args.map c.args.other c.args.n c.stands.ensures.heap c.requires.tree c.requires.within c.move_slots.ensures.moved
    (subst IsHeap is c.set_object_map.ensures.heap))
