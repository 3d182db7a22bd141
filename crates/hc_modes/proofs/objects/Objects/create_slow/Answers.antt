use Rattle.std.proofs.Common.{◌≡◌, ℕ, ◌+◌, ◌<◌, ◌≤◌, true, List, [], ◌∷◌, ◌++◌, Option, Some, length, refl, sym, ap, ◌∙◌, subst, arith}
use Rattle.std.specs.Prelude.{option_map}
use Rattle.hc_layout.specs.declared.shape.Region.TheVariants.{Objects}
use Rattle.hc_value.specs.declared.prop.Prop.{Prop}
use Rattle.hc_value.specs.declared.reply.Cause.TheVariants.{Space}
use Rattle.hc_heap.specs.Frames.{goes-none}
use Rattle.hc_heap.specs.States.{View, HeapState, Goes, HasRoom}
use Rattle.hc_table.specs.Changes.{IsThere}
use Rattle.hc_table.specs.World.{Object, new_object, object}
use Rattle.hc_modes.specs.Changes.{KeptBut}
use Rattle.hc_modes.specs.Admitting.{FactsStay}
use Rattle.hc_modes.proofs.Composing.{facts-none}
use Rattle.hc_modes.specs.Creating.{IsBegun}
use Rattle.hc_slots.specs.Meaning.{Dictionary, dictionary_object}
use Rattle.hc_modes.specs.Meaning.{cause_in, world}
use Rattle.hc_modes.specs.State.{ObjectsState, IsObjects}
use Rattle.hc_modes.proofs.Creating.{slow-world, slow-sound, slow-value}
use Rattle.hc_modes.proofs.Items.{kept-push, kept-push_here}
use Rattle.hc_modes.proofs.objects.Objects.create_slow.Goals as goal

roomy : (v : View) (kept : List (Option Dictionary)) → HasRoom v Objects 1 → length kept ≡ v.used.objects → length kept < v.shape.objects
roomy v kept room items = let more : v.used.objects + 1 ≤ v.shape.objects = room in omega (arith, more, items)

pub invariant_of-self-2 : goal.invariant_of-self-2
invariant_of-self-2 g c =
    let v = c.self.inside.heap.view in
    let kept = c.self.inside.kept.items in
    let null = c.self.inside.of_null in
    let new = c.fresh.new.self.view in
    let proto = c.args.proto in
    let d : Dictionary = record { cause = Space; proto = proto; extensible = true; props = c.new.result } in
    let is : dictionary_object d ≡ new_object proto = ap (λ (ps : List Prop). let x : Object = record { proto = proto; extensible = true; props = ps } in x) c.new.ensures in
    let more : new ≡ record v { used = record v.used { objects = c.fresh.result + 1 } } = ap (λ (s : HeapState g.row.P.Denot). s.view) c.fresh.ensures.new in
    let same : new ≡ record v { used = record v.used { objects = v.used.objects + 1 } } = more ∙ ap (λ (n : ℕ). let w : View = record v { used = record v.used { objects = n + 1 } } in w) c.fresh.ensures.first in
    let room : HasRoom v Objects 1 = subst (λ (s : ObjectsState g.row.P.Denot). HasRoom s.heap.view Objects 1) (sym c.self.view_is) c.requires.room in
    let there : IsThere (world v.trail kept) proto = subst (λ (s : ObjectsState g.row.P.Denot). IsThere (world s.heap.view.trail s.kept) proto) (sym c.self.view_is) c.requires.there in
    subst (λ (ks : List (Option Dictionary)). IsObjects new ks null) (sym c.in-Ok.ensures.items)
    (slow-sound c.maps_are_kept.ensures.law c.details_rise.ensures.law c.unused_says_nothing.ensures.law v new kept null c.self.invariant d same c.fresh.ensures.heap proto is c.changes_keep.ensures.law there (roomy v kept room c.self.invariant.items))

pub returns-clause-begun : goal.returns-clause-begun
returns-clause-begun g c =
    let v = c.self.inside.heap.view in
    let kept = c.self.inside.kept.items in
    let null = c.self.inside.of_null in
    let new = c.fresh.new.self.view in
    let proto = c.args.proto in
    let d : Dictionary = record { cause = Space; proto = proto; extensible = true; props = c.new.result } in
    let is : dictionary_object d ≡ new_object proto = ap (λ (ps : List Prop). let x : Object = record { proto = proto; extensible = true; props = ps } in x) c.new.ensures in
    let more : new ≡ record v { used = record v.used { objects = c.fresh.result + 1 } } = ap (λ (s : HeapState g.row.P.Denot). s.view) c.fresh.ensures.new in
    let same : new ≡ record v { used = record v.used { objects = v.used.objects + 1 } } = more ∙ ap (λ (n : ℕ). let w : View = record v { used = record v.used { objects = n + 1 } } in w) c.fresh.ensures.first in
    let items : c.fresh.result ≡ length kept = c.fresh.ensures.first ∙ sym c.self.invariant.items in
    let then = kept ++ Some d ∷ [] in
    let after : ObjectsState g.row.P.Denot = record { heap = c.fresh.new.self; kept = then; of_null = null } in
    let desk = c.self.inside.heap.desk in
    let pace = c.self.inside.heap.pace in
    subst (λ (ks : List (Option Dictionary)). let x : ObjectsState g.row.P.Denot = record { heap = c.fresh.new.self; kept = ks; of_null = null } in IsBegun g.P.Pace.went c.args.self.now proto c.fresh.result x) (sym c.in-Ok.ensures.items)
    (subst (λ (s : ObjectsState g.row.P.Denot). IsBegun g.P.Pace.went s proto c.fresh.result after) c.self.view_is (record {
      number = items;
      steps = record {
        world = slow-world c.maps_are_kept.ensures.law c.details_rise.ensures.law c.unused_says_nothing.ensures.law v new kept null c.self.invariant d same c.fresh.ensures.heap proto is;
        shape = ap (λ (w : View). w.shape) same;
        goes = subst (λ (s : HeapState g.row.P.Denot). Goes desk s.desk) (sym c.fresh.ensures.new) (goes-none desk);
        went = subst (λ (s : HeapState g.row.P.Denot). g.P.Pace.went pace desk.trail s.desk.trail s.pace) (sym c.fresh.ensures.new) (g.met.P.Pace.stays pace desk.trail);
        keeps = subst (λ (w : View). FactsStay v.shape v.trail w.trail) (sym same) (facts-none v.shape v.trail c.self.invariant.heap.lawful);
      };
      view = more;
      value = subst (λ (n : ℕ). object (world new.trail then) n ≡ new_object proto) (sym items)
          (slow-value c.maps_are_kept.ensures.law c.details_rise.ensures.law c.unused_says_nothing.ensures.law v new kept null c.self.invariant d same c.fresh.ensures.heap proto is);
      cause = subst (λ (n : ℕ). cause_in then n ≡ Some Space) (sym items) (ap (λ (x : Option Dictionary). option_map (λ y. y.cause) x) (kept-push_here kept (Some d)));
      others = subst (λ (n : ℕ). KeptBut n kept then) (sym items) (kept-push kept (Some d));
      null = refl;
    }))
