use Rattle.std.proofs.Common.{sym, subst, IfSome}
use Rattle.hc_heap.specs.States.{View}
use Rattle.hc_tree.specs.Copying.{MayBeLast}
use Rattle.hc_descs.specs.Entries.{count_of}
use Rattle.hc_tree.specs.Copying.{CopyGets}
use Rattle.hc_tree.specs.Details.{DetailsAre}
use Rattle.hc_modes.proofs.Gets.{marked-copy}
use Rattle.hc_modes.proofs.Copied.{IsMade, copied-from, marked-last}
use Rattle.hc_modes.proofs.Owning.{open-used}
use Rattle.hc_slots.specs.Cases.{some-of}
use Rattle.hc_modes.proofs.privates.copy_map.Goals as goal
use Rattle.hc_heap.specs.Readings.{gate_in}

pub mark_unstable-requires-clause-handed : goal.mark_unstable-requires-clause-handed
mark_unstable-requires-clause-handed g c =
    let gate = some-of (gate_in c.args.h.now.view.trail c.args.map) c.requires.open in
    open-used c.unused_says_nothing.ensures.law c.args.h.now.view c.stands.ensures.heap c.args.map gate.0 gate.1

pub private_copy-requires-clause-more : goal.private_copy-requires-clause-more
private_copy-requires-clause-more g c =
    subst (λ (v : View). IfSome c.args.more (λ e. MayBeLast v.shape v.trail c.args.map e.0 e.1)) (sym c.mark_unstable.ensures.view) (marked-last c.args.h.now.view.shape c.args.h.now.view.trail c.args.map c.args.more c.requires.more)

pub returns-clause-copied : goal.returns-clause-copied
returns-clause-copied g c =
    copied-from c.unused_says_nothing.ensures.law c.args.fresh c.args.more c.args.proto c.args.h.now.view c.private_copy.new.h.view c.args.map c.in-Ok.copy
    (subst (λ (v : View). IsMade c.args.fresh c.args.more c.args.proto v c.private_copy.new.h.view c.args.map c.in-Ok.copy) c.mark_unstable.ensures.view (record {
      before = c.mark_unstable.ensures.heap;
      number = c.in-Ok.ensures.number;
      copy = c.in-Ok.ensures.copy;
      used = c.in-Ok.ensures.used;
      writes = c.in-Ok.ensures.writes;
      shape = c.in-Ok.ensures.shape;
      tree = c.in-Ok.ensures.tree;
      heap = c.in-Ok.ensures.heap;
    }))

pub returns-clause-details : goal.returns-clause-details
returns-clause-details g c =
    let v = c.args.h.now.view in
    let m = c.args.map in
    let w = c.private_copy.new.h.view in
    marked-copy v.trail w.trail m v.used.fields c.args.fresh c.args.more
    (subst (λ (x : View). DetailsAre (CopyGets c.args.fresh c.args.more x.trail m (count_of x.trail m) x.used.fields) x.trail w.trail) c.mark_unstable.ensures.view c.in-Ok.ensures.details)
