use Rattle.hc_update_tests.proofs.Ended.{child-under, children-stay, end-goes, no-accessor, roots-stay}
use Rattle.hc_update_tests.proofs.branches.next.Goals as goal

pub child_or_make-requires-clause-accessor : goal.child_or_make-requires-clause-accessor
child_or_make-requires-clause-accessor c = no-accessor c.data.result c.data.ensures.kind

pub returns-in-Ok-clause-end : goal.returns-in-Ok-clause-end
returns-in-Ok-clause-end c = end-goes c.maps_are_kept.ensures.law c.args.heap.now.view c.child_or_make.new.h.view c.args.map c.args.n c.in-Ok.child c.data.result
    c.child_or_make.ensures.shape c.child_or_make.ensures.writes c.child_or_make.ensures.heap c.child_or_make.ensures.tree c.requires.end c.in-Ok.ensures.child c.data.ensures.name c.in-Ok.ensures.live

pub returns-in-Ok-clause-roots : goal.returns-in-Ok-clause-roots
returns-in-Ok-clause-roots c = roots-stay c.maps_are_kept.ensures.law c.args.heap.now.view c.child_or_make.new.h.view c.child_or_make.ensures.shape c.child_or_make.ensures.writes c.requires.end.heap c.child_or_make.ensures.heap

pub returns-in-Err-clause-roots : goal.returns-in-Err-clause-roots
returns-in-Err-clause-roots c = roots-stay c.maps_are_kept.ensures.law c.args.heap.now.view c.child_or_make.new.h.view c.child_or_make.ensures.shape c.child_or_make.ensures.writes c.requires.end.heap c.child_or_make.ensures.heap

pub returns-in-Ok-clause-under : goal.returns-in-Ok-clause-under
returns-in-Ok-clause-under c = child-under c.maps_are_kept.ensures.law c.args.heap.now.view c.child_or_make.new.h.view c.args.map c.args.n c.in-Ok.child c.data.result
    c.child_or_make.ensures.shape c.child_or_make.ensures.writes c.child_or_make.ensures.heap c.requires.end c.in-Ok.ensures.child

pub returns-in-Ok-clause-children : goal.returns-in-Ok-clause-children
returns-in-Ok-clause-children c = children-stay c.maps_are_kept.ensures.law c.args.heap.now.view c.child_or_make.new.h.view c.child_or_make.ensures.shape c.child_or_make.ensures.writes c.requires.end.heap c.child_or_make.ensures.heap

pub returns-in-Err-clause-children : goal.returns-in-Err-clause-children
returns-in-Err-clause-children c = children-stay c.maps_are_kept.ensures.law c.args.heap.now.view c.child_or_make.new.h.view c.child_or_make.ensures.shape c.child_or_make.ensures.writes c.requires.end.heap c.child_or_make.ensures.heap
