use Rattle.hc_links.proofs.Turns.{came-first, last-loads, last-goes, found-child, found-open, found-loads, found-goes, came-on, fewer-on}
use Rattle.hc_links.proofs.chain.child.Goals as goal

pub loop-at-init : goal.loop-at-init
loop-at-init g c = came-first c.args.h.now c.head-at.new.self c.args.map c.args.key c.head-at.result c.links_are_chained.ensures.law c.stands.ensures.heap.lawful c.head-at.ensures.new c.head-at.ensures.value

pub loop-at-preserved : goal.loop-at-preserved
loop-at-preserved g c =
    came-on c.args.h.now c.loop-at.h c.args.map c.args.key c.loop-at.at c.loop-at.invariant c.in-Some.link c.in-Some.is
    c.link_key.new.self c.link_next.new.self c.link_key.ensures.new c.link_next.ensures.new
    c.link_next.result c.next_of-at.result c.link_next.ensures.value c.next_of-at.ensures
    c.link_key.result c.is_key.result c.link_key.ensures.value c.is_key.ensures c.if-is_key.false

pub loop-at-smaller : goal.loop-at-smaller
loop-at-smaller g c =
    fewer-on c.args.h.now c.loop-at.h c.args.map c.args.key c.loop-at.at c.loop-at.invariant c.in-Some.link c.in-Some.is
    c.link_key.new.self c.link_next.new.self c.link_key.ensures.new c.link_next.ensures.new
    c.link_next.result c.next_of-at.result c.link_next.ensures.value c.next_of-at.ensures

pub returns-then-is_key-clause-child : goal.returns-then-is_key-clause-child
returns-then-is_key-clause-child g c =
    found-child c.args.h.now c.loop-at.h c.args.map c.args.key c.loop-at.at c.loop-at.invariant c.in-Some.link c.in-Some.is
    c.link_key.new.self c.link_child.new.self c.link_key.ensures.new c.link_child.ensures.new
    c.link_key.result c.is_key.result c.link_child.result c.link_key.ensures.value c.is_key.ensures c.if-is_key.true c.link_child.ensures.value

pub returns-then-is_key-clause-open : goal.returns-then-is_key-clause-open
returns-then-is_key-clause-open g c =
    found-open c.args.h.now c.loop-at.h c.args.map c.args.key c.loop-at.at c.loop-at.invariant c.in-Some.link c.in-Some.is
    c.link_key.new.self c.link_child.new.self c.link_key.ensures.new c.link_child.ensures.new
    c.link_child.result c.children_are_open.ensures.law c.stands.ensures.heap.lawful (returns-then-is_key-clause-child g c)

pub returns-then-is_key-clause-loads : goal.returns-then-is_key-clause-loads
returns-then-is_key-clause-loads g c =
    found-loads c.args.h.now c.loop-at.h c.args.map c.args.key c.loop-at.at c.loop-at.invariant c.in-Some.link c.in-Some.is
    c.link_key.new.self c.link_child.new.self c.link_key.ensures.new c.link_child.ensures.new

pub returns-then-is_key-clause-goes : goal.returns-then-is_key-clause-goes
returns-then-is_key-clause-goes g c =
    found-goes c.args.h.now c.loop-at.h c.args.map c.args.key c.loop-at.at c.loop-at.invariant c.in-Some.link c.in-Some.is
    c.link_key.new.self c.link_child.new.self c.link_key.ensures.new c.link_child.ensures.new

pub returns-clause-loads : goal.returns-clause-loads
returns-clause-loads g c = last-loads c.args.h.now c.loop-at.h c.args.map c.args.key c.loop-at.at c.loop-at.invariant

pub returns-clause-goes : goal.returns-clause-goes
returns-clause-goes g c = last-goes c.args.h.now c.loop-at.h c.args.map c.args.key c.loop-at.at c.loop-at.invariant
