use Rattle.hc_links.proofs.Linked.{key-lawful, child-lawful, next-lawful, is-linked, went-begun}
use Rattle.hc_links.proofs.chain.link.Goals as goal

pub set_link_key-requires-clause-lawful : goal.set_link_key-requires-clause-lawful
set_link_key-requires-clause-lawful g c =
    key-lawful c.args.h.now c.fresh-link.new.self _ c.fresh-link.ensures.new c.stands.ensures.heap c.unused_says_nothing.ensures.law
    c.fresh-link.result c.fresh-link.ensures.first c.args.key c.requires.key

pub set_link_child-requires-clause-lawful : goal.set_link_child-requires-clause-lawful
set_link_child-requires-clause-lawful g c =
    child-lawful c.args.h.now c.fresh-link.new.self _ c.fresh-link.ensures.new c.stands.ensures.heap c.unused_says_nothing.ensures.law
    c.fresh-link.result c.fresh-link.ensures.first c.args.key
    c.set_link_key.new.self.view c.set_link_key.ensures.view c.args.map c.args.child c.requires.child

pub set_link_next-requires-clause-lawful : goal.set_link_next-requires-clause-lawful
set_link_next-requires-clause-lawful g c =
    next-lawful c.args.h.now c.fresh-link.new.self _ c.fresh-link.ensures.new c.stands.ensures.heap c.unused_says_nothing.ensures.law
    c.fresh-link.result c.fresh-link.ensures.first c.args.key
    c.set_link_key.new.self.view c.set_link_key.ensures.view c.args.map c.args.child c.requires.child
    c.set_link_child.new.self c.head-head.new.self c.set_link_child.ensures.view c.head-head.ensures.new c.head-head.result c.head-head.ensures.value
    c.heads_are_there.ensures.law

pub returns-clause-linked : goal.returns-clause-linked
returns-clause-linked g c =
    is-linked c.args.h.now c.fresh-link.new.self _ c.fresh-link.ensures.new c.stands.ensures.heap c.unused_says_nothing.ensures.law
    c.fresh-link.result c.fresh-link.ensures.first c.args.key
    c.set_link_key.new.self.view c.set_link_key.ensures.view c.args.map c.args.child c.requires.child
    c.set_link_child.new.self c.head-head.new.self c.set_link_child.ensures.view c.head-head.ensures.new c.head-head.result c.head-head.ensures.value
    c.set_link_next.new.self.view c.set_head.new.self.view c.set_link_next.ensures.view c.set_head.ensures.view
    c.linked_is_newest.ensures.law c.set_head.ensures.heap

-- each store goes on from the one before
pub returns-clause-went : goal.returns-clause-went
returns-clause-went g c =
    let f = c.fresh-link.new.self in
    let k = c.set_link_key.new.self in
    let d = c.set_link_child.new.self in
    let r = c.head-head.new.self in
    let n = c.set_link_next.new.self in
    let e = c.set_head.new.self in
    let on = g.met.P.Pace.goes_on in
    let first = on f.pace k.pace d.pace f.desk.trail k.desk.trail d.desk.trail c.set_link_key.ensures.went c.set_link_child.ensures.went in
    let second = on f.pace d.pace r.pace f.desk.trail d.desk.trail r.desk.trail first c.head-head.ensures.went in
    let third = on f.pace r.pace n.pace f.desk.trail r.desk.trail n.desk.trail second c.set_link_next.ensures.went in
    let fourth = on f.pace n.pace e.pace f.desk.trail n.desk.trail e.desk.trail third c.set_head.ensures.went in
    went-begun g.P.Pace.went c.args.h.now f _ c.fresh-link.ensures.new e.desk.trail e.pace fourth
