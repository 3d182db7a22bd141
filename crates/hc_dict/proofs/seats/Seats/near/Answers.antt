use Rattle.std.proofs.Common.{◌≡◌, ◌<◌, ◌+◌, ◌*◌, length, sym, subst, arith}
use Rattle.std.proofs.lemmas.List.{get_or_read}
use Rattle.hc_dict.specs.Dict.{seated, before}
use Rattle.hc_dict.proofs.Row.{before-no_gaps, before-first, before-there}
use Rattle.hc_dict.proofs.seats.Seats.near.Goals as goal

pub returns-then-self-eq0-clause-place : goal.returns-then-self-eq0-clause-place
returns-then-self-eq0-clause-place c =
    let gaps = c.self.invariant.gaps in
    let none = c.if-self-eq0.true in
    let full : length (seated c.self.inside.row.items) ≡ length c.self.inside.row.items = omega arith in
    let within = subst (λ v. c.args.place < length (seated v)) (sym c.self.view_is) c.requires in
    subst (λ v. before v c.args.place + 0 ≡ c.args.place) c.self.view_is (let same = before-no_gaps c.self.inside.row.items c.args.place full (omega arith) in omega arith)

pub loop-rest-init : goal.loop-rest-init
loop-rest-init c = let first = before-first c.self.inside.row.items in omega arith

pub index-requires : goal.index-requires
index-requires c =
    let few = subst (λ v. c.args.place < length (seated v)) (sym c.self.view_is) c.requires in
    let start = before-there c.self.inside.row.items (64 * c.loop-rest.block) (omega arith) in
    let covered = c.self.invariant.covered in
    omega arith

pub index-requires-in-loop-rest : goal.index-requires-in-loop-rest
index-requires-in-loop-rest c =
    let few = subst (λ v. c.args.place < length (seated v)) (sym c.self.view_is) c.requires in
    let start = before-there c.self.inside.row.items (64 * c.loop-rest.block) (omega arith) in
    let covered = c.self.invariant.covered in
    omega arith

pub overflow_sub-rest : goal.overflow_sub-rest
overflow_sub-rest c =
    let few = subst (λ v. c.args.place < length (seated v)) (sym c.self.view_is) c.requires in
    let start = before-there c.self.inside.row.items (64 * c.loop-rest.block) (omega arith) in
    let covered = c.self.invariant.covered in
    let block : c.loop-rest.block < length c.self.inside.counts.items = omega arith in
    let first = get_or_read c.self.inside.counts.items c.loop-rest.block c.index.result.now block c.index.ensures 0 in
    let second = get_or_read c.self.inside.counts.items c.loop-rest.block c.index-in-loop-rest.result.now block c.index-in-loop-rest.ensures 0 in
    omega arith

pub overflow_add-block : goal.overflow_add-block
overflow_add-block c =
    let few = subst (λ v. c.args.place < length (seated v)) (sym c.self.view_is) c.requires in
    let start = before-there c.self.inside.row.items (64 * c.loop-rest.block) (omega arith) in
    let covered = c.self.invariant.covered in
    omega arith

pub loop-rest-smaller : goal.loop-rest-smaller
loop-rest-smaller c =
    let few = subst (λ v. c.args.place < length (seated v)) (sym c.self.view_is) c.requires in
    let start = before-there c.self.inside.row.items (64 * c.loop-rest.block) (omega arith) in
    let covered = c.self.invariant.covered in
    omega arith

pub loop-rest-preserved : goal.loop-rest-preserved
loop-rest-preserved c =
    let few = subst (λ v. c.args.place < length (seated v)) (sym c.self.view_is) c.requires in
    let start = before-there c.self.inside.row.items (64 * c.loop-rest.block) (omega arith) in
    let covered = c.self.invariant.covered in
    let block : c.loop-rest.block < length c.self.inside.counts.items = omega arith in
    let first = get_or_read c.self.inside.counts.items c.loop-rest.block c.index.result.now block c.index.ensures 0 in
    let second = get_or_read c.self.inside.counts.items c.loop-rest.block c.index-in-loop-rest.result.now block c.index-in-loop-rest.ensures 0 in
    let counted = c.self.invariant.counted c.loop-rest.block in
    omega arith

pub overflow_mul-result : goal.overflow_mul-result
overflow_mul-result c =
    let few = subst (λ v. c.args.place < length (seated v)) (sym c.self.view_is) c.requires in
    let start = before-there c.self.inside.row.items (64 * c.loop-rest.block) (omega arith) in
    omega arith

pub returns-clause-within : goal.returns-clause-within
returns-clause-within c =
    let few = subst (λ v. c.args.place < length (seated v)) (sym c.self.view_is) c.requires in
    subst (λ v. 64 * c.loop-rest.block < length v) c.self.view_is (before-there c.self.inside.row.items (64 * c.loop-rest.block) (omega arith))
