use Rattle.std.proofs.Common.{◌≡◌, vec_capacity}
use Rattle.hc_board.specs.States.{beginning, counted}
use Rattle.hc_compiler.specs.Jobs.{opening_of}
use Rattle.hc_compiler.specs.Lending.{given_to}
use Rattle.hc_compiler.specs.declared.lending.Lent.{Lent}
use Rattle.hc_compiler.proofs.Handing.{is-given, lends, more-lending}
use Rattle.hc_compiler.proofs.lending.LentJobs.lend.Goals as goal

-- what is put in
abbrev put-in : (c : goal.After-push_reserved) → Lent
put-in c = record { job = c.id.result; site = c.site.result; what = c.what.result; maps = c.maps.result; mega = c.mega.result; start = c.start.result }

given : (c : goal.After-push_reserved) → given_to (put-in c) ≡ record (opening_of c.args.x.now) { start = counted (beginning c.args.x.now.reader) }
given c =
    is-given c.args.x.now c.id.result c.site.result c.what.result c.maps.result c.mega.result c.start.result
    c.id.ensures c.site.ensures c.what.ensures c.maps.ensures.maps c.maps.ensures.few c.mega.ensures c.start.ensures.start

pub invariant_of-self : goal.invariant_of-self
invariant_of-self c =
    more-lending c.args.self.now c.self.inside.jobs.items c.push_reserved.new.self.items c.args.x.now (put-in c) c.self.view_is c.push_reserved.ensures.items (given c) c.requires.fresh
    (vec_capacity c.self.inside.jobs) (vec_capacity c.push_reserved.new.self) c.requires.room c.self.invariant c.push_reserved.ensures.capacity

pub returns : goal.returns
returns c = record {
  lends = lends c.args.self.now c.self.inside.jobs.items c.push_reserved.new.self.items c.args.x.now (put-in c) c.self.view_is c.push_reserved.ensures.items (given c) c.requires.fresh;
}
