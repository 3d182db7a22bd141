use Rattle.std.proofs.Common.{◌≢◌, Some, true≢false, sym, subst, ◌∙◌}
use Rattle.std.specs.Prelude.{slice_get}
use Rattle.std.proofs.lemmas.Result.{on_ok_weaker, on_err_weaker}
use Rattle.hc_table.specs.Changes.{Reconfigured}
use Rattle.hc_table.specs.World.{props_at}
use Rattle.hc_modes.specs.Came.{world_of}
use Rattle.hc_modes.specs.Laws.{made-before, moved-before}
use Rattle.hc_modes.specs.State.{ObjectsState}
use Rattle.hc_modes.proofs.Altering.{named-there, nothing-put}
use Rattle.hc_modes.proofs.objects.Objects.reconfigure.Goals as goal

pub holds-requires-clause-place : goal.holds-requires-clause-place
holds-requires-clause-place g c = named-there (props_at (world_of c.args.self.now) c.args.o) c.args.i c.args.p.name c.requires.name

pub returns-then-holds-clause-did : goal.returns-then-holds-clause-did
returns-then-holds-clause-did g c = nothing-put g.P.Pace.went g.met.P.Pace.stays c.args.self.now c.holds.new.self c.args.o c.args.i c.args.p c.stands.ensures.sound c.requires.object (c.holds.ensures.same.0 c.if-holds.true) c.holds.ensures.still

pub put_other-requires-clause-other : goal.put_other-requires-clause-other
put_other-requires-clause-other g c = subst (λ (s : ObjectsState g.row.P.Denot). slice_get (props_at (world_of s) c.args.o) c.args.i ≢ Some c.args.p) (sym c.holds.ensures.still.is)
    (λ same. true≢false (sym (c.holds.ensures.same.1 same) ∙ c.if-holds.false))

pub returns-clause-did : goal.returns-clause-did
returns-clause-did g c = on_ok_weaker c.put_other.result (λ made. made-before g.P.Pace.went c.args.self.now c.holds.new.self c.put_other.new.self (Reconfigured c.args.o c.args.i c.args.p) c.holds.ensures.still made) c.put_other.ensures.did

pub returns-clause-moved : goal.returns-clause-moved
returns-clause-moved g c = on_err_weaker c.put_other.result (λ moves. moved-before g.P.Pace.went c.args.self.now c.holds.new.self c.put_other.new.self c.holds.ensures.still moves) c.put_other.ensures.moved
