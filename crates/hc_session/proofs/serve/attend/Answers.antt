use Rattle.std.proofs.Common.{sym, subst}
use Rattle.std.specs.Prelude.{OnErr}
use Rattle.hc_modes.specs.State.{ObjectsState}
use Rattle.hc_session.specs.Standing.{plain_among}
use Rattle.hc_session.specs.Using.{MovesInWant, is_accepted, uses_if}
use Rattle.hc_session.proofs.Keeps.{met-keeps-on}
use Rattle.hc_session.proofs.Obeys.{result_still}
use Rattle.hc_session.proofs.Readers.{good-met, met-none}
use Rattle.hc_value.specs.declared.word.TheConstants.{TEXT_LIMIT}
use Rattle.hc_session.proofs.Readers.{seen-met}
use Rattle.hc_session.proofs.Settled.{served-good, served-names, served-seen}
use Rattle.hc_session.proofs.serve.attend.Goals as goal

pub returns-in-Compile-clause-wants : goal.returns-in-Compile-clause-wants
returns-in-Compile-clause-wants g c =
    let uses = uses_if (is_accepted (plain_among c.args.objects.now c.args.sites.now c.args.compiler.now) c.args.command.now) c.args.command.now in
    subst (λ (s : ObjectsState _). OnErr c.compile.result (MovesInWant g.P.Pace.went c.args.objects.now uses s)) (sym c.compile.ensures.same) (result_still g.P.Pace.went c.args.objects.now uses c.compile.result)

pub returns-in-Compile-clause-keeps : goal.returns-in-Compile-clause-keeps
returns-in-Compile-clause-keeps g c =
    met-keeps-on c.args.objects.now c.compile.new.objects c.stands.ensures.sound.heap.lawful (met-none c.args.objects.now c.compile.new.objects c.compile.ensures.same)

pub returns-in-Step-clause-keeps : goal.returns-in-Step-clause-keeps
returns-in-Step-clause-keeps g c = met-keeps-on c.args.objects.now c.step.new.objects c.stands.ensures.sound.heap.lawful c.step.ensures.met

pub returns-in-Step-clause-good : goal.returns-in-Step-clause-good
returns-in-Step-clause-good g c = good-met c.args.objects.now c.step.new.objects c.args.sites.now c.step.ensures.met c.requires.good

pub returns-in-Finish-clause-keeps : goal.returns-in-Finish-clause-keeps
returns-in-Finish-clause-keeps g c = met-keeps-on c.args.objects.now c.finish.new.objects c.stands.ensures.sound.heap.lawful c.finish.ensures.met

pub returns-in-Finish-clause-names : goal.returns-in-Finish-clause-names
returns-in-Finish-clause-names g c =
    served-names c.args.objects.now c.args.sites.now c.args.compiler.now c.args.log.now.lines _ c.finish.result c.finish.new.objects c.finish.new.sites c.finish.new.compiler c.finish.new.log.lines c.finish.ensures.serves TEXT_LIMIT c.requires.names

pub returns-in-Finish-clause-good : goal.returns-in-Finish-clause-good
returns-in-Finish-clause-good g c =
    served-good c.args.objects.now c.args.sites.now c.args.compiler.now c.args.log.now.lines _ c.finish.result c.finish.new.objects c.finish.new.sites c.finish.new.compiler c.finish.new.log.lines c.finish.ensures.serves
    (good-met c.args.objects.now c.finish.new.objects c.args.sites.now c.finish.ensures.met c.requires.good)

pub returns-in-Finish-clause-seen : goal.returns-in-Finish-clause-seen
returns-in-Finish-clause-seen g c =
    served-seen c.args.objects.now c.args.sites.now c.args.compiler.now c.args.log.now.lines _ c.finish.result c.finish.new.objects c.finish.new.sites c.finish.new.compiler c.finish.new.log.lines c.finish.ensures.serves
    (seen-met c.args.objects.now c.finish.new.objects c.args.sites.now c.finish.ensures.met c.requires.seen)
