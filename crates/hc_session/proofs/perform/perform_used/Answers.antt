use Rattle.std.proofs.Common.{◌≡◌, ℕ, true, false, sym, ◌∙◌, subst}
use Rattle.hc_session.specs.Standing.{tables_of}
use Rattle.hc_session.specs.Tables.{all_among, all_there}
use Rattle.hc_session.proofs.Uses.{performed-answers, performed-used, performed-want, refused-used, unready-want}
use Rattle.hc_session.proofs.perform.perform_used.Goals as goal

pub returns-then-not-are_all_there-clause-used : goal.returns-then-not-are_all_there-clause-used
returns-then-not-are_all_there-clause-used g c =
    let not : all_there (tables_of c.args.objects.now) c.args.command.now ≡ false = subst (λ (n : ℕ). all_among n c.args.command.now ≡ false) c.count-count.ensures.count (sym c.are_all_there.ensures ∙ c.if-not-are_all_there.true) in
    refused-used g.P.Pace.went c.args.objects.now c.args.command.now c.requires.tables not

pub returns-in_err-ready-clause-want : goal.returns-in_err-ready-clause-want
returns-in_err-ready-clause-want g c =
    let there : all_there (tables_of c.args.objects.now) c.args.command.now ≡ true = subst (λ (n : ℕ). all_among n c.args.command.now ≡ true) c.count-count.ensures.count (sym c.are_all_there.ensures ∙ c.if-not-are_all_there.false) in
    unready-want g.P.Pace.went c.args.objects.now c.ready.new.objects c.args.command.now c.from_residual.result there c.in_err-ready.ensures.moves

pub returns-clause-answers : goal.returns-clause-answers
returns-clause-answers g c =
    let there : all_there (tables_of c.args.objects.now) c.args.command.now ≡ true = subst (λ (n : ℕ). all_among n c.args.command.now ≡ true) c.count-count.ensures.count (sym c.are_all_there.ensures ∙ c.if-not-are_all_there.false) in
    performed-answers g.P.Pace.went c.args.objects.now c.ready.new.objects c.act.new.tables c.args.command.now there c.ready.ensures.tables c.act.result c.act.ensures.reply c.act.ensures.came

pub returns-clause-used : goal.returns-clause-used
returns-clause-used g c =
    let there : all_there (tables_of c.args.objects.now) c.args.command.now ≡ true = subst (λ (n : ℕ). all_among n c.args.command.now ≡ true) c.count-count.ensures.count (sym c.are_all_there.ensures ∙ c.if-not-are_all_there.false) in
    performed-used g.P.Pace.went c.args.objects.now c.ready.new.objects c.act.new.tables c.args.command.now there c.ready.ensures.tables c.act.result c.requires.tables c.in_ok-ready.ensures.readied c.act.ensures.came

pub returns-clause-want : goal.returns-clause-want
returns-clause-want g c =
    let there : all_there (tables_of c.args.objects.now) c.args.command.now ≡ true = subst (λ (n : ℕ). all_among n c.args.command.now ≡ true) c.count-count.ensures.count (sym c.are_all_there.ensures ∙ c.if-not-are_all_there.false) in
    performed-want g.P.Pace.went c.args.objects.now c.ready.new.objects c.act.new.tables c.args.command.now there c.ready.ensures.tables c.act.result c.in_ok-ready.ensures.readied c.act.ensures.want
