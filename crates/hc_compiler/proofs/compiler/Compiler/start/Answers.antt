use Rattle.std.proofs.Common.{◌+◌, ◌<◌, IfSome, refl, sym, subst, slice_get}
use Rattle.hc_compiler.specs.Calls.{Starts}
use Rattle.hc_compiler.specs.Jobs.{AreReading, Compiling, open_count}
use Rattle.hc_compiler.proofs.Starting.{compiling-more, reading-more, some-at, starts-case}
use Rattle.hc_compiler.proofs.compiler.Compiler.start.Goals as goal

pub returns-in_err-opened-clause-reading : goal.returns-in_err-opened-clause-reading
returns-in_err-opened-clause-reading g c = λ h. subst (λ s. AreReading s c.args.self.now.jobs) (sym c.in_err-opened.ensures.same) h

pub invariant_of-self : goal.invariant_of-self
invariant_of-self g c =
    compiling-more c.others_stay_open.ensures.law c.args.objects.now c.self.inside.started (c.self.inside.started + 1) c.self.inside.jobs c.start.new.self c.args.s c.in_ok-opened.opened
    (slice_get c.args.sites.now c.args.s) c.in_ok-opened.ensures.number c.start.ensures.last c.start.ensures.started refl c.self.inside.lent
    (subst (λ (k : Compiling). open_count k < 64) (sym c.self.view_is) c.requires.room) c.self.invariant

pub returns-clause-starts : goal.returns-clause-starts
returns-clause-starts g c =
    subst (λ (k : Compiling). IfSome (slice_get c.args.sites.now c.args.s) (λ state. Starts c.args.objects.now k.jobs k.started c.args.s state c.start.new.self)) c.self.view_is
    (starts-case c.others_stay_open.ensures.law c.args.objects.now c.self.inside.started (c.self.inside.started + 1) c.self.inside.jobs c.start.new.self c.args.s c.in_ok-opened.opened
    (slice_get c.args.sites.now c.args.s) c.in_ok-opened.ensures.number c.start.ensures.last c.start.ensures.started refl (slice_get c.args.sites.now c.args.s) c.in_ok-opened.ensures.new)

pub returns-clause-reading : goal.returns-clause-reading
returns-clause-reading g c = λ h.
    subst (λ s. AreReading s c.start.new.self) (sym c.in_ok-opened.ensures.same)
    (reading-more c.others_stay_open.ensures.law c.args.objects.now c.self.inside.started (c.self.inside.started + 1) c.self.inside.jobs c.start.new.self c.args.s c.in_ok-opened.opened
    (slice_get c.args.sites.now c.args.s) c.in_ok-opened.ensures.number c.start.ensures.last c.start.ensures.started refl
    c.stores_are_writes.ensures.law c.stands.ensures.desk (some-at c.args.sites.now c.args.s c.requires.site) c.in_ok-opened.ensures.new c.requires.written
    (subst (λ (k : Compiling). AreReading c.args.objects.now k.jobs) (sym c.self.view_is) h))
