use Rattle.std.proofs.Common.{◌≡◌, ◌∙◌, ◌<◌, ℕ, None, length, ap, sym, subst, inr}
use Rattle.hc_value.specs.declared.reply.Cause.TheVariants.{Space}
use Rattle.hc_layout.specs.declared.words.RootWord.{RootWord}
use Rattle.hc_facts.specs.Honest.{IsHonest}
use Rattle.hc_modes.specs.Came.{IsStill}
use Rattle.hc_modes.specs.Laws.{still-on}
use Rattle.hc_modes.specs.Meaning.{kept_of}
use Rattle.hc_modes.specs.State.{ObjectsState}
use Rattle.hc_modes.proofs.Adds.{left-lawful}
use Rattle.hc_modes.proofs.Readied.{fit-generalised, fit-left, lacks-store-on, slow-unmapped}
use Rattle.hc_modes.proofs.Worlds.{length-world}
use Rattle.hc_modes.proofs.objects.Objects.fit.Goals as goal

pub generalise_map-requires-clause-honest : goal.generalise_map-requires-clause-honest
generalise_map-requires-clause-honest g c = subst (λ (s : ObjectsState g.row.P.Denot). IsHonest s.heap.view.trail) (sym c.fits_field.ensures.still.is) c.requires.honest

pub returns-then-generalise_map-clause-made : goal.returns-then-generalise_map-clause-made
returns-then-generalise_map-clause-made g c = fit-generalised g.P.Pace.went c.args.self.now c.fits_field.new.self c.generalise_map.new.self c.args.o c.args.i c.args.held c.fits_field.ensures.still
    (c.generalise_map.ensures.generalised c.if-generalise_map.true) (c.generalise_map.ensures.fits c.if-generalise_map.true)

pub returns-clause-made : goal.returns-clause-made
returns-clause-made g c =
    let a = c.args.self.now in
    let b = c.fits_field.new.self in
    let d = c.generalise_map.new.self in
    let e = c.leave.new.self in
    let o = c.args.o in
    let there : o < length a.kept = subst (λ (n : ℕ). o < n) (length-world a.heap.view.trail a.kept) c.requires.object in
    let again : IsStill b d = c.generalise_map.ensures.still c.if-generalise_map.false in
    let still : IsStill a d = still-on a b d c.fits_field.ensures.still again in
    let why = lacks-store-on b d o c.args.i c.args.held again (c.generalise_map.ensures.lacks c.if-generalise_map.false) in
    let fast : kept_of d.kept o ≡ None = subst (λ (s : ObjectsState g.row.P.Denot). kept_of s.kept o ≡ None) (sym still.is) (c.is_slow.ensures.fast c.if-is_slow.false) in
    let used = c.leave.ensures.used in
    let left = left-lawful g.P.Pace.went d e o Space c.in_ok-leave.ensures.moved fast (inr (inr (c.args.i, c.args.held, why))) c.in_ok-leave.ensures.cause c.leave.ensures.others used (λ q. ap (λ (r : RootWord). r.is_proto) (c.leave.ensures.roots q)) c.in_ok-leave.ensures.marks c.leave.ensures.details c.stands-2.ensures.sound in
    fit-left g.P.Pace.went a d e o c.args.i c.args.held still why left
    (slow-unmapped a e c.stands.ensures.sound c.stands-2.ensures.sound (used ∙ ap (λ (s : ObjectsState g.row.P.Denot). s.heap.view.used) still.is) o Space there c.in_ok-leave.ensures.cause)
