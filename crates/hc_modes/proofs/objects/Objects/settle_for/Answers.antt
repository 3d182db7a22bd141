use Rattle.std.proofs.Common.{◌≡◌, Option, Some, ap, sym, subst, IfSome}
use Rattle.std.specs.Prelude.{option_map}
use Rattle.hc_modes.specs.Came.{AreMoves, moves_to_link, HowBecame}
use Rattle.hc_modes.specs.Inheriting.{IsNamedNow, NamesSlow}
use Rattle.hc_slots.specs.Meaning.{Dictionary}
use Rattle.hc_modes.specs.Meaning.{cause_in, kept_of}
use Rattle.hc_modes.proofs.Calm.{lone}
use Rattle.hc_modes.proofs.Composing.{no-cause}
use Rattle.hc_modes.proofs.Inherited.{fast-moves, marked-moves, named-marked}
use Rattle.hc_slots.specs.Cases.{some-of}
use Rattle.hc_modes.proofs.objects.Objects.settle_for.Goals as goal

pub returns-then-names_slow-clause-moves : goal.returns-then-names_slow-clause-moves
returns-then-names_slow-clause-moves g c =
    let a = c.args.self.now in
    let mid = c.mark_map.new.self in
    let b = c.settle_named.new.self in
    let names : NamesSlow a c.args.proto = c.names_slow.ensures.slow c.if-names_slow.true in
    let d = some-of (kept_of a.kept names.number) names.slow in
    let slow : cause_in a.kept names.number ≡ Some d.0.cause = ap (λ (x : Option Dictionary). option_map (λ y. y.cause) x) d.1 in
    let it : IsNamedNow g.P.Pace.went mid (Some names.number) b = subst (λ (x : Option _). IsNamedNow g.P.Pace.went mid x b) names.is c.settle_named.ensures.named in
    let how : HowBecame mid names.number b = subst (λ (x : Option _). IfSome x (λ p. HowBecame mid p b)) names.is c.settle_named.ensures.how in
    subst (λ (x : Option _). AreMoves g.P.Pace.went a (moves_to_link a c.args.o x) b) (sym names.is)
    (marked-moves g.P.Pace.went a mid b c.args.o names.number d.0.cause (no-cause a.kept c.args.o c.requires.fast) slow c.mark_map.ensures.marked it how c.stands.ensures.sound.heap.lawful (lone c.unused_says_nothing.ensures.law b.heap.view b.kept b.of_null c.stands.ensures.sound))

pub returns-then-names_slow-clause-named : goal.returns-then-names_slow-clause-named
returns-then-names_slow-clause-named g c =
    let a = c.args.self.now in
    let mid = c.mark_map.new.self in
    let b = c.settle_named.new.self in
    let names : NamesSlow a c.args.proto = c.names_slow.ensures.slow c.if-names_slow.true in
    let d = some-of (kept_of a.kept names.number) names.slow in
    let slow : cause_in a.kept names.number ≡ Some d.0.cause = ap (λ (x : Option Dictionary). option_map (λ y. y.cause) x) d.1 in
    subst (λ (x : Option _). IsNamedNow g.P.Pace.went a x b) (sym names.is)
    (named-marked g.P.Pace.went g.met.P.Pace.goes_on c.constants_stay_on.ensures.law a mid b c.args.o names.number d.0.cause slow c.mark_map.ensures.marked
    (subst (λ (x : Option _). IsNamedNow g.P.Pace.went mid x b) names.is c.settle_named.ensures.named))

pub returns-clause-moves : goal.returns-clause-moves
returns-clause-moves g c =
    let a = c.args.self.now in
    fast-moves g.P.Pace.went a c.settle_named-2.new.self c.args.o c.args.proto (no-cause a.kept c.args.o c.requires.fast)
    (λ p is. no-cause a.kept p (c.names_slow.ensures.fast c.if-names_slow.false p is))
    c.settle_named-2.ensures.named c.settle_named-2.ensures.none c.settle_named-2.ensures.how c.stands-2.ensures.sound.heap.lawful
    (lone c.unused_says_nothing.ensures.law c.settle_named-2.new.self.heap.view c.settle_named-2.new.self.kept c.settle_named-2.new.self.of_null c.stands-2.ensures.sound)
