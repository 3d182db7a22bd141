use Rattle.std.proofs.Common.{◌≡◌, ◌∙◌, ℕ, ◌<◌, Option, Some, None, length, refl, ap, sym, subst, arith, rules, IsSome}
use Rattle.std.specs.Prelude.{IsSomeAnd}
use Rattle.hc_heap.specs.Readings.{gate_in}
use Rattle.hc_heap.specs.Frames.{goes-on}
use Rattle.hc_heap.specs.States.{HeapState, View}
use Rattle.hc_tree.specs.Tree.{IsTree}
use Rattle.hc_tree.specs.Dying.{IsDeprecated, MayDie}
use Rattle.hc_tree.proofs.Begun.{open-handed}
use Rattle.hc_tree.proofs.Deaths.{Dying, child-is, child-may, died, dying-more, dying-none, fewer, here, next-is, sound, steps}
use Rattle.hc_tree.proofs.Made.{some-with}
use Rattle.hc_tree.proofs.Owners.{same-some}
use Rattle.hc_tree.proofs.dying.+deprecate.Goals as goal

pub loop-at-init : goal.loop-at-init
loop-at-init g t c =
    let v = c.args.h.now.view in
    let read : c.head-at.new.self.view ≡ v = ap (λ (s : HeapState g.row.P.Denot). s.view) c.head-at.ensures.new in
    record {
      dying = subst (λ (x : View). Dying v x c.args.map c.head-at.result) (sym read)
          (subst (λ (o : Option ℕ). Dying v v c.args.map o) (sym c.head-at.ensures.value) (dying-none c.links_are_chained.ensures.law v c.args.map c.stands.ensures.heap c.requires.tree));
      goes = c.head-at.ensures.goes;
      went = c.head-at.ensures.went;
    }

pub unwrap-child-requires : goal.unwrap-child-requires
unwrap-child-requires g t c =
    let v = c.args.h.now.view in
    let b = c.loop-at.h.view in
    let m = c.args.map in
    let l = c.in-Some.link in
    let gate = some-with (MayDie v.trail m) (gate_in v.trail m) c.requires.open in
    let maps = c.maps_are_kept.ensures.law in
    let begin = c.stands.ensures.heap in
    let it : Dying v b m (Some l) = subst (λ (o : Option ℕ). Dying v b m o) c.in-Some.is c.loop-at.invariant.dying in
    let its = sound maps v b m gate.0 l begin c.requires.tree gate.1.0 it in
    let leads = c.link_child.ensures.value ∙ child-is maps v b m gate.0 l begin c.requires.tree gate.1.0 it in
    subst (λ (o : Option ℕ). IsSome o) (sym leads) refl

pub deprecate-requires : goal.deprecate-requires
deprecate-requires g t c κs within =
    let v = c.args.h.now.view in
    let b = c.loop-at.h.view in
    let m = c.args.map in
    let l = c.in-Some.link in
    let gate = some-with (MayDie v.trail m) (gate_in v.trail m) c.requires.open in
    let maps = c.maps_are_kept.ensures.law in
    let begin = c.stands.ensures.heap in
    let it : Dying v b m (Some l) = subst (λ (o : Option ℕ). Dying v b m o) c.in-Some.is c.loop-at.invariant.dying in
    let its = sound maps v b m gate.0 l begin c.requires.tree gate.1.0 it in
    let leads = c.link_child.ensures.value ∙ child-is maps v b m gate.0 l begin c.requires.tree gate.1.0 it in
    let same : c.unwrap-child.result ≡ its.child = same-some c.unwrap-child.result its.child c.link_child.result c.unwrap-child.ensures leads in
    let read : c.link_child.new.self.view ≡ b = ap (λ (s : HeapState g.row.P.Denot). s.view) c.link_child.ensures.new in
    let handed = open-handed (MayDie v.trail m) c.unused_says_nothing.ensures.law v m begin c.requires.open in
    let used : c.link_child.new.self.view.used.maps ≡ v.used.maps = ap (λ (x : View). x.used.maps) read ∙ ap (λ (x : View). x.used.maps) it.view in
    let younger = its.sound.younger in (
      omega (arith, c.decreases, handed, used, younger, same),
      (
        search rules,
        (
          subst (λ (x : View). IsTree x.trail) (sym read) it.tree,
          subst (λ (x : View). IsSomeAnd (gate_in x.trail c.unwrap-child.result) (MayDie x.trail c.unwrap-child.result)) (sym read)
              (subst (λ (x : ℕ). IsSomeAnd (gate_in b.trail x) (MayDie b.trail x)) (sym same) (child-may maps v b m gate.0 l begin c.requires.tree gate.1.0 it)),
        ),
      ),
    )

pub unwrap-at-requires : goal.unwrap-at-requires
unwrap-at-requires g t c =
    let v = c.args.h.now.view in
    let b = c.loop-at.h.view in
    let m = c.args.map in
    let l = c.in-Some.link in
    let gate = some-with (MayDie v.trail m) (gate_in v.trail m) c.requires.open in
    let maps = c.maps_are_kept.ensures.law in
    let begin = c.stands.ensures.heap in
    let it : Dying v b m (Some l) = subst (λ (o : Option ℕ). Dying v b m o) c.in-Some.is c.loop-at.invariant.dying in
    let its = sound maps v b m gate.0 l begin c.requires.tree gate.1.0 it in
    let leads = c.link_child.ensures.value ∙ child-is maps v b m gate.0 l begin c.requires.tree gate.1.0 it in
    let same : c.unwrap-child.result ≡ its.child = same-some c.unwrap-child.result its.child c.link_child.result c.unwrap-child.ensures leads in
    let read : c.link_child.new.self.view ≡ b = ap (λ (s : HeapState g.row.P.Denot). s.view) c.link_child.ensures.new in
    let w = c.deprecate.new.h.view in
    let dead : IsDeprecated b w its.child = subst (λ (x : ℕ). IsDeprecated b w x) same (subst (λ (x : View). IsDeprecated x w c.unwrap-child.result) read c.deprecate.ensures.dies) in
    let goes-to = c.link_next.ensures.value ∙ next-is maps v b m gate.0 l begin c.requires.tree gate.1.0 it w dead.writes in
    subst (λ (o : Option (Option ℕ)). IsSome o) (sym goes-to) refl

pub loop-at-smaller : goal.loop-at-smaller
loop-at-smaller g t c =
    let v = c.args.h.now.view in
    let b = c.loop-at.h.view in
    let m = c.args.map in
    let l = c.in-Some.link in
    let gate = some-with (MayDie v.trail m) (gate_in v.trail m) c.requires.open in
    let maps = c.maps_are_kept.ensures.law in
    let begin = c.stands.ensures.heap in
    let it : Dying v b m (Some l) = subst (λ (o : Option ℕ). Dying v b m o) c.in-Some.is c.loop-at.invariant.dying in
    let its = sound maps v b m gate.0 l begin c.requires.tree gate.1.0 it in
    let leads = c.link_child.ensures.value ∙ child-is maps v b m gate.0 l begin c.requires.tree gate.1.0 it in
    let same : c.unwrap-child.result ≡ its.child = same-some c.unwrap-child.result its.child c.link_child.result c.unwrap-child.ensures leads in
    let read : c.link_child.new.self.view ≡ b = ap (λ (s : HeapState g.row.P.Denot). s.view) c.link_child.ensures.new in
    let w = c.deprecate.new.h.view in
    let dead : IsDeprecated b w its.child = subst (λ (x : ℕ). IsDeprecated b w x) same (subst (λ (x : View). IsDeprecated x w c.unwrap-child.result) read c.deprecate.ensures.dies) in
    let goes-to = c.link_next.ensures.value ∙ next-is maps v b m gate.0 l begin c.requires.tree gate.1.0 it w dead.writes in
    let next : c.unwrap-at.result ≡ (here maps v b m gate.0 l begin c.requires.tree gate.1.0 it).next = same-some c.unwrap-at.result (here maps v b m gate.0 l begin c.requires.tree gate.1.0 it).next c.link_next.result c.unwrap-at.ensures goes-to in
    subst (λ (o : Option ℕ). steps (length v.trail) v.trail o < steps (length v.trail) v.trail c.loop-at.at) (sym next)
    (subst (λ (o : Option ℕ). steps (length v.trail) v.trail (here maps v b m gate.0 l begin c.requires.tree gate.1.0 it).next < steps (length v.trail) v.trail o) (sym c.in-Some.is)
    (fewer maps v b m gate.0 l begin c.requires.tree gate.1.0 it))

pub loop-at-preserved : goal.loop-at-preserved
loop-at-preserved g t c =
    let v = c.args.h.now.view in
    let b = c.loop-at.h.view in
    let m = c.args.map in
    let l = c.in-Some.link in
    let gate = some-with (MayDie v.trail m) (gate_in v.trail m) c.requires.open in
    let maps = c.maps_are_kept.ensures.law in
    let begin = c.stands.ensures.heap in
    let it : Dying v b m (Some l) = subst (λ (o : Option ℕ). Dying v b m o) c.in-Some.is c.loop-at.invariant.dying in
    let its = sound maps v b m gate.0 l begin c.requires.tree gate.1.0 it in
    let leads = c.link_child.ensures.value ∙ child-is maps v b m gate.0 l begin c.requires.tree gate.1.0 it in
    let same : c.unwrap-child.result ≡ its.child = same-some c.unwrap-child.result its.child c.link_child.result c.unwrap-child.ensures leads in
    let read : c.link_child.new.self.view ≡ b = ap (λ (s : HeapState g.row.P.Denot). s.view) c.link_child.ensures.new in
    let w = c.deprecate.new.h.view in
    let dead : IsDeprecated b w its.child = subst (λ (x : ℕ). IsDeprecated b w x) same (subst (λ (x : View). IsDeprecated x w c.unwrap-child.result) read c.deprecate.ensures.dies) in
    let goes-to = c.link_next.ensures.value ∙ next-is maps v b m gate.0 l begin c.requires.tree gate.1.0 it w dead.writes in
    let next : c.unwrap-at.result ≡ (here maps v b m gate.0 l begin c.requires.tree gate.1.0 it).next = same-some c.unwrap-at.result (here maps v b m gate.0 l begin c.requires.tree gate.1.0 it).next c.link_next.result c.unwrap-at.ensures goes-to in
    let after : c.link_next.new.self.view ≡ w = ap (λ (s : HeapState g.row.P.Denot). s.view) c.link_next.ensures.new in
    let on = g.met.P.Pace.goes_on in
    record {
      dying = subst (λ (x : View). Dying v x m c.unwrap-at.result) (sym after)
          (subst (λ (o : Option ℕ). Dying v w m o) (sym next) (dying-more maps v b m gate.0 l begin c.requires.tree gate.1.0 it c.set_is_kept.ensures.law w dead));
      goes = goes-on c.args.h.now.desk c.deprecate.new.h.desk c.link_next.new.self.desk
          (goes-on c.args.h.now.desk c.link_child.new.self.desk c.deprecate.new.h.desk (goes-on c.args.h.now.desk c.loop-at.h.desk c.link_child.new.self.desk c.loop-at.invariant.goes c.link_child.ensures.goes) c.deprecate.ensures.goes) c.link_next.ensures.goes;
      went = on _ _ _ _ _ _ (on _ _ _ _ _ _ (on _ _ _ _ _ _ c.loop-at.invariant.went c.link_child.ensures.went) c.deprecate.ensures.went) c.link_next.ensures.went;
    }

pub set_bits-requires-clause-handed : goal.set_bits-requires-clause-handed
set_bits-requires-clause-handed g t c =
    let v = c.args.h.now.view in
    let handed = open-handed (MayDie v.trail c.args.map) c.unused_says_nothing.ensures.law v c.args.map c.stands.ensures.heap c.requires.open in
    let used = ap (λ (x : View). x.used.maps) c.loop-at.invariant.dying.view in
    omega (arith, handed, used)

pub returns-clause-dies : goal.returns-clause-dies
returns-clause-dies g t c =
    let v = c.args.h.now.view in
    let b = c.loop-at.h.view in
    let m = c.args.map in
    let gate = some-with (MayDie v.trail m) (gate_in v.trail m) c.requires.open in
    let it : Dying v b m None = subst (λ (o : Option ℕ). Dying v b m o) c.in_default.is c.loop-at.invariant.dying in
    died c.maps_are_kept.ensures.law v b m gate.0 gate.1.0 gate.1.1 it c.set_bits.new.self.view c.set_bits.ensures.view c.set_bits.ensures.heap

pub returns-clause-goes : goal.returns-clause-goes
returns-clause-goes g t c = goes-on c.args.h.now.desk c.loop-at.h.desk c.set_bits.new.self.desk c.loop-at.invariant.goes c.set_bits.ensures.goes

pub returns-clause-went : goal.returns-clause-went
returns-clause-went g t c = g.met.P.Pace.goes_on _ _ _ _ _ _ c.loop-at.invariant.went c.set_bits.ensures.went
