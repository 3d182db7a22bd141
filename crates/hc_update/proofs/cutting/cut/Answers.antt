use Rattle.std.proofs.Common.{◌≡◌, ◌∙◌, ◌<◌, ℕ, ap, sym, subst, refl, arith, Option, Some, IsSome}
use Rattle.std.specs.Prelude.{IsSomeAnd}
use Rattle.hc_heap.specs.Readings.{gate_in, owner_in, parent_in}
use Rattle.hc_heap.specs.States.{HeapState, View}
use Rattle.hc_tree.specs.Dying.{IsDeprecated, IsOwnerOf, MayDie}
use Rattle.hc_update.specs.Renewing.{IsCut}
use Rattle.hc_update.proofs.Cuts.{cut-is, cut-none, inmost, inner, owner-here, owner-may}
use Rattle.hc_update.proofs.cutting.cut.Goals as goal

pub returns-then-i-n-clause-cut : goal.returns-then-i-n-clause-cut
returns-then-i-n-clause-cut g c = cut-none c.args.h.now.view c.args.map c.args.n c.args.i c.stands.ensures.heap c.requires.tree c.requires.map c.requires.live c.if-i-n.true

pub unwrap-requires : goal.unwrap-requires
unwrap-requires g c =
    let v = c.args.h.now.view in
    let m = c.args.map in
    let n = c.args.n in
    let i = c.args.i in
    let owner = c.owner-owner.result in
    let within = c.requires.within in
    let other = c.if-i-n.false in
    let lt : i < n = omega (arith, within, other) in
    let first : c.field_at-field.new.h.view ≡ v = ap (λ (s : HeapState g.row.P.Denot). s.view) c.field_at-field.ensures.same in
    let read : c.owner-owner.new.h.view ≡ v = ap (λ (s : HeapState g.row.P.Denot). s.view) c.owner-owner.ensures.new ∙ first in
    let owns : owner_in v.trail c.field_at-field.result ≡ Some owner = subst (λ (x : View). owner_in x.trail c.field_at-field.result ≡ Some owner) first c.owner-owner.ensures.owner in
    let own : IsOwnerOf v.trail m n i owner = owner-here c.owners_stand.ensures.law v m n i c.field_at-field.result owner c.stands.ensures.heap c.requires.tree c.requires.map lt c.field_at-field.ensures.field owns in
    let above : c.parent.result ≡ Some (Some own.parent) = c.parent.ensures.value ∙ ap (λ (x : View). parent_in x.trail owner) read ∙ own.child.parent in
    subst (λ (o : Option (Option ℕ)). IsSome o) (sym above) refl

pub unwrap-parent-requires : goal.unwrap-parent-requires
unwrap-parent-requires g c =
    let v = c.args.h.now.view in
    let m = c.args.map in
    let n = c.args.n in
    let i = c.args.i in
    let owner = c.owner-owner.result in
    let within = c.requires.within in
    let other = c.if-i-n.false in
    let lt : i < n = omega (arith, within, other) in
    let first : c.field_at-field.new.h.view ≡ v = ap (λ (s : HeapState g.row.P.Denot). s.view) c.field_at-field.ensures.same in
    let read : c.owner-owner.new.h.view ≡ v = ap (λ (s : HeapState g.row.P.Denot). s.view) c.owner-owner.ensures.new ∙ first in
    let owns : owner_in v.trail c.field_at-field.result ≡ Some owner = subst (λ (x : View). owner_in x.trail c.field_at-field.result ≡ Some owner) first c.owner-owner.ensures.owner in
    let own : IsOwnerOf v.trail m n i owner = owner-here c.owners_stand.ensures.law v m n i c.field_at-field.result owner c.stands.ensures.heap c.requires.tree c.requires.map lt c.field_at-field.ensures.field owns in
    let above : c.parent.result ≡ Some (Some own.parent) = c.parent.ensures.value ∙ ap (λ (x : View). parent_in x.trail owner) read ∙ own.child.parent in
    subst (λ (o : Option ℕ). IsSome o) (sym (inner c.parent.result c.unwrap.result own.parent c.unwrap.ensures above)) refl

pub deprecate-requires-clause-open : goal.deprecate-requires-clause-open
deprecate-requires-clause-open g c =
    let v = c.args.h.now.view in
    let m = c.args.map in
    let n = c.args.n in
    let i = c.args.i in
    let owner = c.owner-owner.result in
    let within = c.requires.within in
    let other = c.if-i-n.false in
    let lt : i < n = omega (arith, within, other) in
    let first : c.field_at-field.new.h.view ≡ v = ap (λ (s : HeapState g.row.P.Denot). s.view) c.field_at-field.ensures.same in
    let read : c.owner-owner.new.h.view ≡ v = ap (λ (s : HeapState g.row.P.Denot). s.view) c.owner-owner.ensures.new ∙ first in
    let owns : owner_in v.trail c.field_at-field.result ≡ Some owner = subst (λ (x : View). owner_in x.trail c.field_at-field.result ≡ Some owner) first c.owner-owner.ensures.owner in
    let own : IsOwnerOf v.trail m n i owner = owner-here c.owners_stand.ensures.law v m n i c.field_at-field.result owner c.stands.ensures.heap c.requires.tree c.requires.map lt c.field_at-field.ensures.field owns in
    let above : c.parent.result ≡ Some (Some own.parent) = c.parent.ensures.value ∙ ap (λ (x : View). parent_in x.trail owner) read ∙ own.child.parent in
    let last : c.parent.new.self.view ≡ v = ap (λ (s : HeapState g.row.P.Denot). s.view) c.parent.ensures.new ∙ read in
    subst (λ (x : View). IsSomeAnd (gate_in x.trail owner) (MayDie x.trail owner)) (sym last) (owner-may c.live_stand_high.ensures.law v m n i owner c.requires.tree c.requires.map c.requires.live lt own)

pub returns-clause-cut : goal.returns-clause-cut
returns-clause-cut g c =
    let v = c.args.h.now.view in
    let m = c.args.map in
    let n = c.args.n in
    let i = c.args.i in
    let owner = c.owner-owner.result in
    let within = c.requires.within in
    let other = c.if-i-n.false in
    let lt : i < n = omega (arith, within, other) in
    let first : c.field_at-field.new.h.view ≡ v = ap (λ (s : HeapState g.row.P.Denot). s.view) c.field_at-field.ensures.same in
    let read : c.owner-owner.new.h.view ≡ v = ap (λ (s : HeapState g.row.P.Denot). s.view) c.owner-owner.ensures.new ∙ first in
    let owns : owner_in v.trail c.field_at-field.result ≡ Some owner = subst (λ (x : View). owner_in x.trail c.field_at-field.result ≡ Some owner) first c.owner-owner.ensures.owner in
    let own : IsOwnerOf v.trail m n i owner = owner-here c.owners_stand.ensures.law v m n i c.field_at-field.result owner c.stands.ensures.heap c.requires.tree c.requires.map lt c.field_at-field.ensures.field owns in
    let above : c.parent.result ≡ Some (Some own.parent) = c.parent.ensures.value ∙ ap (λ (x : View). parent_in x.trail owner) read ∙ own.child.parent in
    let w = c.deprecate.new.h.view in
    let last : c.parent.new.self.view ≡ v = ap (λ (s : HeapState g.row.P.Denot). s.view) c.parent.ensures.new ∙ read in
    let dies : IsDeprecated v w owner = subst (λ (x : View). IsDeprecated x w owner) last c.deprecate.ensures.dies in
    let same : own.parent ≡ c.unwrap-parent.result = inmost c.unwrap.result own.parent c.unwrap-parent.result (inner c.parent.result c.unwrap.result own.parent c.unwrap.ensures above) c.unwrap-parent.ensures in
    subst (λ (x : ℕ). IsCut v w m n i x) same (cut-is c.live_stand_high.ensures.law v m n i owner c.requires.tree c.requires.map c.requires.live lt own c.parent_is_spared.ensures.law c.owner_is_freed.ensures.law w dies)
