use Rattle.std.proofs.Common.{◌≡◌, ◌<◌, length, ap, sym, ◌∙◌, subst, arith, Option, IsSome}
use Rattle.hc_slots.specs.Meaning.{Dictionary}
use Rattle.hc_modes.specs.Meaning.{kept_of}
use Rattle.hc_modes.specs.State.{ObjectsState}
use Rattle.hc_modes.proofs.Altering.{slow-of, fast-of}
use Rattle.hc_modes.proofs.Shown.{kept-item, within}
use Rattle.hc_modes.proofs.objects.Objects.is_slow.Goals as goal

pub index-requires : goal.index-requires
index-requires g c =
    let there : c.args.o < length c.self.inside.kept.items = within _ _ c.args.o c.self.view_is c.requires.object in
    omega arith

pub returns-clause-slow : goal.returns-clause-slow
returns-clause-slow g c =
    let items = c.self.inside.kept.items in
    let there : c.args.o < length items = within _ _ c.args.o c.self.view_is c.requires.object in
    let is : kept_of c.args.self.now.kept c.args.o ≡ c.index.result.now = sym (ap (λ (s : ObjectsState g.row.P.Denot). kept_of s.kept c.args.o) c.self.view_is) ∙ kept-item items c.args.o c.index.result.now there c.index.ensures in
    λ is_so. subst (λ (x : Option Dictionary). IsSome x) (sym is) (slow-of c.index.result.now c.is_some.result c.is_some.ensures is_so)

pub returns-clause-fast : goal.returns-clause-fast
returns-clause-fast g c =
    let items = c.self.inside.kept.items in
    let there : c.args.o < length items = within _ _ c.args.o c.self.view_is c.requires.object in
    let is : kept_of c.args.self.now.kept c.args.o ≡ c.index.result.now = sym (ap (λ (s : ObjectsState g.row.P.Denot). kept_of s.kept c.args.o) c.self.view_is) ∙ kept-item items c.args.o c.index.result.now there c.index.ensures in
    λ other. is ∙ fast-of c.index.result.now c.is_some.result c.is_some.ensures other
