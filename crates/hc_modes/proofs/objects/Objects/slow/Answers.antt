use Rattle.std.proofs.Common.{◌<◌, length, ap, sym, ◌∙◌, arith}
use Rattle.hc_modes.specs.Meaning.{kept_of}
use Rattle.hc_modes.specs.State.{ObjectsState}
use Rattle.hc_modes.proofs.Shown.{kept-item, within}
use Rattle.hc_modes.proofs.objects.Objects.slow.Goals as goal

pub index-requires : goal.index-requires
index-requires g c =
    let there : c.args.o < length c.self.inside.kept.items = within _ _ c.args.o c.self.view_is c.requires in
    omega arith

pub returns : goal.returns
returns g c =
    let items = c.self.inside.kept.items in
    let there : c.args.o < length items = within _ _ c.args.o c.self.view_is c.requires in
    c.as_ref.ensures.value
    ∙ sym (kept-item items c.args.o c.index.result.now there c.index.ensures)
    ∙ ap (λ (s : ObjectsState g.row.P.Denot). kept_of s.kept c.args.o) c.self.view_is
