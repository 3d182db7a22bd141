use Rattle.std.proofs.Common.{◌≡◌, length, Some, None, option_copied, ap, sym, ◌∙◌}
use Rattle.hc_table.specs.World.{Object}
use Rattle.hc_modes.specs.Meaning.{kept_of}
use Rattle.hc_modes.specs.State.{ObjectsState}
use Rattle.hc_modes.proofs.Shown.{slow-shown, fast-shown, fast-has}
use Rattle.hc_modes.proofs.objects.Objects.len.Goals as goal

pub returns-then-is_slow-clause-len : goal.returns-then-is_slow-clause-len
returns-then-is_slow-clause-len g c =
    let d = c.unwrap.result.now in
    let is : kept_of c.args.self.now.kept c.args.o ≡ Some d =
    ap (λ (s : ObjectsState g.row.P.Denot). kept_of s.kept c.args.o) (sym c.close_slow.ensures) ∙ sym c.slow.ensures ∙ ap option_copied c.unwrap.ensures in
    c.len.ensures.len ∙ sym (ap (λ (x : Object). length x.props) (slow-shown _ _ c.args.o c.self.view_is c.requires d is))

pub len-requires-2 : goal.len-requires-2
len-requires-2 g c =
    let is : kept_of c.args.self.now.kept c.args.o ≡ None = c.is_slow.ensures.fast c.if-is_slow.false in
    record { fast = fast-has _ _ c.args.o c.self.view_is c.requires c.self.invariant is }

pub returns-clause-len : goal.returns-clause-len
returns-clause-len g c =
    let is : kept_of c.args.self.now.kept c.args.o ≡ None = c.is_slow.ensures.fast c.if-is_slow.false in
    c.len-2.ensures.len ∙ sym (ap (λ (x : Object). length x.props) (fast-shown _ _ c.args.o c.self.view_is c.requires is))
