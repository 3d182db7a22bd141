use Rattle.std.proofs.Common.{◌≡◌, sym, ◌∙◌, arith}
use Rattle.std.proofs.lemmas.Fmt.{decimal_injective}
use Rattle.hc_commands.proofs.token.written_distance.Goals as goal

pub returns-then-n-eq0-clause-none : goal.returns-then-n-eq0-clause-none
returns-then-n-eq0-clause-none c n is e =
    let same : n ≡ c.in_ok-n.n = decimal_injective n c.in_ok-n.n (omega (arith, is.small)) (omega (arith, c.if-n-eq0.true)) (sym e ∙ c.in_ok-n.ensures.written) in
    omega (arith, is.some, same, c.if-n-eq0.true)
