-- A piece is written front by front.
use Rattle.std.proofs.Common.{◌≡◌, ℕ, ◌-◌, ◌≤◌, false, List, [], ◌∷◌, ◌++◌, length, take, drop, sym, ◌∙◌, ap, arith, Option, append_assoc}
use Rattle.std.specs.Prelude.{◌==◌}
use Rattle.std.proofs.lemmas.Grind.{common_steps}
use Rattle.hc_lines.specs.Outside.{AppendsBytes}
use Rattle.hc_session.specs.Output.{AppendsFront}
use Rattle.hc_session.proofs.Runs.{appends_both}

-- the rest of a piece behind one more front
pub front_on : (piece front rest : List ℕ) (n : ℕ) (a b c : Option (List ℕ)) → n ≤ length rest → piece ≡ front ++ rest → AppendsBytes a front b → AppendsBytes b (take n rest) c → (x : List ℕ) × (piece ≡ x ++ take (length rest - n) (drop n rest)) × AppendsBytes a x c
front_on piece front rest n a b c within whole first second =
    let parts : rest ≡ take n rest ++ take (length rest - n) (drop n rest) = grind (arith, common_steps) in (
      front ++ take n rest,
      whole ∙ ap (λ (xs : List ℕ). front ++ xs) parts ∙ sym (append_assoc front (take n rest) (take (length rest - n) (drop n rest))),
      appends_both a b c front (take n rest) first second,
    )

-- a write fails in front of a rest that isn't empty
pub stops_short : (piece front rest : List ℕ) (a b c : Option (List ℕ)) → piece ≡ front ++ rest → AppendsBytes a front b → c ≡ b → false ≡ (length rest == 0) → AppendsFront a piece c
stops_short piece front [] a b c whole appended same more = absurd (cc)
stops_short piece front (next ∷ rest) a b c whole appended same more = (front, (next, rest, whole), rw same appended)
