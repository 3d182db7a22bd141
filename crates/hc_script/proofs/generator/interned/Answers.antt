-- Each name is new, and goes last.
use Rattle.std.proofs.Common.{◌≡◌, ◌∙◌, ◌<◌, ◌≤◌, ℕ, suc, zero, ◌+◌, [], length, take, get_or, refl, ap, arith, List}
use Rattle.std.proofs.lemmas.List.{length-take}
use Rattle.hc_names.specs.Names.{with_text}
use Rattle.hc_script.specs.Generator.{the_names}
use Rattle.hc_script.proofs.generator.interned.Goals as goal

with_next_name : (n : ℕ) → n < 9 → with_text (take n the_names) (get_or the_names n []) ≡ take (n + 1) the_names
with_next_name zero here = refl
with_next_name (suc zero) here = refl
with_next_name (suc (suc zero)) here = refl
with_next_name (suc (suc (suc zero))) here = refl
with_next_name (suc (suc (suc (suc zero)))) here = refl
with_next_name (suc (suc (suc (suc (suc zero))))) here = refl
with_next_name (suc (suc (suc (suc (suc (suc zero)))))) here = refl
with_next_name (suc (suc (suc (suc (suc (suc (suc zero))))))) here = refl
with_next_name (suc (suc (suc (suc (suc (suc (suc (suc zero)))))))) here = refl
with_next_name (suc (suc (suc (suc (suc (suc (suc (suc (suc n))))))))) here = absurd (omega arith)

pub loop-n-preserved : goal.loop-n-preserved
loop-n-preserved c =
    c.in_ok-add_name.ensures
    ∙ ap (λ (names : List (List ℕ)). with_text names c.name.result.now) c.loop-n.invariant
    ∙ ap (λ (text : List ℕ). with_text (take c.loop-n.n the_names) text) c.name.ensures
    ∙ with_next_name c.loop-n.n (omega arith)

pub add_name-requires : goal.add_name-requires
add_name-requires c =
    let few : length (take c.loop-n.n the_names) ≤ 9 = omega (arith, length-take c.loop-n.n the_names) in
    omega (arith, ap length c.loop-n.invariant, few)
