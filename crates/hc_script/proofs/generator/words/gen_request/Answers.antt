-- The words are those two.
use Rattle.std.proofs.Common.{◌≡◌, ℕ, ◌<◌, ◌≤◌, List, [], ◌∷◌, length, map, get_or, subst, sym, ap, ◌∙◌, arith}
use Rattle.std.specs.Prelude.{IfNone, string_bytes}
use Rattle.hc_script.specs.GeneratorWords.{AskForScript}
use Rattle.hc_script.proofs.generator.words.gen_request.Goals as goal

two_items : {X : Type 0} (xs : List X) (a b : X) → 2 ≤ length xs → length xs < 3 → a ≡ get_or xs 0 a → b ≡ get_or xs 1 b → xs ≡ a ∷ b ∷ []
two_items [] a b some few first second = absurd (omega arith)
two_items (x ∷ []) a b some few first second = absurd (omega arith)
two_items (x ∷ y ∷ []) a b some few first second = cc
two_items (x ∷ y ∷ z ∷ xs) a b some few first second = absurd (omega arith)

pub returns-in-len2-clause-none : goal.returns-in-len2-clause-none
returns-in-len2-clause-none c =
    let words : c.args.words.now ≡ c.verb-item.result ∷ c.count-item.result ∷ [] =
    two_items c.args.words.now c.verb-item.result c.count-item.result (omega arith) (omega arith) c.verb-item.is c.count-item.is in
    let texts : map string_bytes c.args.words.now ≡ c.as_str.result.now ∷ c.as_str-in-len2.result.now ∷ [] =
    ap (map string_bytes) words
    ∙ ap (λ (first : List ℕ). first ∷ string_bytes c.count-item.result ∷ []) (sym c.as_str.ensures.value)
    ∙ ap (λ (second : List ℕ). c.as_str.result.now ∷ second ∷ []) (sym c.as_str-in-len2.ensures.value) in
    subst (λ (ws : List (List ℕ)). IfNone c.counted_request.result ((n start : ℕ) → AskForScript ws n start → ⊥)) (sym texts) c.counted_request.ensures.none
