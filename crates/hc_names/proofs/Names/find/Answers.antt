use Rattle.std.proofs.Common.{◌≡◌, ℕ, List, Option, Some, None, if◌then◌else◌, ◌∙◌, subst, true, false, Bool, slice_get, arith}
use Rattle.hc_names.specs.Names.{has_text, number_of}
use Rattle.hc_names.proofs.Lists.{position-strings, number_of-names}
use Rattle.hc_names.proofs.Names.find.Goals as goal

-- the place of a text, by the names alone
abbrev place : List (List ℕ) → List ℕ → Option ℕ
place names text = if has_text names text then Some (number_of names text) else None

pub returns-in_err-get_index_of-clause-number : goal.returns-in_err-get_index_of-clause-number
returns-in_err-get_index_of-clause-number c =
    subst (λ names. c.from_residual.result ≡ place names c.args.text.now) c.self.view_is
    (c.from_residual.ensures ∙ c.in_err-get_index_of.ensures.index ∙ position-strings c.self.inside.texts.keys c.args.text.now)

pub returns-clause-number : goal.returns-clause-number
returns-clause-number c =
    subst (λ names. Some c.in_ok-get_index_of.field-0 ≡ place names c.args.text.now) c.self.view_is
    (c.in_ok-get_index_of.ensures.index ∙ position-strings c.self.inside.texts.keys c.args.text.now)

place-names : (names : List (List ℕ)) (text : List ℕ) (n : ℕ) → Some n ≡ place names text → slice_get names n ≡ Some text
place-names names text n = by (has_text names text) (number_of-names names text)
  where
    by : (b : Bool) → (b ≡ true → slice_get names (number_of names text) ≡ Some text) → Some n ≡ (if b then Some (number_of names text) else None) → slice_get names n ≡ Some text
    by true at e = grind (arith, at)
    by false at e = absurd (cc)

pub returns-clause-named : goal.returns-clause-named
returns-clause-named c = place-names _ _ _ (returns-clause-number c)
