-- A list of at most four skips, in its four places.
use Rattle.std.specs.Prelude.{◌≡◌, List, [], ◌∷◌, Option, Some, None, refl}
use Rattle.std.proofs.Common.{arith}
use Rattle.hc_plan.specs.declared.skip.Skip.{Skip}
use Rattle.hc_plan.specs.declared.skip.SkipList.TheInside.{Inside}

-- the skips in the places
abbrev pub listed : Option Skip → List Skip → List Skip
listed None rest = []
listed (Some skip) rest = skip ∷ rest

abbrev pub skips_in : Inside → List Skip
skips_in s = listed s.first (listed s.second (listed s.third (listed s.fourth [])))

-- after an empty place all are empty
abbrev pub AreFilled : Option Skip → Option Skip → Type 0
AreFilled None next = next ≡ None
AreFilled (Some skip) next = Unit {0}

pub record AreSkips (s : Inside) : Type 0 where
  pub second : AreFilled s.first s.second
  pub third : AreFilled s.second s.third
  pub fourth : AreFilled s.third s.fourth

-- the places of a list
abbrev pub skips_at : List Skip → Inside
skips_at [] = record { first = None; second = None; third = None; fourth = None }
skips_at (a ∷ []) = record { first = Some a; second = None; third = None; fourth = None }
skips_at (a ∷ b ∷ []) = record { first = Some a; second = Some b; third = None; fourth = None }
skips_at (a ∷ b ∷ c ∷ []) = record { first = Some a; second = Some b; third = Some c; fourth = None }
skips_at (a ∷ b ∷ c ∷ d ∷ rest) = record { first = Some a; second = Some b; third = Some c; fourth = Some d }

-- the places give the list, and the list gives the places back
back_from : (a b c d : Option Skip) → AreFilled a b → AreFilled b c → AreFilled c d → skips_at (listed a (listed b (listed c (listed d [])))) ≡ record { first = a; second = b; third = c; fourth = d }
back_from None None None None p q r = refl
back_from (Some x) None None None p q r = refl
back_from (Some x) (Some y) None None p q r = refl
back_from (Some x) (Some y) (Some z) None p q r = refl
back_from (Some x) (Some y) (Some z) (Some w) p q r = refl
back_from None (Some y) c d p q r = grind (arith, p)
back_from a None (Some z) d p q r = grind (arith, q)
back_from a b None (Some w) p q r = grind (arith, r)

pub back_again : (a : Inside) → AreSkips a → skips_at (skips_in a) ≡ a
back_again a h = back_from a.first a.second a.third a.fourth h.second h.third h.fourth
