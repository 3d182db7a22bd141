-- What is kept of the jobs that callers have.
use Rattle.std.specs.Prelude.{◌≡◌, ℕ, ◌≤◌, false, List, [], ◌∷◌, length}
use Rattle.hc_compiler.specs.Feedback.{listed}
use Rattle.hc_compiler.specs.Jobs.{Opening, is_lent}
use Rattle.hc_compiler.specs.declared.lending.Lent.{Lent}

-- what a job was given
abbrev pub given_to : Lent → Opening
given_to x = record { job = x.job; site = x.site; what = x.what; maps = listed x.maps; mega = x.mega; start = x.start }

-- no two have one number
abbrev pub AreApart : List Opening → Type 0
AreApart [] = Unit {0}
AreApart (given ∷ lent) = (is_lent lent given.job ≡ false) × AreApart lent

-- they are at most 64, no two with one number, and there is room for as many
pub record IsLending (lent : List Opening) (capacity : ℕ) : Type 0 where
  pub few : length lent ≤ 64
  pub room : 64 ≤ capacity
  pub apart : AreApart lent
