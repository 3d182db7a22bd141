-- The summary of a run: how many commands it had, how many of their replies are `true`, and how many lines of each kind its
-- log has.
use Rattle.std.specs.Prelude.{ℕ, ◌+◌, ◌<◌, ◌^◌, Bool, true, false, List, [], ◌∷◌, ◌++◌, codes, count_by}
use Rattle.std.specs.Fmt.{decimal}
use Rattle.hc_value.specs.declared.value.Value.TheVariants.{Bool as Boolean}
use Rattle.hc_value.specs.declared.reply.Reply.{Reply}
use Rattle.hc_value.specs.declared.reply.Reply.TheVariants.{Val, Flag}
use Rattle.hc_report.specs.declared.line.Line.{Line}
use Rattle.hc_report.specs.declared.line.Line.TheVariants.{Hit, Cache, Slow, Install, Refuse, NoPlan, Discard}
use Rattle.hc_report.specs.declared.summary.Tally.{Tally}

abbrev pub is_hit : Line → Bool
is_hit (Hit site case) = true
is_hit line = false

abbrev pub is_cache : Line → Bool
is_cache (Cache site) = true
is_cache line = false

abbrev pub is_slow : Line → Bool
is_slow (Slow site) = true
is_slow line = false

abbrev pub is_install : Line → Bool
is_install (Install job site) = true
is_install line = false

abbrev pub is_refusal : Line → Bool
is_refusal (Refuse job dep) = true
is_refusal line = false

abbrev pub is_no_plan : Line → Bool
is_no_plan (NoPlan job why) = true
is_no_plan line = false

abbrev pub is_discard : Line → Bool
is_discard (Discard site dep) = true
is_discard line = false

-- how many lines of a log are of a kind
abbrev pub count_of : (Line → Bool) → List (ℕ × Line) → ℕ
count_of kind lines = count_by (λ (entry : ℕ × Line). kind entry.1) lines

-- how many there are of each kind
abbrev pub tally_of : List (ℕ × Line) → Tally
tally_of lines = record {
  hits = count_of is_hit lines;
  caches = count_of is_cache lines;
  slows = count_of is_slow lines;
  installs = count_of is_install lines;
  refusals = count_of is_refusal lines;
  noplans = count_of is_no_plan lines;
  discards = count_of is_discard lines;
}

-- the same with one line more
abbrev pub tallied : Tally → Line → Tally
tallied tally (Hit site case) = record tally { hits = tally.hits + 1 }
tallied tally (Cache site) = record tally { caches = tally.caches + 1 }
tallied tally (Slow site) = record tally { slows = tally.slows + 1 }
tallied tally (Install job site) = record tally { installs = tally.installs + 1 }
tallied tally (Refuse job dep) = record tally { refusals = tally.refusals + 1 }
tallied tally (NoPlan job why) = record tally { noplans = tally.noplans + 1 }
tallied tally (Discard site dep) = record tally { discards = tally.discards + 1 }

-- each count fits with one more
pub record HasRoom (tally : Tally) : Type 0 where
  pub hits : tally.hits + 1 < 2 ^ 64
  pub caches : tally.caches + 1 < 2 ^ 64
  pub slows : tally.slows + 1 < 2 ^ 64
  pub installs : tally.installs + 1 < 2 ^ 64
  pub refusals : tally.refusals + 1 < 2 ^ 64
  pub noplans : tally.noplans + 1 < 2 ^ 64
  pub discards : tally.discards + 1 < 2 ^ 64

-- a word and a count, on a line
abbrev pub count_line : List ℕ → ℕ → List ℕ
count_line word n = word ++ decimal n ++ 10 ∷ []

-- how accesses were answered
abbrev pub accesses_text : Tally → List ℕ
accesses_text tally =
    count_line (codes "= hits ") tally.hits ++ count_line (codes "= caches ") tally.caches
    ++ count_line (codes "= slows ") tally.slows

-- what became of plans
abbrev pub plans_text : Tally → List ℕ
plans_text tally =
    count_line (codes "= installs ") tally.installs ++ count_line (codes "= refusals ") tally.refusals
    ++ count_line (codes "= noplans ") tally.noplans ++ count_line (codes "= discards ") tally.discards

-- the nine lines of the summary
abbrev pub summary_lines : ℕ → ℕ → Tally → List ℕ
summary_lines commands trues tally =
    count_line (codes "= commands ") commands ++ count_line (codes "= trues ") trues ++ accesses_text tally ++ plans_text tally

-- the counts of lines are those of the log
abbrev pub summary_text : ℕ → ℕ → List (ℕ × Line) → List ℕ
summary_text commands trues lines = summary_lines commands trues (tally_of lines)

-- the reply is `true`
abbrev pub is_true : Reply → Bool
is_true (Flag true) = true
is_true (Val (Boolean true)) = true
is_true reply = false
