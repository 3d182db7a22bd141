-- The text of a line of the log.
use Rattle.std.specs.Prelude.{ℕ, List, [], ◌∷◌, ◌++◌, map, codes}
use Rattle.std.specs.Fmt.{decimal}
use Rattle.hc_plan.specs.declared.deps.Dep.{Dep}
use Rattle.hc_plan.specs.declared.deps.Dep.TheVariants.{Live, Stable, Rep, Const, Class, Value}
use Rattle.hc_plan.specs.declared.skip.Skip.{Skip}
use Rattle.hc_plan.specs.declared.skip.Skip.TheVariants.{Dead, SlowHolder, Deep, ConstField, NoLink, PrototypeMap}
use Rattle.hc_plan.specs.declared.skip.Why.{Why}
use Rattle.hc_plan.specs.declared.skip.Why.TheVariants.{NoMaps, Mega, Skips}
use Rattle.hc_report.specs.declared.line.Line.{Line}
use Rattle.hc_report.specs.declared.line.Line.TheVariants.{Hit, Cache, Slow, Install, Refuse, NoPlan, Discard}
use Rattle.hc_report.specs.Text.{spaced}

-- a dependency is told by its kind alone
abbrev pub dep_text : Dep → List ℕ
dep_text (Live map) = codes "live"
dep_text (Stable map) = codes "stable"
dep_text (Rep field rep) = codes "rep"
dep_text (Const field) = codes "const"
dep_text (Class field class) = codes "class"
dep_text (Value object slot word) = codes "value"

-- and so is a skip
abbrev pub skip_text : Skip → List ℕ
skip_text (Dead map) = codes "dead"
skip_text (SlowHolder object) = codes "slow"
skip_text (Deep object) = codes "deep"
skip_text (ConstField field) = codes "constfield"
skip_text (NoLink map) = codes "nolink"
skip_text (PrototypeMap map) = codes "protomap"

-- why there is no plan: of skips the words, in the order of the site's maps
abbrev pub why_text : Why → List ℕ
why_text NoMaps = codes "empty"
why_text Mega = codes "mega"
why_text (Skips skips) = spaced (map skip_text skips)

abbrev pub line_text : Line → List ℕ
line_text (Hit site case) = codes "hit " ++ decimal site ++ codes " " ++ decimal case
line_text (Cache site) = codes "cache " ++ decimal site
line_text (Slow site) = codes "slow " ++ decimal site
line_text (Install job site) = codes "install " ++ decimal job ++ codes " " ++ decimal site
line_text (Refuse job dep) = codes "refuse " ++ decimal job ++ codes " " ++ dep_text dep
line_text (NoPlan job why) = codes "noplan " ++ decimal job ++ codes " " ++ why_text why
line_text (Discard site dep) = codes "discard " ++ decimal site ++ codes " " ++ dep_text dep

-- a line of the log, with its newline
abbrev pub log_line : Line → List ℕ
log_line line = codes "~ " ++ line_text line ++ 10 ∷ []
