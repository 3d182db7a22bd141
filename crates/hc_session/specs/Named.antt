-- Each name and each text that stands in the objects has its number among the names.
use Rattle.std.specs.Prelude.{ℕ, ◌<◌, List, [], ◌∷◌}
use Rattle.hc_value.specs.declared.prop.Prop.{Prop}
use Rattle.hc_report.specs.Named.{IsNamedHeld}
use Rattle.hc_table.specs.World.{World, props_at}

-- the property's name has such a number, and so has the text that it holds, if it holds one
pub record IsNamedProp (count : ℕ) (p : Prop) : Type 0 where
  pub name : p.name < count
  pub held : IsNamedHeld count p.held

abbrev pub AreNamedProps : ℕ → List Prop → Type 0
AreNamedProps count [] = Unit {0}
AreNamedProps count (p ∷ ps) = IsNamedProp count p × AreNamedProps count ps

-- the objects have names, and hold texts, with such numbers alone
abbrev pub IsNamedWorld : ℕ → World → Type 0
IsNamedWorld count w = (o : ℕ) → AreNamedProps count (props_at w o)
