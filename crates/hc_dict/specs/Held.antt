-- A property that holds something else, put in its own place.
use Rattle.std.proofs.Common.{◌≡◌, ℕ, zero, suc, List, [], ◌∷◌, Some, set, refl, sym, ap}
use Rattle.std.specs.Prelude.{slice_get}
use Rattle.hc_value.specs.declared.prop.Held.{Held}
use Rattle.hc_value.specs.declared.prop.Prop.{Prop}
use Rattle.hc_table.specs.World.{holding, held_at}

pub held-set : (ps : List Prop) (i : ℕ) (p : Prop) (held : Held) → slice_get ps i ≡ Some p → set ps i (holding p held) ≡ held_at ps i held
held-set [] i p held e = refl
held-set (q ∷ ps) zero p held e = let same : q ≡ p = cc in ap (λ (x : Prop). holding x held ∷ ps) (sym same)
held-set (q ∷ ps) (suc i) p held e = ap (λ (xs : List Prop). q ∷ xs) (held-set ps i p held e)
