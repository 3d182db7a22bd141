-- An object made ready, and the cells that follow.
use Rattle.std.proofs.Common.{ℕ, List, sym, ap, ◌∙◌, subst, inl, inr}
use Rattle.std.specs.Prelude.{OnErr, OnOk, Result, Ok, Err}
use Rattle.hc_board.specs.Trail.{Access}
use Rattle.hc_layout.specs.declared.words.MapBits.{MapBits}
use Rattle.hc_value.specs.declared.prop.Held.{Held}
use Rattle.hc_value.specs.declared.prop.Prop.{Prop}
use Rattle.hc_table.specs.Changes.{Moved}
use Rattle.hc_table.specs.World.{World}
use Rattle.hc_modes.specs.Admitting.{FitsField}
use Rattle.hc_modes.specs.Came.{IsMadeFitFor, IsMadeLive, IsOther, IsStill, Moves, world_of}
use Rattle.hc_modes.specs.Laws.{came-world, fit-after, fit-before, fit-moves, fit_for-after, fit_for-before, fit_for-moves, live-after, live-before, live-moves}
use Rattle.hc_modes.specs.State.{IsLive, ObjectsState}
use Rattle.hc_modes.specs.Validity.{OnlyCells}
use Rattle.hc_objects.specs.Came.{FollowedBy, MadeFit, MadeFitFor}
use Rattle.hc_objects.specs.Changes.{IsReadied}
use Rattle.hc_objects.specs.declared.change.Ready.{Ready}
use Rattle.hc_objects.specs.declared.change.Ready.TheVariants.{Live, Fit, FitFor}
use Rattle.hc_objects.proofs.Alone.{alone-bits, alone-detail, alone-map, alone-world}

module _ {P : Type 0} (went : P → List Access → List Access → P → Type 0) where
  -- an object that is made ready is moved, and no meaning changes
  pub ready-moves : (a b : ObjectsState P) (o : ℕ) (ready : Ready) → IsReadied went a o ready b → Moves went a b
  ready-moves a b o Live h = live-moves went a b o h
  ready-moves a b o (Fit i held) h = fit-moves went a b o i held h
  ready-moves a b o (FitFor i p) h = fit_for-moves went a b o i p h

  pub ready-before : (a b c : ObjectsState P) (o : ℕ) (ready : Ready) → IsStill a b → IsReadied went b o ready c → IsReadied went a o ready c
  ready-before a b c o Live still h = live-before went a b c o still h
  ready-before a b c o (Fit i held) still h = fit-before went a b c o i held still h
  ready-before a b c o (FitFor i p) still h = fit_for-before went a b c o i p still h

  pub ready-after : (a b c : ObjectsState P) (o : ℕ) (ready : Ready) → IsReadied went a o ready b → IsStill b c → IsReadied went a o ready c
  ready-after a b c o Live h still = live-after went a b c o h still
  ready-after a b c o (Fit i held) h still = fit-after went a b c o i held h still
  ready-after a b c o (FitFor i p) h still = fit_for-after went a b c o i p h still

  -- whether there was memory or not
  pub ready-either : (a b : ObjectsState P) (o : ℕ) (ready : Ready) {T E : Type 0} (r : Result T E) → OnOk r (IsReadied went a o ready b) → OnErr r (Moves went a b) → Moves went a b
  ready-either a b o ready (Ok v) is are = ready-moves a b o ready is
  ready-either a b o ready (Err e) is are = are

  -- Where cells alone were written

  pub alone-live : (a b : ObjectsState P) → OnlyCells went a b → (o : ℕ) → IsLive a.heap.view.trail o → IsLive b.heap.view.trail o
  alone-live a b only o live m has = ap (λ (x : MapBits). x.deprecated) (alone-bits went a b only m) ∙ live m (sym (alone-map went a b only o) ∙ has)

  pub alone-fits : (a b : ObjectsState P) → OnlyCells went a b → (o i : ℕ) (held : Held) → FitsField a.heap.view.trail o i held → FitsField b.heap.view.trail o i held
  alone-fits a b only o i held fits m d has at = fits m d (sym (alone-map went a b only o) ∙ has) (sym (alone-detail went a b only m i) ∙ at)

  -- an object that was made ready is so, when the cells have followed too

  pub followed-live : (a b : ObjectsState P) (o : ℕ) → FollowedBy went (λ x y. IsMadeLive went x o y) a b → IsLive b.heap.view.trail o
  followed-live a b o f = alone-live f.bare b f.only o f.came.live

  pub followed-fits : (a b : ObjectsState P) (o i : ℕ) (held : Held) → MadeFit went a o i held b → FitsField b.heap.view.trail o i held
  followed-fits a b o i held f = alone-fits f.bare b f.only o i held f.came.fits

  pub followed-fits-for : (a b : ObjectsState P) (o i : ℕ) (p : Prop) → MadeFitFor went a o i p b → IsOther (world_of b) o i p → FitsField b.heap.view.trail o i p.held
  followed-fits-for a b o i p f other = by f.came
    where
      was : IsOther (world_of a) o i p
      was = subst (λ (w : World). IsOther w o i p) (alone-world went f.bare b f.only ∙ came-world went a f.bare Moved (fit_for-moves went a f.bare o i p f.came)) other

      by : IsMadeFitFor went a o i p f.bare → FitsField b.heap.view.trail o i p.held
      by (inl it) = alone-fits f.bare b f.only o i p.held it.fit.fits
      by (inr unasked) = absurd (unasked.none was)
