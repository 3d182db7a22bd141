-- What an operation comes to, of the steps that it is made of.
use Rattle.std.proofs.Common.{◌≡◌, ℕ, List, Option, refl, sym, ap, subst, inl, inr}
use Rattle.std.specs.Prelude.{Result, Ok, Err, IsErrOf, OnErr, OnOk}
use Rattle.hc_board.specs.Trail.{Access}
use Rattle.hc_heap.specs.Writes.{Trail}
use Rattle.hc_table.specs.Changes.{Created, Moved}
use Rattle.hc_table.specs.declared.fault.TableFault.{TableFault}
use Rattle.hc_table.specs.declared.fault.TableFault.TheVariants.{Full, Memory}
use Rattle.hc_modes.specs.Came.{IsMadeLive, IsStill, world_of}
use Rattle.hc_modes.specs.Laws.{live-before, still-refl}
use Rattle.hc_modes.specs.State.{IsLive, IsObjects, ObjectsState}
use Rattle.hc_modes.specs.Validity.{OnlyCells}
use Rattle.hc_objects.specs.Came.{Came, Followed, FollowedBy, MadeLive, MadeNamed, Moves, MovesOnce}
use Rattle.hc_objects.specs.Changes.{ReadiedFor, did_of}
use Rattle.hc_objects.specs.Laws.{came-world, fit-once, fit_for-once, followed-before, live-after, live-once, named-once, once-moves}
use Rattle.hc_objects.specs.declared.change.Change.{Change}
use Rattle.hc_objects.specs.declared.change.Change.TheVariants.{Add, AddBy, Write, Put, Remove, Link, Lock, Restrict}
use Rattle.hc_objects.proofs.MadeReady.{alone-live, followed-live}

pub live-still : {P : Type 0} (a b : ObjectsState P) → IsStill a b → (o : ℕ) → IsLive a.heap.view.trail o → IsLive b.heap.view.trail o
live-still {P} a b still o live = subst (λ (t : Trail). IsLive t o) (sym (ap (λ (s : ObjectsState P). s.heap.view.trail) still.is)) live

pub on-err : {T E : Type 0} (r : Result T E) (X : Type 0) → X → OnErr r X
on-err (Ok v) X x = tt
on-err (Err e) X x = x

pub on-ok : {T E : Type 0} (r : Result T E) (X : Type 0) → X → OnOk r X
on-ok (Ok v) X x = x
on-ok (Err e) X x = tt

-- an object was made or wasn't, and why
pub create-err : {T : Type 0} (r : Result T TableFault) (X : Type 0) → (IsErrOf r Full → X) → (IsErrOf r Memory → X) → OnErr r X
create-err (Ok v) X full memory = tt
create-err (Err Full) X full memory = full refl
create-err (Err Memory) X full memory = memory refl

pub create-either : {T : Type 0} (r : Result T TableFault) (A X : Type 0) → (A → X) → (IsErrOf r Full → X) → (IsErrOf r Memory → X) → OnOk r A → X
create-either (Ok v) A X did full memory a = did a
create-either (Err Full) A X did full memory a = full refl
create-either (Err Memory) A X did full memory a = memory refl

module _ {P : Type 0} (went : P → List Access → List Access → P → Type 0) where
  -- an object was live
  pub live-made : (a b : ObjectsState P) (o : ℕ) → IsStill a b → IsLive a.heap.view.trail o → MadeLive went a o b
  live-made a b o still live = inl (live, still)

  -- or wasn't
  pub dead-made : (a s b : ObjectsState P) (o : ℕ) → IsStill a s → (IsLive a.heap.view.trail o → ⊥) → FollowedBy went (λ x y. IsMadeLive went x o y) s b → MadeLive went a o b
  dead-made a s b o still dead f = inr (record { dead = dead; followed = followed-before went (λ x y. IsMadeLive went x o y) a s b (λ x h. live-before went a s x o still h) still f })

  -- it is live afterwards
  pub made-live : (a b : ObjectsState P) (o : ℕ) → MadeLive went a o b → IsLive b.heap.view.trail o
  made-live a b o (inl h) = live-still a b h.1 o h.0
  made-live a b o (inr h) = followed-live went a b o h.followed

  pub ready-once : (a b : ObjectsState P) (o : ℕ) (change : Change) → ReadiedFor went a o change b → MovesOnce went a b
  ready-once a b o (Add p) h = inl h
  ready-once a b o (AddBy child name value) h = inl h
  ready-once a b o (Write i held) h = fit-once went a b o i held h
  ready-once a b o (Put i p) h = fit_for-once went a b o i p h
  ready-once a b o (Remove i) h = inl h
  ready-once a b o (Link proto) h = named-once went a b proto h
  ready-once a b o Lock h = inl h
  ready-once a b o (Restrict frozen) h = inl h

  pub once-same : (a b : ObjectsState P) → MovesOnce went a b → world_of b ≡ world_of a
  once-same a b h = came-world went a b Moved (once-moves went a b h)

  pub live-same : (a b : ObjectsState P) (o : ℕ) → MadeLive went a o b → world_of b ≡ world_of a
  live-same a b o h = once-same a b (live-once went a b o h)

  pub ready-same : (a b : ObjectsState P) (o : ℕ) (change : Change) → ReadiedFor went a o change b → world_of b ≡ world_of a
  ready-same a b o change h = once-same a b (ready-once a b o change h)

  pub named-same : (a b : ObjectsState P) (proto : Option ℕ) → MadeNamed went a proto b → world_of b ≡ world_of a
  named-same a b proto h = once-same a b (named-once went a b proto h)

  -- an object was made live, and ready for a change, and was changed
  pub change-made : (a s t b : ObjectsState P) (o : ℕ) (change : Change) → MadeLive went a o s → ReadiedFor went s o change t → Followed went t (did_of o change) b → Came went a (did_of o change) b
  change-made a s t b o (Add p) live ready done = record { begin = a; still = still-refl a; ready = t; readied = live-after went a s t o live ready; done = done }
  change-made a s t b o (AddBy child name value) live ready done = record { begin = a; still = still-refl a; ready = t; readied = live-after went a s t o live ready; done = done }
  change-made a s t b o (Write i held) live ready done = record { begin = a; still = still-refl a; ready = t; readied = (s, live, ready); done = done }
  change-made a s t b o (Put i p) live ready done = record { begin = a; still = still-refl a; ready = t; readied = (s, live, ready); done = done }
  change-made a s t b o (Remove i) live ready done = record { begin = a; still = still-refl a; ready = t; readied = live-after went a s t o live ready; done = done }
  change-made a s t b o (Link proto) live ready done = record { begin = a; still = still-refl a; ready = t; readied = (s, live, ready); done = done }
  change-made a s t b o Lock live ready done = record { begin = a; still = still-refl a; ready = t; readied = live-after went a s t o live ready; done = done }
  change-made a s t b o (Restrict frozen) live ready done = record { begin = a; still = still-refl a; ready = t; readied = live-after went a s t o live ready; done = done }

  -- the named prototype was made live, and an object was made
  pub create-made : (a s b : ObjectsState P) (proto : Option ℕ) → MadeNamed went a proto s → Followed went s (Created proto) b → Came went a (Created proto) b
  create-made a s b proto ready done = record { begin = a; still = still-refl a; ready = s; readied = ready; done = done }

  pub moves-two : (a s b : ObjectsState P) → MovesOnce went a s → MovesOnce went s b → Moves went a b
  moves-two a s b x y = record { once = s; twice = b; first = x; second = y; third = inl (still-refl b) }

  pub moves-three : (a s t b : ObjectsState P) → MovesOnce went a s → MovesOnce went s t → MovesOnce went t b → Moves went a b
  moves-three a s t b x y z = record { once = s; twice = t; first = x; second = y; third = z }

  -- an object is live, another one is made live, and then the first one again: both are live
  pub both-live : ((s t u w : ObjectsState P) (a b : ℕ) → IsObjects s.heap.view s.kept s.of_null → IsObjects t.heap.view t.kept t.of_null → IsObjects u.heap.view u.kept u.of_null
      → IsLive s.heap.view.trail a → IsMadeLive went s b t → OnlyCells went t u → IsMadeLive went u a w → IsLive w.heap.view.trail b)
      → (s u v : ObjectsState P) (a b : ℕ) → IsObjects s.heap.view s.kept s.of_null → IsLive s.heap.view.trail a → MadeLive went s b u → MadeLive went u a v → IsLive v.heap.view.trail b
  both-live law s u v a b sound live (inl x) (inl y) = live-still u v y.1 b (live-still s u x.1 b x.0)
  both-live law s u v a b sound live (inl x) (inr y) = absurd (y.dead (live-still s u x.1 a live))
  both-live law s u v a b sound live (inr x) (inl y) = live-still u v y.1 b (followed-live went s u b x.followed)
  both-live law s u v a b sound live (inr x) (inr y) =
      alone-live went y.followed.bare v y.followed.only b
      (law s x.followed.bare u y.followed.bare a b sound x.followed.sound x.followed.stands.objects live x.followed.came x.followed.only y.followed.came)
