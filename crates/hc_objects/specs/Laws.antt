-- The laws of what was done: nothing before it and after it changes nothing, and the tables after it are those that it says.
use Rattle.std.proofs.Common.{◌≡◌, ℕ, ◌+◌, ◌≤◌, List, Option, Some, None, ap, ◌∙◌, subst, sym, arith, inl, inr}
use Rattle.std.specs.Prelude.{◌⊎◌, IsSomeAnd, IsTrue}
use Rattle.hc_board.specs.Trail.{Access}
use Rattle.hc_layout.specs.declared.words.CellWord.{CellWord}
use Rattle.hc_value.specs.declared.prop.Held.{Held}
use Rattle.hc_value.specs.declared.prop.Prop.{Prop}
use Rattle.hc_heap.specs.Readings.{validity_in}
use Rattle.hc_heap.specs.Writes.{Trail}
use Rattle.hc_table.specs.Changes.{Did, Nothing, Moved, Created, Added, Wrote, Reconfigured, Removed, Linked, Locked, Restricted, after}
use Rattle.hc_table.specs.World.{World}
use Rattle.hc_modes.specs.Laws.{with_loads, still-refl, still-on, came-before as bare-before, came-world as bare-world, came-shape as bare-shape, live-before as bare-live-before, live-moves as bare-live, fit-moves as bare-fit, fit_for-moves as bare-fit_for}
use Rattle.hc_modes.specs.State.{IsLive, ObjectsState}
use Rattle.hc_modes.specs.Validity.{CellFollows, CellsFollow, ChangesOn, OnlyCells, StaysPut}
use Rattle.hc_modes.specs.Came.{Came as CameBare, IsMadeFit, IsMadeFitFor, IsMadeLive}
use Rattle.hc_objects.specs.Came.{Came, Effect, Followed, FollowedBy, IsStill, MadeFit, MadeFitFor, MadeLive, MadeNamed, Moves, MovesOnce, Readied, world_of}
use Rattle.hc_objects.specs.State.{IsStanding}

-- loads, and then something

put-from : {P : Type 0} (a c : ObjectsState P) (n q : ℕ) → StaysPut (with_loads a n) c q → StaysPut a c q
put-from a c n q h = record { map = h.map; proto = h.proto; props = h.props }

put-into : {P : Type 0} (a c : ObjectsState P) (n q : ℕ) → StaysPut a c q → StaysPut (with_loads a n) c q
put-into a c n q h = record { map = h.map; proto = h.proto; props = h.props }

on-from : {P : Type 0} (a c : ObjectsState P) (n p : ℕ) → ChangesOn (with_loads a n) c p → ChangesOn a c p
on-from a c n p h = record { object = h.object; through = h.through; changed = λ put. h.changed (put-into a c n h.object put) }

on-into : {P : Type 0} (a c : ObjectsState P) (n p : ℕ) → ChangesOn a c p → ChangesOn (with_loads a n) c p
on-into a c n p h = record { object = h.object; through = h.through; changed = λ put. h.changed (put-from a c n h.object put) }

follows-from : {P : Type 0} (a c : ObjectsState P) (n : ℕ) (was now : CellWord) → CellFollows (with_loads a n) c was now → CellFollows a c was now
follows-from a c n was now h = record {
  object = h.object;
  invalid = (λ is. from (h.invalid.0 is), λ any. h.invalid.1 (into any));
  put = λ valid q through. put-from a c n q (h.put valid q through);
}
  where
    from : IsTrue was.invalid ⊎ ChangesOn (with_loads a n) c was.object → IsTrue was.invalid ⊎ ChangesOn a c was.object
    from (inl is) = inl is
    from (inr on) = inr (on-from a c n was.object on)

    into : IsTrue was.invalid ⊎ ChangesOn a c was.object → IsTrue was.invalid ⊎ ChangesOn (with_loads a n) c was.object
    into (inl is) = inl is
    into (inr on) = inr (on-into a c n was.object on)

weaker : (v : Option CellWord) (A B : CellWord → Type 0) → ((w : CellWord) → A w → B w) → IsSomeAnd v A → IsSomeAnd v B
weaker (Some w) A B f h = f w h
weaker None A B f h = absurd h

cells-from : {P : Type 0} (a c : ObjectsState P) (n : ℕ) → CellsFollow (with_loads a n) c → CellsFollow a c
cells-from a c n h = record {
  cells = λ k was is. weaker (validity_in c.heap.view.trail k) (λ now. CellFollows (with_loads a n) c was now) (λ now. CellFollows a c was now) (λ now x. follows-from a c n was now x) (h.cells k was is);
  none = h.none;
  named = h.named;
  used = h.used;
}

-- something, and then loads

put-upto : {P : Type 0} (a b : ObjectsState P) (n q : ℕ) → StaysPut a b q → StaysPut a (with_loads b n) q
put-upto a b n q h = record { map = h.map; proto = h.proto; props = h.props }

put-short : {P : Type 0} (a b : ObjectsState P) (n q : ℕ) → StaysPut a (with_loads b n) q → StaysPut a b q
put-short a b n q h = record { map = h.map; proto = h.proto; props = h.props }

follows-upto : {P : Type 0} (a b : ObjectsState P) (n : ℕ) (was now : CellWord) → CellFollows a b was now → CellFollows a (with_loads b n) was now
follows-upto a b n was now h = record {
  object = h.object;
  invalid = (λ is. upto (h.invalid.0 is), λ any. h.invalid.1 (short any));
  put = λ valid q through. put-upto a b n q (h.put valid q through);
}
  where
    upto : IsTrue was.invalid ⊎ ChangesOn a b was.object → IsTrue was.invalid ⊎ ChangesOn a (with_loads b n) was.object
    upto (inl is) = inl is
    upto (inr on) = inr (record { object = on.object; through = on.through; changed = λ put. on.changed (put-short a b n on.object put) })

    short : IsTrue was.invalid ⊎ ChangesOn a (with_loads b n) was.object → IsTrue was.invalid ⊎ ChangesOn a b was.object
    short (inl is) = inl is
    short (inr on) = inr (record { object = on.object; through = on.through; changed = λ put. on.changed (put-upto a b n on.object put) })

cells-upto : {P : Type 0} (a b : ObjectsState P) (n : ℕ) → CellsFollow a b → CellsFollow a (with_loads b n)
cells-upto a b n h = record {
  cells = λ k was is. weaker (validity_in b.heap.view.trail k) (λ now. CellFollows a b was now) (λ now. CellFollows a (with_loads b n) was now) (λ now x. follows-upto a b n was now x) (h.cells k was is);
  none = h.none;
  named = h.named;
  used = h.used;
}

-- loads leave all as it was
pub standing-still : {P : Type 0} (a b : ObjectsState P) → IsStill a b → IsStanding a → IsStanding b
standing-still {P} a b still h = subst (λ (s : ObjectsState P). IsStanding s) (sym still.is) (record { objects = h.objects; cells = h.cells })

module _ {P : Type 0} (went : P → List Access → List Access → P → Type 0) where
  only-upto : (a b : ObjectsState P) (n : ℕ) → b.heap.desk.loads ≤ n → OnlyCells went a b → OnlyCells went a (with_loads b n)
  only-upto a b n le h = record {
    steps = record {
      world = h.steps.world;
      shape = h.steps.shape;
      goes = record { board = h.steps.goes.board; trail = h.steps.goes.trail; loads = omega (arith, le, h.steps.goes.loads); met = h.steps.goes.met };
      went = h.steps.went;
      keeps = h.steps.keeps;
    };
    writes = h.writes;
    used = h.used;
    kept = h.kept;
    null = h.null;
  }

  pub only-after : (a b c : ObjectsState P) → OnlyCells went a b → IsStill b c → OnlyCells went a c
  only-after a b c h still = subst (λ (s : ObjectsState P). OnlyCells went a s) (sym still.is) (only-upto a b c.heap.desk.loads still.loads h)

  pub cells-before : (a b c : ObjectsState P) → IsStill a b → CellsFollow b c → CellsFollow a c
  cells-before a b c still h = cells-from a c b.heap.desk.loads (subst (λ (s : ObjectsState P). CellsFollow s c) still.is h)

  pub cells-after : (a b c : ObjectsState P) → CellsFollow a b → IsStill b c → CellsFollow a c
  cells-after a b c h still = subst (λ (s : ObjectsState P). CellsFollow a s) (sym still.is) (cells-upto a b c.heap.desk.loads h)

  pub followed-before : (Bare : ObjectsState P → ObjectsState P → Type 0) (a b c : ObjectsState P) → ((x : ObjectsState P) → Bare b x → Bare a x) → IsStill a b → FollowedBy went Bare b c → FollowedBy went Bare a c
  followed-before Bare a b c back x y = record {
    bare = y.bare;
    came = back y.bare y.came;
    sound = y.sound;
    only = y.only;
    cells = cells-before a b c x y.cells;
    stands = y.stands;
  }

  followed-after : (Bare : ObjectsState P → ObjectsState P → Type 0) (a b c : ObjectsState P) → FollowedBy went Bare a b → IsStill b c → FollowedBy went Bare a c
  followed-after Bare a b c x y = record {
    bare = x.bare;
    came = x.came;
    sound = x.sound;
    only = only-after x.bare b c x.only y;
    cells = cells-after a b c x.cells y;
    stands = standing-still b c y x.stands;
  }

  -- what was done is done
  weaker-by : (Bare Other : ObjectsState P → ObjectsState P → Type 0) (a b : ObjectsState P) → ((x : ObjectsState P) → Bare a x → Other a x) → FollowedBy went Bare a b → FollowedBy went Other a b
  weaker-by Bare Other a b f h = record { bare = h.bare; came = f h.bare h.came; sound = h.sound; only = h.only; cells = h.cells; stands = h.stands }

  pub once-before : (a b c : ObjectsState P) → IsStill a b → MovesOnce went b c → MovesOnce went a c
  once-before a b c x (inl still) = inl (still-on a b c x still)
  once-before a b c x (inr h) = inr (followed-before (λ s t. CameBare went s Moved t) a b c (λ t k. bare-before went a b t Moved x k) x h)

  once-after : (a b c : ObjectsState P) → MovesOnce went a b → IsStill b c → MovesOnce went a c
  once-after a b c (inl still) y = inl (still-on a b c still y)
  once-after a b c (inr h) y = inr (followed-after (λ s t. CameBare went s Moved t) a b c h y)

  moved-before : (a b c : ObjectsState P) → IsStill a b → Moves went b c → Moves went a c
  moved-before a b c x h = record { once = h.once; twice = h.twice; first = once-before a b h.once x h.first; second = h.second; third = h.third }

  moved-after : (a b c : ObjectsState P) → Moves went a b → IsStill b c → Moves went a c
  moved-after a b c h y = record { once = h.once; twice = h.twice; first = h.first; second = h.second; third = once-after h.twice b c h.third y }

  effect-before : (a b c : ObjectsState P) (did : Did) → IsStill a b → Effect went b did c → Effect went a did c
  effect-before a b c did x h = record { begin = h.begin; still = still-on a b h.begin x h.still; ready = h.ready; readied = h.readied; done = h.done }

  effect-after : (a b c : ObjectsState P) (did : Did) → Effect went a did b → IsStill b c → Effect went a did c
  effect-after a b c did h y = record { begin = h.begin; still = h.still; ready = h.ready; readied = h.readied; done = followed-after (λ s t. CameBare went s did t) h.ready b c h.done y }

  pub came-refl : (a : ObjectsState P) → Came went a Nothing a
  came-refl a = still-refl a

  pub came-before : (a b c : ObjectsState P) (did : Did) → Came went a Nothing b → Came went b did c → Came went a did c
  came-before a b c Nothing x y = still-on a b c x y
  came-before a b c Moved x y = moved-before a b c x y
  came-before a b c (Created proto) x y = effect-before a b c (Created proto) x y
  came-before a b c (Added o p) x y = effect-before a b c (Added o p) x y
  came-before a b c (Wrote o i held) x y = effect-before a b c (Wrote o i held) x y
  came-before a b c (Reconfigured o i p) x y = effect-before a b c (Reconfigured o i p) x y
  came-before a b c (Removed o i) x y = effect-before a b c (Removed o i) x y
  came-before a b c (Linked o proto) x y = effect-before a b c (Linked o proto) x y
  came-before a b c (Locked o) x y = effect-before a b c (Locked o) x y
  came-before a b c (Restricted o frozen) x y = effect-before a b c (Restricted o frozen) x y

  pub came-after : (a b c : ObjectsState P) (did : Did) → Came went a did b → Came went b Nothing c → Came went a did c
  came-after a b c Nothing x y = still-on a b c x y
  came-after a b c Moved x y = moved-after a b c x y
  came-after a b c (Created proto) x y = effect-after a b c (Created proto) x y
  came-after a b c (Added o p) x y = effect-after a b c (Added o p) x y
  came-after a b c (Wrote o i held) x y = effect-after a b c (Wrote o i held) x y
  came-after a b c (Reconfigured o i p) x y = effect-after a b c (Reconfigured o i p) x y
  came-after a b c (Removed o i) x y = effect-after a b c (Removed o i) x y
  came-after a b c (Linked o proto) x y = effect-after a b c (Linked o proto) x y
  came-after a b c (Locked o) x y = effect-after a b c (Locked o) x y
  came-after a b c (Restricted o frozen) x y = effect-after a b c (Restricted o frozen) x y

  -- One step

  pub followed-world : (a b : ObjectsState P) (did : Did) → Followed went a did b → world_of b ≡ after did (world_of a)
  followed-world a b did h = h.only.steps.world ∙ bare-world went a h.bare did h.came

  pub followed-shape : (a b : ObjectsState P) (did : Did) → Followed went a did b → b.heap.view.shape ≡ a.heap.view.shape
  followed-shape a b did h = h.only.steps.shape ∙ bare-shape went a h.bare did h.came

  -- Objects made ready: nothing, or moves, after which the cells follow

  pub live-once : (a b : ObjectsState P) (o : ℕ) → MadeLive went a o b → MovesOnce went a b
  live-once a b o (inl still) = inl still.1
  live-once a b o (inr was) = inr (weaker-by (λ x y. IsMadeLive went x o y) (λ x y. CameBare went x Moved y) a b (λ x h. bare-live went a x o h) was.followed)

  pub named-once : (a b : ObjectsState P) (proto : Option ℕ) → MadeNamed went a proto b → MovesOnce went a b
  named-once a b (Some p) h = live-once a b p h
  named-once a b None h = inl h

  pub fit-once : (a b : ObjectsState P) (o i : ℕ) (held : Held) → MadeFit went a o i held b → MovesOnce went a b
  fit-once a b o i held h = inr (weaker-by (λ x y. IsMadeFit went x o i held y) (λ x y. CameBare went x Moved y) a b (λ x k. bare-fit went a x o i held k) h)

  pub fit_for-once : (a b : ObjectsState P) (o i : ℕ) (p : Prop) → MadeFitFor went a o i p b → MovesOnce went a b
  fit_for-once a b o i p h = inr (weaker-by (λ x y. IsMadeFitFor went x o i p y) (λ x y. CameBare went x Moved y) a b (λ x k. bare-fit_for went a x o i p k) h)

  -- an object that is made live was moved, and no meaning changed
  pub once-moves : (a b : ObjectsState P) → MovesOnce went a b → Came went a Moved b
  once-moves a b h = record { once = b; twice = b; first = h; second = inl (still-refl b); third = inl (still-refl b) }

  pub live-moves : (a b : ObjectsState P) (o : ℕ) → MadeLive went a o b → Came went a Moved b
  live-moves a b o h = once-moves a b (live-once a b o h)

  pub live-after : (a b c : ObjectsState P) (o : ℕ) → MadeLive went a o b → IsStill b c → MadeLive went a o c
  live-after a b c o (inl still) y = inl (still.0, still-on a b c still.1 y)
  live-after a b c o (inr was) y = inr (record { dead = was.dead; followed = followed-after (λ s t. IsMadeLive went s o t) a b c was.followed y })

  pub live-before : (a b c : ObjectsState P) (o : ℕ) → IsStill a b → MadeLive went b o c → MadeLive went a o c
  live-before a b c o x (inl still) = inl (subst (λ (t : Trail). IsLive t o) (ap (λ (s : ObjectsState P). s.heap.view.trail) x.is) still.0, still-on a b c x still.1)
  live-before a b c o x (inr was) = inr (record {
    dead = λ live. was.dead (subst (λ (t : Trail). IsLive t o) (sym (ap (λ (s : ObjectsState P). s.heap.view.trail) x.is)) live);
    followed = followed-before (λ s t. IsMadeLive went s o t) a b c (λ s h. bare-live-before went a b s o x h) x was.followed;
  })

  -- What holds from the beginning of each step to its end, and goes on from one to the next, holds over all that was done. Each such
  -- relation counts its steps: one for moves, and two for an operation
  module _ (R : ℕ → ObjectsState P → ObjectsState P → Type 0) (still : (a b : ObjectsState P) → IsStill a b → R 0 a b) (on : (m n : ℕ) (a b c : ObjectsState P) → R m a b → R n b c → R (m + n) a c)
      (more : (m n : ℕ) (a b : ObjectsState P) → m ≤ n → R m a b → R n a b) (moved : (a b : ObjectsState P) → Followed went a Moved b → R 1 a b) (own : (a b : ObjectsState P) (did : Did) → Followed went a did b → R 2 a b) where
    pub over-once : (a b : ObjectsState P) → MovesOnce went a b → R 1 a b
    over-once a b (inl h) = more 0 1 a b (omega arith) (still a b h)
    over-once a b (inr h) = moved a b h

    over-two : (a b c : ObjectsState P) → MovesOnce went a b → MovesOnce went b c → R 2 a c
    over-two a b c x y = on 1 1 a b c (over-once a b x) (over-once b c y)

    over-one : (a b : ObjectsState P) → MovesOnce went a b → R 2 a b
    over-one a b h = more 1 2 a b (omega arith) (over-once a b h)

    pub over-ready : (a b : ObjectsState P) (did : Did) → Readied went a did b → R 2 a b
    over-ready a b Nothing h = over-one a b (inl h)
    over-ready a b Moved h = over-one a b (inl h)
    over-ready a b (Created proto) h = over-one a b (named-once a b proto h)
    over-ready a b (Added o p) h = over-one a b (live-once a b o h)
    over-ready a b (Wrote o i held) h = over-two a h.0 b (live-once a h.0 o h.1) (fit-once h.0 b o i held h.2)
    over-ready a b (Reconfigured o i p) h = over-two a h.0 b (live-once a h.0 o h.1) (fit_for-once h.0 b o i p h.2)
    over-ready a b (Removed o i) h = over-one a b (live-once a b o h)
    over-ready a b (Linked o proto) h = over-two a h.0 b (live-once a h.0 o h.1) (named-once h.0 b proto h.2)
    over-ready a b (Locked o) h = over-one a b (live-once a b o h)
    over-ready a b (Restricted o frozen) h = over-one a b (live-once a b o h)

    over-effect : (a b : ObjectsState P) (did : Did) → Effect went a did b → R 4 a b
    over-effect a b did h = on 0 4 a h.begin b (still a h.begin h.still) (on 2 2 h.begin h.ready b (over-ready h.begin h.ready did h.readied) (own h.ready b did h.done))

    pub over-moves : (a b : ObjectsState P) → Moves went a b → R 3 a b
    over-moves a b h = on 2 1 a h.twice b (over-two a h.once h.twice h.first h.second) (over-once h.twice b h.third)

    pub over-came : (a b : ObjectsState P) (did : Did) → Came went a did b → R 4 a b
    over-came a b Nothing h = more 0 4 a b (omega arith) (still a b h)
    over-came a b Moved h = more 3 4 a b (omega arith) (over-moves a b h)
    over-came a b (Created proto) h = over-effect a b (Created proto) h
    over-came a b (Added o p) h = over-effect a b (Added o p) h
    over-came a b (Wrote o i held) h = over-effect a b (Wrote o i held) h
    over-came a b (Reconfigured o i p) h = over-effect a b (Reconfigured o i p) h
    over-came a b (Removed o i) h = over-effect a b (Removed o i) h
    over-came a b (Linked o proto) h = over-effect a b (Linked o proto) h
    over-came a b (Locked o) h = over-effect a b (Locked o) h
    over-came a b (Restricted o frozen) h = over-effect a b (Restricted o frozen) h

  -- The same of a relation that counts nothing, where all stands before each step, and after it
  module _ (R : ObjectsState P → ObjectsState P → Type 0) (still : (a b : ObjectsState P) → IsStill a b → R a b) (on : (a b c : ObjectsState P) → IsStanding a → IsStanding b → IsStanding c → R a b → R b c → R a c)
      (step : (a b : ObjectsState P) (did : Did) → IsStanding a → IsStanding b → Followed went a did b → R a b) where
    abbrev Stands : ℕ → ObjectsState P → ObjectsState P → Type 0
    Stands n a b = IsStanding a → R a b × IsStanding b

    stands-on : (a b c : ObjectsState P) → Stands 0 a b → Stands 0 b c → Stands 0 a c
    stands-on a b c x y sound =
        let one = x sound in
        let two = y one.1 in
        (on a b c sound one.1 two.1 one.0 two.0, two.1)

    stands-by : (a b : ObjectsState P) (did : Did) → Followed went a did b → Stands 0 a b
    stands-by a b did h sound = (step a b did sound h.stands h, h.stands)

    pub by-steps : (a b : ObjectsState P) (did : Did) → IsStanding a → Came went a did b → R a b
    by-steps a b did sound came = (over-came Stands (λ a b x sound. (still a b x, standing-still a b x sound)) (λ m n. stands-on) (λ m n a b le h. h) (λ a b. stands-by a b Moved) stands-by a b did came sound).0

    pub by-once : (a b : ObjectsState P) → IsStanding a → MovesOnce went a b → R a b
    by-once a b sound once = (over-once Stands (λ a b x sound. (still a b x, standing-still a b x sound)) (λ m n. stands-on) (λ m n a b le h. h) (λ a b. stands-by a b Moved) stands-by a b once sound).0

  -- all stands afterwards
  pub came-stands : (a b : ObjectsState P) (did : Did) → IsStanding a → Came went a did b → IsStanding b
  came-stands a b did sound came = over-came (λ n x y. IsStanding x → IsStanding y) (λ x y still h. standing-still x y still h) (λ m n x y z f g h. g (f h)) (λ m n x y le f. f) (λ x y f h. f.stands) (λ x y d f h. f.stands) a b did came sound

  -- Tables

  once-world : (a b : ObjectsState P) → MovesOnce went a b → world_of b ≡ world_of a
  once-world a b (inl still) = ap (λ (s : ObjectsState P). world_of s) still.is
  once-world a b (inr h) = followed-world a b Moved h

  pub ready-world : (a b : ObjectsState P) (did : Did) → Readied went a did b → world_of b ≡ world_of a
  ready-world a b Nothing h = once-world a b (inl h)
  ready-world a b Moved h = once-world a b (inl h)
  ready-world a b (Created proto) h = once-world a b (named-once a b proto h)
  ready-world a b (Added o p) h = once-world a b (live-once a b o h)
  ready-world a b (Wrote o i held) h = once-world h.0 b (fit-once h.0 b o i held h.2) ∙ once-world a h.0 (live-once a h.0 o h.1)
  ready-world a b (Reconfigured o i p) h = once-world h.0 b (fit_for-once h.0 b o i p h.2) ∙ once-world a h.0 (live-once a h.0 o h.1)
  ready-world a b (Removed o i) h = once-world a b (live-once a b o h)
  ready-world a b (Linked o proto) h = once-world h.0 b (named-once h.0 b proto h.2) ∙ once-world a h.0 (live-once a h.0 o h.1)
  ready-world a b (Locked o) h = once-world a b (live-once a b o h)
  ready-world a b (Restricted o frozen) h = once-world a b (live-once a b o h)

  effect-world : (a b : ObjectsState P) (did : Did) → Effect went a did b → world_of b ≡ after did (world_of a)
  effect-world a b did h =
      followed-world h.ready b did h.done
      ∙ ap (λ (w : World). after did w) (ready-world h.begin h.ready did h.readied ∙ ap (λ (s : ObjectsState P). world_of s) h.still.is)

  pub moves-world : (a b : ObjectsState P) → Moves went a b → world_of b ≡ world_of a
  moves-world a b h = once-world h.twice b h.third ∙ once-world h.once h.twice h.second ∙ once-world a h.once h.first

  pub came-world : (a b : ObjectsState P) (did : Did) → Came went a did b → world_of b ≡ after did (world_of a)
  came-world a b Nothing h = ap (λ (s : ObjectsState P). world_of s) h.is
  came-world a b Moved h = moves-world a b h
  came-world a b (Created proto) h = effect-world a b (Created proto) h
  came-world a b (Added o p) h = effect-world a b (Added o p) h
  came-world a b (Wrote o i held) h = effect-world a b (Wrote o i held) h
  came-world a b (Reconfigured o i p) h = effect-world a b (Reconfigured o i p) h
  came-world a b (Removed o i) h = effect-world a b (Removed o i) h
  came-world a b (Linked o proto) h = effect-world a b (Linked o proto) h
  came-world a b (Locked o) h = effect-world a b (Locked o) h
  came-world a b (Restricted o frozen) h = effect-world a b (Restricted o frozen) h

  -- no operation changes the shape
  abbrev SameShape : ℕ → ObjectsState P → ObjectsState P → Type 0
  SameShape n a b = b.heap.view.shape ≡ a.heap.view.shape

  pub came-shape : (a b : ObjectsState P) (did : Did) → Came went a did b → b.heap.view.shape ≡ a.heap.view.shape
  came-shape a b did h = over-came SameShape (λ x y still. ap (λ (s : ObjectsState P). s.heap.view.shape) still.is) (λ m n x y z h k. k ∙ h) (λ m n x y le h. h)
      (λ x y h. followed-shape x y Moved h) (λ x y d h. followed-shape x y d h) a b did h
