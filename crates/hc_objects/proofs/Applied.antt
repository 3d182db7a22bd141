-- A change of one object, and the cells that follow, from the first load to the last store.
use Rattle.std.proofs.Common.{◌≡◌, ◌≢◌, ℕ, ◌<◌, ◌≤◌, Bool, true, false, List, Option, Some, None, length, refl, sym, ap, ◌∙◌, subst, arith}
use Rattle.std.specs.Prelude.{IfSome, IsSomeAnd, IsTrue, OnErr, OnOk, Result, Ok, Err}
use Rattle.hc_layout.specs.declared.words.CellWord.{CellWord}
use Rattle.hc_board.specs.Trail.{Access}
use Rattle.hc_facts.specs.Laws.{ConstantsStayOn}
use Rattle.hc_heap.specs.Kept.{UnusedSaysNothing}
use Rattle.hc_heap.specs.Readings.{map_in, validity_in}
use Rattle.hc_cells.specs.Cells.{AreCells, valid_cell}
use Rattle.hc_cells.specs.Chains.{passes}
use Rattle.hc_cells.specs.Laws.{ChainsStay, MarksStay, WaysStay}
use Rattle.hc_cells.specs.Watched.{AreWatched, is_watched}
use Rattle.hc_table.specs.Changes.{Created, Did, IsThere, Moved, reaches}
use Rattle.hc_table.specs.World.{Object, World, object}
use Rattle.hc_slots.specs.Cases.{some-is}
use Rattle.hc_modes.specs.Came.{Came, IsStill, Moves, world_of}
use Rattle.hc_modes.specs.Admitting.{FactsStay}
use Rattle.hc_modes.specs.Cells.{CellsStay}
use Rattle.hc_modes.specs.Laws.{came-after, came-before, came-shape, still-refl}
use Rattle.hc_modes.specs.Rest.{AreCalm}
use Rattle.hc_modes.specs.Spent.{IsSpent}
use Rattle.hc_modes.specs.State.{IsObjects, ObjectsState}
use Rattle.hc_modes.specs.Validity.{CellsFollow, StaysPut, protos_of}
use Rattle.hc_objects.specs.Came.{FollowedBy}
use Rattle.hc_objects.specs.Changes.{MayChange, did_of, named_by}
use Rattle.hc_objects.specs.Following.{AreInvalidatedAt, WatchedBut, told_also, told_of}
use Rattle.hc_objects.specs.State.{IsFaithful, IsWatching}
use Rattle.hc_objects.specs.declared.change.Change.{Change}
use Rattle.hc_objects.specs.declared.change.Change.TheVariants.{Add, AddBy, Write, Put, Remove, Link, Lock, Restrict}
use Rattle.hc_objects.proofs.Alone.{alone-then}
use Rattle.hc_objects.proofs.Beside.{apart-of, chain-there, changed-count, changed-put, changed-world, created-count, created-put, created-world, wanted-count, wanted-put, wanted-world}
use Rattle.hc_objects.proofs.Follows.{cells-follow, still-watched}
use Rattle.hc_objects.proofs.Told.{Told, count-told, count-world, few, slow-same, told-both}

-- Loads leave an object put

put-short : {P : Type 0} (a a1 x0 x : ObjectsState P) → IsStill a a1 → IsStill x0 x → (q : ℕ) → StaysPut a x q → StaysPut a1 x0 q
put-short {P} a a1 x0 x before after q put =
    subst (λ (s : ObjectsState P). StaysPut s x0 q) (sym before.is) (let h = subst (λ (s : ObjectsState P). StaysPut a s q) after.is put in record { map = h.map; proto = h.proto; props = h.props })

put-long : {P : Type 0} (a a1 x0 x : ObjectsState P) → IsStill a a1 → IsStill x0 x → (q : ℕ) → StaysPut a1 x0 q → StaysPut a x q
put-long {P} a a1 x0 x before after q put =
    subst (λ (s : ObjectsState P). StaysPut a s q) (sym after.is) (let h = subst (λ (s : ObjectsState P). StaysPut s x0 q) before.is put in record { map = h.map; proto = h.proto; props = h.props })

pub still-map : {P : Type 0} (a b : ObjectsState P) → IsStill a b → (q : ℕ) → map_in b.heap.view.trail q ≡ map_in a.heap.view.trail q
still-map {P} a b still q = ap (λ (s : ObjectsState P). map_in s.heap.view.trail q) still.is

pub sound-still : {P : Type 0} (a b : ObjectsState P) → IsStill a b → IsObjects a.heap.view a.kept a.of_null → IsObjects b.heap.view b.kept b.of_null
sound-still {P} a b still sound = subst (λ (s : ObjectsState P). IsObjects s.heap.view s.kept s.of_null) (sym still.is) sound

pub some-in : (v : Option ℕ) (A : ℕ → Type 0) → IfSome v A → (q : ℕ) → v ≡ Some q → A q
some-in (Some r) A h q e = subst A (some-is r q e) h
some-in None A h q e = let f : ⊥ = cc in absurd f

-- What was done to an object, and to one that was named

pub record IsDone {P : Type 0} (a x : ObjectsState P) (o : ℕ) (named : Option ℕ) : Type 0 where
  pub shape : x.heap.view.shape ≡ a.heap.view.shape
  pub others : (q : ℕ) → q ≢ o → (named ≡ Some q → ⊥) → StaysPut a x q
  pub world : (q : ℕ) → q ≢ o → object (world_of x) q ≡ object (world_of a) q
  pub apart : (p : ℕ) → named ≡ Some p → p ≢ o
  pub more : (q : ℕ) → q ≢ o → q < length a.kept → q < length x.kept
  pub less : (q : ℕ) → q ≢ o → q < length x.kept → q < length a.kept
  pub grown : length a.kept ≤ length x.kept

module _ {P : Type 0} (went : P → List Access → List Access → P → Type 0) where
  pub done-change : (a x : ObjectsState P) (o : ℕ) (change : Change) → ((p : ℕ) → named_by change ≡ Some p → p ≢ o) → Came went a (did_of o change) x → IsDone a x o (named_by change)
  done-change a x o change apart came = record {
    shape = came-shape went a x (did_of o change) came;
    others = λ q other unnamed. changed-put went a x o change came q other unnamed;
    world = λ q other. changed-world went a x o change came q other;
    apart = apart;
    more = λ q other lt. let count = changed-count went a x o change came in omega (arith, lt, count);
    less = λ q other lt. let count = changed-count went a x o change came in omega (arith, lt, count);
    grown = let count = changed-count went a x o change came in omega (arith, count);
  }

  pub done-want : (a x : ObjectsState P) (o : ℕ) (named : Option ℕ) → ((p : ℕ) → named ≡ Some p → p ≢ o) → ((q : ℕ) → q ≢ o → map_in x.heap.view.trail q ≡ map_in a.heap.view.trail q) → Moves went a x → IsDone a x o named
  done-want a x o named apart maps moves = record {
    shape = came-shape went a x Moved moves;
    others = λ q other unnamed. wanted-put went a x o moves q (maps q other);
    world = λ q other. ap (λ (w : World). object w q) (wanted-world went a x o moves);
    apart = apart;
    more = λ q other lt. let count = wanted-count went a x o moves in omega (arith, lt, count);
    less = λ q other lt. let count = wanted-count went a x o moves in omega (arith, lt, count);
    grown = let count = wanted-count went a x o moves in omega (arith, count);
  }

  pub done-create : UnusedSaysNothing → (a x : ObjectsState P) → IsObjects a.heap.view a.kept a.of_null → IsObjects x.heap.view x.kept x.of_null → (o : ℕ) (proto : Option ℕ) → o ≡ length (world_of a) → IsThere (world_of a) proto → Came went a (Created proto) x → IsDone a x o proto
  done-create unused a x sound_a sound_x o proto is there came = record {
    shape = came-shape went a x (Created proto) came;
    others = λ q other unnamed. created-put went unused a x sound_a sound_x proto came q (λ same. other (same ∙ sym (count-world a) ∙ sym is)) unnamed;
    world = λ q other. created-world went unused a x sound_a sound_x proto came q (λ same. other (same ∙ sym is));
    apart = λ p named same. let lt : p < length (world_of a) = some-in proto (λ (k : ℕ). k < length (world_of a)) there p named in omega (arith, lt, same, is);
    more = λ q other lt. let count = created-count went unused a x sound_a sound_x proto came in omega (arith, lt, count);
    less = λ q other lt. let count = created-count went unused a x sound_a sound_x proto came in let size = count-world a in omega (arith, lt, count, other, size, is);
    grown = let count = created-count went unused a x sound_a sound_x proto came in omega (arith, count);
  }

-- What is told

module _ {P : Type 0} (tell : (s : ObjectsState P) → IsObjects s.heap.view s.kept s.of_null → Told s) (chains : ChainsStay) (ways : WaysStay) (marks_stay : MarksStay)
    (a x : ObjectsState P) (sound_a : IsObjects a.heap.view a.kept a.of_null) (sound_x : IsObjects x.heap.view x.kept x.of_null) (o : ℕ) (named : Option ℕ) (done : IsDone a x o named) where
  pub told-anew : (protos : List (Option ℕ)) → protos ≡ protos_of a → told_also x (told_of x protos o) named ≡ protos_of x
  told-anew protos is =
      ap (λ (ps : List (Option ℕ)). told_also x (told_of x ps o) named) is
      ∙ told-both a x sound_a sound_x (tell a sound_a) (tell x sound_x) (ap (λ s. s.objects) done.shape) o named
      (λ q other unnamed. slow-same a x sound_a sound_x (tell a sound_a) (tell x sound_x) q (done.more q other) (done.less q other) (done.others q other unnamed))

  but : (q : ℕ) → q ≢ o → (object (world_of x) q).proto ≡ (object (world_of a) q).proto
  but q other = ap (λ (k : Object). k.proto) (done.world q other)

  most : a.heap.view.used.objects ≤ a.heap.view.shape.objects
  most = let fits = few a sound_a in let items = sound_a.items in omega (arith, fits, items)

  module _ (protos : List (Option ℕ)) (marks : List Bool) (watching : IsWatching a protos marks) (stay : CellsStay a.heap.view.trail x.heap.view.trail) (here : Option ℕ) (moved : (q : ℕ) → here ≡ Some q → (q ≡ o) × (StaysPut a x o → ⊥))
      (kept : (c p : ℕ) → validity_in a.heap.view.trail c ≡ Some (valid_cell p) → IsTrue (passes a.heap.view.trail (protos_of a) p o) → here ≡ None → StaysPut a x o) where
    pub marks-serve : WatchedBut here x.heap.view.trail (protos_of x) marks
    marks-serve = still-watched chains ways marks_stay a x (tell a sound_a) (tell x sound_x) done.shape o but watching.cells most stay here moved kept marks
        (subst (λ (ps : List (Option ℕ)). AreWatched a.heap.view.trail ps marks) watching.told watching.watched)

    pub all-follow : (went : P → List Access → List Access → P → Type 0) (there : Option ℕ) (b : ObjectsState P) → AreInvalidatedAt went x here there b
        → ((p : ℕ) → there ≡ Some p → (named ≡ Some p) × (StaysPut a x p → ⊥)) → ((p : ℕ) → named ≡ Some p → there ≡ None → StaysPut a x p) → x.heap.view.used.cells ≡ a.heap.view.used.cells → CellsFollow a b
    all-follow went there b follows second_moved second_kept used =
        cells-follow chains ways marks_stay a x (tell a sound_a) (tell x sound_x) done.shape o but watching.cells most stay here moved kept went tell named there b follows done.others second_moved second_kept used

-- an object is marked that the chain of a valid cell goes through
pub is-marked : {P : Type 0} (a : ObjectsState P) (protos : List (Option ℕ)) (marks : List Bool) (o : ℕ) → IsWatching a protos marks → (c p : ℕ) → validity_in a.heap.view.trail c ≡ Some (valid_cell p) → IsTrue (passes a.heap.view.trail (protos_of a) p o) → is_watched marks o ≡ true
is-marked a protos marks o watching c p valid through =
    watching.watched c p o valid (subst (λ (ps : List (Option ℕ)). IsTrue (passes a.heap.view.trail ps p o)) (sym watching.told) through)

-- the prototype that is named

module _ {P : Type 0} (a a1 x0 x : ObjectsState P) (before_still : IsStill a a1) (after_still : IsStill x0 x) (named there before : Option ℕ)
    (map : IfSome named (λ p. before ≡ map_in a.heap.view.trail p)) (moved : IfSome there (λ p. (named ≡ Some p) × (map_in x0.heap.view.trail p ≢ before)))
    (kept : there ≡ None → IfSome named (λ p. map_in x0.heap.view.trail p ≡ before)) where
  pub named-moved : (p : ℕ) → there ≡ Some p → (named ≡ Some p) × (StaysPut a x p → ⊥)
  named-moved p e =
      let it = some-in there (λ (q : ℕ). (named ≡ Some q) × (map_in x0.heap.view.trail q ≢ before)) moved p e in
      (it.0, λ put. it.1 (sym (still-map x0 x after_still p) ∙ put.map ∙ sym (some-in named (λ (q : ℕ). before ≡ map_in a.heap.view.trail q) map p it.0)))

  pub named-kept : (o : ℕ) → IsDone a x o named → (p : ℕ) → named ≡ Some p → there ≡ None → StaysPut a x p
  named-kept o done p e none =
      let same = done.world p (done.apart p e) in
      record {
        map = still-map x0 x after_still p ∙ some-in named (λ (q : ℕ). map_in x0.heap.view.trail q ≡ before) (kept none) p e ∙ some-in named (λ (q : ℕ). before ≡ map_in a.heap.view.trail q) map p e;
        proto = ap (λ (k : Object). k.proto) same;
        props = λ slow. ap (λ (k : Object). k.props) same;
      }

-- the object itself

module _ {P : Type 0} (a a1 x0 x : ObjectsState P) (before_still : IsStill a a1) (after_still : IsStill x0 x) (o : ℕ) (here : Option ℕ) where
  pub object-moved : IfSome here (λ q. (q ≡ o) × (StaysPut a1 x0 o → ⊥)) → (q : ℕ) → here ≡ Some q → (q ≡ o) × (StaysPut a x o → ⊥)
  object-moved moved q e =
      let it = some-in here (λ (k : ℕ). (k ≡ o) × (StaysPut a1 x0 o → ⊥)) moved q e in
      (it.0, λ put. it.1 (put-short a a1 x0 x before_still after_still o put))

  pub object-kept : (protos : List (Option ℕ)) (marks : List Bool) (marked : Bool) → IsWatching a protos marks → marked ≡ is_watched marks o → (marked ≡ true → here ≡ None → StaysPut a1 x0 o)
      → (c p : ℕ) → validity_in a.heap.view.trail c ≡ Some (valid_cell p) → IsTrue (passes a.heap.view.trail (protos_of a) p o) → here ≡ None → StaysPut a x o
  object-kept protos marks marked watching is kept c p valid through none =
      put-long a a1 x0 x before_still after_still o (kept (is ∙ is-marked a protos marks o watching c p valid through) none)

-- what was done, from one end to the other

module _ {P : Type 0} (went : P → List Access → List Access → P → Type 0) where
  pub still-came : (a a1 x0 x : ObjectsState P) (did : Did) → IsStill a a1 → Came went a1 did x0 → IsStill x0 x → Came went a did x
  still-came a a1 x0 x did before came after = came-after went a x0 x did (came-before went a a1 x0 did before came) after

  pub is-followed : ((a b c : P) (first second third : List Access) → went a first second b → went b second third c → went a first third c) → ConstantsStayOn
      → (Bare : ObjectsState P → ObjectsState P → Type 0) (a x b : ObjectsState P) (here there : Option ℕ) → IsObjects x.heap.view x.kept x.of_null → Bare a x → AreInvalidatedAt went x here there b → CellsFollow a b → AreCells b.heap.view.trail b.heap.view.used → FollowedBy went Bare a b
  is-followed law constants Bare a x b here there sound came follows cells known = record {
    bare = x;
    came = came;
    sound = sound;
    only = alone-then went law constants x follows.mid b follows.first.only follows.second.only;
    cells = cells;
    stands = record { objects = follows.second.sound; cells = known };
  }

-- What is known of whatever was done: cells were left, few items were handed out, and what fields and prototypes say stays so
pub record AreKnown {P : Type 0} (went : P → List Access → List Access → P → Type 0) : Type 0 where
  pub leaves : (a b : ObjectsState P) (did : Did) → Came went a did b → CellsStay a.heap.view.trail b.heap.view.trail
  pub spends : (a b : ObjectsState P) (did : Did) → IsObjects a.heap.view a.kept a.of_null → Came went a did b → IsSpent 2 a b
  pub facts : (a b : ObjectsState P) (did : Did) → IsObjects a.heap.view a.kept a.of_null → Came went a did b → FactsStay a.heap.view.shape a.heap.view.trail b.heap.view.trail
  pub calms : (a b : ObjectsState P) (did : Did) → IsObjects a.heap.view a.kept a.of_null → IsObjects b.heap.view b.kept b.of_null → Came went a did b → AreCalm a.heap.view.trail → AreCalm b.heap.view.trail

pub known-cells : {P : Type 0} (went : P → List Access → List Access → P → Type 0) → AreKnown went → (a x : ObjectsState P) (did : Did) → IsObjects a.heap.view a.kept a.of_null → Came went a did x → x.heap.view.used.cells ≡ a.heap.view.used.cells
known-cells went known a x did sound came = (known.spends a x did sound came).within.cells

pub known-faithful : {P : Type 0} (went : P → List Access → List Access → P → Type 0) → AreKnown went → (a x : ObjectsState P) (did : Did) → IsObjects a.heap.view a.kept a.of_null → IsObjects x.heap.view x.kept x.of_null → Came went a did x → IsFaithful a.heap.view.trail → IsFaithful x.heap.view.trail
known-faithful went known a x did sound_a sound_x came h = record { honest = (known.facts a x did sound_a came).honest h.honest; calm = known.calms a x did sound_a sound_x came h.calm }

-- All that a change of one object comes to

pub either : {T E : Type 0} (r : Result T E) (A B C : Type 0) → (A → C) → (B → C) → OnOk r A → OnErr r B → C
either (Ok x) A B C f g h k = f h
either (Err e) A B C f g h k = g k

pub record IsApplied {P : Type 0} (a x : ObjectsState P) (protos : List (Option ℕ)) (marks : List Bool) (o : ℕ) (named here there : Option ℕ) : Type 0 where
  pub sound_a : IsObjects a.heap.view a.kept a.of_null
  pub sound_x : IsObjects x.heap.view x.kept x.of_null
  pub watching : IsWatching a protos marks
  pub done : IsDone a x o named
  pub stay : CellsStay a.heap.view.trail x.heap.view.trail
  pub used : x.heap.view.used.cells ≡ a.heap.view.used.cells
  pub faithful : IsFaithful x.heap.view.trail
  pub moved : (q : ℕ) → here ≡ Some q → (q ≡ o) × (StaysPut a x o → ⊥)
  pub kept : (c p : ℕ) → validity_in a.heap.view.trail c ≡ Some (valid_cell p) → IsTrue (passes a.heap.view.trail (protos_of a) p o) → here ≡ None → StaysPut a x o
  pub second_moved : (p : ℕ) → there ≡ Some p → (named ≡ Some p) × (StaysPut a x p → ⊥)
  pub second_kept : (p : ℕ) → named ≡ Some p → there ≡ None → StaysPut a x p

pub apart-may : (w : World) (o : ℕ) (change : Change) → o < length w → MayChange w o change → (p : ℕ) → named_by change ≡ Some p → p ≢ o
apart-may w o (Link (Some r)) lt may p e = let same : r ≡ p = some-is r p e in apart-of w o p lt (subst (λ (k : ℕ). reaches w (Some k) o ≡ false) same may.1)
apart-may w o (Link None) lt may p e = let f : ⊥ = cc in absurd f
apart-may w o (Add q) lt may p e = let f : ⊥ = cc in absurd f
apart-may w o (AddBy child name value) lt may p e = let f : ⊥ = cc in absurd f
apart-may w o (Write i held) lt may p e = let f : ⊥ = cc in absurd f
apart-may w o (Put i q) lt may p e = let f : ⊥ = cc in absurd f
apart-may w o (Remove i) lt may p e = let f : ⊥ = cc in absurd f
apart-may w o Lock lt may p e = let f : ⊥ = cc in absurd f
apart-may w o (Restrict frozen) lt may p e = let f : ⊥ = cc in absurd f

-- what is named is there
pub there-may : (w : World) (o : ℕ) (change : Change) → MayChange w o change → IsThere w (named_by change)
there-may w o (Link proto) may = may.0
there-may w o (Add q) may = tt
there-may w o (AddBy child name value) may = tt
there-may w o (Write i held) may = tt
there-may w o (Put i q) may = tt
there-may w o (Remove i) may = tt
there-may w o Lock may = tt
there-may w o (Restrict frozen) may = tt

pub there-longer : (w v : World) (proto : Option ℕ) → length w ≤ length v → IsThere w proto → IsThere v proto
there-longer w v (Some p) le there = let lt : p < length w = there in omega (arith, lt, le)
there-longer w v None le there = tt

module _ {P : Type 0} (went : P → List Access → List Access → P → Type 0) (known : AreKnown went) where
  pub is-applied : (a a1 x0 x : ObjectsState P) (protos : List (Option ℕ)) (marks : List Bool) → IsWatching a protos marks → IsObjects a.heap.view a.kept a.of_null → IsObjects x.heap.view x.kept x.of_null
      → (o : ℕ) (change : Change) → o < length (world_of a) → MayChange (world_of a) o change → (named before : Option ℕ) → named ≡ named_by change → IfSome named (λ p. before ≡ map_in a.heap.view.trail p)
      → IsStill a a1 → (marked : Bool) → marked ≡ is_watched marks o → {T E : Type 0} (r : Result T E) (here : Option ℕ) → OnOk r (Came went a1 (did_of o change) x0) → OnErr r (Moves went a1 x0)
      → OnErr r ((q : ℕ) → q ≢ o → map_in x0.heap.view.trail q ≡ map_in a1.heap.view.trail q) → IfSome here (λ q. (q ≡ o) × (StaysPut a1 x0 o → ⊥)) → (marked ≡ true → here ≡ None → StaysPut a1 x0 o)
      → (there : Option ℕ) → IfSome there (λ p. (named ≡ Some p) × (map_in x0.heap.view.trail p ≢ before)) → (there ≡ None → IfSome named (λ p. map_in x0.heap.view.trail p ≡ before)) → IsStill x0 x
      → IsApplied a x protos marks o named here there
  is-applied a a1 x0 x protos marks watching sound_a sound_x o change lt may named before named_is map still marked marked_is r here did want maps moved kept there there_moved there_kept after =
      record {
        sound_a = sound_a;
        sound_x = sound_x;
        watching = watching;
        done = done;
        stay = by-came (CellsStay a.heap.view.trail x.heap.view.trail) (λ d came. known.leaves a x d came);
        used = by-came (x.heap.view.used.cells ≡ a.heap.view.used.cells) (λ d came. known-cells went known a x d sound_a came);
        faithful = by-came (IsFaithful x.heap.view.trail) (λ d came. known-faithful went known a x d sound_a sound_x came watching.faithful);
        moved = object-moved a a1 x0 x still after o here moved;
        kept = object-kept a a1 x0 x still after o here protos marks marked watching marked_is kept;
        second_moved = named-moved a a1 x0 x still after named there before map there_moved there_kept;
        second_kept = named-kept a a1 x0 x still after named there before map there_moved there_kept o done;
      }
    where
      apart : (p : ℕ) → named ≡ Some p → p ≢ o
      apart p e = apart-may (world_of a) o change lt may p (sym named_is ∙ e)

      by-came : (C : Type 0) → ((d : Did) → Came went a d x → C) → C
      by-came C f = either r (Came went a1 (did_of o change) x0) (Moves went a1 x0) C (λ came. f (did_of o change) (still-came went a a1 x0 x (did_of o change) still came after)) (λ moves. f Moved (still-came went a a1 x0 x Moved still moves after)) did want

      by-result : {T E : Type 0} (q : Result T E) → OnOk q (Came went a1 (did_of o change) x0) → OnErr q (Moves went a1 x0) → OnErr q ((k : ℕ) → k ≢ o → map_in x0.heap.view.trail k ≡ map_in a1.heap.view.trail k) → IsDone a x o named
      by-result (Ok v) came moves same =
          subst (λ (n : Option ℕ). IsDone a x o n) (sym named_is)
          (done-change went a x o change (λ p e. apart-may (world_of a) o change lt may p e) (still-came went a a1 x0 x (did_of o change) still came after))
      by-result (Err e) came moves same =
          done-want went a x o named apart (λ q other. still-map x0 x after q ∙ same q other ∙ still-map a a1 still q) (still-came went a a1 x0 x Moved still moves after)

      done : IsDone a x o named
      done = by-result r did want maps

  -- an object was moved, and no meaning changed
  pub is-moved : (a x : ObjectsState P) (protos : List (Option ℕ)) (marks : List Bool) → IsWatching a protos marks → IsObjects a.heap.view a.kept a.of_null → IsObjects x.heap.view x.kept x.of_null → (o : ℕ) (marked : Bool) → marked ≡ is_watched marks o
      → Moves went a x → ((q : ℕ) → q ≢ o → map_in x.heap.view.trail q ≡ map_in a.heap.view.trail q) → (here : Option ℕ) → IfSome here (λ q. (q ≡ o) × (StaysPut a x o → ⊥)) → (marked ≡ true → here ≡ None → StaysPut a x o)
      → IsApplied a x protos marks o None here None
  is-moved a x protos marks watching sound_a sound_x o marked marked_is moves maps here moved kept = record {
    sound_a = sound_a;
    sound_x = sound_x;
    watching = watching;
    done = done-want went a x o None (λ p e. let f : ⊥ = cc in absurd f) maps moves;
    stay = known.leaves a x Moved moves;
    used = known-cells went known a x Moved sound_a moves;
    faithful = known-faithful went known a x Moved sound_a sound_x moves watching.faithful;
    moved = object-moved a a x x (still-refl a) (still-refl x) o here moved;
    kept = object-kept a a x x (still-refl a) (still-refl x) o here protos marks marked watching marked_is kept;
    second_moved = λ p e. let f : ⊥ = cc in absurd f;
    second_kept = λ p e none. let f : ⊥ = cc in absurd f;
  }

-- What follows of it

module _ {P : Type 0} (a x : ObjectsState P) (protos : List (Option ℕ)) (marks : List Bool) (o : ℕ) (named here there : Option ℕ) (it : IsApplied a x protos marks o named here there) where
  pub applied-longer : length (world_of a) ≤ length (world_of x)
  applied-longer = let before = count-world a in let after = count-world x in let grown = it.done.grown in omega (arith, before, after, grown)

  pub applied-here : o < length (world_of x) → IsThere (world_of x) here
  applied-here lt = by here refl
    where
      by : (h : Option ℕ) → here ≡ h → IsThere (world_of x) h
      by (Some q) e = subst (λ (k : ℕ). k < length (world_of x)) (sym (it.moved q e).0) lt
      by None e = tt

  pub applied-there : IsThere (world_of x) named → IsThere (world_of x) there
  applied-there lt = by there refl
    where
      by : (h : Option ℕ) → there ≡ h → IsThere (world_of x) h
      by (Some q) e = some-in named (λ (k : ℕ). k < length (world_of x)) lt q (it.second_moved q e).0
      by None e = tt

  pub applied-size : length marks ≡ x.heap.view.shape.objects
  applied-size = it.watching.size ∙ sym (ap (λ s. s.objects) it.done.shape)

  pub applied-room : (ps : List (Option ℕ)) → ps ≡ protos → length ps ≡ x.heap.view.shape.objects
  applied-room ps is = ap length is ∙ ap length it.watching.told ∙ count-told a ∙ sym (ap (λ s. s.objects) it.done.shape)

  pub applied-cells : AreCells x.heap.view.trail x.heap.view.used
  applied-cells = record {
    objects = λ c cell e. let lt = it.watching.cells.objects c cell (sym (it.stay.validity c) ∙ e) in let grown = it.done.grown in let before = it.sound_a.items in let after = it.sound_x.items in omega (arith, lt, grown, before, after);
    own = λ p c e. subst (λ (v : Option CellWord). IsSomeAnd v (λ cell. cell.object ≡ p)) (sym (it.stay.validity c)) (it.watching.cells.own p c (sym (it.stay.named p) ∙ e));
    named = λ c p e. it.stay.named p ∙ it.watching.cells.named c p (sym (it.stay.validity c) ∙ e);
  }

  module _ (tell : (s : ObjectsState P) → IsObjects s.heap.view s.kept s.of_null → Told s) (chains : ChainsStay) (ways : WaysStay) (marks_stay : MarksStay) where
    pub applied-told : (ps : List (Option ℕ)) → ps ≡ protos → told_also x (told_of x ps o) named ≡ protos_of x
    applied-told ps is = told-anew tell chains ways marks_stay a x it.sound_a it.sound_x o named it.done ps (is ∙ it.watching.told)

    pub applied-watched : WatchedBut here x.heap.view.trail (protos_of x) marks
    applied-watched = marks-serve tell chains ways marks_stay a x it.sound_a it.sound_x o named it.done protos marks it.watching it.stay here it.moved it.kept

    pub applied-done : (went : P → List Access → List Access → P → Type 0) → ((a b c : P) (first second third : List Access) → went a first second b → went b second third c → went a first third c) → ConstantsStayOn
        → (Bare : ObjectsState P → ObjectsState P → Type 0) (b : ObjectsState P) → Bare a x → AreInvalidatedAt went x here there b → AreCells b.heap.view.trail b.heap.view.used → FollowedBy went Bare a b
    applied-done went law constants Bare b came follows known =
        is-followed went law constants Bare a x b here there it.sound_x came follows
        (all-follow tell chains ways marks_stay a x it.sound_a it.sound_x o named it.done protos marks it.watching it.stay here it.moved it.kept went there b follows it.second_moved it.second_kept it.used) known

-- what was named is there afterwards
pub there-then : {P : Type 0} (went : P → List Access → List Access → P → Type 0) (a x : ObjectsState P) (o : ℕ) (change : Change) {T E : Type 0} (r : Result T E) → OnOk r (Came went a (did_of o change) x) → OnErr r (Moves went a x)
    → (named : Option ℕ) → IsThere (world_of a) named → IsThere (world_of x) named
there-then went a x o change (Ok v) came moves named there =
    there-longer (world_of a) (world_of x) named (let same = changed-count went a x o change came in let before = count-world a in let after = count-world x in omega (arith, same, before, after)) there
there-then went a x o change (Err e) came moves named there = subst (λ (w : World). IsThere w named) (sym (wanted-world went a x o moves)) there

-- A new object

module _ {P : Type 0} (went : P → List Access → List Access → P → Type 0) (unused : UnusedSaysNothing) (tell : (s : ObjectsState P) → IsObjects s.heap.view s.kept s.of_null → Told s) (known : AreKnown went) where
  pub is-made : (a a1 x0 x : ObjectsState P) (protos : List (Option ℕ)) (marks : List Bool) → IsWatching a protos marks → IsObjects a.heap.view a.kept a.of_null → IsObjects x.heap.view x.kept x.of_null
      → (o : ℕ) (proto before : Option ℕ) → IsThere (world_of a) proto → o ≡ length (world_of a1) → IfSome proto (λ p. before ≡ map_in a.heap.view.trail p) → IsStill a a1 → Came went a1 (Created proto) x0
      → (there : Option ℕ) → IfSome there (λ p. (proto ≡ Some p) × (map_in x0.heap.view.trail p ≢ before)) → (there ≡ None → IfSome proto (λ p. map_in x0.heap.view.trail p ≡ before)) → IsStill x0 x
      → IsApplied a x protos marks o proto None there
  is-made a a1 x0 x protos marks watching sound_a sound_x o proto before named_there number map still created there there_moved there_kept after =
      record {
        sound_a = sound_a;
        sound_x = sound_x;
        watching = watching;
        done = done;
        stay = known.leaves a x (Created proto) came;
        used = known-cells went known a x (Created proto) sound_a came;
        faithful = known-faithful went known a x (Created proto) sound_a sound_x came watching.faithful;
        moved = λ q e. let f : ⊥ = cc in absurd f;
        kept = λ c p valid through none. absurd (new c p valid through);
        second_moved = named-moved a a1 x0 x still after proto there before map there_moved there_kept;
        second_kept = named-kept a a1 x0 x still after proto there before map there_moved there_kept o done;
      }
    where
      came : Came went a (Created proto) x
      came = still-came went a a1 x0 x (Created proto) still created after

      is : o ≡ length (world_of a)
      is = number ∙ ap (λ (s : ObjectsState P). length (world_of s)) still.is

      done : IsDone a x o proto
      done = done-create went unused a x sound_a sound_x o proto is named_there came

      -- no chain comes to the new object
      new : (c p : ℕ) → validity_in a.heap.view.trail c ≡ Some (valid_cell p) → IsTrue (passes a.heap.view.trail (protos_of a) p o) → ⊥
      new c p valid through =
          let lt = watching.cells.objects c (valid_cell p) valid in
          let items = sound_a.items in
          let count = count-world a in
          let there_o = chain-there a (tell a sound_a) o sound_a p (omega (arith, lt, items, count)) through in
          omega (arith, there_o, is)
