-- No map is unstable that a prototype has: so it stays after each operation.
use Rattle.std.proofs.Common.{◌≡◌, ◌≢◌, ℕ, suc, ◌<◌, ◌≤◌, Bool, true, false, List, [], ◌∷◌, Option, Some, None, length, refl, sym, ap, ◌∙◌, subst, arith, true≢false}
use Rattle.std.specs.Prelude.{◌⊎◌, IsSomeAnd, IsTrue}
use Rattle.hc_board.specs.Trail.{Access}
use Rattle.hc_layout.specs.declared.words.GateWord.{GateWord}
use Rattle.hc_layout.specs.declared.words.MapBits.{MapBits}
use Rattle.hc_value.specs.declared.reply.Cause.{Cause}
use Rattle.hc_heap.specs.Writes.{Trail}
use Rattle.hc_heap.specs.Readings.{bits_in, gate_in, map_in, root_in}
use Rattle.hc_heap.specs.Kept.{UnusedSaysNothing}
use Rattle.hc_heap.specs.States.{View}
use Rattle.hc_links.specs.Chains.{links_in}
use Rattle.hc_tree.specs.declared.need.Need.{Need}
use Rattle.hc_tree.specs.Growth.{marked}
use Rattle.hc_table.specs.Changes.{Did, Nothing, Moved, Created, Added, Wrote, Reconfigured, Removed, Linked, Locked, Restricted}
use Rattle.hc_slots.specs.Cases.{same-or, some-and, some-is}
use Rattle.hc_slots.specs.Meaning.{Dictionary}
use Rattle.hc_modes.specs.Came.{AreMoves, Became, Came, Effect, Generalised, HasReplaced, IsBecome, IsMarked, IsStill, Left, Marked, MayEnd, Migrated, Move, marked_before}
use Rattle.hc_modes.specs.Meaning.{cause_in, kept_of}
use Rattle.hc_modes.specs.Rest.{AreCalm, AreLone, HadProto, HasDied, HasGone, IsLinkedOrDead, MarksBut, Relinks}
use Rattle.hc_modes.specs.State.{IsKeptSo, IsObjects, ObjectsState}
use Rattle.hc_modes.proofs.Left.{marked-same}
use Rattle.hc_modes.proofs.Marking.{bits-marked}
use Rattle.hc_modes.proofs.Owning.{map-none}
use mathlib.Core.Logic.{inl, inr}

-- The map of a prototype is its own, and has no link

module _ (unused : UnusedSaysNothing) (v : View) (kept : List (Option Dictionary)) (of_null : Option ℕ) (h : IsObjects v kept of_null) where
  -- what is there of an object that has a map
  pub record HasOne (q m : ℕ) : Type 0 where
    pub there : q < length kept
    pub gate : GateWord
    pub is_open : gate_in v.trail m ≡ Some gate
    pub private : gate.is_private ≡ (root_in v.trail q).is_proto

  pub has-one : (q m : ℕ) → map_in v.trail q ≡ Some m → HasOne q m
  has-one q m is = by-there (kept_of kept q) refl
    where
      past : length kept ≤ q → ⊥
      past le = let none = map-none unused v h.heap q (omega (arith, le, h.items)) in let n : None ≡ Some m = sym none ∙ is in let f : ⊥ = cc in f

      lt : q < length kept
      lt = omega (arith, past)

      by-there : (item : Option Dictionary) → kept_of kept q ≡ item → HasOne q m
      by-there (Some d) e = let none : map_in v.trail q ≡ None = subst (λ (i : Option Dictionary). IsKeptSo v.trail q i) e (h.each q lt) in let n : None ≡ Some m = sym none ∙ is in let f : ⊥ = cc in absurd f
      by-there None e =
          let so = subst (λ (i : Option Dictionary). IsKeptSo v.trail q i) e (h.each q lt) in
          let same : so.map ≡ m = some-is so.map m (sym so.is_map ∙ is) in
          record { there = lt; gate = so.gate; is_open = subst (λ (x : ℕ). gate_in v.trail x ≡ Some so.gate) same so.fast.is_open; private = so.fast.private }

  pub lone : AreLone v.trail
  lone = record {
    apart = λ q r m is_q is_r proto.
        let one = has-one q m is_q in
        let other = has-one r m is_r in
        h.alone q r m one.gate one.there other.there is_q is_r one.is_open (one.private ∙ proto);
    private = λ q m is proto.
        let one = has-one q m is in
        subst (λ (x : Option GateWord). IsSomeAnd x (λ y. IsTrue y.is_private)) (sym one.is_open) (one.private ∙ proto);
    bare = λ q m is proto.
        let one = has-one q m is in
        (h.tree.maps m one.gate one.is_open).unlinked (one.private ∙ proto);
  }

  -- a slow object has no map
  pub slow-mapless : (o : ℕ) (d : Dictionary) → kept_of kept o ≡ Some d → map_in v.trail o ≡ None
  slow-mapless o d slow = by (map_in v.trail o) refl
    where
      by : (m : Option ℕ) → map_in v.trail o ≡ m → map_in v.trail o ≡ None
      by None e = e
      by (Some m) e =
          let one = has-one o m e in
          subst (λ (i : Option Dictionary). IsKeptSo v.trail o i) slow (h.each o one.there)

-- An operation on an object

-- a prototype's map doesn't die with others
never-dead : (old new : Trail) (q m : ℕ) → AreLone new → HasDied old new m → map_in new q ≡ Some m → IsTrue (root_in new q).is_proto → ⊥
never-dead old new q m lone died is proto =
    let gate = some-and (gate_in new m) (λ g. IsTrue g.is_private) (lone.private q m is proto) in
    true≢false (sym gate.1.1 ∙ died.shared gate.0 gate.1.0)

-- what an operation on an object marks has a link, or died, or was the object's map
module _ (old new : Trail) (o : ℕ) (lone_old : AreLone old) (lone_new : AreLone new) (maps : (q : ℕ) → q ≢ o → map_in new q ≡ map_in old q) (protos : (q : ℕ) → q ≢ o → (root_in new q).is_proto ≡ (root_in old q).is_proto)
    (marks : (m : ℕ) → (bits_in old m).unstable ≡ false → IsTrue (bits_in new m).unstable → IsLinkedOrDead old new m ⊎ (map_in old o ≡ Some m)) where
  -- the maps of other prototypes stay stable
  pub others-calm : (q m : ℕ) → q ≢ o → map_in new q ≡ Some m → IsTrue (root_in new q).is_proto → (bits_in old m).unstable ≡ false → (bits_in new m).unstable ≡ false
  others-calm q m other is proto stable = by (bits_in new m).unstable refl
    where
      either : IsLinkedOrDead old new m ⊎ (map_in old o ≡ Some m) → ⊥
      either (inl (inl links)) = links (lone_new.bare q m is proto)
      either (inl (inr died)) = never-dead old new q m lone_new died is proto
      either (inr had) = other (lone_old.apart q o m (sym (maps q other) ∙ is) had (sym (protos q other) ∙ proto))

      by : (b : Bool) → (bits_in new m).unstable ≡ b → (bits_in new m).unstable ≡ false
      by false e = e
      by true e = absurd (either (marks m stable e))

-- what `Marks` says of maps that an operation marked
had : {Dies : ℕ → Type 0} (old new : Trail) (o : ℕ) → MarksBut Dies old new o → (m : ℕ) → (bits_in old m).unstable ≡ false → IsTrue (bits_in new m).unstable → IsLinkedOrDead old new m ⊎ (map_in old o ≡ Some m)
had {Dies} old new o h m stable unstable = by (h.marks m stable unstable)
  where
    by : IsLinkedOrDead old new m ⊎ HasGone old new o m → IsLinkedOrDead old new m ⊎ (map_in old o ≡ Some m)
    by (inl links) = inl links
    by (inr gone) = inr gone.was

relinks-had : (old new : Trail) (o : ℕ) (proto : Option ℕ) → Relinks old new o proto → (m : ℕ) → (bits_in old m).unstable ≡ false → IsTrue (bits_in new m).unstable → IsLinkedOrDead old new m ⊎ (map_in old o ≡ Some m)
relinks-had old new o proto h m stable unstable = by (h.marks m stable unstable)
  where
    by : IsLinkedOrDead old new m ⊎ (HasGone old new o m ⊎ HadProto old o m proto) → IsLinkedOrDead old new m ⊎ (map_in old o ≡ Some m)
    by (inl links) = inl links
    by (inr (inl gone)) = inr gone.was
    by (inr (inr it)) = inr it.was

-- an object that keeps its map
own-still : {Dies : ℕ → Type 0} (old new : Trail) (o m : ℕ) → AreLone new → MarksBut Dies old new o → map_in new o ≡ Some m → IsTrue (root_in new o).is_proto → (bits_in old m).unstable ≡ false → (bits_in new m).unstable ≡ false
own-still {Dies} old new o m lone h is proto stable = by (bits_in new m).unstable refl
  where
    either : IsLinkedOrDead old new m ⊎ HasGone old new o m → ⊥
    either (inl (inl links)) = links (lone.bare o m is proto)
    either (inl (inr died)) = never-dead old new o m lone died is proto
    either (inr gone) = gone.now is

    by : (b : Bool) → (bits_in new m).unstable ≡ b → (bits_in new m).unstable ≡ false
    by false e = e
    by true e = absurd (either (h.marks m stable e))

-- an operation that marks leaves prototypes calm
pub marks-calm : {Dies : ℕ → Type 0} (old new : Trail) (o : ℕ) → AreLone old → AreLone new → MarksBut Dies old new o → ((q : ℕ) → (root_in new q).is_proto ≡ (root_in old q).is_proto) → AreCalm old → AreCalm new
marks-calm {Dies} old new o lone_old lone_new h protos calm q m is proto = same-or q o ((bits_in new m).unstable ≡ false)
    (λ same. here (subst (λ (x : ℕ). map_in new x ≡ Some m) same is) (subst (λ (x : ℕ). IsTrue (root_in new x).is_proto) same proto))
    (λ other. others-calm old new o lone_old lone_new h.maps (λ r e. protos r) (had old new o h) q m other is proto (calm q m (sym (h.maps q other) ∙ is) (sym (protos q) ∙ proto)))
  where
    here : map_in new o ≡ Some m → IsTrue (root_in new o).is_proto → (bits_in new m).unstable ≡ false
    here its proto = by (h.own m its proto)
      where
        by : (map_in old o ≡ Some m) ⊎ ((bits_in new m).unstable ≡ false) → (bits_in new m).unstable ≡ false
        by (inl was) = own-still old new o m lone_new h its proto (calm o m was (sym (protos o) ∙ proto))
        by (inr stable) = stable

-- all prototypes but one
abbrev CalmBut : ℕ → Trail → Type 0
CalmBut o t = (q m : ℕ) → q ≢ o → map_in t q ≡ Some m → IsTrue (root_in t q).is_proto → (bits_in t m).unstable ≡ false

pub but-all : (t : Trail) → ((o : ℕ) → CalmBut o t) → AreCalm t
but-all t h q m is proto = h (suc q) q m (λ e. omega (arith, e)) is proto

-- an object gets another prototype
relinks-calm : (old new : Trail) (o : ℕ) (proto : Option ℕ) → AreLone old → AreLone new → Relinks old new o proto → ((q : ℕ) → (root_in new q).is_proto ≡ (root_in old q).is_proto) → CalmBut o old → AreCalm new
relinks-calm old new o proto lone_old lone_new h protos calm q m is has = same-or q o ((bits_in new m).unstable ≡ false)
    (λ same. h.own m (subst (λ (x : ℕ). map_in new x ≡ Some m) same is) (subst (λ (x : ℕ). IsTrue (root_in new x).is_proto) same has))
    (λ other. others-calm old new o lone_old lone_new h.maps (λ r e. protos r) (relinks-had old new o proto h) q m other is has (calm q m other (sym (h.maps q other) ∙ is) (sym (protos q) ∙ has)))

-- Moves

-- a map that is made unstable
marked-lone : (t : Trail) (m : ℕ) → AreLone t → AreLone (marked t m)
marked-lone t m lone = record {
  apart = λ q r x is_q is_r proto. lone.apart q r x (sym (map-same q) ∙ is_q) (sym (map-same r) ∙ is_r) (sym (root-same q) ∙ proto);
  private = λ q x is proto.
      subst (λ (y : Option GateWord). IsSomeAnd y (λ z. IsTrue z.is_private)) (sym (marked-same t m (λ (u : Trail). gate_in u x) (λ b. refl))) (lone.private q x (sym (map-same q) ∙ is) (sym (root-same q) ∙ proto));
  bare = λ q x is proto. marked-same t m (λ (u : Trail). links_in u x) (λ b. refl) ∙ lone.bare q x (sym (map-same q) ∙ is) (sym (root-same q) ∙ proto);
}
  where
    map-same : (q : ℕ) → map_in (marked t m) q ≡ map_in t q
    map-same q = marked-same t m (λ (u : Trail). map_in u q) (λ b. refl)

    root-same : (q : ℕ) → (root_in (marked t m) q).is_proto ≡ (root_in t q).is_proto
    root-same q = marked-same t m (λ (u : Trail). (root_in u q).is_proto) (λ b. refl)

module _ {P : Type 0} (went : P → List Access → List Access → P → Type 0) where
  marked-but : (a b : ObjectsState P) (o : ℕ) → IsMarked went a o b → AreLone a.heap.view.trail → AreCalm a.heap.view.trail → CalmBut o b.heap.view.trail
  marked-but a b o it lone calm q m other is proto =
      let was : map_in a.heap.view.trail q ≡ Some m = sym (it.maps q) ∙ is in
      let had : IsTrue (root_in a.heap.view.trail q).is_proto = sym (ap (λ r. r.is_proto) (it.roots q)) ∙ proto in
      let ne : m ≢ it.map = λ e. other (lone.apart q o m was (subst (λ (x : ℕ). map_in a.heap.view.trail o ≡ Some x) (sym e) it.has) had) in
      ap (λ (t : Trail). (bits_in t m).unstable) it.trail
      ∙ ap (λ (b : MapBits). b.unstable) (bits-marked a.heap.view.trail it.map m ne)
      ∙ calm q m was had

  -- what became a prototype
  module _ (a b : ObjectsState P) (p : ℕ) (it : IsBecome went a p b) (lone : AreLone a.heap.view.trail) where
    abbrev old : Trail
    old = a.heap.view.trail

    abbrev new : Trail
    new = b.heap.view.trail

    was-one : (m : ℕ) → map_in new p ≡ Some m → ((x : ℕ) → map_in old p ≡ Some x → IsTrue (root_in old p).is_proto → (bits_in old x).unstable ≡ false) → IsTrue (root_in old p).is_proto → (map_in old p ≡ Some m) ⊎ ((bits_in new m).unstable ≡ false) → (bits_in new m).unstable ≡ false
    was-one m its calm was (inl has) = own-still old new p m it.lone it.how.marks its it.proto (calm m has was)
    was-one m its calm was (inr stable) = stable

    become-own : (m : ℕ) → map_in new p ≡ Some m → ((x : ℕ) → map_in old p ≡ Some x → IsTrue (root_in old p).is_proto → (bits_in old x).unstable ≡ false) → (bits_in new m).unstable ≡ false
    become-own m its calm = by (root_in old p).is_proto refl
      where
        by : (b : Bool) → (root_in old p).is_proto ≡ b → (bits_in new m).unstable ≡ false
        by true was = was-one m its calm was (it.how.marks.own m its it.proto)
        by false was = it.how.own m its was

    become-but : (o : ℕ) → CalmBut o old → CalmBut o new
    become-but o calm q m other is proto = same-or q p ((bits_in new m).unstable ≡ false)
        (λ same. become-own m (subst (λ (x : ℕ). map_in new x ≡ Some m) same is) (λ x has was. calm p x (subst (λ (y : ℕ). y ≢ o) same other) has was))
        (λ apart. others-calm old new p lone it.lone it.how.marks.maps it.protos (had old new p it.how.marks) q m apart is proto
        (calm q m other (sym (it.how.marks.maps q apart) ∙ is) (sym (it.protos q apart) ∙ proto)))

  become-calm : (a b : ObjectsState P) (p : ℕ) → IsBecome went a p b → AreLone a.heap.view.trail → AreCalm a.heap.view.trail → AreCalm b.heap.view.trail
  become-calm a b p it lone calm = but-all b.heap.view.trail (λ o. become-but a b p it lone o (λ q m other is proto. calm q m is proto))

  trail-still : (a b : ObjectsState P) → IsStill a b → b.heap.view.trail ≡ a.heap.view.trail
  trail-still a b still = ap (λ (s : ObjectsState P). s.heap.view.trail) still.is

  -- an operation by itself, after nothing
  own-calm : {Dies : ℕ → Type 0} (a mid b : ObjectsState P) (o : ℕ) → IsStill a mid → AreLone a.heap.view.trail → AreLone b.heap.view.trail → MarksBut Dies mid.heap.view.trail b.heap.view.trail o → ((q : ℕ) → (root_in b.heap.view.trail q).is_proto ≡ (root_in mid.heap.view.trail q).is_proto)
      → AreCalm a.heap.view.trail → AreCalm b.heap.view.trail
  own-calm {Dies} a mid b o still lone_a lone_b marks protos calm =
      let same = trail-still a mid still in
      marks-calm a.heap.view.trail b.heap.view.trail o lone_a lone_b (subst (λ (t : Trail). MarksBut Dies t b.heap.view.trail o) same marks)
      (λ q. protos q ∙ ap (λ (t : Trail). (root_in t q).is_proto) same) calm

  link-calm : (a mid b : ObjectsState P) (o : ℕ) (proto : Option ℕ) → IsStill a mid → AreLone a.heap.view.trail → AreLone b.heap.view.trail → Relinks mid.heap.view.trail b.heap.view.trail o proto → ((q : ℕ) → (root_in b.heap.view.trail q).is_proto ≡ (root_in mid.heap.view.trail q).is_proto)
      → CalmBut o a.heap.view.trail → AreCalm b.heap.view.trail
  link-calm a mid b o proto still lone_a lone_b relinks protos calm =
      let same = trail-still a mid still in
      relinks-calm a.heap.view.trail b.heap.view.trail o proto lone_a lone_b (subst (λ (t : Trail). Relinks t b.heap.view.trail o proto) same relinks)
      (λ q. protos q ∙ ap (λ (t : Trail). (root_in t q).is_proto) same) calm

  -- an object came to a map in the place of its own
  replaced-calm : {Dies : ℕ → Type 0} {need : Need} (a mid b : ObjectsState P) (o : ℕ) → HasReplaced went Dies need a o mid → IsStill mid b → AreLone a.heap.view.trail → AreLone b.heap.view.trail → AreCalm a.heap.view.trail → AreCalm b.heap.view.trail
  replaced-calm a mid b o it still lone_a lone_b calm =
      let same = trail-still mid b still in
      subst AreCalm (sym same) (marks-calm a.heap.view.trail mid.heap.view.trail o lone_a (subst AreLone same lone_b) it.marks it.protos calm)

  -- moves and nothing else
  moves-calm : (a b : ObjectsState P) (moves : List Move) → length moves ≤ 1 → MayEnd moves → AreMoves went a moves b → AreLone a.heap.view.trail → AreLone b.heap.view.trail → AreCalm a.heap.view.trail → AreCalm b.heap.view.trail
  moves-calm a b [] few ends are lone_a lone_b calm = subst AreCalm (sym (trail-still a b are)) calm
  moves-calm a b (Marked o ∷ moves) few ends are lone_a lone_b calm = absurd ends
  moves-calm a b (Became p ∷ []) few ends are lone_a lone_b calm = subst AreCalm (sym (trail-still are.0 b are.2)) (become-calm a are.0 p are.1 lone_a calm)
  moves-calm a b (Left o cause ∷ []) few ends are lone_a lone_b calm =
      let same = trail-still are.0 b are.2 in
      subst AreCalm (sym same) (marks-calm a.heap.view.trail are.0.heap.view.trail o lone_a (subst AreLone same lone_b) are.1.marks are.1.protos calm)
  moves-calm a b (Migrated o ∷ []) few ends are lone_a lone_b calm = replaced-calm a are.0 b o are.1.replaced are.2 lone_a lone_b calm
  moves-calm a b (Generalised o i held ∷ []) few ends are lone_a lone_b calm = replaced-calm a are.0 b o are.1.replaced are.2 lone_a lone_b calm
  moves-calm a b (Became p ∷ move ∷ moves) few ends are lone_a lone_b calm = absurd (omega (arith, few))
  moves-calm a b (Left o cause ∷ move ∷ moves) few ends are lone_a lone_b calm = absurd (omega (arith, few))
  moves-calm a b (Migrated o ∷ move ∷ moves) few ends are lone_a lone_b calm = absurd (omega (arith, few))
  moves-calm a b (Generalised o i held ∷ move ∷ moves) few ends are lone_a lone_b calm = absurd (omega (arith, few))

  -- an operation with the moves before it
  created-calm : (a b : ObjectsState P) (proto : Option ℕ) → Effect went a (Created proto) b → AreLone a.heap.view.trail → AreLone b.heap.view.trail → AreCalm a.heap.view.trail → AreCalm b.heap.view.trail
  created-calm a b (Some p) it lone_a lone_b calm =
      own-calm it.moves.0 it.mid b it.own.marks.object it.moves.2 it.moves.1.lone lone_b it.own.marks.marks it.own.protos (become-calm a it.moves.0 p it.moves.1 lone_a calm)
  created-calm a b None it lone_a lone_b calm = own-calm a it.mid b it.own.marks.object it.moves lone_a lone_b it.own.marks.marks it.own.protos calm

  linked-calm : (a b : ObjectsState P) (o : ℕ) (proto : Option ℕ) → Effect went a (Linked o proto) b → AreLone a.heap.view.trail → AreLone b.heap.view.trail → AreCalm a.heap.view.trail → AreCalm b.heap.view.trail
  linked-calm a b o None it lone_a lone_b calm = link-calm a it.mid b o None it.moves lone_a lone_b it.own.marks it.own.protos (λ q m other is proto. calm q m is proto)
  linked-calm a b o (Some p) it lone_a lone_b calm = by (cause_in a.kept o) (cause_in a.kept p) it.moves
    where
      after : (x y : ObjectsState P) → IsBecome went x p y → IsStill y it.mid → AreLone x.heap.view.trail → CalmBut o x.heap.view.trail → AreCalm b.heap.view.trail
      after x y became still lone but = link-calm y it.mid b o (Some p) still became.lone lone_b it.own.marks it.own.protos (become-but x y p became lone o but)

      one : AreMoves went a (Became p ∷ []) it.mid → AreCalm b.heap.view.trail
      one moves = after a moves.0 moves.1 moves.2 lone_a (λ q m other is proto. calm q m is proto)

      by : (c d : Option Cause) → AreMoves went a (marked_before c d o (Became p ∷ [])) it.mid → AreCalm b.heap.view.trail
      by None (Some cause) moves =
          after moves.0 moves.2.0 moves.2.1 moves.2.2 (subst AreLone (sym moves.1.trail) (marked-lone a.heap.view.trail moves.1.map lone_a)) (marked-but a moves.0 o moves.1 lone_a calm)
      by None None moves = one moves
      by (Some c) None moves = one moves
      by (Some c) (Some d) moves = one moves

  alone-calm : {Dies : ℕ → Type 0} (a b : ObjectsState P) (did : Did) (o : ℕ) → (it : Effect went a did b) → IsStill a it.mid → MarksBut Dies it.mid.heap.view.trail b.heap.view.trail o → AreLone a.heap.view.trail → AreLone b.heap.view.trail → AreCalm a.heap.view.trail → AreCalm b.heap.view.trail
  alone-calm {Dies} a b did o it still marks lone_a lone_b calm = own-calm a it.mid b o still lone_a lone_b marks it.own.protos calm

  pub came-calm : (a b : ObjectsState P) (did : Did) → AreLone a.heap.view.trail → AreLone b.heap.view.trail → Came went a did b → AreCalm a.heap.view.trail → AreCalm b.heap.view.trail
  came-calm a b Nothing lone_a lone_b h calm = subst AreCalm (sym (trail-still a b h)) calm
  came-calm a b Moved lone_a lone_b h calm = moves-calm a b h.moves h.few h.ends h.are lone_a lone_b calm
  came-calm a b (Created proto) lone_a lone_b h calm = created-calm a b proto h lone_a lone_b calm
  came-calm a b (Added o p) lone_a lone_b h calm = alone-calm a b (Added o p) o h h.moves h.own.marks lone_a lone_b calm
  came-calm a b (Wrote o i held) lone_a lone_b h calm = alone-calm a b (Wrote o i held) o h h.moves h.own.marks lone_a lone_b calm
  came-calm a b (Reconfigured o i p) lone_a lone_b h calm = alone-calm a b (Reconfigured o i p) o h h.moves h.own.marks lone_a lone_b calm
  came-calm a b (Removed o i) lone_a lone_b h calm = alone-calm a b (Removed o i) o h h.moves h.own.marks lone_a lone_b calm
  came-calm a b (Linked o proto) lone_a lone_b h calm = linked-calm a b o proto h lone_a lone_b calm
  came-calm a b (Locked o) lone_a lone_b h calm = alone-calm a b (Locked o) o h h.moves h.own.marks lone_a lone_b calm
  came-calm a b (Restricted o frozen) lone_a lone_b h calm = alone-calm a b (Restricted o frozen) o h h.moves h.own.marks lone_a lone_b calm
