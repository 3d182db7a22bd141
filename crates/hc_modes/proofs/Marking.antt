-- What an operation on an object makes unstable: its map, first of all, where it leaves it.
use Rattle.hc_value.specs.declared.reply.Cause.{Cause}
use Rattle.hc_modes.specs.Meaning.{cause_in}
use Rattle.hc_modes.specs.State.{ObjectsState}
use Rattle.hc_modes.specs.Laws.{with_loads}
use Rattle.hc_modes.specs.Becoming.{IsOwned, with_proto}
use Rattle.std.proofs.Common.{◌≡◌, ◌≢◌, ℕ, ◌+◌, Bool, true, false, cond, eq-eqb, true≢false, List, ◌∷◌, ◌++◌, Option, Some, None, refl, sym, ap, ◌∙◌, subst, arith}
use Rattle.std.specs.Prelude.{◌⊎◌, IsTrue, ⊤}
use Rattle.hc_layout.specs.declared.shape.Shape.{Shape}
use Rattle.hc_layout.specs.declared.words.GateWord.{GateWord}
use Rattle.hc_layout.specs.declared.words.MapBits.{MapBits}
use Rattle.hc_layout.specs.declared.words.RootWord.{RootWord}
use Rattle.hc_value.specs.declared.prop.Prop.{Prop}
use Rattle.hc_heap.specs.Writes.{Write, Trail, Bits, ObjectCell, ObjectMap, Root, Validity}
use Rattle.hc_heap.specs.Readings.{detail_in, gate_in, bits_in, map_in, object_cell_in, prototype_in, root_in, validity_in}
use Rattle.hc_modes.specs.Cells.{CellsStay}
use Rattle.hc_heap.specs.Kept.{Adds}
use Rattle.hc_heap.specs.Frames.{adds-one, same-after}
use Rattle.hc_heap.specs.States.{View}
use Rattle.hc_tree.specs.Growth.{MakesMap, marked}
use Rattle.hc_tree.specs.Tree.{gate_with}
use Rattle.hc_table.specs.Changes.{Did, Nothing, Moved, Created, Added, Wrote, Reconfigured, Removed, Linked, Locked, Restricted}
use Rattle.hc_modes.specs.Came.{MarksOf, HasOwnCopy, HowBecame, IsStill}
use Rattle.hc_modes.specs.Changes.{ChangedBut, TouchesBut}
use Rattle.hc_slots.specs.Meaning.{Dictionary}
use Rattle.hc_slots.specs.Slots.{FillsStore}
use Rattle.hc_modes.specs.Details.{BecameGets, DetailsAre, GetsNothing}
use Rattle.hc_modes.proofs.Gets.{details-none, details-on, never-now, slow-now}
use Rattle.hc_modes.specs.Filling.{IsMovedBut}
use Rattle.hc_modes.specs.Linking.{IsRelinked}
use Rattle.hc_modes.specs.Privates.{IsGrownAlone, IsMovedToCopy}
use Rattle.hc_modes.specs.Rest.{BeginsByMark, DeathsAre, HadProto, HasGone, IsLinkedOrDead, Marks, MarksAt, MarksBut, Relinks}
use Rattle.hc_modes.proofs.Sparing.{deaths-as, deaths-of, no-deaths, same-deaths}
use Rattle.hc_tree.specs.Details.{NoMap}
use Rattle.hc_slots.specs.Cases.{same-or, some-is, cond-other}
use mathlib.Core.Logic.{inl, inr}

-- Classes of writes

pub makes-at : (used : Shape) (p : Option ℕ) (m : ℕ) → ((x : ℕ) → p ≡ Some x → x ≡ m) → (t : Trail) (w : Write) → MakesMap used p t w → MarksAt m t w
makes-at used p m same t (Bits x b) e = same x e.0
makes-at used p m same t _ e = tt

pub fills-at : (old : View) (o m : ℕ) (t : Trail) (w : Write) → FillsStore old o t w → MarksAt m t w
fills-at old o m t (Bits x b) e = absurd e
fills-at old o m t _ e = tt

bits-at : (m x : ℕ) → x ≢ m → (t : Trail) (w : Write) → MarksAt m t w → bits_in (w ∷ t) x ≡ bits_in t x
bits-at m x other t (Bits i b) e = cond-other i x b (bits_in t x) (λ is. other (sym is ∙ e))
bits-at m x other t _ e = refl

map-touched : (Dies : ℕ → Type 0) (old : View) (o q : ℕ) → q ≢ o → (t : Trail) (w : Write) → TouchesBut Dies old o t w → map_in (w ∷ t) q ≡ map_in t q
map-touched Dies old o q other t (ObjectMap p h) e = cond-other p q h (map_in t q) (λ is. other (sym is ∙ e))
map-touched Dies old o q other t _ e = refl

-- other objects keep their maps
pub maps-kept : {Dies : ℕ → Type 0} (old new : View) (o : ℕ) → ChangedBut Dies old new o → (q : ℕ) → q ≢ o → map_in new.trail q ≡ map_in old.trail q
maps-kept {Dies} old new o changed q other = same-after (λ (t : Trail). map_in t q) (map-touched Dies old o q other) changed.writes

-- and cells stay
validity-touched : (Dies : ℕ → Type 0) (old : View) (o c : ℕ) (t : Trail) (w : Write) → TouchesBut Dies old o t w → validity_in (w ∷ t) c ≡ validity_in t c
validity-touched Dies old o c t (Validity i v) e = absurd e
validity-touched Dies old o c t _ e = refl

cell-touched : (Dies : ℕ → Type 0) (old : View) (o q : ℕ) (t : Trail) (w : Write) → TouchesBut Dies old o t w → object_cell_in (w ∷ t) q ≡ object_cell_in t q
cell-touched Dies old o q t (ObjectCell i c) e = absurd e
cell-touched Dies old o q t _ e = refl

pub cells-kept : {Dies : ℕ → Type 0} (old new : View) (o : ℕ) → ChangedBut Dies old new o → CellsStay old.trail new.trail
cells-kept {Dies} old new o changed = record {
  validity = λ c. same-after (λ (t : Trail). validity_in t c) (validity-touched Dies old o c) changed.writes;
  named = λ q. same-after (λ (t : Trail). object_cell_in t q) (cell-touched Dies old o q) changed.writes;
}

-- The mark

abbrev mark : Trail → ℕ → MapBits
mark t m = record { unstable = true; deprecated = (bits_in t m).deprecated }

-- an unstable map is marked already
pub marked-already : (t : Trail) (m : ℕ) → IsTrue (bits_in t m).unstable → marked t m ≡ t
marked-already t m unstable = ap (λ (b : Bool). cond b t (Bits m (mark t m) ∷ t)) unstable

pub bits-marked : (t : Trail) (m x : ℕ) → x ≢ m → bits_in (marked t m) x ≡ bits_in t x
bits-marked t m x other = by (bits_in t m).unstable
  where
    by : (b : Bool) → bits_in (cond b t (Bits m (mark t m) ∷ t)) x ≡ bits_in t x
    by true = refl
    by false = cond-other m x (mark t m) (bits_in t x) (λ is. other (sym is))

-- and each map stays live, or deprecated
pub marked-dead : (t : Trail) (m : ℕ) → (bits_in (marked t m) m).deprecated ≡ (bits_in t m).deprecated
marked-dead t m = by (bits_in t m).unstable
  where
    by : (b : Bool) → (bits_in (cond b t (Bits m (mark t m) ∷ t)) m).deprecated ≡ (bits_in t m).deprecated
    by true = refl
    by false = ap (λ (c : Bool). (cond c (mark t m) (bits_in t m)).deprecated) (eq-eqb m m refl)

pub lives-marked : (t : Trail) (m x : ℕ) → (bits_in (marked t m) x).deprecated ≡ (bits_in t x).deprecated
lives-marked t m x = same-or x m ((bits_in (marked t m) x).deprecated ≡ (bits_in t x).deprecated)
    (λ is. subst (λ (k : ℕ). (bits_in (marked t m) k).deprecated ≡ (bits_in t k).deprecated) (sym is) (marked-dead t m))
    (λ other. ap (λ (b : MapBits). b.deprecated) (bits-marked t m x other))

-- nothing is marked, and no map word is written
pub same-marks : (old new : Trail) (o : ℕ) → ((m : ℕ) → bits_in new m ≡ bits_in old m) → ((q : ℕ) → map_in new q ≡ map_in old q) → CellsStay old new → Marks old new o
same-marks old new o bits maps cells = record {
  deaths = same-deaths old new (λ m. ap (λ (b : MapBits). b.deprecated) (bits m));
  marks = λ m stable unstable. absurd (true≢false (sym unstable ∙ ap (λ (b : MapBits). b.unstable) (bits m) ∙ stable));
  first = λ m gone stable. absurd (gone.now (maps o ∙ gone.was));
  maps = λ q other. maps q;
  own = λ m is proto. inl (sym (maps o) ∙ is);
  cells = cells;
}

pub words-same : (old new : Trail) (o : ℕ) → new ≡ old → Marks old new o
words-same old new o same = same-marks old new o (λ m. ap (λ (t : Trail). bits_in t m) same) (λ q. ap (λ (t : Trail). map_in t q) same)
    (record { validity = λ c. ap (λ (t : Trail). validity_in t c) same; named = λ q. ap (λ (t : Trail). object_cell_in t q) same })

-- an object leaves its map, which is marked first
pub moved-marks : (old new : Trail) (o m : ℕ) → map_in old o ≡ Some m → Adds (MarksAt m) (marked old m) new → map_in new o ≢ Some m → ((q : ℕ) → q ≢ o → map_in new q ≡ map_in old q)
    → ((x : ℕ) → map_in new o ≡ Some x → IsTrue (root_in new o).is_proto → (bits_in new x).unstable ≡ false) → CellsStay old new → DeathsAre NoMap old new → Marks old new o
moved-marks old new o m has adds gone maps own cells deaths = record {
  deaths = deaths;
  marks = λ x stable unstable. same-or x m (IsLinkedOrDead old new x ⊎ HasGone old new o x)
      (λ is. inr (subst (λ (k : ℕ). HasGone old new o k) (sym is) (record { was = has; now = gone })))
      (λ other. absurd (true≢false (sym unstable ∙ ap (λ (b : MapBits). b.unstable) (stays x other) ∙ stable)));
  first = λ x left stable.
      let same : x ≡ m = some-is x m (sym left.was ∙ has) in
      subst (λ (k : ℕ). BeginsByMark old new k) (sym same) (begins (subst (λ (k : ℕ). (bits_in old k).unstable ≡ false) same stable));
  maps = maps;
  own = λ x is proto. inr (own x is proto);
  cells = cells;
}
  where
    stays : (x : ℕ) → x ≢ m → bits_in new x ≡ bits_in old x
    stays x other = same-after (λ (t : Trail). bits_in t x) (bits-at m x other) adds ∙ bits-marked old m x other

    begins : (bits_in old m).unstable ≡ false → BeginsByMark old new m
    begins stable = record { more = adds.more; is = adds.is ∙ ap (λ (b : Bool). adds.more ++ cond b old (Bits m (mark old m) ∷ old)) stable }

-- an object left its map, which was marked first, and others died
pub came-marks : {Dies : ℕ → Type 0} (old new : Trail) (o m : ℕ) (more : List Write) → map_in old o ≡ Some m → new ≡ more ++ marked old m → map_in new o ≢ Some m
    → ((x : ℕ) → x ≢ m → (bits_in old x).unstable ≡ false → IsTrue (bits_in new x).unstable → IsLinkedOrDead old new x)
    → ((q : ℕ) → q ≢ o → map_in new q ≡ map_in old q) → ((x : ℕ) → map_in new o ≡ Some x → IsTrue (root_in new o).is_proto → (bits_in new x).unstable ≡ false) → CellsStay old new → DeathsAre Dies old new → MarksBut Dies old new o
came-marks {Dies} old new o m more has is gone others maps own cells deaths = record {
  deaths = deaths;
  marks = λ x stable unstable. same-or x m (IsLinkedOrDead old new x ⊎ HasGone old new o x)
      (λ same. inr (subst (λ (k : ℕ). HasGone old new o k) (sym same) (record { was = has; now = gone })))
      (λ other. inl (others x other stable unstable));
  first = λ x left stable.
      let same : x ≡ m = some-is x m (sym left.was ∙ has) in
      subst (λ (k : ℕ). BeginsByMark old new k) (sym same) (begins (subst (λ (k : ℕ). (bits_in old k).unstable ≡ false) same stable));
  maps = maps;
  own = λ x to proto. inr (own x to proto);
  cells = cells;
}
  where
    begins : (bits_in old m).unstable ≡ false → BeginsByMark old new m
    begins stable = record { more = more; is = is ∙ ap (λ (b : Bool). more ++ cond b old (Bits m (mark old m) ∷ old)) stable }

-- Objects that get a property more

-- a shared map
pub grown-marks : {Dies : ℕ → Type 0} (v w : View) (o m n : ℕ) (p : Prop) → map_in v.trail o ≡ Some m → (root_in v.trail o).is_proto ≡ false → IsMovedBut Dies v w o m n p → MarksBut Dies v.trail w.trail o
grown-marks {Dies} v w o m n p has shared it = came-marks v.trail w.trail o m it.more has it.after
    (λ is. it.other (some-is it.child m (sym it.moved ∙ is)))
    it.marks
    (maps-kept v w o it.changed)
    (λ x is proto. absurd (true≢false (sym proto ∙ it.proto ∙ shared)))
    (cells-kept v w o it.changed)
    (deaths-of v w o it.changed it.dead)

-- a private one
pub alone-marks : (v w : View) (o m n : ℕ) (p : Prop) → map_in v.trail o ≡ Some m → IsGrownAlone v w o m n p → Marks v.trail w.trail o
alone-marks v w o m n p has it = moved-marks v.trail w.trail o m has it.after
    (λ is. let same : v.used.maps ≡ m = some-is v.used.maps m (sym it.moved ∙ is) in omega (arith, same, it.younger))
    (maps-kept v w o it.changed)
    (λ x is proto. subst (λ (k : ℕ). (bits_in w.trail k).unstable ≡ false) (some-is v.used.maps x (sym it.moved ∙ is)) it.stable)
    (cells-kept v w o it.changed)
    (no-deaths v w o it.changed)

-- a map with another number of entries is another
pub other-gate : (t : Trail) (c m n : ℕ) → gate_in t c ≡ Some (gate_with (n + 1) false) → gate_in t m ≡ Some (gate_with n false) → c ≢ m
other-gate t c m n more few is =
    let same : gate_with (n + 1) false ≡ gate_with n false = some-is (gate_with (n + 1) false) (gate_with n false) (sym more ∙ ap (λ (k : ℕ). gate_in t k) is ∙ few) in
    let count : n + 1 ≡ n = ap (λ (g : GateWord). g.entries) same in
    omega (arith, count)

-- an object that leaves its map for another, or for none
pub left-marks : (old new : View) (o m : ℕ) (h : Option ℕ) → new ≡ record old { trail = ObjectMap o h ∷ marked old.trail m } → map_in old.trail o ≡ Some m → h ≢ Some m → (root_in old.trail o).is_proto ≡ false ⊎ (h ≡ None) → Marks old.trail new.trail o
left-marks old new o m h is has other fine = subst (λ (v : View). Marks old.trail v.trail o) (sym is)
    (moved-marks old.trail (ObjectMap o h ∷ marked old.trail m) o m has (adds-one (marked old.trail m) (ObjectMap o h) tt)
    (λ e. other (sym here ∙ e))
    (λ q apart. cond-other o q h (map_in (marked old.trail m) q) (λ e. apart (sym e)) ∙ same-marked (λ (t : Trail). map_in t q) (λ b. refl))
    (own fine)
    (record { validity = λ c. same-marked (λ (t : Trail). validity_in t c) (λ b. refl); named = λ q. same-marked (λ (t : Trail). object_cell_in t q) (λ b. refl) })
    (same-deaths old.trail (ObjectMap o h ∷ marked old.trail m) (λ x. lives-marked old.trail m x)))
  where
    same-marked : {T : Type 0} (reading : Trail → T) → ((b : MapBits) → reading (Bits m b ∷ old.trail) ≡ reading old.trail) → reading (marked old.trail m) ≡ reading old.trail
    same-marked {T} reading same = by (bits_in old.trail m).unstable
      where
        by : (b : Bool) → reading (cond b old.trail (Bits m (mark old.trail m) ∷ old.trail)) ≡ reading old.trail
        by true = refl
        by false = same (mark old.trail m)

    here : map_in (ObjectMap o h ∷ marked old.trail m) o ≡ h
    here = ap (λ (b : Bool). cond b h (map_in (marked old.trail m) o)) (eq-eqb o o refl)

    own : (root_in old.trail o).is_proto ≡ false ⊎ (h ≡ None) → (x : ℕ) → map_in (ObjectMap o h ∷ marked old.trail m) o ≡ Some x → IsTrue (root_in (ObjectMap o h ∷ marked old.trail m) o).is_proto → (bits_in (ObjectMap o h ∷ marked old.trail m) x).unstable ≡ false
    own (inl shared) x e proto = absurd (true≢false (sym proto ∙ ap (λ (r : RootWord). r.is_proto) (same-marked (λ (t : Trail). root_in t o) (λ b. refl)) ∙ shared))
    own (inr none) x e proto = let f : None ≡ Some x = sym none ∙ sym here ∙ e in let g : ⊥ = cc in absurd g

-- an object with a private map that gets another prototype comes to a new one
pub copied-relink : (v w : View) (o m n : ℕ) (proto : Option ℕ) → map_in v.trail o ≡ Some m → IsMovedToCopy false v w o m n proto → Relinks v.trail w.trail o proto
copied-relink v w o m n proto has it = record {
  marks = λ x stable unstable. by x (marks.marks x stable unstable);
  first = marks.first;
  maps = marks.maps;
  own = λ x is has. stays x is;
  cells = marks.cells;
}
  where
    stays : (x : ℕ) → map_in w.trail o ≡ Some x → (bits_in w.trail x).unstable ≡ false
    stays x is = subst (λ (k : ℕ). (bits_in w.trail k).unstable ≡ false) (some-is v.used.maps x (sym it.moved ∙ is)) it.stable

    marks : Marks v.trail w.trail o
    marks = moved-marks v.trail w.trail o m has it.after
        (λ is. let same : v.used.maps ≡ m = some-is v.used.maps m (sym it.moved ∙ is) in omega (arith, same, it.younger))
        (maps-kept v w o it.changed)
        (λ x is proto. stays x is)
        (cells-kept v w o it.changed)
        (no-deaths v w o it.changed)

    by : (x : ℕ) → IsLinkedOrDead v.trail w.trail x ⊎ HasGone v.trail w.trail o x → IsLinkedOrDead v.trail w.trail x ⊎ (HasGone v.trail w.trail o x ⊎ HadProto v.trail o x proto)
    by x (inl links) = inl links
    by x (inr gone) = inr (inl gone)

-- an operation on an object that left a stable map made that unstable by the first write of all; other objects keep their maps
record StartsByMark (old new : Trail) (o : ℕ) : Type 0 where
  pub first : (m : ℕ) → HasGone old new o m → (bits_in old m).unstable ≡ false → BeginsByMark old new m
  pub maps : (q : ℕ) → q ≢ o → map_in new q ≡ map_in old q

starts-by : (old new : Trail) (o m : ℕ) (more : List Write) → map_in old o ≡ Some m → new ≡ more ++ marked old m → ((q : ℕ) → q ≢ o → map_in new q ≡ map_in old q) → StartsByMark old new o
starts-by old new o m more has is maps = record {
  first = λ x left stable.
      let same : x ≡ m = some-is x m (sym left.was ∙ has) in
      subst (λ (k : ℕ). BeginsByMark old new k) (sym same) (begins (subst (λ (k : ℕ). (bits_in old k).unstable ≡ false) same stable));
  maps = maps;
}
  where
    begins : (bits_in old m).unstable ≡ false → BeginsByMark old new m
    begins stable = record { more = more; is = is ∙ ap (λ (b : Bool). more ++ cond b old (Bits m (mark old m) ∷ old)) stable }

-- one with a shared map comes to the map with the same keys, which is the one that it had only where that has the prototype
pub shared-relink : (v w : View) (null then_null : Option ℕ) (o m n : ℕ) (proto : Option ℕ) → map_in v.trail o ≡ Some m → (root_in v.trail o).is_proto ≡ false → ((c : ℕ) → c ≡ m → prototype_in w.trail c ≡ Some proto → prototype_in v.trail m ≡ Some proto)
    → IsRelinked v w null then_null o m n proto → Relinks v.trail w.trail o proto
shared-relink v w null then_null o m n proto has shared before it = record {
  marks = λ x stable unstable. same-or x m (IsLinkedOrDead v.trail w.trail x ⊎ (HasGone v.trail w.trail o x ⊎ HadProto v.trail o x proto))
      (λ is. inr (subst (λ (k : ℕ). HasGone v.trail w.trail o k ⊎ HadProto v.trail o k proto) (sym is) left))
      (λ other. inl (it.marks x other stable unstable));
  first = start.first;
  maps = start.maps;
  own = λ x is proto. absurd (true≢false (sym proto ∙ it.protos o ∙ shared));
  cells = cells-kept v w o it.changed;
}
  where
    left : HasGone v.trail w.trail o m ⊎ HadProto v.trail o m proto
    left = same-or it.map m (HasGone v.trail w.trail o m ⊎ HadProto v.trail o m proto)
        (λ is. inr (record { was = has; prototype = before it.map is it.resettled.prototype }))
        (λ other. inl (record { was = has; now = λ is. other (some-is it.map m (sym it.resettled.moved ∙ is)) }))

    start : StartsByMark v.trail w.trail o
    start = starts-by v.trail w.trail o m it.more has it.after (maps-kept v w o it.changed)

-- an object that had no map, or has none now, gets another prototype
pub marks-relink : (old new : Trail) (o : ℕ) (proto : Option ℕ) → map_in new o ≡ None → Marks old new o → Relinks old new o proto
marks-relink old new o proto none h = record {
  marks = λ m stable unstable. by m (h.marks m stable unstable);
  first = h.first;
  maps = h.maps;
  own = λ m is has. let f : None ≡ Some m = sym none ∙ is in let g : ⊥ = cc in absurd g;
  cells = h.cells;
}
  where
    by : (m : ℕ) → IsLinkedOrDead old new m ⊎ HasGone old new o m → IsLinkedOrDead old new m ⊎ (HasGone old new o m ⊎ HadProto old o m proto)
    by m (inl links) = inl links
    by m (inr gone) = inr (inl gone)

-- an operation on one object, and no add, after which the words are as they were
abbrev pub IsOfOne : Did → Type 0
IsOfOne (Created proto) = ⊥
IsOfOne (Added o p) = ⊥
IsOfOne (Linked o proto) = ⊥
IsOfOne _ = ⊤

pub words-marks : (v : View) (kept : List (Option Dictionary)) (new : Trail) (did : Did) → IsOfOne did → new ≡ v.trail → MarksOf did v kept new
words-marks v kept new Nothing one same = tt
words-marks v kept new Moved one same = tt
words-marks v kept new (Created proto) one same = absurd one
words-marks v kept new (Added o p) one same = absurd one
words-marks v kept new (Wrote o i held) one same = words-same v.trail new o same
words-marks v kept new (Reconfigured o i p) one same = words-same v.trail new o same
words-marks v kept new (Removed o i) one same = words-same v.trail new o same
words-marks v kept new (Linked o proto) one same = absurd one
words-marks v kept new (Locked o) one same = words-same v.trail new o same
words-marks v kept new (Restricted o frozen) one same = words-same v.trail new o same

-- the same of maps that die, said otherwise
pub marks-as : {old new : Trail} (D E : ℕ → Type 0) (o : ℕ) → ((m : ℕ) → E m → D m) → ((m : ℕ) → D m → E m) → MarksBut D old new o → MarksBut E old new o
marks-as {old} {new} D E o from into it = record {
  marks = it.marks;
  first = it.first;
  maps = it.maps;
  own = it.own;
  cells = it.cells;
  deaths = deaths-as D E from into it.deaths;
}

-- where none dies that might
pub marks-none : {old new : Trail} (E : ℕ → Type 0) (o : ℕ) → ((m : ℕ) → E m → ⊥) → Marks old new o → MarksBut E old new o
marks-none {old} {new} E o none it = marks-as NoMap E o none (λ m dies. absurd dies) it

-- Objects that become prototypes

pub owned-marks : (v w : View) (o m : ℕ) → map_in v.trail o ≡ Some m → IsOwned v w o m → Marks v.trail w.trail o
owned-marks v w o m has it = moved-marks v.trail w.trail o m has it.after
    (λ is. let same : v.used.maps ≡ m = some-is v.used.maps m (sym it.moved ∙ is) in omega (arith, same, it.younger))
    (maps-kept v w o it.changed)
    (λ x is proto. subst (λ (k : ℕ). (bits_in w.trail k).unstable ≡ false) (some-is v.used.maps x (sym it.moved ∙ is)) it.stable)
    (cells-kept v w o it.changed)
    (no-deaths v w o it.changed)

pub owned-own : (v w : View) (o m x : ℕ) → IsOwned v w o m → map_in w.trail o ≡ Some x → (bits_in w.trail x).unstable ≡ false
owned-own v w o m x it is = subst (λ (k : ℕ). (bits_in w.trail k).unstable ≡ false) (some-is v.used.maps x (sym it.moved ∙ is)) it.stable

pub owned-copy : (v w : View) (o m k : ℕ) → map_in v.trail o ≡ Some m → IsOwned v w o m → map_in v.trail o ≡ Some k → HasOwnCopy v w o k
owned-copy v w o m k has it is = subst (λ (x : ℕ). HasOwnCopy v w o x) (some-is m k (sym has ∙ is)) (record { proto = it.proto; moved = it.moved; copy = it.copy })

-- an object without a map becomes one
pub root-marks : (old mid : Trail) (o : ℕ) → map_in mid o ≡ None → Marks old mid o → Marks old (with_proto mid o) o
root-marks old mid o none h = record {
  marks = λ m stable unstable. by m (h.marks m stable unstable);
  first = λ m gone stable. let start = h.first m (record { was = gone.was; now = gone.now }) stable in record { more = Root o (record { is_proto = true; map = (root_in mid o).map }) ∷ start.more; is = ap (λ (t : Trail). Root o (record { is_proto = true; map = (root_in mid o).map }) ∷ t) start.is };
  maps = h.maps;
  own = λ m is proto. let f : None ≡ Some m = sym none ∙ is in let g : ⊥ = cc in absurd g;
  cells = record { validity = h.cells.validity; named = h.cells.named };
  deaths = record { dead = λ m dies there. absurd dies; rest = λ m spared. h.deaths.rest m spared };
}
  where
    by : (m : ℕ) → IsLinkedOrDead old mid m ⊎ HasGone old mid o m → IsLinkedOrDead old (with_proto mid o) m ⊎ HasGone old (with_proto mid o) o m
    by m (inl (inl links)) = inl (inl links)
    by m (inl (inr died)) = inl (inr (record { shared = died.shared; dead = died.dead }))
    by m (inr gone) = inr (record { was = gone.was; now = gone.now })

module _ {P : Type 0} where
  -- a prototype stays one
  pub how-still : (a b : ObjectsState P) (p : ℕ) → IsStill a b → IsTrue (root_in a.heap.view.trail p).is_proto → HowBecame a p b
  how-still a b p still is = record {
    marks = words-same a.heap.view.trail b.heap.view.trail p (ap (λ (s : ObjectsState P). s.heap.view.trail) still.is);
    own = λ m has shared. absurd (true≢false (sym is ∙ shared));
    owns = λ m has shared fast. absurd (true≢false (sym is ∙ shared));
    details = never-now (cause_in b.kept p) (BecameGets a.heap.view p) (λ f d got. true≢false (sym is ∙ got.shared)) (details-none (λ f. ap (λ (s : ObjectsState P). detail_in s.heap.view.trail f) still.is));
  }

  pub how-before : (a b c : ObjectsState P) (p : ℕ) → IsStill a b → HowBecame b p c → HowBecame a p c
  how-before a b c p still h = by (subst (λ (s : ObjectsState P). HowBecame s p c) still.is h)
    where
      by : HowBecame (with_loads a b.heap.desk.loads) p c → HowBecame a p c
      by k = record { marks = k.marks; own = k.own; owns = k.owns; details = k.details }

  -- a fast object left its map, and became one
  pub how-left : (a b c : ObjectsState P) (p : ℕ) (cause : Cause) → map_in b.heap.view.trail p ≡ None → Marks a.heap.view.trail b.heap.view.trail p → DetailsAre GetsNothing a.heap.view.trail b.heap.view.trail → c.heap.view.trail ≡ with_proto b.heap.view.trail p → cause_in c.kept p ≡ Some cause → HowBecame a p c
  how-left a b c p cause none marks details is slow = record {
    marks = subst (λ (t : Trail). Marks a.heap.view.trail t p) (sym is) (root-marks a.heap.view.trail b.heap.view.trail p none marks);
    own = λ m has shared. let f : None ≡ Some m = sym none ∙ sym (ap (λ (t : Trail). map_in t p) is) ∙ has in let g : ⊥ = cc in absurd g;
    owns = λ m has shared fast. let f : None ≡ Some cause = sym fast ∙ slow in let g : ⊥ = cc in absurd g;
    details = slow-now (cause_in c.kept p) (BecameGets a.heap.view p) cause slow (subst (λ (t : Trail). DetailsAre GetsNothing a.heap.view.trail t) (sym is) (details-on details (λ f. refl)));
  }
