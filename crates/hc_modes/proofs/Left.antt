-- A fast object that leaves its map for a dictionary, as what objects are before and after it.
use Rattle.std.proofs.Common.{◌≡◌, ℕ, zero, suc, ◌<◌, ◌≤◌, Bool, true, false, cond, List, [], ◌∷◌, Option, Some, None, length, set, refl, sym, ap, ◌∙◌, subst, arith, eq-eqb}
use Rattle.hc_board.specs.Trail.{Access}
use Rattle.hc_layout.specs.declared.words.MapBits.{MapBits}
use Rattle.hc_heap.specs.Writes.{Trail, Bits, ObjectMap}
use Rattle.hc_heap.specs.Readings.{bits_in, map_in, root_in}
use Rattle.hc_heap.specs.Kept.{DetailsRise, FormsAreKept, StableIsKept, UnusedSaysNothing}
use Rattle.hc_facts.specs.Laws.{HonestAfter, KeptIsCarried}
use Rattle.hc_heap.specs.Frames.{extends-none}
use Rattle.hc_heap.specs.States.{View, HeapState, IsHeap, Goes, one_load}
use Rattle.hc_tree.specs.Growth.{marked, IsUnmoved}
use Rattle.hc_tree.specs.Kept.{MapsAreKept, TreesStay}
use Rattle.hc_tree.specs.Tree.{IsTree}
use Rattle.hc_table.specs.Kept.{IsKept, with_world}
use Rattle.hc_table.specs.World.{Object, World, object}
use Rattle.hc_slots.specs.Meaning.{Dictionary, dictionary_object, object_shown}
use Rattle.hc_modes.specs.Meaning.{kept_of, world}
use Rattle.hc_slots.specs.Fast.{HasMap}
use Rattle.hc_modes.specs.State.{IsObjects, tables_of}
use Rattle.hc_modes.specs.Admitting.{FactsStay}
use Rattle.hc_modes.specs.Changes.{Stepped}
use Rattle.hc_modes.proofs.Facts.{none-facts}
use Rattle.hc_modes.proofs.Adding.{map-is}
use Rattle.hc_modes.proofs.Operations.{left-step}
use Rattle.hc_modes.proofs.Owning.{open-used}
use Rattle.hc_modes.proofs.Stepping.{stepped-world, stepped-sound}
use Rattle.hc_modes.proofs.Worlds.{object-world, length-world}
use Rattle.hc_modes.proofs.Writing.{has-map}

-- A heap that was only read

module _ {P : Type 0} where
  pub unmoved-one : (a b : HeapState P) → b ≡ record a { desk = one_load a.desk } → IsUnmoved a b
  unmoved-one a b is = is ∙ ap (λ (n : ℕ). let s : HeapState P = record a { desk = record a.desk { loads = n } } in s) (sym (ap (λ (s : HeapState P). s.desk.loads) is))

  pub unmoved-goes : (a b : HeapState P) → IsUnmoved a b → a.desk.loads ≤ b.desk.loads → Goes a.desk b.desk
  unmoved-goes a b is le = subst (λ (s : HeapState P). Goes a.desk s.desk) (sym is) (record { board = refl; trail = extends-none a.desk.trail; loads = le; met = extends-none a.desk.met })

  pub unmoved-went : (went : P → List Access → List Access → P → Type 0) → ((p : P) (t : List Access) → went p t t p) → (a b : HeapState P) → IsUnmoved a b → went a.pace a.desk.trail b.desk.trail b.pace
  unmoved-went went stays a b is = subst (λ (s : HeapState P). went a.pace a.desk.trail s.desk.trail s.pace) (sym is) (stays a.pace a.desk.trail)

-- an object that stays the same
pub set-object : (w : World) (o : ℕ) (x : Object) → o < length w → object w o ≡ x → set w o x ≡ w
set-object [] o x lt is = refl
set-object (y ∷ ys) zero x lt is = ap (λ (z : Object). z ∷ ys) (sym is)
set-object (y ∷ ys) (suc o) x lt is = ap (λ (zs : World). y ∷ zs) (set-object ys o x (omega arith) is)

-- what a fast object is
pub fast-is : (old : View) (kept : List (Option Dictionary)) (of_null : Option ℕ) → IsObjects old kept of_null → (o : ℕ) → o < length kept → kept_of kept o ≡ None → object (world old.trail kept) o ≡ object_shown old.trail o None (map_in old.trail o)
fast-is old kept of_null h o there fast = object-world old.trail kept o there ∙ ap (λ (i : Option Dictionary). object_shown old.trail o i (map_in old.trail o)) fast

module _ (maps : MapsAreKept) (details : DetailsRise) (trees : TreesStay) (unused : UnusedSaysNothing) (old : View) (kept : List (Option Dictionary)) (of_null : Option ℕ) (h : IsObjects old kept of_null) (o : ℕ) (there : o < length kept) (fast : kept_of kept o ≡ None) (m : ℕ) (is_map : map_in old.trail o ≡ Some m) where
  abbrev so : HasMap old.trail o
  so = has-map old kept of_null h o there fast

  same : so.map ≡ m
  same = map-is old kept of_null h o there fast m is_map

  -- the map is there
  pub map-used : m < old.used.maps
  map-used = subst (λ (x : ℕ). x < old.used.maps) same (open-used unused old h.heap so.map so.gate so.fast.is_open)

  module _ (d : Dictionary) (value : dictionary_object d ≡ object_shown old.trail o None (map_in old.trail o)) (new : View) (is : new ≡ record old { trail = ObjectMap o None ∷ marked old.trail m })
      (marked_tree : IsTree (marked old.trail m)) (marked_heap : IsHeap (record old { trail = marked old.trail m })) (heap : IsHeap new) where
    step-by : (x : ℕ) → x ≡ m → new ≡ record old { trail = ObjectMap o None ∷ marked old.trail x }
    step-by x e = subst (λ (y : ℕ). new ≡ record old { trail = ObjectMap o None ∷ marked old.trail y }) (sym e) is

    step : Stepped old new (Some d) o (dictionary_object d)
    step =
        let e = step-by so.map same in
        subst (λ (v : View). Stepped old v (Some d) o (dictionary_object d)) (sym e)
        (left-step maps details trees unused old kept of_null h o so d (subst IsHeap e heap)
        (subst (λ (x : ℕ). IsTree (marked old.trail x)) (sym same) marked_tree)
        (subst (λ (x : ℕ). IsHeap (record old { trail = marked old.trail x })) (sym same) marked_heap))

    still : set (world old.trail kept) o (dictionary_object d) ≡ world old.trail kept
    still = set-object (world old.trail kept) o (dictionary_object d) (subst (λ (n : ℕ). o < n) (sym (length-world old.trail kept)) there) (fast-is old kept of_null h o there fast ∙ sym value)

    -- the world stays
    pub left-world : world new.trail (set kept o (Some d)) ≡ world old.trail kept
    left-world = stepped-world maps details old new kept of_null h (Some d) o (dictionary_object d) there step ∙ still

    -- and what holds of objects holds
    pub left-sound : IsObjects new (set kept o (Some d)) of_null
    left-sound = stepped-sound maps details old new kept of_null h (Some d) o (dictionary_object d) there step (ap (λ (v : View). v.used.objects) is)
        (subst (λ (w : World). IsKept (with_world (tables_of old kept) w)) (sym still) h.sound)

    gone : map_in new.trail o ≡ None
    gone = ap (λ (v : View). map_in v.trail o) is ∙ ap (λ (b : Bool). cond b None (map_in (marked old.trail m) o)) (eq-eqb o o refl)

    -- fields stay honest, and constants stay
    pub left-facts : FormsAreKept → StableIsKept → HonestAfter → KeptIsCarried → FactsStay old.shape old.trail new.trail
    left-facts forms stable honest carried = none-facts maps details forms old new kept of_null h o step.changed stable honest carried gone

-- what no write of a map's bits changes is the same after a map was made unstable
pub marked-same : {T : Type 0} (t : Trail) (m : ℕ) (reading : Trail → T) → ((b : MapBits) → reading (Bits m b ∷ t) ≡ reading t) → reading (marked t m) ≡ reading t
marked-same {T} t m reading same = by (bits_in t m).unstable
  where
    by : (b : Bool) → reading (cond b t (Bits m (record { unstable = true; deprecated = (bits_in t m).deprecated }) ∷ t)) ≡ reading t
    by true = refl
    by false = same (record { unstable = true; deprecated = (bits_in t m).deprecated })

-- an object that leaves its map leaves all prototypes as they were
pub left-protos : (old new : View) (o m : ℕ) (h : Option ℕ) → new ≡ record old { trail = ObjectMap o h ∷ marked old.trail m } → (p : ℕ) → (root_in new.trail p).is_proto ≡ (root_in old.trail p).is_proto
left-protos old new o m h is p = ap (λ (v : View). (root_in v.trail p).is_proto) is ∙ marked-same old.trail m (λ (t : Trail). (root_in t p).is_proto) (λ b. refl)
