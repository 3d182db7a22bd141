-- What a store, and the handing out of items, keep.
use Rattle.std.proofs.Common.{◌≡◌, ℕ, ◌+◌, ◌<◌, ◌≤◌, ◌^◌, Bool, true, false, cond, Option, Some, None, List, [], ◌∷◌, ◌++◌, length, get_or, refl, sym, ap, ◌∙◌, subst, arith, eqb, eqb-true, IfSome}
use Rattle.std.proofs.Math.Nat.{le_trans}
use Rattle.hc_board.specs.Trail.{Access, image_of}
use Rattle.hc_board.specs.States.{WriterState}
use Rattle.hc_layout.specs.Shape.{items_of, words_of, IsShape}
use Rattle.hc_layout.specs.Place.{place_of}
use Rattle.hc_layout.specs.declared.place.Place.{Place}
use Rattle.hc_layout.specs.declared.shape.Shape.{Shape}
use Rattle.hc_layout.specs.declared.shape.Region.{Region}
use Rattle.hc_layout.specs.declared.shape.Region.TheVariants.{Maps, Entries, Fields, Links, Objects, Slots, Cells}
use Rattle.hc_heap.specs.declared.kind.Kind.{Kind}
use Rattle.hc_heap.specs.Kinds.{region_of, place_at}
use Rattle.hc_heap.specs.declared.kind.Kind.TheVariants.{GateOfMap, ParentOfMap, PrototypeOfMap, BitsOfMap, BaseOfMap, ArrayOfMap, HeadOfMap, KeyOfEntry, ReferenceOfEntry, OwnerOfField, DetailOfField, KeyOfLink, ChildOfLink, NextOfLink, MapOfObject, RootOfObject, StoreOfObject, CellOfObject, WordOfSlot, StateOfCell}
use Rattle.hc_layout.specs.Words.{gate_of, map_bits_of, array_of, root_of, store_of, cell_of}
use Rattle.hc_layout.specs.declared.words.ArrayWord.{ArrayWord}
use Rattle.hc_value.specs.Field.{detail_of}
use Rattle.hc_heap.specs.Readings.{base_in, array_in}
use Rattle.hc_heap.specs.Writes.{Write, Trail, kind_written, item_written, Gate, Parent, Prototype, Bits, Base, Array, Head, EntryKey, Reference, Owner, FieldDetail, LinkKey, LinkChild, LinkNext, ObjectMap, Root, Store, ObjectCell, Slot, Validity}
use Rattle.hc_heap.specs.Decode.{key_read, settled_number, optional_number, number_read, any_word, made, written, written_kind, written_place, write_of, put_before, typed}
use Rattle.hc_heap.specs.Lawful.{LawfulWrite, IsLawful, Lawful, AllWithin, IsWithin, IsAmong}
use Rattle.hc_heap.specs.States.{View, no_items, AreArraysThere, IsHeap, KeepsArrays, IsWords, HasRoom, with_items, with_write}
use Rattle.hc_heap.proofs.Forms.{is-written}
use Rattle.hc_heap.proofs.Places.{kind-back}
use Rattle.hc_heap.specs.Said.{word_in, Says}
use Rattle.hc_heap.proofs.Ties.{PlaceLaws}
use Rattle.hc_heap.proofs.Saying.{lawful-known, words-say}

put-last : (s : Shape) (stores : List Access) (store : Access) (t : Trail) → put_before s (stores ++ store ∷ []) t ≡ write_of s store ∷ put_before s stores t
unfolding put_before
put-last s [] store t = refl
put-last s (first ∷ rest) store t = put-last s rest store (write_of s first ∷ t)

-- one store more is one write more
pub typed-last : (s : Shape) (stores : List Access) (store : Access) → typed s (stores ++ store ∷ []) ≡ write_of s store ∷ typed s stores
unfolding typed
typed-last s stores store = put-last s stores store []

-- the store of an item's word
write-is : (s : Shape) (index w : ℕ) (kind : Kind) (x : ℕ) → place_of s index ≡ Some (place_at kind x) → write_of s (index, w) ≡ written kind x w
write-is s index w kind x e = ap (λ (o : Option Place). written_place o w) e ∙ ap (λ (o : Option Kind). written_kind o x w) (kind-back kind)

-- the write is to an item among those counted
among : (counts : Shape) (kind : Kind) (x : ℕ) (w : Write) → kind_written w ≡ Some kind → item_written w ≡ x → x < items_of counts (region_of kind) → IsWithin counts w
among counts kind x w a b h =
    subst (λ (o : Option Kind). IfSome o (λ k. IsAmong counts k (item_written w))) (sym a) (subst (λ (y : ℕ). y < items_of counts (region_of kind)) (sym b) h)

lawful-more : (s : Shape) (w : Write) (t : Trail) → Lawful s t → IsLawful s t w → Lawful s (w ∷ t)
unfolding Lawful
lawful-more s w t h l = (h, l)

within-more : (s : Shape) (w : Write) (t : Trail) → AllWithin s t → IsWithin s w → AllWithin s (w ∷ t)
unfolding AllWithin
within-more s w t h l = (h, l)

-- What a write leaves of the arrays of maps

-- a write keeps a map's array among the first entries
abbrev KeepsBy : ℕ → Trail → Write → Type 0
KeepsBy entries t (Base m b) = (base : ℕ) → b ≡ Some base → base + (array_in t m).capacity ≤ entries
KeepsBy entries t (Array m a) = (base : ℕ) → base_in t m ≡ Some base → base + a.capacity ≤ entries
KeepsBy entries t _ = Unit {0}

keeps-made : {T : Type 0} (entries : ℕ) (t : Trail) (form : ℕ → T → Write) (x : ℕ) (said : Option T) → ((v : T) → said ≡ Some v → KeepsBy entries t (form x v)) → KeepsBy entries t (made form x said)
keeps-made entries t form x (Some v) h = h v refl
keeps-made entries t form x None h = tt

keeps-of : (v : View) (kind : Kind) (x w : ℕ) → KeepsArrays v kind x w → KeepsBy v.used.entries v.trail (written kind x w)
keeps-of v GateOfMap x w h = keeps-made v.used.entries v.trail Gate x (gate_of w) (λ a e. tt)
keeps-of v ParentOfMap x w h = keeps-made v.used.entries v.trail Parent x (settled_number w) (λ a e. tt)
keeps-of v PrototypeOfMap x w h = keeps-made v.used.entries v.trail Prototype x (settled_number w) (λ a e. tt)
keeps-of v BitsOfMap x w h = keeps-made v.used.entries v.trail Bits x (map_bits_of w) (λ a e. tt)
keeps-of v BaseOfMap x w h = keeps-made v.used.entries v.trail Base x (optional_number w) (λ b e base is. h base (e ∙ ap Some is))
keeps-of v ArrayOfMap x w h = keeps-made v.used.entries v.trail Array x (array_of w) (λ a e base is. h a base e is)
keeps-of v HeadOfMap x w h = keeps-made v.used.entries v.trail Head x (optional_number w) (λ a e. tt)
keeps-of v KeyOfEntry x w h = keeps-made v.used.entries v.trail EntryKey x (key_read w) (λ a e. tt)
keeps-of v ReferenceOfEntry x w h = keeps-made v.used.entries v.trail Reference x (number_read w) (λ a e. tt)
keeps-of v OwnerOfField x w h = keeps-made v.used.entries v.trail Owner x (number_read w) (λ a e. tt)
keeps-of v DetailOfField x w h = keeps-made v.used.entries v.trail FieldDetail x (detail_of w) (λ a e. tt)
keeps-of v KeyOfLink x w h = keeps-made v.used.entries v.trail LinkKey x (key_read w) (λ a e. tt)
keeps-of v ChildOfLink x w h = keeps-made v.used.entries v.trail LinkChild x (number_read w) (λ a e. tt)
keeps-of v NextOfLink x w h = keeps-made v.used.entries v.trail LinkNext x (settled_number w) (λ a e. tt)
keeps-of v MapOfObject x w h = keeps-made v.used.entries v.trail ObjectMap x (optional_number w) (λ a e. tt)
keeps-of v RootOfObject x w h = keeps-made v.used.entries v.trail Root x (root_of w) (λ a e. tt)
keeps-of v StoreOfObject x w h = keeps-made v.used.entries v.trail Store x (store_of w) (λ a e. tt)
keeps-of v CellOfObject x w h = keeps-made v.used.entries v.trail ObjectCell x (optional_number w) (λ a e. tt)
keeps-of v WordOfSlot x w h = keeps-made v.used.entries v.trail Slot x (any_word w) (λ a e. tt)
keeps-of v StateOfCell x w h = keeps-made v.used.entries v.trail Validity x (cell_of w) (λ a e. tt)

base-case : (entries : ℕ) (t : Trail) (n m base : ℕ) (b : Option ℕ) (test : Bool) → eqb n m ≡ test → ((x : ℕ) → b ≡ Some x → x + (array_in t n).capacity ≤ entries) → AreArraysThere entries t → cond test b (base_in t m) ≡ Some base → base + (array_in t m).capacity ≤ entries
base-case entries t n m base b true e k h is = subst (λ (x : ℕ). base + (array_in t x).capacity ≤ entries) (eqb-true n m e) (k base is)
base-case entries t n m base b false e k h is = h m base is

array-case : (entries : ℕ) (t : Trail) (n m base : ℕ) (a : ArrayWord) (test : Bool) → eqb n m ≡ test → ((x : ℕ) → base_in t n ≡ Some x → x + a.capacity ≤ entries) → AreArraysThere entries t → base_in t m ≡ Some base → base + (cond test a (array_in t m)).capacity ≤ entries
array-case entries t n m base a true e k h is = k base (ap (base_in t) (eqb-true n m e) ∙ is)
array-case entries t n m base a false e k h is = h m base is

arrays-on : (entries : ℕ) (t : Trail) (w : Write) → KeepsBy entries t w → AreArraysThere entries t → AreArraysThere entries (w ∷ t)
arrays-on entries t (Base n b) k h = λ m base is. base-case entries t n m base b (eqb n m) refl k h is
arrays-on entries t (Array n a) k h = λ m base is. array-case entries t n m base a (eqb n m) refl k h is
arrays-on entries t _ k h = h

abbrev with_trail : View → Trail → View
with_trail v t = record v { trail = t }

-- what a store leaves
pub record IsStored (v : View) (d : WriterState) (kind : Kind) (x index w : ℕ) : Type 0 where
  pub trail : typed v.shape (d.trail ++ (index, w) ∷ []) ≡ written kind x w ∷ v.trail
  pub heap : IsHeap (record v { trail = typed v.shape (d.trail ++ (index, w) ∷ []) })

pub after-store : (v : View) (d : WriterState) (kind : Kind) (x index w : ℕ) → IsWords v d → x < items_of v.used (region_of kind) → LawfulWrite v.shape v.trail (written kind x w) → KeepsArrays v kind x w → place_of v.shape index ≡ Some (place_at kind x) → IsStored v d kind x index w
after-store v d kind x index w is handed lawful keeps at =
    let trail : typed v.shape (d.trail ++ (index, w) ∷ []) ≡ written kind x w ∷ v.trail =
    typed-last v.shape d.trail (index, w) ∙ (ap (λ (a : Write). a ∷ typed v.shape d.trail) (write-is v.shape index w kind x at) ∙ ap (λ (t : Trail). written kind x w ∷ t) (sym is.desk.trail)) in
    let k = is-written kind x w (lawful-known v.shape v.trail (written kind x w) lawful) in
    let most = is.heap.most (region_of kind) in
    let there : x < items_of v.shape (region_of kind) = omega arith in
    let new : IsHeap (record v { trail = written kind x w ∷ v.trail }) = record {
      shape = is.heap.shape;
      lawful = lawful-more v.shape (written kind x w) v.trail is.heap.lawful (record { within = among v.shape kind x (written kind x w) k.0 k.1 there; lawful = lawful });
      used = within-more v.used (written kind x w) v.trail is.heap.used (among v.used kind x (written kind x w) k.0 k.1 handed);
      most = is.heap.most;
      arrays = arrays-on v.used.entries v.trail (written kind x w) (keeps-of v kind x w keeps) is.heap.arrays;
    } in
    record {
      trail = trail;
      heap = subst (λ (t : Trail). IsHeap (record v { trail = t })) (sym trail) new;
    }

-- a region's count, after one was set
count-rises : (r q : Region) (n : ℕ) (s : Shape) → items_of s r ≤ n → items_of s q ≤ items_of (with_items r n s) q
count-rises Maps Maps n s h = h
count-rises Entries Entries n s h = h
count-rises Fields Fields n s h = h
count-rises Links Links n s h = h
count-rises Objects Objects n s h = h
count-rises Slots Slots n s h = h
count-rises Cells Cells n s h = h
count-rises Maps q n s h = grind arith
count-rises Entries q n s h = grind arith
count-rises Fields q n s h = grind arith
count-rises Links q n s h = grind arith
count-rises Objects q n s h = grind arith
count-rises Slots q n s h = grind arith
count-rises Cells q n s h = grind arith

count-below : (r q : Region) (n : ℕ) (s shape : Shape) → ((p : Region) → items_of s p ≤ items_of shape p) → n ≤ items_of shape r → items_of (with_items r n s) q ≤ items_of shape q
count-below Maps Maps n s shape h k = k
count-below Entries Entries n s shape h k = k
count-below Fields Fields n s shape h k = k
count-below Links Links n s shape h k = k
count-below Objects Objects n s shape h k = k
count-below Slots Slots n s shape h k = k
count-below Cells Cells n s shape h k = k
count-below Maps q n s shape h k = h q
count-below Entries q n s shape h k = h q
count-below Fields q n s shape h k = h q
count-below Links q n s shape h k = h q
count-below Objects q n s shape h k = h q
count-below Slots q n s shape h k = h q
count-below Cells q n s shape h k = h q

within-case : (a b : Shape) (o : Option Kind) (x : ℕ) → ((q : Region) → items_of a q ≤ items_of b q) → IfSome o (λ k. IsAmong a k x) → IfSome o (λ k. IsAmong b k x)
within-case a b None x h w = tt
within-case a b (Some k) x h w = let below : x < items_of a (region_of k) = w in let more = h (region_of k) in omega arith

within-wider : (a b : Shape) (t : Trail) → ((q : Region) → items_of a q ≤ items_of b q) → AllWithin a t → AllWithin b t
unfolding AllWithin
within-wider a b [] h w = tt
within-wider a b (x ∷ t) h w = (within-wider a b t h w.0, within-case a b (kind_written x) (item_written x) h w.1)

-- items that are handed out
pub after-fresh : (v : View) (d : WriterState) (r : Region) (n : ℕ) → IsWords v d → HasRoom v r n → IsWords (record v { used = with_items r (items_of v.used r + n) v.used }) d
after-fresh v d r n is room = record {
  heap = record {
    shape = is.heap.shape;
    lawful = is.heap.lawful;
    used = within-wider v.used (with_items r (items_of v.used r + n) v.used) v.trail (λ q. count-rises r q (items_of v.used r + n) v.used (omega arith)) is.heap.used;
    most = λ q. count-below r q (items_of v.used r + n) v.used v.shape is.heap.most room;
    arrays = λ m base e. le_trans (is.heap.arrays m base e) (count-rises r Entries (items_of v.used r + n) v.used (omega arith));
  };
  desk = record { width = is.desk.width; trail = is.desk.trail };
}

-- the word that a load finds
pub load-says : PlaceLaws → (v : View) (d : WriterState) (kind : Kind) (x index word : ℕ) → IsWords v d → ((words : List ℕ) → length words ≡ words_of v.shape → get_or words index 0 ≡ word_in v.shape words kind x)
    → length (image_of d.board.words d.trail) ≡ d.board.words → word ≡ get_or (image_of d.board.words d.trail) index 0 → Says kind v.trail x word
load-says laws v d kind x index word is at wide e =
    let s : Shape = v.shape in
    let lawful : Lawful s (typed s d.trail) = subst (Lawful s) is.desk.trail is.heap.lawful in
    let said : Says kind (typed s d.trail) x (word_in s (image_of (words_of s) d.trail) kind x) = words-say laws s d.trail lawful kind x in
    let found : word ≡ word_in s (image_of (words_of s) d.trail) kind x =
    e ∙ (at (image_of d.board.words d.trail) (wide ∙ is.desk.width) ∙ ap (λ (n : ℕ). word_in s (image_of n d.trail) kind x) is.desk.width) in
    subst (λ (t : Trail). Says kind t x word) (sym is.desk.trail) (subst (Says kind (typed s d.trail) x) (sym found) said)

-- the view of the parts
abbrev pub view_of : Shape → Shape → WriterState → View
view_of shape used d = record { shape = shape; trail = typed shape d.trail; used = used }

-- the words after a store, seen by their parts
pub record HasStored (shape used : Shape) (d new : WriterState) (kind : Kind) (x w : ℕ) : Type 0 where
  pub view : view_of shape used new ≡ with_write (view_of shape used d) (written kind x w)
  pub words : IsWords (view_of shape used new) new

pub has-stored : (shape used : Shape) (d new : WriterState) (kind : Kind) (x index w : ℕ) → new ≡ record d { trail = d.trail ++ (index, w) ∷ [] } → IsWords (view_of shape used d) d → x < items_of used (region_of kind)
    → LawfulWrite shape (typed shape d.trail) (written kind x w) → KeepsArrays (view_of shape used d) kind x w → place_of shape index ≡ Some (place_at kind x) → HasStored shape used d new kind x w
has-stored shape used d new kind x index w e is handed lawful keeps at =
    let stored = after-store (view_of shape used d) d kind x index w is handed lawful keeps at in
    let last : WriterState = record d { trail = d.trail ++ (index, w) ∷ [] } in
    subst (λ (n : WriterState). HasStored shape used d n kind x w) (sym e)
    (record {
      view = ap (λ (t : Trail). with_trail (view_of shape used d) t) stored.trail;
      words = record { heap = stored.heap; desk = record { width = is.desk.width; trail = refl } };
    })

pub items-fit : (s : Shape) (r : Region) → IsShape s → items_of s r < 2 ^ 32
items-fit s Maps h = let a = h.maps in omega arith
items-fit s Entries h = let a = h.entries in omega arith
items-fit s Fields h = let a = h.fields in omega arith
items-fit s Links h = let a = h.links in omega arith
items-fit s Objects h = let a = h.objects in omega arith
items-fit s Slots h = let a = h.slots in omega arith
items-fit s Cells h = let a = h.cells in omega arith

typed-none : (s : Shape) → typed s [] ≡ []
unfolding typed put_before
typed-none s = refl

lawful-none : (s : Shape) → Lawful s []
unfolding Lawful
lawful-none s = tt

within-none : (s : Shape) → AllWithin s []
unfolding AllWithin
within-none s = tt

no-items : (r : Region) (n : ℕ) → items_of no_items r ≤ n
no-items Maps n = omega arith
no-items Entries n = omega arith
no-items Fields n = omega arith
no-items Links n = omega arith
no-items Objects n = omega arith
no-items Slots n = omega arith
no-items Cells n = omega arith

-- a new board
pub record HasOpened (shape : Shape) (d : WriterState) : Type 0 where
  pub view : view_of shape no_items d ≡ record { shape = shape; trail = []; used = no_items }
  pub words : IsWords (view_of shape no_items d) d

pub has-opened : (shape : Shape) (d : WriterState) → IsShape shape → d.trail ≡ [] → d.board.words ≡ words_of shape → HasOpened shape d
has-opened shape d fits none width =
    let trail : typed shape d.trail ≡ [] = ap (typed shape) none ∙ typed-none shape in
    record {
      view = ap (λ (t : Trail). with_trail (view_of shape no_items d) t) trail;
      words = record {
        heap = record {
          shape = fits;
          lawful = subst (Lawful shape) (sym trail) (lawful-none shape);
          used = subst (AllWithin no_items) (sym trail) (within-none no_items);
          most = λ r. no-items r (items_of shape r);
          arrays = subst (AreArraysThere 0) (sym trail) (λ m base is. let n : ⊥ = cc in absurd n);
        };
        desk = record { width = width; trail = refl };
      };
    }
