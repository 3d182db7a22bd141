-- A question is safe on a lawful trail: each item that it looks at is there, and each word that it may read leads on safely.
use Rattle.std.proofs.Common.{◌≡◌, ℕ, zero, suc, ◌+◌, ◌-◌, ◌<◌, ◌≤◌, ◌&&◌, Bool, true, false, cond, Option, Some, None, IsSome, is_some, IfSome, true≢false, List, [], ◌∷◌, ◌++◌, length, refl, sym, ap, ◌∙◌, subst, arith, ltb, ltb-true, ltb-false, lt-ltb}
use Rattle.std.specs.Prelude.{if◌then◌else◌, ◌==◌, IsSomeAnd, All}
use Rattle.std.proofs.Math.Nat.{le_refl}
use Rattle.std.proofs.lemmas.List.Elements.{All-head, All-tail, All-weaker}
use Rattle.hc_board.specs.Trail.{Access, word_at}
use Rattle.hc_layout.specs.Shape.{items_of, words_of}
use Rattle.hc_layout.specs.Place.{index_of}
use Rattle.hc_layout.specs.Words.{gate_of, map_bits_of, store_of}
use Rattle.hc_layout.specs.declared.shape.Shape.{Shape}
use Rattle.hc_layout.specs.declared.words.GateWord.{GateWord}
use Rattle.hc_layout.specs.declared.words.MapBits.{MapBits}
use Rattle.hc_value.specs.Attrs.{bits_of, is_read_only}
use Rattle.hc_value.specs.Field.{detail_of}
use Rattle.hc_value.specs.declared.field.Constness.{Constness}
use Rattle.hc_value.specs.declared.field.Constness.TheVariants.{Const, Mutable}
use Rattle.hc_value.specs.declared.field.Detail.{Detail}
use Rattle.hc_value.specs.declared.field.Rep.{Rep}
use Rattle.hc_value.specs.declared.key.Key.{Key}
use Rattle.hc_value.specs.declared.prop.Kind.{Kind as PropertyKind}
use Rattle.hc_value.specs.declared.prop.Kind.TheVariants.{DataProp, AccessorProp}
use Rattle.hc_heap.specs.Writes.{Trail}
use Rattle.hc_heap.specs.Decode.{typed, key_read, settled_number, optional_number, number_read, any_word}
use Rattle.hc_heap.specs.Kinds.{region_of, place_at}
use Rattle.hc_heap.specs.Said.{Says}
use Rattle.hc_heap.specs.Readings.{gate_in, prototype_in, bits_in, base_in, head_in, entry_key_in, reference_in, detail_in, link_key_in, link_child_in, link_next_in, map_in, store_in, slot_in}
use Rattle.hc_heap.specs.Lawful.{Lawful, RisesTo, IsField, IsChildBy, HasEntryFor, key_from, field_from}
use Rattle.hc_heap.specs.Kept.{at, GoesOn, FormsHold, WrittenStays, LawfulAtEach, PositionsGoOn, WrittenIsKept, DetailsRise, StoresGrow, GatesAreOpen, FormsAreKept, WordsSay, UnusedSaysNothing, WritesAreWithin}
use Rattle.hc_heap.specs.declared.kind.Kind.{Kind}
use Rattle.hc_heap.specs.declared.kind.Kind.TheVariants.{GateOfMap, PrototypeOfMap, BitsOfMap, BaseOfMap, HeadOfMap, KeyOfEntry, ReferenceOfEntry, DetailOfField, KeyOfLink, ChildOfLink, NextOfLink, MapOfObject, StoreOfObject, WordOfSlot}
use Rattle.hc_links.specs.Chains.{links_in}
use Rattle.hc_links.specs.Laws.{AreChained, LeadsToChild, LinksAreChained, LinksLead}
use Rattle.hc_plan.specs.Chains.{Hop, with_hop}
use Rattle.hc_plan.specs.declared.case.Case.{Case}
use Rattle.hc_plan.specs.declared.case.Op.{Op}
use Rattle.hc_plan.specs.declared.case.Op.TheVariants.{Load, Store}
use Rattle.hc_plan.specs.declared.case.Site.{Site}
use Rattle.hc_plan.specs.declared.case.Way.TheVariants.{Own, Holder, Constant, Absent, Getter, StoreOwn, Add, Setter, Reject}
use Rattle.hc_plan.specs.declared.lists.TheConstants.{MAX_CHAIN}
use Rattle.hc_plan.specs.declared.skip.Skip.{Skip}
use Rattle.hc_plan.specs.declared.skip.Skip.TheVariants.{Dead, SlowHolder, Deep, ConstField, NoLink, PrototypeMap}
use Rattle.hc_broker.specs.Peeks.{index_asked}
use Rattle.hc_question.specs.declared.outcome.Answer.{Answer}
use Rattle.hc_question.specs.declared.outcome.Answer.TheVariants.{Found, Skipped}
use Rattle.hc_question.specs.Ask.{Ask, stop, look, with_word, ask, ask_gate, ask_proto, ask_bits, ask_base, ask_head, ask_detail, ask_link_child, ask_link_next, ask_store}
use Rattle.hc_question.specs.Question.{Then, Entry, ask_field, own_field, constant_slot, held_by, held_field, stored_to, stored_field, child_field, child_entries, child_gate, child_bits, of_child, is_data, is_added, linked, links_from, of_add, own_found, own_entry, held_found, held_entry, absent, matched, search, entries_from, in_map, holder_proto, holder_gate, of_object, walk, of_gate, of_bits, of_map, answered, of_maps, question}
use Rattle.hc_question.specs.Laws.{IsSafe}
use Rattle.hc_answers.specs.Laws.{LinksAreFew, AreWritten, QuestionsAreSafe}
use Rattle.hc_answers.proofs.Few.{some-and, and-by}

-- what holds of all lawful trails
pub record TrailLaws : Type 0 where
  pub at_each : LawfulAtEach
  pub go_on : PositionsGoOn
  pub say : WordsSay
  pub nothing : UnusedSaysNothing
  pub within : WritesAreWithin
  pub kept : WrittenIsKept
  pub rise : DetailsRise
  pub grow : StoresGrow
  pub opened : GatesAreOpen
  pub forms : FormsAreKept
  pub chained : LinksAreChained
  pub lead : LinksLead
  pub few : LinksAreFew

pub some-of : {T : Type 0} (o : Option T) → IsSome o → (v : T) × (o ≡ Some v)
some-of (Some v) h = (v, refl)
some-of None h = absurd (true≢false (sym h))

pub is-some : {T : Type 0} (o : Option T) (v : T) → o ≡ Some v → IsSome o
is-some o v e = ap is_some e

over : (p q r : ℕ) → p ≤ q → q ≤ r → p ≤ r
over p q r h k = omega (arith, h, k)

-- a lawful trail of stores, and the last position of the reads
module _ (laws : TrailLaws) (s : Shape) (stores : List Access) (upto : ℕ) (lawful : Lawful s (typed s stores)) where
  -- the writes up to a position
  abbrev pub here : ℕ → Trail
  here p = at p (typed s stores)

  pub lawful-at : (p : ℕ) → Lawful s (here p)
  lawful-at p = laws.at_each s (typed s stores) p lawful

  pub goes : (p q : ℕ) → p ≤ q → GoesOn s (here p) (here q)
  goes p q h = laws.go_on s (typed s stores) p q h lawful

  pub stays : (p q : ℕ) → p ≤ q → WrittenStays (here p) (here q)
  stays p q h = laws.kept s (here p) (here q) (goes p q h)

  pub forms : (p : ℕ) → FormsHold s (here p)
  forms p = laws.forms s (here p) (lawful-at p)

  abbrev pub Safe : ℕ → Ask → Type 0
  Safe p asked = IsSafe s (words_of s) stores p upto asked

  -- what is safe at each of the positions from here on
  abbrev pub Onward : ℕ → (ℕ → Type 0) → Type 0
  Onward p P = (q : ℕ) → p ≤ q → q ≤ upto → P q

  -- the word of an item at a position
  abbrev pub word : Kind → ℕ → ℕ → ℕ
  word kind item p = word_at (words_of s) stores p (index_of s (place_at kind item))

  pub says : (kind : Kind) (item p : ℕ) → item < items_of s (region_of kind) → Says kind (here p) item (word kind item p)
  says kind item p h = laws.say s stores p kind item lawful h

  index-there : (kind : Kind) (item : ℕ) → item < items_of s (region_of kind) → index_of s (place_at kind item) ≡ index_asked s kind item
  index-there kind item h = ap (λ (b : Bool). cond b (index_of s (place_at kind item)) (words_of s)) (sym (lt-ltb item (items_of s (region_of kind)) h))

  safe-look : (kind : Kind) (item p : ℕ) (next : ℕ → Ask) → item < items_of s (region_of kind) → Onward p (λ q. Safe q (next (word kind item q))) → Safe p (look kind item next)
  unfolding IsSafe
  safe-look kind item p next there h = (
    lt-ltb item (items_of s (region_of kind)) there,
    λ q a b. subst (λ (i : ℕ). IsSafe s (words_of s) stores q upto (next (word_at (words_of s) stores q i))) (index-there kind item there) (h q a b),
  )

  -- the look at a word whose form says what the trail says
  pub safe-ask : {T : Type 0} (kind : Kind) (form : ℕ → Option T) (item p : ℕ) (next : T → Ask) (reading : Trail → Option T) → item < items_of s (region_of kind)
      → ((q : ℕ) → form (word kind item q) ≡ reading (here q))
      → Onward p (λ q. (v : T) × (reading (here q) ≡ Some v) × Safe q (next v))
      → Safe p (ask kind form item next)
  safe-ask {T} kind form item p next reading there said h =
      safe-look kind item p (λ w. with_word (form w) next) there
      (λ q a b. let v = h q a b in subst (λ (o : Option T). Safe q (with_word o next)) (sym (said q ∙ v.1)) v.2)

  safe-if : (test : Bool) (p : ℕ) (one other : Ask) → (test ≡ true → Safe p one) → (test ≡ false → Safe p other) → Safe p (if test then one else other)
  safe-if true p one other h k = h refl
  safe-if false p one other h k = k refl

  later : (P : ℕ → Type 0) (p q : ℕ) → p ≤ q → Onward p P → Onward q P
  later P p q h on = λ r a b. on r (over p q r h a) b

  -- Maps

  abbrev IsGate : ℕ → ℕ → GateWord → Type 0
  IsGate p m g = gate_in (here p) m ≡ Some g

  gate-on : (p q m : ℕ) (g : GateWord) → p ≤ q → IsGate p m g → IsGate q m g
  gate-on p q m g h e = (stays p q h).gate m g e

  map-case : (p m : ℕ) (g : GateWord) (test : Bool) → ltb m s.maps ≡ test → IsGate p m g → m < s.maps
  map-case p m g true e h = ltb-true m s.maps e
  map-case p m g false e h =
      let none : gate_in (here p) m ≡ None = laws.nothing s (here p) GateOfMap m (laws.within s (here p) (lawful-at p)) (ltb-false m s.maps e) in
      let no : ⊥ = cc in absurd no

  map-there : (p m : ℕ) (g : GateWord) → IsGate p m g → m < s.maps
  map-there p m g h = map-case p m g (ltb m s.maps) refl h

  bits-safe : (p m : ℕ) (next : MapBits → Ask) → m < s.maps → Onward p (λ q. (b : MapBits) → Safe q (next b)) → Safe p (ask_bits m next)
  bits-safe p m next there on = safe-ask BitsOfMap map_bits_of m p next (λ t. Some (bits_in t m)) there (λ q. says BitsOfMap m q there) (λ q a b. (bits_in (here q) m, refl, on q a b (bits_in (here q) m)))

  gate-safe : (p m : ℕ) (g : GateWord) (next : GateWord → Ask) → IsGate p m g → Onward p (λ q. Safe q (next g)) → Safe p (ask_gate m next)
  gate-safe p m g next gate on =
      let there : m < s.maps = map-there p m g gate in
      safe-ask GateOfMap gate_of m p next (λ t. gate_in t m) there (λ q. says GateOfMap m q there) (λ q a b. (g, gate-on p q m g a gate, on q a b))

  abbrev IsObject : Option ℕ → Type 0
  IsObject proto = IfSome proto (λ o. o < s.objects)

  object-there : (p m : ℕ) (proto : Option ℕ) → prototype_in (here p) m ≡ Some proto → IsObject proto
  object-there p m None e = tt
  object-there p m (Some o) e = ((forms p).prototype m o e).0

  proto-safe : (p m : ℕ) (g : GateWord) (next : Option ℕ → Ask) → IsGate p m g → Onward p (λ q. (proto : Option ℕ) → IsObject proto → Safe q (next proto)) → Safe p (ask_proto m next)
  proto-safe p m g next gate on =
      let there : m < s.maps = map-there p m g gate in
      safe-ask PrototypeOfMap settled_number m p next (λ t. prototype_in t m) there (λ q. says PrototypeOfMap m q there)
      (λ q a b. let v = some-of (prototype_in (here q) m) (laws.opened s (here q) m g (lawful-at q) (gate-on p q m g a gate)).prototype in
      (v.0, v.1, on q a b v.0 (object-there q m v.0 v.1)))

  -- Entries and fields

  detail-on : (p q f : ℕ) → p ≤ q → IsSome (detail_in (here p) f) → IsSome (detail_in (here q) f)
  detail-on p q f h some =
      let d = some-of (detail_in (here p) f) some in
      let e = some-and (λ e. RisesTo d.0 e) (detail_in (here q) f) (laws.rise s (here p) (here q) f d.0 (goes p q h) d.1) in
      is-some (detail_in (here q) f) e.0 e.1

  -- an entry is there, and its field, which has its detail
  record IsEntry (p entry : ℕ) : Type 0 where
    there : entry < s.entries
    field : ℕ
    is_field : reference_in (here p) entry ≡ Some field
    field_there : field < s.fields
    detail : IsSome (detail_in (here p) field)

  -- an entry that has its key
  record IsKeyed (p entry : ℕ) : Type 0 where
    key : IsSome (entry_key_in (here p) entry)
    made : IsEntry p entry

  entry-on : (p q entry : ℕ) → p ≤ q → IsEntry p entry → IsEntry q entry
  entry-on p q entry h e = record {
    there = e.there;
    field = e.field;
    is_field = (stays p q h).reference entry e.field e.is_field;
    field_there = e.field_there;
    detail = detail-on p q e.field h e.detail;
  }

  field-safe : (p entry : ℕ) (next : ℕ → Detail → Ask) → IsEntry p entry → Onward p (λ q. (f : ℕ) (d : Detail) → Safe q (next f d)) → Safe p (ask_field entry next)
  field-safe p entry next e on =
      safe-ask ReferenceOfEntry number_read entry p (λ f. ask_detail f (next f)) (λ t. reference_in t entry) e.there (λ q. says ReferenceOfEntry entry q e.there)
      (λ q a b. (
        e.field,
        (stays p q a).reference entry e.field e.is_field,
        safe-ask DetailOfField detail_of e.field q (next e.field) (λ t. detail_in t e.field) e.field_there (λ r. says DetailOfField e.field r e.field_there)
            (λ r c d. let low : p ≤ r = over p q r a c in
            let v = some-of (detail_in (here r) e.field) (detail-on p r e.field low e.detail) in
            (v.0, v.1, on r low d e.field v.0)),
      ))

  entries-at : (p m first k : ℕ) (g : GateWord) → IsGate p m g → base_in (here p) m ≡ Some first → k < g.entries → IsKeyed p (first + k)
  entries-at p m first k g gate base less =
      let opened = laws.opened s (here p) m g (lawful-at p) gate in
      let f = some-and (λ f. IsField (here p) f) (reference_in (here p) (first + k))
      (subst (λ (b : Option ℕ). IsSomeAnd (field_from (here p) b k) (λ f. IsField (here p) f)) base (opened.entries.fields k less)) in
      record {
        key = subst (λ (b : Option ℕ). IsSome (key_from (here p) b k)) base (opened.entries.keys k less);
        made = record {
          there = and-by (λ e. e + k < s.entries) (base_in (here p) m) first base ((forms p).base m g k gate less);
          field = f.0;
          is_field = f.1;
          field_there = (forms p).reference (first + k) f.0 f.1;
          detail = f.2.detail;
        };
      }

  base-safe : (p m : ℕ) (g : GateWord) (next : ℕ → Ask) → IsGate p m g → 0 < g.entries → Onward p (λ q. (first : ℕ) → ((k : ℕ) → k < g.entries → IsKeyed q (first + k)) → Safe q (next first))
      → Safe p (ask_base m (λ base. with_word base next))
  base-safe p m g next gate some on =
      let there : m < s.maps = map-there p m g gate in
      safe-ask BaseOfMap optional_number m p (λ base. with_word base next) (λ t. Some (base_in t m)) there (λ q. says BaseOfMap m q there)
      (λ q a b. let still = gate-on p q m g a gate in
      let first = some-and (λ e. e + 0 < s.entries) (base_in (here q) m) ((forms q).base m g 0 still some) in
      (base_in (here q) m, refl, subst (λ (o : Option ℕ). Safe q (with_word o next)) (sym first.1) (on q a b first.0 (λ k less. entries-at q m first.0 k g still first.1 less))))

  module _ (name first n p : ℕ) (found : Entry) (missing : Ask) (keyed : (k : ℕ) → k < n → IsKeyed p (first + k))
      (on-found : Onward p (λ q. (entry slot : ℕ) (key : Key) → slot < n → IsEntry q entry → Safe q (found entry slot key))) (on-missing : Onward p (λ q. Safe q missing)) where
    search-safe : (left entry q : ℕ) → entry + left ≡ first + n → first ≤ entry → p ≤ q → q ≤ upto → Safe q (search name first entry left found missing)
    unfolding search
    search-safe zero entry q e low a b = on-missing q a b
    search-safe (suc left) entry q e low a b =
        let less : entry - first < n = omega (arith, e, low) in
        let is : first + (entry - first) ≡ entry = omega (arith, low) in
        let k : IsKeyed p entry = subst (λ (x : ℕ). IsKeyed p x) is (keyed (entry - first) less) in
        let key = some-of (entry_key_in (here p) entry) k.key in
        safe-ask KeyOfEntry key_read entry q (matched name first entry found (search name first (entry + 1) left found missing)) (λ t. entry_key_in t entry) k.made.there (λ r. says KeyOfEntry entry r k.made.there)
        (λ r c d. let on : p ≤ r = over p q r a c in (
          key.0,
          (stays p r on).entry_key entry key.0 key.1,
          safe-if (key.0.name == name) r (found entry (entry - first) key.0) (search name first (entry + 1) left found missing)
              (λ _. on-found r on d entry (entry - first) key.0 less (entry-on p r entry on k.made))
              (λ _. search-safe left (entry + 1) r (omega (arith, e)) (omega (arith, low)) on d),
        ))

  not-none : (n : ℕ) → (n == 0) ≡ false → 0 < n
  not-none n e = grind (arith, e)

  map-safe : (name p m : ℕ) (g : GateWord) (found : Entry) (missing : Ask) → IsGate p m g → p ≤ upto
      → Onward p (λ q. (entry slot : ℕ) (key : Key) → slot < g.entries → IsEntry q entry → Safe q (found entry slot key)) → Onward p (λ q. Safe q missing)
      → Safe p (in_map name m g.entries found missing)
  map-safe name p m g found missing gate last on-found on-missing =
      safe-if (g.entries == 0) p missing (ask_base m (entries_from name g.entries found missing))
      (λ _. on-missing p (le_refl p) last)
      (λ e. base-safe p m g (λ first. search name first first g.entries found missing) gate (not-none g.entries e)
      (λ q a b first keyed. search-safe name first g.entries q found missing keyed
      (later (λ r. (entry slot : ℕ) (key : Key) → slot < g.entries → IsEntry r entry → Safe r (found entry slot key)) p q a on-found) (later (λ r. Safe r missing) p q a on-missing)
      g.entries first q refl (le_refl first) (le_refl q) b))

  -- What follows once a map has its answer

  abbrev Follows : ℕ → Then → Type 0
  Follows p next = Onward p (λ q. (chain : List Hop) (answer : Answer) → Safe q (next chain answer))

  follows-on : (p q : ℕ) (next : Then) → p ≤ q → Follows p next → Follows q next
  follows-on p q next h on = later (λ r. (chain : List Hop) (answer : Answer) → Safe r (next chain answer)) p q h on

  -- The receiver's own property

  stored-safe : (p slot field : ℕ) (detail : Detail) (chain : List Hop) (next : Then) → p ≤ upto → Follows p next → (c : Constness) → Safe p (stored_to c slot field detail chain next)
  stored-safe p slot field detail chain next last on Const = on p (le_refl p) last chain (Skipped (ConstField field))
  stored-safe p slot field detail chain next last on Mutable = on p (le_refl p) last chain (Found (StoreOwn slot field detail.rep detail.class))

  module _ (p entry slot : ℕ) (chain : List Hop) (next : Then) (last : p ≤ upto) (on : Follows p next) (made : IsEntry p entry) where
    own-safe : (op : Op) (kind : PropertyKind) (read_only : Bool) → Safe p (own_found op kind read_only chain next entry slot)
    own-safe Load DataProp read_only = field-safe p entry (own_field slot chain next) made (λ q a b f d. on q a b chain (Found (Own slot f d.rep)))
    own-safe Load AccessorProp read_only = on p (le_refl p) last chain (Found (Getter None slot))
    own-safe Store DataProp read_only =
        safe-if read_only p (next chain (Found Reject)) (ask_field entry (stored_field slot chain next)) (λ _. on p (le_refl p) last chain (Found Reject))
        (λ _. field-safe p entry (stored_field slot chain next) made (λ q a b f d. stored-safe q slot f d chain next b (follows-on p q next a on) d.constness))
    own-safe Store AccessorProp read_only = on p (le_refl p) last chain (Found (Setter None slot))

  -- A property of an object of the chain

  -- the object has a slot of this number
  abbrev HasSlot : ℕ → ℕ → ℕ → Type 0
  HasSlot p object slot = slot < (store_in (here p) object).capacity

  slot-on : (p q object slot : ℕ) → p ≤ q → HasSlot p object slot → HasSlot q object slot
  slot-on p q object slot h has =
      let more : (store_in (here p) object).capacity ≤ (store_in (here q) object).capacity = laws.grow s (here p) (here q) object (goes p q h) in omega (arith, more, has)

  slot-there : (p object slot first : ℕ) → HasSlot p object slot → (store_in (here p) object).first ≡ Some first → first + slot < s.slots
  slot-there p object slot first has e =
      let slots = subst (λ (o : Option ℕ). IfSome o (λ f. (f < s.slots) × (f + (store_in (here p) object).capacity ≤ s.slots))) e ((forms p).slots object) in
      let within : first + (store_in (here p) object).capacity ≤ s.slots = slots.1 in
      omega (arith, within, has)

  constant-safe : (p object slot field : ℕ) (rep : Rep) (chain : List Hop) (next : Then) → object < s.objects → HasSlot p object slot → Follows p next
      → Safe p (ask_store object (λ store. constant_slot object slot field rep chain next store.first))
  constant-safe p object slot field rep chain next there has on =
      safe-ask StoreOfObject store_of object p (λ store. constant_slot object slot field rep chain next store.first) (λ t. Some (store_in t object)) there (λ q. says StoreOfObject object q there)
      (λ q a b. let still : HasSlot q object slot = slot-on p q object slot a has in
      let some : 0 < (store_in (here q) object).capacity = omega (arith, still) in
      let first = some-of (store_in (here q) object).first ((forms q).first object some) in
      let inside : first.0 + slot < s.slots = slot-there q object slot first.0 still first.1 in (
        store_in (here q) object,
        refl,
        subst (λ (o : Option ℕ). Safe q (constant_slot object slot field rep chain next o)) (sym first.1)
            (safe-ask WordOfSlot any_word (first.0 + slot) q (λ w. next chain (Found (Constant object slot field rep w))) (λ t. Some (slot_in t (first.0 + slot))) inside (λ r. says WordOfSlot (first.0 + slot) r inside)
            (λ r c d. (slot_in (here r) (first.0 + slot), refl, on r (over p q r a c) d chain (Found (Constant object slot field rep (slot_in (here r) (first.0 + slot))))))),
      ))

  holder-safe : (p object slot field : ℕ) (rep : Rep) (chain : List Hop) (next : Then) → p ≤ upto → object < s.objects → HasSlot p object slot → Follows p next → (c : Constness)
      → Safe p (held_by c object slot field rep chain next)
  holder-safe p object slot field rep chain next last there has on Const = constant-safe p object slot field rep chain next there has on
  holder-safe p object slot field rep chain next last there has on Mutable = on p (le_refl p) last chain (Found (Holder object slot field rep))

  module _ (p object entry slot : ℕ) (chain : List Hop) (next : Then) (added : Ask) (last : p ≤ upto) (on : Follows p next) (safe : Safe p added) (there : object < s.objects) (has : HasSlot p object slot) (made : IsEntry p entry) where
    held-safe : (op : Op) (kind : PropertyKind) (read_only : Bool) → Safe p (held_found op kind read_only object chain next added entry slot)
    held-safe Load DataProp read_only =
        field-safe p entry (held_field object slot chain next) made (λ q a b f d. holder-safe q object slot f d.rep chain next b there (slot-on p q object slot a has) (follows-on p q next a on) d.constness)
    held-safe Load AccessorProp read_only = on p (le_refl p) last chain (Found (Getter (Some object) slot))
    held-safe Store DataProp read_only = safe-if read_only p (next chain (Found Reject)) added (λ _. on p (le_refl p) last chain (Found Reject)) (λ _. safe)
    held-safe Store AccessorProp read_only = on p (le_refl p) last chain (Found (Setter (Some object) slot))

  -- A property that is added

  not-empty : (p n : ℕ) → 0 < n → (n == 0) ≡ true → Safe p stop
  not-empty p n h e = let no : ⊥ = grind (arith, h, e) in absurd no

  child-safe : (p child : ℕ) (g : GateWord) (chain : List Hop) (next : Then) → IsGate p child g → 0 < g.entries → Follows p next → Safe p (of_child chain next child)
  child-safe p child g chain next gate some on =
      bits-safe p child (child_bits child chain next) (map-there p child g gate)
      (λ q a b bits. safe-if bits.deprecated q (next chain (Skipped (Dead child))) (ask_gate child (child_gate child chain next))
      (λ _. on q a b chain (Skipped (Dead child)))
      (λ _. gate-safe q child g (child_gate child chain next) (gate-on p q child g a gate)
      (λ r c d. let low : p ≤ r = over p q r a c in
      safe-if (g.entries == 0) r stop (ask_base child (child_entries child (g.entries - 1) chain next))
      (not-empty r g.entries some)
      (λ _. base-safe r child g (λ first. ask_field (first + (g.entries - 1)) (child_field child (g.entries - 1) chain next)) (gate-on p r child g low gate) some
      (λ t e f first keyed. let less : g.entries - 1 < g.entries = omega (arith, some) in
      field-safe t (first + (g.entries - 1)) (child_field child (g.entries - 1) chain next) (keyed (g.entries - 1) less).made
      (λ u i j field detail. on u (over p t u (over p r t low e) i) j chain (Found (Add child (g.entries - 1) field detail.rep detail.class))))))))

  and-left : (a b : Bool) → (a && b) ≡ true → a ≡ true
  and-left true b e = refl
  and-left false b e = e

  and-right : (a b : Bool) → (a && b) ≡ true → b ≡ true
  and-right true b e = e
  and-right false b e = absurd (true≢false (sym e))

  data-kind : (kind : PropertyKind) → is_data kind ≡ true → kind ≡ DataProp
  data-kind DataProp e = refl
  data-kind AccessorProp e = absurd (true≢false (sym e))

  added-data : (name : ℕ) (key : Key) → is_added name key ≡ true → key.kind ≡ DataProp
  added-data name key e = data-kind key.kind (and-left (is_data key.kind) (bits_of key.attrs == 0) (and-right (key.name == name) (is_data key.kind && bits_of key.attrs == 0) e))

  module _ (name map p : ℕ) (chain : List Hop) (next : Then) (on : Follows p next) where
    links-safe : (ls : List ℕ) (left : ℕ) (first : Option ℕ) (q : ℕ) → AreChained (here p) first ls → All (LeadsToChild s (here p) map) ls → length ls ≤ left → p ≤ q → q ≤ upto
        → Safe q (links_from name map left chain next first)
    unfolding links_from
    links-safe [] left None q h lead less a b = on q a b chain (Skipped (NoLink map))
    links-safe [] left (Some l) q h lead less a b = absurd h
    links-safe (k ∷ ks) left None q h lead less a b = absurd h
    links-safe (k ∷ ks) zero (Some l) q h lead less a b = absurd (omega (arith, less))
    links-safe (k ∷ ks) (suc left) (Some l) q h lead less a b =
        let leads : LeadsToChild s (here p) map l = subst (λ (x : ℕ). LeadsToChild s (here p) map x) (sym h.0) (All-head (LeadsToChild s (here p) map) k ks lead) in
        let key = some-and (λ key. IsSomeAnd (link_child_in (here p) l) (λ c. IsChildBy (here p) map c key)) (link_key_in (here p) l) leads.child in
        let child = some-and (λ c. IsChildBy (here p) map c key.0) (link_child_in (here p) l) key.2 in
        let gate = some-and (λ g. HasEntryFor key.0 g) (gate_in (here p) child.0) child.2.gate in
        let n = some-and (λ n. AreChained (here p) n ks) (link_next_in (here p) l) h.1 in
        safe-ask KeyOfLink key_read l q (linked name l chain next (links_from name map left chain next)) (λ t. link_key_in t l) leads.there (λ r. says KeyOfLink l r leads.there)
        (λ r c d. let low : p ≤ r = over p q r a c in (
          key.0,
          (stays p r low).link_key l key.0 key.1,
          safe-if (is_added name key.0) r (ask_link_child l (of_child chain next)) (ask_link_next l (links_from name map left chain next))
              (λ e. safe-ask ChildOfLink number_read l r (of_child chain next) (λ t. link_child_in t l) leads.there (λ u. says ChildOfLink l u leads.there)
              (λ u f g. let on-u : p ≤ u = over p r u low f in
              (child.0, (stays p u on-u).link_child l child.0 child.1, child-safe u child.0 gate.0 chain next (gate-on p u child.0 gate.0 on-u gate.1) (gate.2 (added-data name key.0 e)) (follows-on p u next on-u on))))
              (λ _. safe-ask NextOfLink settled_number l r (links_from name map left chain next) (λ t. link_next_in t l) leads.there (λ u. says NextOfLink l u leads.there)
              (λ u f g. let on-u : p ≤ u = over p r u low f in
              (n.0, (stays p u on-u).link_next l n.0 n.1, links-safe ks left n.0 u n.2 (All-tail (LeadsToChild s (here p) map) k ks lead) (omega (arith, less)) on-u g))),
        ))

  add-safe : (name p map : ℕ) (g : GateWord) (chain : List Hop) (next : Then) → map < s.maps → p ≤ upto → Follows p next → Safe p (of_add name s.links map g chain next)
  add-safe name p map g chain next there last on =
      safe-if g.is_locked p (next chain (Found Reject)) (if g.is_private then next chain (Skipped (PrototypeMap map)) else ask_head map (links_from name map s.links chain next))
      (λ _. on p (le_refl p) last chain (Found Reject))
      (λ _. safe-if g.is_private p (next chain (Skipped (PrototypeMap map))) (ask_head map (links_from name map s.links chain next))
      (λ _. on p (le_refl p) last chain (Skipped (PrototypeMap map)))
      (λ _. safe-ask HeadOfMap optional_number map p (links_from name map s.links chain next) (λ t. Some (head_in t map)) there (λ q. says HeadOfMap map q there)
      (λ q a b. (
        head_in (here q) map,
        refl,
        links-safe name map q chain next (follows-on p q next a on) (links_in (here q) map) s.links (head_in (here q) map) q
            (laws.chained s (here q) map (lawful-at q)) (laws.lead s (here q) map (lawful-at q)) (laws.few s (here q) map (lawful-at q)) (le_refl q) b,
      ))))

  -- The objects of the chain

  module _ (what : Site) (map : ℕ) (g : GateWord) (next : Then) (there : map < s.maps) where
    absent-safe : (p : ℕ) (chain : List Hop) → p ≤ upto → Follows p next → (op : Op) → Safe p (absent op what.name s.links map g chain next)
    absent-safe p chain last on Load = on p (le_refl p) last chain (Found Absent)
    absent-safe p chain last on Store = add-safe what.name p map g chain next there last on

    module _ (onward : List Hop → Option ℕ → Ask) (p object : ℕ) (chain : List Hop) (last : p ≤ upto) (on : Follows p next) (is_object : object < s.objects)
        (goes-on : Onward p (λ q. (longer : List Hop) (proto : Option ℕ) → IsObject proto → Safe q (onward longer proto))) where
      in-holder : (holder q : ℕ) (longer : List Hop) (h : GateWord) (proto : Option ℕ) → p ≤ q → q ≤ upto → IsGate p holder h → h.entries ≤ (store_in (here p) object).capacity → IsObject proto
          → Safe q (holder_proto what s.links map g object longer next (onward longer) holder h.entries proto)
      in-holder holder q longer h proto a b gate room is =
          map-safe what.name q holder h (held_entry what s.links map g object longer next) (onward longer proto) (gate-on p q holder h a gate) b
          (λ r c d entry slot key less made. let low : p ≤ r = over p q r a c in
          let has : HasSlot p object slot = omega (arith, less, room) in
          held-safe r object entry slot longer next (of_add what.name s.links map g longer next) d (follows-on p r next low on) (add-safe what.name r map g longer next there d (follows-on p r next low on))
          is_object (slot-on p r object slot low has) made what.op key.kind (is_read_only key.attrs))
          (λ r c d. goes-on r (over p q r a c) d longer proto is)

      object-safe : (holder : Option ℕ) → map_in (here p) object ≡ holder → Safe p (of_object what s.links map g object chain next onward holder)
      object-safe None e = on p (le_refl p) last chain (Skipped (SlowHolder object))
      object-safe (Some holder) e =
          let has = (forms p).object_map object holder e in
          let h = some-and (λ h. h.entries ≤ (store_in (here p) object).capacity) (gate_in (here p) holder) has.is_open in
          let longer : List Hop = with_hop chain object holder in
          gate-safe p holder h.0 (holder_gate what s.links map g object longer next (onward longer) holder) h.1
          (λ q a b. proto-safe q holder h.0 (holder_proto what s.links map g object longer next (onward longer) holder h.0.entries) (gate-on p q holder h.0 a h.1)
          (λ r c d proto is. in-holder holder r longer h.0 proto (over p q r a c) d h.1 h.2 is))

    walk-safe : (left p : ℕ) (chain : List Hop) (proto : Option ℕ) → IsObject proto → p ≤ upto → Follows p next → Safe p (walk what s.links map g left next chain proto)
    unfolding walk
    walk-safe left p chain None is last on = absent-safe p chain last on what.op
    walk-safe zero p chain (Some object) is last on = on p (le_refl p) last chain (Skipped (Deep object))
    walk-safe (suc left) p chain (Some object) is last on =
        safe-ask MapOfObject optional_number object p (of_object what s.links map g object chain next (walk what s.links map g left next)) (λ t. Some (map_in t object)) is (λ q. says MapOfObject object q is)
        (λ q a b. (
          map_in (here q) object,
          refl,
          object-safe (walk what s.links map g left next) q object chain b (follows-on p q next a on) is
              (λ r c d longer proto there'. walk-safe left r longer proto there' d (follows-on p r next (over p q r a c) on)) (map_in (here q) object) refl,
        ))

  -- The maps of a feedback

  of-map-safe : (what : Site) (p map : ℕ) (g : GateWord) (chain : List Hop) (next : Then) → IsGate p map g → Follows p next → Safe p (of_map what s.links map chain next)
  of-map-safe what p map g chain next gate on =
      let there : map < s.maps = map-there p map g gate in
      bits-safe p map (of_bits what s.links map chain next) there
      (λ q a b bits. safe-if bits.deprecated q (next chain (Skipped (Dead map))) (ask_gate map (of_gate what s.links map chain next))
      (λ _. on q a b chain (Skipped (Dead map)))
      (λ _. gate-safe q map g (of_gate what s.links map chain next) (gate-on p q map g a gate)
      (λ r c d. let low : p ≤ r = over p q r a c in
      map-safe what.name r map g (own_entry what chain next) (ask_proto map (walk what s.links map g MAX_CHAIN next chain)) (gate-on p r map g low gate) d
      (λ t e f entry slot key less made. own-safe t entry slot chain next f (follows-on p t next (over p r t low e) on) made what.op key.kind (is_read_only key.attrs))
      (λ t e f. let on-t : p ≤ t = over p r t low e in
      proto-safe t map g (walk what s.links map g MAX_CHAIN next chain) (gate-on p t map g on-t gate)
      (λ u i j proto is. walk-safe what map g next there MAX_CHAIN u chain proto is j (follows-on p u next (over p t u on-t i) on))))))

  answered-safe : (p map : ℕ) (rest : List Case → List Skip → Ask) (cases : List Case) (skips : List Skip) (chain : List Hop) → ((cs : List Case) (ss : List Skip) → Safe p (rest cs ss)) → (answer : Answer)
      → Safe p (answered map rest cases skips chain answer)
  answered-safe p map rest cases skips chain h (Found way) = h (cases ++ record { map = map; chain = chain; way = way } ∷ []) skips
  answered-safe p map rest cases skips chain h (Skipped skip) = h cases (skips ++ skip ∷ [])

  written-on : (p q : ℕ) (maps : List ℕ) → p ≤ q → AreWritten (here p) maps → AreWritten (here q) maps
  written-on p q maps h w =
      All-weaker (λ m. IsSome (gate_in (here p) m)) (λ m. IsSome (gate_in (here q) m))
      (λ m some. let g = some-of (gate_in (here p) m) some in is-some (gate_in (here q) m) g.0 (gate-on p q m g.0 h g.1)) maps w

  of-maps-safe : (what : Site) (maps : List ℕ) (p : ℕ) (cases : List Case) (skips : List Skip) → AreWritten (here p) maps → Safe p (of_maps what s.links maps cases skips)
  unfolding of_maps IsSafe
  of-maps-safe what [] p cases skips w = tt
  of-maps-safe what (map ∷ maps) p cases skips w =
      let g = some-of (gate_in (here p) map) (All-head (λ m. IsSome (gate_in (here p) m)) map maps w) in
      of-map-safe what p map g.0 [] (answered map (of_maps what s.links maps) cases skips) g.1
      (λ q a b chain answer. answered-safe q map (of_maps what s.links maps) cases skips chain
      (λ cs ss. of-maps-safe what maps q cs ss (written-on p q maps a (All-tail (λ m. IsSome (gate_in (here p) m)) map maps w))) answer)

  by-mega : (what : Site) (maps : List ℕ) (p : ℕ) → AreWritten (here p) maps → (mega : Bool) → Safe p (question s what maps mega)
  unfolding IsSafe
  by-mega what maps p w true = tt
  by-mega what maps p w false = of-maps-safe what maps p [] [] w

pub question-safe : TrailLaws → QuestionsAreSafe
question-safe laws s stores from upto what maps mega h = by-mega laws s stores upto h.lawful what maps from h.written mega
