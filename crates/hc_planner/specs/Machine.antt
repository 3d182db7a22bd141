-- What a seeker, the search for the answer of one map, still asks.
use Rattle.std.specs.Prelude.{◌≡◌, ℕ, ◌+◌, Bool, if◌then◌else◌, Option, List, [], ◌∷◌}
use Rattle.hc_layout.specs.declared.words.GateWord.{GateWord}
use Rattle.hc_layout.specs.declared.words.MapBits.{MapBits}
use Rattle.hc_layout.specs.declared.words.StoreWord.{StoreWord}
use Rattle.hc_value.specs.declared.field.Rep.{Rep}
use Rattle.hc_value.specs.declared.key.Key.{Key as PropertyKey}
use Rattle.hc_value.specs.declared.field.Detail.{Detail}
use Rattle.hc_plan.specs.declared.case.Case.{Case}
use Rattle.hc_plan.specs.declared.lists.TheConstants.{MAX_CHAIN}
use Rattle.hc_plan.specs.declared.skip.Skip.{Skip}
use Rattle.hc_plan.specs.declared.case.Way.TheVariants.{Constant, Reject}
use Rattle.hc_question.specs.declared.outcome.Answer.TheVariants.{Found}
use Rattle.hc_question.specs.Ask.{Ask, ask_reference, tell, stop, ask_gate, ask_proto, ask_bits, ask_base, ask_head, ask_entry_key, ask_detail, ask_link_key, ask_link_child, ask_link_next, ask_object_map, ask_store, ask_slot, with_word}
use Rattle.hc_question.specs.Question.{absent, Then, Entry, own_field, held_field, stored_field, child_field, constant_slot, child_entries, child_gate, child_bits, of_child, linked, links_from, of_add, own_entry, held_entry, matched, search, entries_from, in_map, holder_proto, holder_gate, of_object, walk, of_gate, of_bits, answered}
use Rattle.hc_planner.specs.declared.at.At.{At}
use Rattle.hc_planner.specs.declared.at.At.TheVariants.{Map, Chain, Field, Link, Ended, Stopped}
use Rattle.hc_planner.specs.declared.at.Searched.{Searched}
use Rattle.hc_planner.specs.declared.at.Searched.TheVariants.{Own, Holder}
use Rattle.hc_planner.specs.declared.at.MapLook.{MapLook}
use Rattle.hc_planner.specs.declared.at.MapLook.TheVariants.{Bits, Gate, Proto, Base, Key}
use Rattle.hc_planner.specs.declared.at.ChainLook.{ChainLook}
use Rattle.hc_planner.specs.declared.at.ChainLook.TheVariants.{Object, Gate as HolderGate, Proto as HolderProto}
use Rattle.hc_planner.specs.declared.at.Purpose.{Purpose}
use Rattle.hc_planner.specs.declared.at.Purpose.TheVariants.{LoadOwn, LoadHeld, StoreOwn, Add}
use Rattle.hc_planner.specs.declared.at.FieldLook.{FieldLook}
use Rattle.hc_planner.specs.declared.at.FieldLook.TheVariants.{Reference, Detail as FieldDetail, Store, Slot}
use Rattle.hc_planner.specs.declared.at.LinkLook.{LinkLook}
use Rattle.hc_planner.specs.declared.at.LinkLook.TheVariants.{Head, Key as LinkKey, Next, Child, Bits as ChildBits, Gate as ChildGate, Base as ChildBase, Reference as ChildReference}
use Rattle.hc_planner.specs.declared.seeker.Search.{Search}
use Rattle.hc_planner.specs.declared.seeker.Seeker.{Seeker}

-- the parts of the question, by what a search knows: its site, its map, and the chain so far
module _ (x : Search) where
  abbrev pub walk_on : ℕ → Then → Option ℕ → Ask
  walk_on left next proto = walk x.what x.most x.map x.gate left next x.chain proto

  -- what an entry of the searched map tells
  abbrev pub found_in : Searched → Then → Entry
  found_in Own next = own_entry x.what x.chain next
  found_in (Holder object proto left) next = held_entry x.what x.most x.map x.gate object x.chain next

  -- what is asked where the searched map has no such entry
  abbrev pub missing_in : Searched → Then → Ask
  missing_in Own next = ask_proto x.map (walk_on MAX_CHAIN next)
  missing_in (Holder object proto left) next = walk_on left next proto

  abbrev pub search_on : Searched → ℕ → ℕ → ℕ → Then → Ask
  search_on searched first entry left next = search x.what.name first entry left (found_in searched next) (missing_in searched next)

  abbrev pub in_searched : Searched → ℕ → ℕ → Then → Ask
  in_searched searched holder entries next = in_map x.what.name holder entries (found_in searched next) (missing_in searched next)

  abbrev pub base_seen : Searched → ℕ → Then → Option ℕ → Ask
  base_seen searched entries next = entries_from x.what.name entries (found_in searched next) (missing_in searched next)

  abbrev pub links_on : ℕ → Then → Option ℕ → Ask
  links_on left next link = links_from x.what.name x.map left x.chain next link

  abbrev pub add_on : Then → Ask
  add_on next = of_add x.what.name x.most x.map x.gate x.chain next

  abbrev pub object_seen : ℕ → ℕ → Then → Option ℕ → Ask
  object_seen object left next = of_object x.what x.most x.map x.gate object x.chain next (walk x.what x.most x.map x.gate left next)

  abbrev pub holder_gate_seen : ℕ → ℕ → ℕ → Then → GateWord → Ask
  holder_gate_seen object holder left next = holder_gate x.what x.most x.map x.gate object x.chain next (walk_on left next) holder

  abbrev pub holder_proto_seen : ℕ → ℕ → ℕ → ℕ → Then → Option ℕ → Ask
  holder_proto_seen object holder entries left next = holder_proto x.what x.most x.map x.gate object x.chain next (walk_on left next) holder entries

  abbrev pub detail_seen : Purpose → Then → ℕ → Detail → Ask
  detail_seen (LoadOwn slot) next = own_field slot x.chain next
  detail_seen (LoadHeld object slot) next = held_field object slot x.chain next
  detail_seen (StoreOwn slot) next = stored_field slot x.chain next
  detail_seen (Add child slot) next = child_field child slot x.chain next

  abbrev pub absent_on : Then → Ask
  absent_on next = absent x.what.op x.what.name x.most x.map x.gate x.chain next

  abbrev pub held_on : ℕ → Then → Entry
  held_on object next = held_entry x.what x.most x.map x.gate object x.chain next

  -- a store to a property of an object of the chain: one that is only read refuses it, and another is added to the receiver
  abbrev pub shadowed_on : Bool → Then → Ask
  shadowed_on read_only next = if read_only then next x.chain (Found Reject) else add_on next

  -- what is asked of a word that was read
  abbrev pub bits_seen : Then → MapBits → Ask
  bits_seen next = of_bits x.what x.most x.map x.chain next

  abbrev pub gate_seen : Then → GateWord → Ask
  gate_seen next = of_gate x.what x.most x.map x.chain next

  abbrev pub key_seen : Searched → ℕ → ℕ → ℕ → Then → PropertyKey → Ask
  key_seen searched first entry left next = matched x.what.name first entry (found_in searched next) (search_on searched first (entry + 1) left next)

  abbrev pub reference_seen : Purpose → Then → ℕ → Ask
  reference_seen purpose next field = ask_detail field (detail_seen purpose next field)

  abbrev pub store_seen : ℕ → ℕ → ℕ → Rep → Then → StoreWord → Ask
  store_seen object slot field rep next store = constant_slot object slot field rep x.chain next store.first

  abbrev pub slot_seen : ℕ → ℕ → ℕ → Rep → Then → ℕ → Ask
  slot_seen object slot field rep next word = next x.chain (Found (Constant object slot field rep word))

  abbrev pub link_key_seen : ℕ → ℕ → Then → PropertyKey → Ask
  link_key_seen link left next = linked x.what.name link x.chain next (links_on left next)

  abbrev pub child_reference_seen : ℕ → ℕ → Then → ℕ → Ask
  child_reference_seen child slot next field = ask_detail field (child_field child slot x.chain next field)

  -- what is asked from each look on
  abbrev pub rest_of_map : MapLook → Then → Ask
  rest_of_map Bits next = ask_bits x.map (bits_seen next)
  rest_of_map Gate next = ask_gate x.map (gate_seen next)
  rest_of_map Proto next = ask_proto x.map (walk_on MAX_CHAIN next)
  rest_of_map (Base searched holder entries) next = ask_base holder (base_seen searched entries next)
  rest_of_map (Key searched first entry left) next = ask_entry_key entry (key_seen searched first entry left next)

  abbrev pub rest_of_chain : ChainLook → Then → Ask
  rest_of_chain (Object object left) next = ask_object_map object (object_seen object left next)
  rest_of_chain (HolderGate object holder left) next = ask_gate holder (holder_gate_seen object holder left next)
  rest_of_chain (HolderProto object holder entries left) next = ask_proto holder (holder_proto_seen object holder entries left next)

  abbrev pub rest_of_field : FieldLook → Then → Ask
  rest_of_field (Reference purpose entry) next = ask_reference entry (reference_seen purpose next)
  rest_of_field (FieldDetail purpose field) next = ask_detail field (detail_seen purpose next field)
  rest_of_field (Store object slot field rep) next = ask_store object (store_seen object slot field rep next)
  rest_of_field (Slot object slot field rep start) next = ask_slot (start + slot) (slot_seen object slot field rep next)

  abbrev pub rest_of_link : LinkLook → Then → Ask
  rest_of_link Head next = ask_head x.map (links_on x.most next)
  rest_of_link (LinkKey link left) next = ask_link_key link (link_key_seen link left next)
  rest_of_link (Next link left) next = ask_link_next link (links_on left next)
  rest_of_link (Child link) next = ask_link_child link (of_child x.chain next)
  rest_of_link (ChildBits child) next = ask_bits child (child_bits child x.chain next)
  rest_of_link (ChildGate child) next = ask_gate child (child_gate child x.chain next)
  rest_of_link (ChildBase child slot) next = ask_base child (child_entries child slot x.chain next)
  rest_of_link (ChildReference child slot first) next = ask_reference (first + slot) (child_reference_seen child slot next)

  unfoldable pub rest_at : At → Then → Ask
  rest_at (Map look) next = rest_of_map look next
  rest_at (Chain look) next = rest_of_chain look next
  rest_at (Field look) next = rest_of_field look next
  rest_at (Link look) next = rest_of_link look next
  rest_at (Ended answer) next = next x.chain answer
  rest_at Stopped next = stop

-- what is asked at a look is this
abbrev pub Asks : Search → At → (Then → Ask) → Type 0
Asks x at asked = (next : Then) → rest_at x at next ≡ asked next

-- what is asked at a look is what a word that was read leads to
abbrev pub AsksAfter : {T : Type 0} → Search → At → Option T → (Then → T → Ask) → Type 0
AsksAfter x at said part = (next : Then) → rest_at x at next ≡ with_word said (part next)

-- what a seeker still asks
abbrev pub rest : Seeker → Then → Ask
rest x next = rest_at x.search x.at next

-- what seekers still ask, one after another
unfoldable pub asks_of : List Seeker → List Case → List Skip → Ask
asks_of [] cases skips = tell cases skips
asks_of (x ∷ xs) cases skips = rest x (answered x.search.map (asks_of xs) cases skips)
