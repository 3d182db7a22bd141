-- A question: a tree of looks, each of which goes on by the word that was read. Reads answer it one after another.
use Rattle.std.specs.Prelude.{◌≡◌, ℕ, ◌==◌, nat_lt, if◌then◌else◌, Option, Some, None, List, [], ◌∷◌}
use Rattle.hc_board.specs.Trail.{Access}
use Rattle.hc_layout.specs.Shape.{items_of}
use Rattle.hc_layout.specs.Words.{gate_of, map_bits_of, store_of}
use Rattle.hc_layout.specs.declared.shape.Shape.{Shape}
use Rattle.hc_layout.specs.declared.words.GateWord.{GateWord}
use Rattle.hc_layout.specs.declared.words.MapBits.{MapBits}
use Rattle.hc_layout.specs.declared.words.StoreWord.{StoreWord}
use Rattle.hc_value.specs.Field.{detail_of}
use Rattle.hc_value.specs.declared.field.Detail.{Detail}
use Rattle.hc_value.specs.declared.key.Key.{Key}
use Rattle.hc_heap.specs.Decode.{key_read, settled_number, optional_number, number_read, any_word}
use Rattle.hc_heap.specs.Kinds.{region_of}
use Rattle.hc_heap.specs.declared.kind.Kind.{Kind}
use Rattle.hc_heap.specs.declared.kind.Kind.TheVariants.{GateOfMap, PrototypeOfMap, BitsOfMap, BaseOfMap, HeadOfMap, KeyOfEntry, ReferenceOfEntry, DetailOfField, KeyOfLink, ChildOfLink, NextOfLink, MapOfObject, StoreOfObject, WordOfSlot}
use Rattle.hc_plan.specs.declared.case.Case.{Case}
use Rattle.hc_plan.specs.declared.skip.Skip.{Skip}
use Rattle.hc_broker.specs.Peeks.{index_asked}

-- a question is answered, with these cases and skips, or is given up, or goes on by the word of an item
pub data Ask : Type 0 where
  tell : List Case → List Skip → Ask
  stop : Ask
  look : Kind → ℕ → (ℕ → Ask) → Ask

-- what a read leaves of a question: a look at that index goes on by the word, unless the board has no such item
unfoldable pub heard : Shape → Ask → Access → Ask
heard s (tell cases skips) read = tell cases skips
heard s stop read = stop
heard s (look kind item next) read =
    if read.0 == index_asked s kind item
    then (if nat_lt item (items_of s (region_of kind)) then next read.1 else stop)
    else look kind item next

-- what these reads leave of a question, which passes over those that it doesn't use
unfoldable pub asked_after : Shape → List Access → Ask → Ask
asked_after s [] ask = ask
asked_after s (read ∷ reads) ask = asked_after s reads (heard s ask read)

-- a read is the look that a question asks for
unfoldable pub IsAnswer : Shape → Ask → Access → Type 0
IsAnswer s (tell cases skips) read = ⊥
IsAnswer s stop read = ⊥
IsAnswer s (look kind item next) read = read.0 ≡ index_asked s kind item

-- these reads, each the look that was asked for, bring one question to another
unfoldable pub LeadsTo : Shape → Ask → List Access → Ask → Type 0
LeadsTo s before [] after = before ≡ after
LeadsTo s before (read ∷ reads) after = IsAnswer s before read × LeadsTo s (heard s before read) reads after

-- a word that isn't of its form gives the question up
abbrev pub with_word : {T : Type 0} → Option T → (T → Ask) → Ask
with_word None next = stop
with_word (Some said) next = next said

-- the look at a word of a form
abbrev pub ask : {T : Type 0} → Kind → (ℕ → Option T) → ℕ → (T → Ask) → Ask
ask kind form item next = look kind item (λ word. with_word (form word) next)

abbrev pub ask_gate : ℕ → (GateWord → Ask) → Ask
ask_gate map next = ask GateOfMap gate_of map next

abbrev pub ask_proto : ℕ → (Option ℕ → Ask) → Ask
ask_proto map next = ask PrototypeOfMap settled_number map next

abbrev pub ask_bits : ℕ → (MapBits → Ask) → Ask
ask_bits map next = ask BitsOfMap map_bits_of map next

abbrev pub ask_base : ℕ → (Option ℕ → Ask) → Ask
ask_base map next = ask BaseOfMap optional_number map next

abbrev pub ask_head : ℕ → (Option ℕ → Ask) → Ask
ask_head map next = ask HeadOfMap optional_number map next

abbrev pub ask_entry_key : ℕ → (Key → Ask) → Ask
ask_entry_key entry next = ask KeyOfEntry key_read entry next

abbrev pub ask_reference : ℕ → (ℕ → Ask) → Ask
ask_reference entry next = ask ReferenceOfEntry number_read entry next

abbrev pub ask_detail : ℕ → (Detail → Ask) → Ask
ask_detail field next = ask DetailOfField detail_of field next

abbrev pub ask_link_key : ℕ → (Key → Ask) → Ask
ask_link_key link next = ask KeyOfLink key_read link next

abbrev pub ask_link_child : ℕ → (ℕ → Ask) → Ask
ask_link_child link next = ask ChildOfLink number_read link next

abbrev pub ask_link_next : ℕ → (Option ℕ → Ask) → Ask
ask_link_next link next = ask NextOfLink settled_number link next

abbrev pub ask_object_map : ℕ → (Option ℕ → Ask) → Ask
ask_object_map object next = ask MapOfObject optional_number object next

abbrev pub ask_store : ℕ → (StoreWord → Ask) → Ask
ask_store object next = ask StoreOfObject store_of object next

abbrev pub ask_slot : ℕ → (ℕ → Ask) → Ask
ask_slot slot next = ask WordOfSlot any_word slot next
