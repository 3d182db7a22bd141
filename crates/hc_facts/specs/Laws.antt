-- What keeps fields honest and constants constant, each law the contract of a function of `laws.rt`.
use Rattle.std.specs.Prelude.{◌≡◌, ◌≢◌, ℕ, ◌<◌, IsTrue, Some}
use Rattle.hc_layout.specs.declared.shape.Shape.{Shape}
use Rattle.hc_layout.specs.declared.words.GateWord.{GateWord}
use Rattle.hc_value.specs.Field.{is_detail_within}
use Rattle.hc_value.specs.declared.field.Constness.{Constness}
use Rattle.hc_value.specs.declared.field.Constness.TheVariants.{Const}
use Rattle.hc_value.specs.declared.field.Detail.{Detail}
use Rattle.hc_value.specs.declared.value.Value.{Value}
use Rattle.hc_heap.specs.Kept.{GoesOn}
use Rattle.hc_heap.specs.Lawful.{Lawful, slot_word}
use Rattle.hc_heap.specs.Readings.{gate_in, bits_in, detail_in, map_in}
use Rattle.hc_descs.specs.Entries.{key_at, field_at}
use Rattle.hc_heap.specs.Writes.{Trail}
use Rattle.hc_facts.specs.Honest.{HasDatum, IsCarried, IsFilled, IsGiven, IsHonest, detail_for, value_in}
use Rattle.hc_facts.specs.Constants.{ConstantsStay, ConstantsStayFor, WordsStay}

-- fields stay honest where each value was there before or was given
abbrev pub HonestAfter : Type 0
HonestAfter = (s : Shape) (old new : Trail) → GoesOn s old new → IsHonest old → ((o : ℕ) → IsFilled old new o) → IsHonest new

-- a value of an object with the same map, at a place whose word stayed, was there before
abbrev pub KeptIsCarried : Type 0
KeptIsCarried = (s : Shape) (old new : Trail) (o m k f : ℕ) (d : Detail) → Lawful s old → GoesOn s old new → map_in new o ≡ map_in old o → slot_word new o k ≡ slot_word old o k
    → HasDatum new o m k f → detail_in new f ≡ Some d → IsCarried old new o k d

-- the entry of the map that an object had, at the place of an entry of its new map: it has the same key, and what its field admitted
-- the new one does
pub record WasAt (old new : Trail) (o c k : ℕ) (d : Detail) : Type 0 where
  pub map : ℕ
  pub gate : GateWord
  pub field : ℕ
  pub detail : Detail
  pub had : map_in old o ≡ Some map
  pub is_open : gate_in old map ≡ Some gate
  pub within : k < gate.entries
  pub same_key : key_at old map k ≡ key_at new c k
  pub is_field : field_at old map k ≡ Some field
  pub admits : detail_in old field ≡ Some detail
  pub inside : IsTrue (is_detail_within detail d)
  pub same : value_in d.rep (slot_word new o k) ≡ value_in detail.rep (slot_word old o k)

-- a value of an object that came to another map, and has it still at its place, was there before
abbrev pub MovedIsCarried : Type 0
MovedIsCarried = (old new : Trail) (o c k f : ℕ) (d : Detail) → HasDatum new o c k f → WasAt old new o c k d → IsCarried old new o k d

-- a value that was stored was given, where the field admits what it asks
abbrev pub StoredIsGiven : Type 0
StoredIsGiven = (old new : Trail) (o k : ℕ) (v : Value) (constness : Constness) (d : Detail) → value_in d.rep (slot_word new o k) ≡ v → IsTrue (is_detail_within (detail_for old v constness) d) → IsGiven old new o k d

-- constants stay where they do for the one object that changed
abbrev pub ConstantsAfter : Type 0
ConstantsAfter = (old new : Trail) (o : ℕ) → WordsStay old new o → ConstantsStayFor old new o → ConstantsStay old new

-- an object whose map is unstable has nothing to show
abbrev pub LeavingKeepsConstants : Type 0
LeavingKeepsConstants = (old new : Trail) (o m : ℕ) → map_in old o ≡ Some m → IsTrue (bits_in new m).unstable → ConstantsStayFor old new o

-- a store to one slot keeps the constants, where that slot's field is constant only if the word is the same
abbrev pub StoringKeepsConstants : Type 0
StoringKeepsConstants = (old new : Trail) (o i : ℕ) → ((k : ℕ) → k ≢ i → slot_word new o k ≡ slot_word old o k)
    → ((m f : ℕ) (d : Detail) → HasDatum old o m i f → detail_in new f ≡ Some d → d.constness ≡ Const → slot_word new o i ≡ slot_word old o i) → ConstantsStayFor old new o

-- constants stay over one step and a further one
abbrev pub ConstantsStayOn : Type 0
ConstantsStayOn = (s : Shape) (old middle new : Trail) → GoesOn s old middle → GoesOn s middle new → ConstantsStay old middle → ConstantsStay middle new → ConstantsStay old new
