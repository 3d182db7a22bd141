-- Constants from one moment to a later one.
use Rattle.std.specs.Prelude.{◌≡◌, ◌≢◌, ℕ, false, Some}
use Rattle.hc_value.specs.declared.field.Constness.TheVariants.{Const}
use Rattle.hc_value.specs.declared.field.Detail.{Detail}
use Rattle.hc_heap.specs.Lawful.{slot_word}
use Rattle.hc_heap.specs.Readings.{bits_in, detail_in, map_in}
use Rattle.hc_heap.specs.Writes.{Trail}
use Rattle.hc_facts.specs.Honest.{HasDatum}

-- where a field of an object's map is constant still, and that map isn't unstable, the object's slot has the word that it had
abbrev pub ConstantsStayFor : Trail → Trail → ℕ → Type 0
ConstantsStayFor old new o = (m k f : ℕ) (d : Detail) → HasDatum old o m k f → detail_in new f ≡ Some d → d.constness ≡ Const
    → (bits_in new m).unstable ≡ false → slot_word new o k ≡ slot_word old o k

-- so it is for all objects
abbrev pub ConstantsStay : Trail → Trail → Type 0
ConstantsStay old new = (o : ℕ) → ConstantsStayFor old new o

-- the words of the slots of all other objects are as they were
abbrev pub WordsStay : Trail → Trail → ℕ → Type 0
WordsStay old new o = (p k : ℕ) → p ≢ o → slot_word new p k ≡ slot_word old p k

-- all other objects have the maps that they had
abbrev pub MapsOfOthersStay : Trail → Trail → ℕ → Type 0
MapsOfOthersStay old new o = (p : ℕ) → p ≢ o → map_in new p ≡ map_in old p
