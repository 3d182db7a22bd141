-- The answer of a case.
use Rattle.std.specs.Prelude.{ℕ, false, Option, Some, None}
use Rattle.hc_value.specs.Attrs.{no_attributes}
use Rattle.hc_value.specs.Word.{unpair_of}
use Rattle.hc_value.specs.declared.value.Value.{Value}
use Rattle.hc_value.specs.declared.value.Value.TheVariants.{Undefined}
use Rattle.hc_value.specs.declared.prop.Held.TheVariants.{Datum}
use Rattle.hc_value.specs.declared.reply.Reply.{Reply}
use Rattle.hc_value.specs.declared.reply.Reply.TheVariants.{Val, Call, CallWith}
use Rattle.hc_heap.specs.Writes.{Trail}
use Rattle.hc_heap.specs.Lawful.{slot_word}
use Rattle.hc_facts.specs.Honest.{value_in}
use Rattle.hc_table.specs.Changes.{Nothing, Added, Wrote}
use Rattle.hc_ops.specs.Act.{Act, answers, does}
use Rattle.hc_plan.specs.declared.case.Way.{Way}
use Rattle.hc_plan.specs.declared.case.Way.TheVariants.{Own, Holder, Constant, Absent, Getter, StoreOwn, Add, Setter, Reject}

-- the receiver, or an object of its chain
abbrev pub holder_of : Option ℕ → ℕ → ℕ
holder_of None o = o
holder_of (Some holder) o = holder

-- the call of a getter, and undefined without one
abbrev pub call_getter : ℕ → Option ℕ → Reply
call_getter o None = Val Undefined
call_getter o (Some getter) = Call getter o

-- the call of a setter, and false without one
abbrev pub call_setter : ℕ → Value → Option ℕ → Act
call_setter o v None = answers false
call_setter o v (Some setter) = record { reply = CallWith setter o v; did = Nothing }

-- the getter, and the setter, of a slot's word
abbrev pub getter_in : Option (Option ℕ × Option ℕ) → Option ℕ
getter_in None = None
getter_in (Some pair) = pair.0

abbrev pub setter_in : Option (Option ℕ × Option ℕ) → Option ℕ
setter_in None = None
setter_in (Some pair) = pair.1

-- what a way answers to a load from an object; a way of a store answers none
abbrev pub load_answer : Trail → ℕ → Way → Option Reply
load_answer t o (Own k f rep) = Some (Val (value_in rep (slot_word t o k)))
load_answer t o (Holder holder k f rep) = Some (Val (value_in rep (slot_word t holder k)))
load_answer t o (Constant holder k f rep w) = Some (Val (value_in rep w))
load_answer t o Absent = Some (Val Undefined)
load_answer t o (Getter at k) = Some (call_getter o (getter_in (unpair_of (slot_word t (holder_of at o) k))))
load_answer t o _ = None

-- what a way answers to a store of a value to an object, and does; a way of a load answers none
abbrev pub store_answer : Trail → ℕ → ℕ → Value → Way → Option Act
store_answer t name o v (StoreOwn k f rep class) = Some (does (Wrote o k (Datum v)))
store_answer t name o v (Add child k f rep class) = Some (does (Added o (record { name = name; attrs = no_attributes; held = Datum v })))
store_answer t name o v (Setter at k) = Some (call_setter o v (setter_in (unpair_of (slot_word t (holder_of at o) k))))
store_answer t name o v Reject = Some (answers false)
store_answer t name o v _ = None
