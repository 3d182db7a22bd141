-- What a site asks for each map of its feedback, part by part in the order in which the words are read.
use Rattle.std.specs.Prelude.{ℕ, zero, suc, ◌+◌, ◌-◌, ◌==◌, ◌&&◌, Bool, true, false, if◌then◌else◌, Option, Some, None, List, [], ◌∷◌, ◌++◌}
use Rattle.hc_layout.specs.declared.shape.Shape.{Shape}
use Rattle.hc_layout.specs.declared.words.GateWord.{GateWord}
use Rattle.hc_layout.specs.declared.words.MapBits.{MapBits}
use Rattle.hc_value.specs.Attrs.{bits_of, is_read_only}
use Rattle.hc_value.specs.declared.field.Constness.{Constness}
use Rattle.hc_value.specs.declared.field.Constness.TheVariants.{Const, Mutable}
use Rattle.hc_value.specs.declared.field.Detail.{Detail}
use Rattle.hc_value.specs.declared.field.Rep.{Rep}
use Rattle.hc_value.specs.declared.key.Key.{Key}
use Rattle.hc_value.specs.declared.prop.Kind.{Kind as PropertyKind}
use Rattle.hc_value.specs.declared.prop.Kind.TheVariants.{DataProp, AccessorProp}
use Rattle.hc_plan.specs.Chains.{Hop, with_hop}
use Rattle.hc_plan.specs.declared.case.Case.{Case}
use Rattle.hc_plan.specs.declared.case.Op.{Op}
use Rattle.hc_plan.specs.declared.case.Op.TheVariants.{Load, Store}
use Rattle.hc_plan.specs.declared.case.Site.{Site}
use Rattle.hc_plan.specs.declared.case.Way.TheVariants.{Own, Holder, Constant, Absent, Getter, StoreOwn, Add, Setter, Reject}
use Rattle.hc_plan.specs.declared.lists.TheConstants.{MAX_CHAIN}
use Rattle.hc_plan.specs.declared.skip.Skip.{Skip}
use Rattle.hc_plan.specs.declared.skip.Skip.TheVariants.{Dead, SlowHolder, Deep, ConstField, NoLink, PrototypeMap}
use Rattle.hc_question.specs.declared.outcome.Answer.{Answer}
use Rattle.hc_question.specs.declared.outcome.Answer.TheVariants.{Found, Skipped}
use Rattle.hc_question.specs.Ask.{Ask, tell, stop, with_word, ask_gate, ask_proto, ask_bits, ask_base, ask_head, ask_entry_key, ask_reference, ask_detail, ask_link_key, ask_link_child, ask_link_next, ask_object_map, ask_store, ask_slot}

-- what is asked once a map has its answer: by the chain that was walked, and the answer
abbrev pub Then : Type 0
Then = List Hop → Answer → Ask

-- what is asked of an entry that has the name: its number, its place in the map, and its key
abbrev pub Entry : Type 0
Entry = ℕ → ℕ → Key → Ask

-- the field of an entry, and then what the field admits
abbrev pub ask_field : ℕ → (ℕ → Detail → Ask) → Ask
ask_field entry next = ask_reference entry (λ field. ask_detail field (next field))

-- a load of the receiver's own data property
abbrev pub own_field : ℕ → List Hop → Then → ℕ → Detail → Ask
own_field slot chain next field detail = next chain (Found (Own slot field detail.rep))

-- the word of a slot, which is a constant's
abbrev pub constant_slot : ℕ → ℕ → ℕ → Rep → List Hop → Then → Option ℕ → Ask
constant_slot object slot field rep chain next first =
    with_word first (λ start. ask_slot (start + slot) (λ word. next chain (Found (Constant object slot field rep word))))

-- a load of a data property of an object of the chain: a constant is asked for its word
abbrev pub held_by : Constness → ℕ → ℕ → ℕ → Rep → List Hop → Then → Ask
held_by Const object slot field rep chain next = ask_store object (λ store. constant_slot object slot field rep chain next store.first)
held_by Mutable object slot field rep chain next = next chain (Found (Holder object slot field rep))

abbrev pub held_field : ℕ → ℕ → List Hop → Then → ℕ → Detail → Ask
held_field object slot chain next field detail = held_by detail.constness object slot field detail.rep chain next

-- a store to the receiver's own data property: a constant isn't stored to by a plan
abbrev pub stored_to : Constness → ℕ → ℕ → Detail → List Hop → Then → Ask
stored_to Const slot field detail chain next = next chain (Skipped (ConstField field))
stored_to Mutable slot field detail chain next = next chain (Found (StoreOwn slot field detail.rep detail.class))

abbrev pub stored_field : ℕ → List Hop → Then → ℕ → Detail → Ask
stored_field slot chain next field detail = stored_to detail.constness slot field detail chain next

-- the last entry of a child is the property that is added
abbrev pub child_field : ℕ → ℕ → List Hop → Then → ℕ → Detail → Ask
child_field child slot chain next field detail = next chain (Found (Add child slot field detail.rep detail.class))

abbrev pub child_entries : ℕ → ℕ → List Hop → Then → Option ℕ → Ask
child_entries child slot chain next base = with_word base (λ first. ask_field (first + slot) (child_field child slot chain next))

abbrev pub child_gate : ℕ → List Hop → Then → GateWord → Ask
child_gate child chain next gate =
    if gate.entries == 0 then stop else ask_base child (child_entries child (gate.entries - 1) chain next)

abbrev pub child_bits : ℕ → List Hop → Then → MapBits → Ask
child_bits child chain next bits = if bits.deprecated then next chain (Skipped (Dead child)) else ask_gate child (child_gate child chain next)

abbrev pub of_child : List Hop → Then → ℕ → Ask
of_child chain next child = ask_bits child (child_bits child chain next)

-- a key is that of a property that a store adds: data, with no attribute set (ECMA-262, 10.1.9.2)
abbrev pub is_data : PropertyKind → Bool
is_data DataProp = true
is_data AccessorProp = false

abbrev pub is_added : ℕ → Key → Bool
is_added name key = key.name == name && (is_data key.kind && bits_of key.attrs == 0)

-- the child of a link that has the key, and else the next link
abbrev pub linked : ℕ → ℕ → List Hop → Then → (Option ℕ → Ask) → Key → Ask
linked name link chain next onward key = if is_added name key then ask_link_child link (of_child chain next) else ask_link_next link onward

-- the first link for the key, from this one on, and its child; links beyond the most that there are give the question up
unfoldable pub links_from : ℕ → ℕ → ℕ → List Hop → Then → Option ℕ → Ask
links_from name map left chain next None = next chain (Skipped (NoLink map))
links_from name map zero chain next (Some link) = stop
links_from name map (suc left) chain next (Some link) = ask_link_key link (linked name link chain next (links_from name map left chain next))

-- a store that adds the property: a locked map refuses it, a private one has no links
abbrev pub of_add : ℕ → ℕ → ℕ → GateWord → List Hop → Then → Ask
of_add name most map gate chain next =
    if gate.is_locked then next chain (Found Reject) else (
    if gate.is_private then next chain (Skipped (PrototypeMap map)) else ask_head map (links_from name map most chain next))

-- the receiver's own property has the name
abbrev pub own_found : Op → PropertyKind → Bool → List Hop → Then → ℕ → ℕ → Ask
own_found Load DataProp read_only chain next entry slot = ask_field entry (own_field slot chain next)
own_found Load AccessorProp read_only chain next entry slot = next chain (Found (Getter None slot))
own_found Store DataProp read_only chain next entry slot = if read_only then next chain (Found Reject) else ask_field entry (stored_field slot chain next)
own_found Store AccessorProp read_only chain next entry slot = next chain (Found (Setter None slot))

abbrev pub own_entry : Site → List Hop → Then → Entry
own_entry what chain next entry slot key = own_found what.op key.kind (is_read_only key.attrs) chain next entry slot

-- a property of an object of the chain has the name; `added` is what is asked where a store adds its own
abbrev pub held_found : Op → PropertyKind → Bool → ℕ → List Hop → Then → Ask → ℕ → ℕ → Ask
held_found Load DataProp read_only object chain next added entry slot = ask_field entry (held_field object slot chain next)
held_found Load AccessorProp read_only object chain next added entry slot = next chain (Found (Getter (Some object) slot))
held_found Store DataProp read_only object chain next added entry slot = if read_only then next chain (Found Reject) else added
held_found Store AccessorProp read_only object chain next added entry slot = next chain (Found (Setter (Some object) slot))

abbrev pub held_entry : Site → ℕ → ℕ → GateWord → ℕ → List Hop → Then → Entry
held_entry what most map gate object chain next entry slot key =
    held_found what.op key.kind (is_read_only key.attrs) object chain next (of_add what.name most map gate chain next) entry slot

-- no object has a property of the name
abbrev pub absent : Op → ℕ → ℕ → ℕ → GateWord → List Hop → Then → Ask
absent Load name most map gate chain next = next chain (Found Absent)
absent Store name most map gate chain next = of_add name most map gate chain next

-- an entry of the name was found, and else the search goes on
abbrev pub matched : ℕ → ℕ → ℕ → Entry → Ask → Key → Ask
matched name first entry found onward key = if key.name == name then found entry (entry - first) key else onward

-- the first entry of the name, from this one on
unfoldable pub search : ℕ → ℕ → ℕ → ℕ → Entry → Ask → Ask
search name first entry zero found missing = missing
search name first entry (suc left) found missing =
    ask_entry_key entry (matched name first entry found (search name first (entry + 1) left found missing))

-- a map's entries, as many as its gate says
abbrev pub entries_from : ℕ → ℕ → Entry → Ask → Option ℕ → Ask
entries_from name entries found missing base = with_word base (λ first. search name first first entries found missing)

abbrev pub in_map : ℕ → ℕ → ℕ → Entry → Ask → Ask
in_map name map entries found missing = if entries == 0 then missing else ask_base map (entries_from name entries found missing)

-- the map of an object of the chain: its gate, its prototype, and then its entries
abbrev pub holder_proto : Site → ℕ → ℕ → GateWord → ℕ → List Hop → Then → (Option ℕ → Ask) → ℕ → ℕ → Option ℕ → Ask
holder_proto what most map gate object chain next onward holder entries proto =
    in_map what.name holder entries (held_entry what most map gate object chain next) (onward proto)

abbrev pub holder_gate : Site → ℕ → ℕ → GateWord → ℕ → List Hop → Then → (Option ℕ → Ask) → ℕ → GateWord → Ask
holder_gate what most map gate object chain next onward holder holders =
    ask_proto holder (holder_proto what most map gate object chain next onward holder holders.entries)

-- an object of the chain: a slow one gives no case
abbrev pub of_object : Site → ℕ → ℕ → GateWord → ℕ → List Hop → Then → (List Hop → Option ℕ → Ask) → Option ℕ → Ask
of_object what most map gate object chain next onward None = next chain (Skipped (SlowHolder object))
of_object what most map gate object chain next onward (Some holder) =
    ask_gate holder (holder_gate what most map gate object (with_hop chain object holder) next (onward (with_hop chain object holder)) holder)

-- the objects from a prototype on, at most so many more
unfoldable pub walk : Site → ℕ → ℕ → GateWord → ℕ → Then → List Hop → Option ℕ → Ask
walk what most map gate left next chain None = absent what.op what.name most map gate chain next
walk what most map gate zero next chain (Some object) = next chain (Skipped (Deep object))
walk what most map gate (suc left) next chain (Some object) =
    ask_object_map object (of_object what most map gate object chain next (walk what most map gate left next))

-- a map that isn't deprecated: its own entries, and then the objects from its prototype on
abbrev pub of_gate : Site → ℕ → ℕ → List Hop → Then → GateWord → Ask
of_gate what most map chain next gate =
    in_map what.name map gate.entries (own_entry what chain next) (ask_proto map (walk what most map gate MAX_CHAIN next chain))

abbrev pub of_bits : Site → ℕ → ℕ → List Hop → Then → MapBits → Ask
of_bits what most map chain next bits = if bits.deprecated then next chain (Skipped (Dead map)) else ask_gate map (of_gate what most map chain next)

-- what a site asks for one map
abbrev pub of_map : Site → ℕ → ℕ → List Hop → Then → Ask
of_map what most map chain next = ask_bits map (of_bits what most map chain next)

-- a map's answer is one case more, or one skip more
abbrev pub answered : ℕ → (List Case → List Skip → Ask) → List Case → List Skip → Then
answered map rest cases skips chain (Found way) = rest (cases ++ record { map = map; chain = chain; way = way } ∷ []) skips
answered map rest cases skips chain (Skipped skip) = rest cases (skips ++ skip ∷ [])

-- what a site asks for its maps, one after another
unfoldable pub of_maps : Site → ℕ → List ℕ → List Case → List Skip → Ask
of_maps what most [] cases skips = tell cases skips
of_maps what most (map ∷ maps) cases skips = of_map what most map [] (answered map (of_maps what most maps) cases skips)

-- the question of a feedback: a site that has seen too many maps asks nothing
abbrev pub question : Shape → Site → List ℕ → Bool → Ask
question s what maps mega = if mega then tell [] [] else of_maps what s.links maps [] []
