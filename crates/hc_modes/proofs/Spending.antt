-- What operations hand out at most, and when they leave an object slow for want of room.
use Rattle.std.proofs.Common.{◌≡◌, ◌≢◌, ℕ, zero, suc, ◌+◌, ◌≤◌, Bool, true, false, cond, List, [], ◌∷◌, Option, Some, None, length, refl, sym, ap, ◌∙◌, subst, arith, length-append}
use Rattle.std.specs.Prelude.{◌⊎◌, ⊤, ◌==◌, ◌&&◌, not, nat_le, nat_lt, option_map, slice_get, if◌then◌else◌}
use Rattle.hc_board.specs.Trail.{Access}
use Rattle.hc_layout.specs.Capacity.{cap_of}
use Rattle.hc_layout.specs.declared.capacity.TheConstants.{MAX_FAST}
use Rattle.hc_layout.specs.declared.shape.Shape.{Shape}
use Rattle.hc_layout.specs.declared.words.GateWord.{GateWord}
use Rattle.hc_value.specs.declared.prop.Held.{Held}
use Rattle.hc_value.specs.declared.prop.Prop.{Prop}
use Rattle.hc_value.specs.declared.reply.Cause.{Cause}
use Rattle.hc_value.specs.declared.reply.Cause.TheVariants.{Deleted, Many, Reconfigured as Changed, Space}
use Rattle.hc_heap.specs.Kept.{GatesAreOpen}
use Rattle.hc_heap.specs.Lawful.{Lawful}
use Rattle.hc_heap.specs.Readings.{gate_in, map_in, root_in, store_in}
use Rattle.hc_heap.specs.States.{View}
use Rattle.hc_heap.specs.Writes.{Trail}
use Rattle.hc_descs.specs.Entries.{count_of, entries_in}
use Rattle.hc_tree.specs.declared.need.Need.{Need}
use Rattle.hc_tree.specs.Copying.{copy_need}
use Rattle.hc_tree.specs.Growth.{child_need, fitting_child, root_need, root_of}
use Rattle.hc_value.specs.declared.field.Constness.TheVariants.{Const}
use Rattle.hc_modes.specs.Admitting.{held_detail}
use Rattle.hc_tree.specs.Needs.{HasSpace, array_of, build_need, no_need, own_need, with_need}
use Rattle.hc_update.specs.Renewing.{generalise_need}
use Rattle.hc_table.specs.Changes.{Did, Nothing, Moved, Created, Added, Wrote, Reconfigured, Removed, Linked, Locked, Restricted, after}
use Rattle.hc_table.specs.World.{World, props_at, new_object}
use Rattle.hc_modes.specs.Came.{AreMoves, Became, Came, Effect, Generalised, HasGeneralised, HasLeft, HasMigrated, HasReplaced, IsBecome, IsMarked, IsMove, IsStill, LacksRoom, Left, Made, Marked, MayLeave, Migrated, Move, Moves, marked_before, moves_before, moves_to_create, moves_to_link, world_of}
use Rattle.hc_modes.specs.Changes.{key_of}
use Rattle.hc_slots.specs.Slots.{slots_need}
use Rattle.hc_slots.specs.Meaning.{Dictionary}
use Rattle.hc_modes.specs.Meaning.{cause_in, world}
use Rattle.hc_modes.specs.Modes.{Becomes, IsCreated, IsOne, IsWithin, Modes, StaysFast, add_need, arrays_upto, both, grown_need, if_deleted, if_fast, if_many, link_need, need_by, need_of, proto_need, walk_need}
use Rattle.hc_modes.specs.Spent.{IsNearlyFull, IsSpent, greatest_need, times}
use Rattle.hc_modes.specs.State.{ObjectsState, IsObjects}
use Rattle.hc_modes.proofs.Needing.{IsAtMost, arrays-rise, same-least, no-less-need, no-less-on, none-least, within-none, within-same}
use Rattle.hc_modes.proofs.Items.{kept-past}
use Rattle.hc_modes.proofs.Sound.{below-or}
use Rattle.hc_slots.specs.Cases.{same-or}
use Rattle.hc_modes.proofs.Worlds.{length-world}
use mathlib.Core.Logic.{inl, inr}

-- Capacities

cond-most : (b : Bool) (x y n : ℕ) → x ≤ n → y ≤ n → cond b x y ≤ n
cond-most true x y n first second = first
cond-most false x y n first second = second

cap-most : (k : ℕ) → cap_of k ≤ MAX_FAST
unfolding cap_of
cap-most k =
    cond-most (nat_le k 4) 4 _ MAX_FAST (omega arith)
    (cond-most (nat_le k 8) 8 _ MAX_FAST (omega arith)
    (cond-most (nat_le k 16) 16 _ MAX_FAST (omega arith)
    (cond-most (nat_le k 32) 32 _ MAX_FAST (omega arith)
    (cond-most (nat_le k 64) 64 0 MAX_FAST (omega arith) (omega arith)))))

array-most : (n : ℕ) → array_of n ≤ MAX_FAST
array-most n = cond-most (n == 0) 0 (cap_of n) MAX_FAST (omega arith) (cap-most n)

slots-most : (n c : ℕ) → slots_need n c ≤ MAX_FAST
slots-most n c = cond-most (nat_lt n c) 0 (cap_of (n + 1)) MAX_FAST (omega arith) (cap-most (n + 1))

arrays-all : arrays_upto MAX_FAST ≡ 2736
unfolding cap_of
arrays-all = refl

-- Needs

-- the most that an object needs to become a prototype: a private map with new fields
abbrev most_of_named : Need
most_of_named = record { maps = 1; entries = MAX_FAST; fields = MAX_FAST; links = 0; slots = 0 }

-- what a prototype needs is needed at once by some operation
named-least : (k : Need) → IsAtMost k most_of_named → IsAtMost k greatest_need
named-least k most = record {
  maps = omega (arith, most.maps);
  entries = omega (arith, most.entries, arrays-all);
  fields = omega (arith, most.fields);
  links = omega (arith, most.links);
  slots = omega (arith, most.slots);
}

-- a map with so few entries that becomes private
copied-most : (n : ℕ) → n ≤ MAX_FAST → IsAtMost (copy_need true None n) most_of_named
copied-most n few = record {
  maps = omega arith;
  entries = array-most n;
  fields = omega (arith, few);
  links = omega arith;
  slots = omega arith;
}

-- a map for one property more
abbrev most_of_grown : Need
most_of_grown = record { maps = 1; entries = MAX_FAST; fields = 1; links = 1; slots = 0 }

child-most : (l : Option ℕ) (n : ℕ) → IsAtMost (child_need l n) most_of_grown
child-most (Some c) n = none-least most_of_grown
child-most None n = record { maps = omega arith; entries = cap-most (n + 1); fields = omega arith; links = omega arith; slots = omega arith }

grown-most : (is_proto : Bool) (t : Trail) (m n : ℕ) (p : Prop) → IsAtMost (grown_need is_proto t m n p) most_of_grown
grown-most true t m n p = record { maps = omega arith; entries = cap-most (n + 1); fields = omega arith; links = omega arith; slots = omega arith }
grown-most false t m n p = child-most (fitting_child t m (key_of p) (held_detail t p.held Const)) n

-- that, and slots
added-most : (k : Need) (slots : ℕ) → IsAtMost k most_of_grown → slots ≤ MAX_FAST → IsAtMost (both k (record no_need { slots = slots })) greatest_need
added-most k slots most few = record {
  maps = omega (arith, most.maps);
  entries = omega (arith, most.entries, arrays-all);
  fields = omega (arith, most.fields);
  links = omega (arith, most.links);
  slots = omega (arith, most.slots, few);
}

root-most : (r : Option ℕ) → IsAtMost (root_need r) greatest_need
root-most (Some r) = none-least greatest_need
root-most None = record { maps = omega arith; entries = omega arith; fields = omega arith; links = omega arith; slots = omega arith }

-- another prototype: a private copy, or a walk
recopied-most : (n : ℕ) → IsAtMost (copy_need false None n) greatest_need
recopied-most n = record {
  maps = omega arith;
  entries = let few = array-most n in omega (arith, few, arrays-all);
  fields = omega arith;
  links = omega arith;
  slots = omega arith;
}

walked-most : (n : ℕ) (r : Option ℕ) → n ≤ MAX_FAST → IsAtMost (both (walk_need n) (root_need r)) greatest_need
walked-most n (Some r) few = record {
  maps = omega (arith, few);
  entries = let rise = arrays-rise n MAX_FAST few in omega (arith, rise);
  fields = omega (arith, few);
  links = omega (arith, few);
  slots = omega arith;
}
walked-most n None few = record {
  maps = omega (arith, few);
  entries = let rise = arrays-rise n MAX_FAST few in omega (arith, rise);
  fields = omega (arith, few);
  links = omega (arith, few);
  slots = omega arith;
}

-- maps in the place of others: a walk, a new private map, or new maps from a place on
update-most : (n : ℕ) → n ≤ MAX_FAST → IsAtMost (walk_need n) greatest_need
update-most n few = record {
  maps = omega (arith, few);
  entries = let rise = arrays-rise n MAX_FAST few in omega (arith, rise);
  fields = omega (arith, few);
  links = omega (arith, few);
  slots = omega arith;
}

own-most : (n : ℕ) → IsAtMost (own_need n) greatest_need
own-most n = record {
  maps = omega arith;
  entries = let few = cap-most n in omega (arith, few, arrays-all);
  fields = omega arith;
  links = omega arith;
  slots = omega arith;
}

build-most : (i n : ℕ) → n ≤ MAX_FAST → IsAtMost (build_need i n) greatest_need
build-most i n few = record {
  maps = omega (arith, few);
  entries = let rise = arrays-rise n MAX_FAST few in omega (arith, rise);
  fields = omega (arith, few);
  links = omega (arith, few);
  slots = omega arith;
}

generalise-most : (g : GateWord) (i : ℕ) → g.entries ≤ MAX_FAST → IsAtMost (generalise_need g i) greatest_need
generalise-most g i few = by g.is_private
  where
    by : (b : Bool) → IsAtMost (cond b (own_need g.entries) (build_need i g.entries)) greatest_need
    by true = own-most g.entries
    by false = build-most i g.entries few

linked-most : (is_proto : Bool) (n : ℕ) (r : Option ℕ) → n ≤ MAX_FAST → IsAtMost (cond is_proto (copy_need false None n) (both (walk_need n) (root_need r))) greatest_need
linked-most true n r few = recopied-most n
linked-most false n r few = walked-most n r few

own-map-most : (is_proto : Bool) (n : ℕ) → n ≤ MAX_FAST → IsAtMost (cond is_proto no_need (copy_need true None n)) most_of_named
own-map-most true n few = none-least most_of_named
own-map-most false n few = copied-most n few

-- open maps have few entries
few-in : GatesAreOpen → (s : Shape) (t : Trail) → Lawful s t → (m : ℕ) → count_of t m ≤ MAX_FAST
few-in gates s t lawful m = by (gate_in t m) refl
  where
    by : (h : Option GateWord) → gate_in t m ≡ h → entries_in h ≤ MAX_FAST
    by None e = omega arith
    by (Some g) e = (gates s t m g lawful e).few

module _ (t : Trail) (few : (m : ℕ) → count_of t m ≤ MAX_FAST) where
  proto-most : (p : ℕ) → IsAtMost (proto_need t p) most_of_named
  proto-most p = by (map_in t p)
    where
      by : (h : Option ℕ) → IsAtMost (need_by h (λ m. if (root_in t p).is_proto then no_need else copy_need true None (count_of t m))) most_of_named
      by None = none-least most_of_named
      by (Some m) = own-map-most (root_in t p).is_proto (count_of t m) (few m)

  fast-most : (p : ℕ) (now : Option Cause) → IsAtMost (if_fast now (proto_need t p)) most_of_named
  fast-most p None = proto-most p
  fast-most p (Some c) = none-least most_of_named

  add-most : (o : ℕ) (p : Prop) → IsAtMost (add_need t o p) greatest_need
  add-most o p = by (map_in t o)
    where
      by : (h : Option ℕ) → IsAtMost (need_by h (λ m. both (grown_need (root_in t o).is_proto t m (count_of t m) p) (record no_need { slots = slots_need (count_of t m) (store_in t o).capacity }))) greatest_need
      by None = none-least greatest_need
      by (Some m) = added-most (grown_need (root_in t o).is_proto t m (count_of t m) p) (slots_need (count_of t m) (store_in t o).capacity)
          (grown-most (root_in t o).is_proto t m (count_of t m) p) (slots-most (count_of t m) (store_in t o).capacity)

  link-most : (o : ℕ) (proto of_null : Option ℕ) → IsAtMost (link_need t o proto of_null) greatest_need
  link-most o proto of_null = by (map_in t o)
    where
      by : (h : Option ℕ) → IsAtMost (need_by h (λ m. if (root_in t o).is_proto then copy_need false None (count_of t m) else both (walk_need (count_of t m)) (root_need (root_of t proto of_null)))) greatest_need
      by None = none-least greatest_need
      by (Some m) = linked-most (root_in t o).is_proto (count_of t m) (root_of t proto of_null) (few m)

-- what an operation needs by itself is at most the greatest need
need-most : {P : Type 0} (a : ObjectsState P) (did : Did) → ((m : ℕ) → count_of a.heap.view.trail m ≤ MAX_FAST) → IsAtMost (need_of a did) greatest_need
need-most {P} a Nothing few = none-least greatest_need
need-most {P} a Moved few = none-least greatest_need
need-most {P} a (Created proto) few = root-most (root_of a.heap.view.trail proto a.of_null)
need-most {P} a (Added o p) few = add-most a.heap.view.trail few o p
need-most {P} a (Wrote o i held) few = none-least greatest_need
need-most {P} a (Reconfigured o i p) few = none-least greatest_need
need-most {P} a (Removed o i) few = none-least greatest_need
need-most {P} a (Linked o proto) few = link-most a.heap.view.trail few o proto a.of_null
need-most {P} a (Locked o) few = none-least greatest_need
need-most {P} a (Restricted o frozen) few = none-least greatest_need

-- Room

space-least : (v : View) (a b : Need) → IsAtMost a b → HasSpace v b → HasSpace v a
space-least v a b most space = record {
  maps = omega (arith, most.maps, space.maps);
  entries = omega (arith, most.entries, space.entries);
  fields = omega (arith, most.fields, space.fields);
  links = omega (arith, most.links, space.links);
  slots = omega (arith, most.slots, space.slots);
}

within-least : (a b : Need) (old new : Shape) → IsAtMost a b → IsWithin a old new → IsWithin b old new
within-least a b old new most it = record {
  maps = omega (arith, most.maps, it.maps);
  entries = omega (arith, most.entries, it.entries);
  fields = omega (arith, most.fields, it.fields);
  links = omega (arith, most.links, it.links);
  slots = omega (arith, most.slots, it.slots);
  cells = it.cells;
  rises = it.rises;
}

-- where there is room now there was before
space-before : (v w : View) (k need : Need) → IsWithin k v.used w.used → w.shape ≡ v.shape → HasSpace w need → HasSpace v need
space-before v w k need it shape space = record {
  maps = omega (arith, it.rises.maps, space.maps, ap (λ (s : Shape). s.maps) shape);
  entries = omega (arith, it.rises.entries, space.entries, ap (λ (s : Shape). s.entries) shape);
  fields = omega (arith, it.rises.fields, space.fields, ap (λ (s : Shape). s.fields) shape);
  links = omega (arith, it.rises.links, space.links, ap (λ (s : Shape). s.links) shape);
  slots = omega (arith, it.rises.slots, space.slots, ap (λ (s : Shape). s.slots) shape);
}

-- Causes

becomes-other : (was given now : Option Cause) (room : Type 0) → was ≢ Some Space → given ≢ Some Space → room → Becomes was given room now → now ≢ Some Space
becomes-other (Some first) given now room other none there h is = other (sym h ∙ is)
becomes-other None (Some cause) now room other none there h is = none (sym h ∙ is)
becomes-other None None now room other none there h is = let fast : now ≡ None = h.stays.1 there in let f : ⊥ = cc in f

stays-other : (now : Option Cause) (room : Type 0) → room → StaysFast room now → now ≢ Some Space
stays-other now room there h is = let fast : now ≡ None = h.stays.1 there in let f : ⊥ = cc in f

none-other : None ≢ Some Space
none-other is = let f : ⊥ = cc in f

changed-other : Some Changed ≢ Some Space
changed-other is = let f : ⊥ = cc in f

many-other : (n : ℕ) → if_many n ≢ Some Space
many-other n = by (nat_lt n MAX_FAST)
  where
    by : (b : Bool) → cond b None (Some Many) ≢ Some Space
    by true is = let f : ⊥ = cc in f
    by false is = let f : ⊥ = cc in f

deleted-other : (is_proto : Bool) (n i : ℕ) → if_deleted is_proto n i ≢ Some Space
deleted-other is_proto n i = by (suc i == n && not is_proto)
  where
    by : (b : Bool) → cond b None (Some Deleted) ≢ Some Space
    by true is = let f : ⊥ = cc in f
    by false is = let f : ⊥ = cc in f

-- What an operation leaves

module _ {P : Type 0} (a b : ObjectsState P) (few : (m : ℕ) → count_of a.heap.view.trail m ≤ MAX_FAST) (space : HasSpace a.heap.view greatest_need) where
  one-other : (o : ℕ) (given : Option Cause) (room : Type 0) → IsOne a o given room b → given ≢ Some Space → room → (q : ℕ) → cause_in a.kept q ≢ Some Space → cause_in b.kept q ≢ Some Space
  one-other o given room h none there q other = same-or q o (cause_in b.kept q ≢ Some Space)
      (λ same. subst (λ (k : ℕ). cause_in b.kept k ≢ Some Space) (sym same)
      (becomes-other (cause_in a.kept o) given (cause_in b.kept o) room (subst (λ (k : ℕ). cause_in a.kept k ≢ Some Space) same other) none there h.this))
      (λ different is. other (sym (h.others q different) ∙ is))

  created-other : (proto : Option ℕ) → world_of b ≡ after (Created proto) (world_of a) → IsCreated a proto b → (q : ℕ) → cause_in a.kept q ≢ Some Space → cause_in b.kept q ≢ Some Space
  created-other proto world_is h q other = below-or q (length a.kept) (cause_in b.kept q ≢ Some Space)
      (λ below is. other (sym (h.others q below) ∙ is))
      (λ past. same-or q (length a.kept) (cause_in b.kept q ≢ Some Space)
      (λ same. subst (λ (k : ℕ). cause_in b.kept k ≢ Some Space) (sym same) new-other)
      (λ different. none-there (omega (arith, past, different, count))))
    where
      count : length b.kept ≡ length a.kept + 1
      count =
          let now = length-world b.heap.view.trail b.kept in
          let before = length-world a.heap.view.trail a.kept in
          let grown = length-append (world_of a) (new_object proto ∷ []) in
          omega (arith, now, before, grown, ap (λ (w : World). length w) world_is)

      none-there : length b.kept ≤ q → cause_in b.kept q ≢ Some Space
      none-there past is = none-other (sym (ap (λ (x : Option Dictionary). option_map (λ d. d.cause) x) (kept-past b.kept q past)) ∙ is)

      new-other : cause_in b.kept (length a.kept) ≢ Some Space
      new-other = stays-other (cause_in b.kept (length a.kept)) (HasSpace a.heap.view (root_need (root_of a.heap.view.trail proto a.of_null)))
          (space-least a.heap.view _ greatest_need (root-most (root_of a.heap.view.trail proto a.of_null)) space)
          h.this

  -- an operation that has room makes no object slow for want of it
  modes-other : (did : Did) → world_of b ≡ after did (world_of a) → Modes a did b → (q : ℕ) → cause_in a.kept q ≢ Some Space → cause_in b.kept q ≢ Some Space
  modes-other Nothing world_is h q other = λ is. other (sym (h q) ∙ is)
  modes-other Moved world_is h q other = λ is. other (sym (h q) ∙ is)
  modes-other (Created proto) world_is h q other = created-other proto world_is h q other
  modes-other (Added o p) world_is h q other = one-other o _ _ h (many-other (length (props_at (world a.heap.view.trail a.kept) o)))
      (space-least a.heap.view (add_need a.heap.view.trail o p) greatest_need (add-most a.heap.view.trail few o p) space) q other
  modes-other (Wrote o i held) world_is h q other = λ is. other (sym (h q) ∙ is)
  modes-other (Reconfigured o i p) world_is h q other = λ is.
      let another : option_map key_of (slice_get (props_at (world a.heap.view.trail a.kept) o) i) ≢ Some (key_of p) = λ same. other (sym (h.same same q) ∙ is) in
      one-other o (Some Changed) ⊤ (h.other another) changed-other tt q other is
  modes-other (Removed o i) world_is h q other = one-other o _ _ h (deleted-other (root_in a.heap.view.trail o).is_proto (length (props_at (world a.heap.view.trail a.kept) o)) i) tt q other
  modes-other (Linked o proto) world_is h q other = one-other o _ _ h none-other
      (space-least a.heap.view (link_need a.heap.view.trail o proto a.of_null) greatest_need (link-most a.heap.view.trail few o proto a.of_null) space) q other
  modes-other (Locked o) world_is h q other = one-other o (Some Changed) ⊤ h changed-other tt q other
  modes-other (Restricted o frozen) world_is h q other = one-other o (Some Changed) ⊤ h changed-other tt q other

-- One step, and several

-- a cause that isn't another's
by-cause : (was : Option Cause) (C : Type 0) → (was ≡ Some Space → C) → (was ≢ Some Space → C) → C
by-cause None C space other = other (λ is. let f : ⊥ = cc in f)
by-cause (Some Deleted) C space other = other (λ is. let f : ⊥ = cc in f)
by-cause (Some Many) C space other = other (λ is. let f : ⊥ = cc in f)
by-cause (Some Changed) C space other = other (λ is. let f : ⊥ = cc in f)
by-cause (Some Space) C space other = space refl

-- no more was handed out than this, and an object is slow for want of room only where it was, or some region is nearly full
record Spends {P : Type 0} (k : Need) (a b : ObjectsState P) : Type 0 where
  within : IsWithin k a.heap.view.used b.heap.view.used
  shape : b.heap.view.shape ≡ a.heap.view.shape
  space : (o : ℕ) → cause_in b.kept o ≡ Some Space → (cause_in a.kept o ≡ Some Space) ⊎ IsNearlyFull b.heap.view

module _ {P : Type 0} where
  spends-none : (k : Need) (a : ObjectsState P) → Spends k a a
  spends-none k a = record { within = within-none k a.heap.view.used; shape = refl; space = λ o is. inl is }

  spends-still : (k : Need) (a b : ObjectsState P) → IsStill a b → Spends k a b
  spends-still k a b still = subst (λ (s : ObjectsState P). Spends k a s) (sym still.is) (record { within = within-none k a.heap.view.used; shape = refl; space = λ o is. inl is })

  spends-more : (j k : Need) (a b : ObjectsState P) → IsAtMost j k → Spends j a b → Spends k a b
  spends-more j k a b most it = record { within = within-least j k a.heap.view.used b.heap.view.used most it.within; shape = it.shape; space = it.space }

  spends-on : (j k : Need) (a b c : ObjectsState P) → Spends j a b → Spends k b c → Spends (both j k) a c
  spends-on j k a b c first second = record {
    within = record {
      maps = omega (arith, first.within.maps, second.within.maps);
      entries = omega (arith, first.within.entries, second.within.entries);
      fields = omega (arith, first.within.fields, second.within.fields);
      links = omega (arith, first.within.links, second.within.links);
      slots = omega (arith, first.within.slots, second.within.slots);
      cells = second.within.cells ∙ first.within.cells;
      rises = no-less-on a.heap.view.used b.heap.view.used c.heap.view.used first.within.rises second.within.rises;
    };
    shape = second.shape ∙ first.shape;
    space = λ o is. by o (second.space o is);
  }
    where
      by : (o : ℕ) → (cause_in b.kept o ≡ Some Space) ⊎ IsNearlyFull c.heap.view → (cause_in a.kept o ≡ Some Space) ⊎ IsNearlyFull c.heap.view
      by o (inr full) = inr full
      by o (inl was) = by-then (first.space o was)
        where
          by-then : (cause_in a.kept o ≡ Some Space) ⊎ IsNearlyFull b.heap.view → (cause_in a.kept o ≡ Some Space) ⊎ IsNearlyFull c.heap.view
          by-then (inl before) = inl before
          by-then (inr full) = inr (λ room. full (space-before b.heap.view c.heap.view k greatest_need second.within second.shape room))

  -- where there was room, no object became slow for want of it
  spends-by : (k : Need) (a b : ObjectsState P) → IsWithin k a.heap.view.used b.heap.view.used → b.heap.view.shape ≡ a.heap.view.shape
      → (HasSpace a.heap.view greatest_need → (q : ℕ) → cause_in a.kept q ≢ Some Space → cause_in b.kept q ≢ Some Space) → Spends k a b
  spends-by k a b within shape other = record {
    within = within;
    shape = shape;
    space = λ q is. by-cause (cause_in a.kept q) ((cause_in a.kept q ≡ Some Space) ⊎ IsNearlyFull b.heap.view)
        (λ was. inl was)
        (λ none. inr (λ room. other (space-before a.heap.view b.heap.view k greatest_need within shape room) q none is));
  }

-- what was handed out just so
used-within : (k most : Need) (old new : Shape) → new ≡ with_need k old → IsAtMost k most → IsWithin most old new
used-within k most old new is at = subst (IsWithin most old) (sym is) (record {
  maps = omega (arith, at.maps);
  entries = omega (arith, at.entries);
  fields = omega (arith, at.fields);
  links = omega (arith, at.links);
  slots = omega (arith, at.slots);
  cells = refl;
  rises = no-less-need k old;
})

module _ (gates : GatesAreOpen) {P : Type 0} (went : P → List Access → List Access → P → Type 0) where
  abbrev AreFew : ObjectsState P → Type 0
  AreFew a = (m : ℕ) → count_of a.heap.view.trail m ≤ MAX_FAST

  open-few : (a : ObjectsState P) (m : ℕ) (g : GateWord) → AreFew a → gate_in a.heap.view.trail m ≡ Some g → g.entries ≤ MAX_FAST
  open-few a m g few is = subst (λ (x : Option GateWord). entries_in x ≤ MAX_FAST) is (few m)

  became-spends : (a b : ObjectsState P) (p : ℕ) → AreFew a → IsBecome went a p b → Spends most_of_named a b
  became-spends a b p few h = spends-by most_of_named a b
      (used-within (if_fast (cause_in b.kept p) (proto_need a.heap.view.trail p)) most_of_named a.heap.view.used b.heap.view.used h.used (fast-most a.heap.view.trail few p (cause_in b.kept p)))
      h.steps.shape
      (λ room q other. same-or q p (cause_in b.kept q ≢ Some Space)
      (λ same. subst (λ (k : ℕ). cause_in b.kept k ≢ Some Space) (sym same)
      (becomes-other (cause_in a.kept p) None (cause_in b.kept p) (HasSpace a.heap.view (proto_need a.heap.view.trail p)) (subst (λ (k : ℕ). cause_in a.kept k ≢ Some Space) same other) none-other
      (space-least a.heap.view (proto_need a.heap.view.trail p) greatest_need (named-least _ (proto-most a.heap.view.trail few p)) room) h.mode))
      (λ different is. other (sym (h.others q different) ∙ is)))

  -- where there is room for the greatest need, there is for each
  lacks-none : (a : ObjectsState P) (o : ℕ) → AreFew a → HasSpace a.heap.view greatest_need → LacksRoom a o → ⊥
  lacks-none a o few room (inl it) = it.full (space-least a.heap.view (add_need a.heap.view.trail o it.property) greatest_need (add-most a.heap.view.trail few o it.property) room)
  lacks-none a o few room (inr (inl it)) = it.full (space-least a.heap.view (walk_need (count_of a.heap.view.trail it.map)) greatest_need (update-most (count_of a.heap.view.trail it.map) (few it.map)) room)
  lacks-none a o few room (inr (inr it)) =
      it.2.full (space-least a.heap.view (generalise_need it.2.gate it.0) greatest_need (generalise-most it.2.gate it.0 (open-few a it.2.map it.2.gate few it.2.is_open)) room)

  left-other : (a : ObjectsState P) (o : ℕ) (cause : Cause) → AreFew a → HasSpace a.heap.view greatest_need → MayLeave a o cause → Some cause ≢ Some Space
  left-other a o Many few room why is = let f : ⊥ = cc in f
  left-other a o Deleted few room why is = why
  left-other a o Changed few room why is = why
  left-other a o Space few room why is = lacks-none a o few room why

  left-spends : (a b : ObjectsState P) (o : ℕ) (cause : Cause) → AreFew a → HasLeft went a o cause b → Spends no_need a b
  left-spends a b o cause few h = spends-by no_need a b (within-same no_need a.heap.view.used b.heap.view.used h.used) h.steps.shape
      (λ room q other. same-or q o (cause_in b.kept q ≢ Some Space)
      (λ same. subst (λ (k : ℕ). cause_in b.kept k ≢ Some Space) (sym same) (λ is. left-other a o cause few room h.why (sym h.slow ∙ is)))
      (λ different is. other (sym (h.others q different) ∙ is)))

  -- what a move hands out at most
  abbrev cost : Move → Need
  cost (Marked o) = no_need
  cost (Became p) = most_of_named
  cost (Left o cause) = no_need
  cost (Migrated o) = greatest_need
  cost (Generalised o i held) = greatest_need

  abbrev costs : List Move → Need
  costs [] = no_need
  costs (move ∷ moves) = both (cost move) (costs moves)

  marked-spends : (a b : ObjectsState P) (o : ℕ) → IsMarked went a o b → Spends no_need a b
  marked-spends a b o h = spends-by no_need a b (within-same no_need a.heap.view.used b.heap.view.used h.used) h.steps.shape
      (λ room q other is. other (sym (ap (λ (kept : List (Option Dictionary)). cause_in kept q) h.kept) ∙ is))

  replaced-spends : {Dies : ℕ → Type 0} (need : Need) (a b : ObjectsState P) (o : ℕ) → IsAtMost need greatest_need → HasReplaced went Dies need a o b → Spends greatest_need a b
  replaced-spends need a b o most h = spends-by greatest_need a b (within-least need greatest_need a.heap.view.used b.heap.view.used most h.needs) h.steps.shape
      (λ room q other is. other (sym (ap (λ (kept : List (Option Dictionary)). cause_in kept q) h.kept) ∙ is))

  migrated-spends : (a b : ObjectsState P) (o : ℕ) → AreFew a → HasMigrated went a o b → Spends greatest_need a b
  migrated-spends a b o few h = replaced-spends (walk_need (count_of a.heap.view.trail h.map)) a b o (update-most (count_of a.heap.view.trail h.map) (few h.map)) h.replaced

  generalised-spends : (a b : ObjectsState P) (o i : ℕ) (held : Held) → AreFew a → HasGeneralised went a o i held b → Spends greatest_need a b
  generalised-spends a b o i held few h = replaced-spends (generalise_need h.gate i) a b o (generalise-most h.gate i (open-few a h.map h.gate few h.is_open)) h.replaced

  move-spends : (a b : ObjectsState P) (move : Move) → AreFew a → IsMove went a move b → Spends (cost move) a b
  move-spends a b (Marked o) few h = marked-spends a b o h
  move-spends a b (Became p) few h = became-spends a b p few h
  move-spends a b (Left o cause) few h = left-spends a b o cause few h
  move-spends a b (Migrated o) few h = migrated-spends a b o few h
  move-spends a b (Generalised o i held) few h = generalised-spends a b o i held few h

  move-few : (a b : ObjectsState P) (move : Move) → IsMove went a move b → AreFew b
  move-few a b (Marked o) h = few-in gates b.heap.view.shape b.heap.view.trail h.lawful
  move-few a b (Became p) h = few-in gates b.heap.view.shape b.heap.view.trail h.lawful
  move-few a b (Left o cause) h = few-in gates b.heap.view.shape b.heap.view.trail h.lawful
  move-few a b (Migrated o) h = few-in gates b.heap.view.shape b.heap.view.trail h.replaced.lawful
  move-few a b (Generalised o i held) h = few-in gates b.heap.view.shape b.heap.view.trail h.replaced.lawful

  moves-few : (a b : ObjectsState P) (moves : List Move) → AreFew a → AreMoves went a moves b → AreFew b
  moves-few a b [] few h = subst (λ (s : ObjectsState P). AreFew s) (sym h.is) few
  moves-few a b (move ∷ moves) few h = moves-few h.0 b moves (move-few a h.0 move h.1) h.2

  moves-spend : (a b : ObjectsState P) (moves : List Move) → AreFew a → AreMoves went a moves b → Spends (costs moves) a b
  moves-spend a b [] few h = spends-still no_need a b h
  moves-spend a b (move ∷ moves) few h = spends-on (cost move) (costs moves) a h.0 b (move-spends a h.0 move few h.1) (moves-spend h.0 b moves (move-few a h.0 move h.1) h.2)

  cost-least : (move : Move) → IsAtMost (cost move) greatest_need
  cost-least (Marked o) = none-least greatest_need
  cost-least (Became p) = named-least most_of_named (same-least most_of_named)
  cost-least (Left o cause) = none-least greatest_need
  cost-least (Migrated o) = same-least greatest_need
  cost-least (Generalised o i held) = same-least greatest_need

  -- one move at most
  few-least : (moves : List Move) → length moves ≤ 1 → IsAtMost (costs moves) greatest_need
  few-least [] few = none-least greatest_need
  few-least (move ∷ []) few = let one = cost-least move in record {
    maps = omega (arith, one.maps);
    entries = omega (arith, one.entries);
    fields = omega (arith, one.fields);
    links = omega (arith, one.links);
    slots = omega (arith, one.slots);
  }
  few-least (move ∷ next ∷ moves) few = absurd (omega (arith, few))

  made-spends : (a b : ObjectsState P) (did : Did) → AreFew a → Made went a did b → Spends greatest_need a b
  made-spends a b did few made = spends-by greatest_need a b
      (within-least (need_of a did) greatest_need a.heap.view.used b.heap.view.used (need-most a did few) made.needs)
      made.steps.shape
      (λ room q other. modes-other a b few room did made.steps.world made.modes q other)

  one-named : (p : ℕ) → IsAtMost (costs (Became p ∷ [])) greatest_need
  one-named p = few-least (Became p ∷ []) (omega arith)

  create-least : (proto : Option ℕ) → IsAtMost (costs (moves_to_create proto)) greatest_need
  create-least (Some p) = one-named p
  create-least None = none-least greatest_need

  marked-least : (was named : Option Cause) (o p : ℕ) → IsAtMost (costs (marked_before was named o (Became p ∷ []))) greatest_need
  marked-least None (Some cause) o p = let one = one-named p in record {
    maps = omega (arith, one.maps);
    entries = omega (arith, one.entries);
    fields = omega (arith, one.fields);
    links = omega (arith, one.links);
    slots = omega (arith, one.slots);
  }
  marked-least None None o p = one-named p
  marked-least (Some c) named o p = one-named p

  link-least : (a : ObjectsState P) (o : ℕ) (proto : Option ℕ) → IsAtMost (costs (moves_to_link a o proto)) greatest_need
  link-least a o (Some p) = marked-least (cause_in a.kept o) (cause_in a.kept p) o p
  link-least a o None = none-least greatest_need

  before-least : (a : ObjectsState P) (did : Did) → IsAtMost (costs (moves_before a did)) greatest_need
  before-least a Nothing = none-least greatest_need
  before-least a Moved = none-least greatest_need
  before-least a (Created proto) = create-least proto
  before-least a (Added o p) = none-least greatest_need
  before-least a (Wrote o i held) = none-least greatest_need
  before-least a (Reconfigured o i p) = none-least greatest_need
  before-least a (Removed o i) = none-least greatest_need
  before-least a (Linked o proto) = link-least a o proto
  before-least a (Locked o) = none-least greatest_need
  before-least a (Restricted o frozen) = none-least greatest_need

  -- an operation, and the moves before it
  abbrev twice : Need
  twice = both greatest_need greatest_need

  effect-spends : (a b : ObjectsState P) (did : Did) → AreFew a → Effect went a did b → Spends twice a b
  effect-spends a b did few h = spends-on greatest_need greatest_need a h.mid b
      (spends-more (costs (moves_before a did)) greatest_need a h.mid (before-least a did) (moves-spend a h.mid (moves_before a did) few h.moves))
      (made-spends h.mid b did (moves-few a h.mid (moves_before a did) few h.moves) h.own)

  moved-spends : (a b : ObjectsState P) → AreFew a → Moves went a b → Spends greatest_need a b
  moved-spends a b few h = spends-more (costs h.moves) greatest_need a b (few-least h.moves h.few) (moves-spend a b h.moves few h.are)

  came-spends : (a b : ObjectsState P) (did : Did) → AreFew a → Came went a did b → Spends twice a b
  came-spends a b Nothing few h = spends-still twice a b h
  came-spends a b Moved few h = spends-more greatest_need twice a b
      (record { maps = omega arith; entries = omega arith; fields = omega arith; links = omega arith; slots = omega arith })
      (moved-spends a b few h)
  came-spends a b (Created proto) few h = effect-spends a b (Created proto) few h
  came-spends a b (Added o p) few h = effect-spends a b (Added o p) few h
  came-spends a b (Wrote o i held) few h = effect-spends a b (Wrote o i held) few h
  came-spends a b (Reconfigured o i p) few h = effect-spends a b (Reconfigured o i p) few h
  came-spends a b (Removed o i) few h = effect-spends a b (Removed o i) few h
  came-spends a b (Linked o proto) few h = effect-spends a b (Linked o proto) few h
  came-spends a b (Locked o) few h = effect-spends a b (Locked o) few h
  came-spends a b (Restricted o frozen) few h = effect-spends a b (Restricted o frozen) few h

spent-as : {P : Type 0} (n : ℕ) (k : Need) (a b : ObjectsState P) → IsAtMost k (times n greatest_need) → Spends k a b → IsSpent n a b
spent-as {P} n k a b most it = record { within = within-least k (times n greatest_need) a.heap.view.used b.heap.view.used most it.within; shape = it.shape; space = it.space }

pub spent-none : {P : Type 0} (n : ℕ) (a : ObjectsState P) → IsSpent n a a
spent-none {P} n a = record { within = within-none (times n greatest_need) a.heap.view.used; shape = refl; space = λ o is. inl is }

-- an operation, with the moves before it
pub spent-one : GatesAreOpen → {P : Type 0} (went : P → List Access → List Access → P → Type 0) (a b : ObjectsState P) (did : Did) → IsObjects a.heap.view a.kept a.of_null → Came went a did b → IsSpent 2 a b
spent-one gates {P} went a b did objects came =
    spent-as 2 (both greatest_need greatest_need) a b (record { maps = omega arith; entries = omega arith; fields = omega arith; links = omega arith; slots = omega arith })
    (came-spends gates went a b did (few-in gates a.heap.view.shape a.heap.view.trail objects.heap.lawful) came)

-- a move
pub spent-moves : GatesAreOpen → {P : Type 0} (went : P → List Access → List Access → P → Type 0) (a b : ObjectsState P) → IsObjects a.heap.view a.kept a.of_null → Moves went a b → IsSpent 1 a b
spent-moves gates {P} went a b objects moves =
    spent-as 1 greatest_need a b (record { maps = omega arith; entries = omega arith; fields = omega arith; links = omega arith; slots = omega arith })
    (moved-spends gates went a b (few-in gates a.heap.view.shape a.heap.view.trail objects.heap.lawful) moves)

-- so much, and so much again
times-both : (m n : ℕ) (k : Need) → IsAtMost (both (times m k) (times n k)) (times (m + n) k)
times-both zero n k =
    let is : n ≡ 0 + n = omega arith in
    subst (λ (x : ℕ). IsAtMost (both no_need (times n k)) (times x k)) is
    (record { maps = omega arith; entries = omega arith; fields = omega arith; links = omega arith; slots = omega arith })
times-both (suc m) n k =
    let before = times-both m n k in
    let is : suc (m + n) ≡ suc m + n = omega arith in
    subst (λ (x : ℕ). IsAtMost (both (times (suc m) k) (times n k)) (times x k)) is (record {
      maps = omega (arith, before.maps);
      entries = omega (arith, before.entries);
      fields = omega (arith, before.fields);
      links = omega (arith, before.links);
      slots = omega (arith, before.slots);
    })

pub spent-on : {P : Type 0} (m n : ℕ) (a b c : ObjectsState P) → IsSpent m a b → IsSpent n b c → IsSpent (m + n) a c
spent-on {P} m n a b c first second =
    let it : Spends (both (times m greatest_need) (times n greatest_need)) a c =
    spends-on (times m greatest_need) (times n greatest_need) a b c
    (record { within = first.within; shape = first.shape; space = first.space })
    (record { within = second.within; shape = second.shape; space = second.space }) in
    record {
      within = within-least (both (times m greatest_need) (times n greatest_need)) (times (m + n) greatest_need) a.heap.view.used c.heap.view.used (times-both m n greatest_need) it.within;
      shape = it.shape;
      space = it.space;
    }

-- more of it
times-rise : (m n : ℕ) (k : Need) → m ≤ n → IsAtMost (times m k) (times n k)
times-rise m zero k le = let is : m ≡ 0 = omega (arith, le) in subst (λ (x : ℕ). IsAtMost (times x k) (times 0 k)) (sym is) (same-least no_need)
times-rise m (suc n) k le = same-or m (suc n) (IsAtMost (times m k) (times (suc n) k))
    (λ is. subst (λ (x : ℕ). IsAtMost (times m k) (times x k)) is (same-least (times m k)))
    (λ other.
    let before : m ≤ n = omega (arith, le, other) in
    let risen = times-rise m n k before in
    record {
      maps = omega (arith, risen.maps);
      entries = omega (arith, risen.entries);
      fields = omega (arith, risen.fields);
      links = omega (arith, risen.links);
      slots = omega (arith, risen.slots);
    })

pub spent-more : {P : Type 0} (m n : ℕ) (a b : ObjectsState P) → m ≤ n → IsSpent m a b → IsSpent n a b
spent-more {P} m n a b le it = record { within = within-least (times m greatest_need) (times n greatest_need) a.heap.view.used b.heap.view.used (times-rise m n greatest_need le) it.within; shape = it.shape; space = it.space }
