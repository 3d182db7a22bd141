-- A write to a slot, a map that is left, and a map that is grown into, as steps of an object.
use Rattle.hc_tree.specs.Details.{NoMap}
use Rattle.std.proofs.Common.{◌≡◌, ◌≢◌, ℕ, ◌+◌, ◌<◌, Bool, true, false, cond, eq-eqb, List, [], ◌∷◌, ◌++◌, Option, Some, None, length, refl, sym, ap, ◌∙◌, subst, arith}
use Rattle.std.proofs.Math.Nat.{le_refl}
use Rattle.hc_layout.specs.declared.words.GateWord.{GateWord}
use Rattle.hc_layout.specs.declared.words.MapBits.{MapBits}
use Rattle.hc_value.specs.declared.field.Detail.{Detail}
use Rattle.hc_value.specs.declared.key.Key.{Key}
use Rattle.hc_value.specs.declared.prop.Held.{Held}
use Rattle.hc_heap.specs.Writes.{Trail, Bits, ObjectMap, Slot}
use Rattle.hc_heap.specs.Readings.{gate_in, map_in, root_in, store_in, bits_in, slot_in}
use Rattle.hc_heap.specs.Lawful.{IsFormOf, word_from}
use Rattle.hc_heap.specs.Kept.{DetailsRise, UnusedSaysNothing}
use Rattle.hc_heap.specs.Frames.{adds-on, goes-on-of}
use Rattle.hc_heap.specs.States.{View, IsHeap, with_write}
use Rattle.hc_descs.specs.Entries.{key_at, detail_at}
use Rattle.hc_tree.specs.Tree.{IsTree}
use Rattle.hc_tree.specs.Kept.{MapsAreKept, TreesStay}
use Rattle.hc_tree.specs.Growth.{marked}
use Rattle.hc_table.specs.World.{with_list, held_at, object}
use Rattle.hc_slots.specs.Meaning.{Dictionary, dictionary_object, held_in, slot_word, fast_object, fast_props, object_shown}
use Rattle.hc_modes.specs.Meaning.{kept_of, world}
use Rattle.hc_slots.specs.Fast.{HasMap}
use Rattle.hc_slots.specs.Slots.{IsIn, Owns, AreHandedOut, SlotsStay, owns-index}
use Rattle.hc_modes.specs.State.{IsObjects}
use Rattle.hc_modes.specs.Changes.{Changed, ChangedBut, OpensNoRoot, Stepped, SteppedBut, IsGrown, property}
use Rattle.hc_slots.specs.Cases.{cond-other, not-both}
use Rattle.hc_modes.proofs.Written.{prop-written, fast-written}
use Rattle.hc_modes.proofs.Grown.{fast-grown}
use Rattle.hc_modes.proofs.Holding.{holds-written, holds-grown}
use Rattle.hc_modes.proofs.Touching.{slot-written, map-marked, map-moved}
use Rattle.hc_modes.proofs.Owning.{alone-still}
use Rattle.hc_modes.proofs.Steps.{slot-tree, move-tree}
use Rattle.hc_modes.proofs.Sound.{is-later}
use Rattle.hc_modes.proofs.Worlds.{object-world}

-- a fast object of the world
pub object-fast : (t : Trail) (kept : List (Option Dictionary)) (o m : ℕ) → o < length kept → kept_of kept o ≡ None → map_in t o ≡ Some m → object (world t kept) o ≡ fast_object t o m
object-fast t kept o m lt fast is =
    object-world t kept o lt
    ∙ ap (λ (i : Option Dictionary). object_shown t o i (map_in t o)) fast
    ∙ ap (λ (h : Option ℕ). object_shown t o None h) is

module _ (maps : MapsAreKept) (details : DetailsRise) (trees : TreesStay) (unused : UnusedSaysNothing) (old : View) (kept : List (Option Dictionary)) (of_null : Option ℕ) (h : IsObjects old kept of_null) (o : ℕ) (so : HasMap old.trail o) where
  -- one slot is written
  module _ (k first w : ℕ) (key : Key) (d : Detail) (held : Held) (heap : IsHeap (with_write old (Slot (first + k) w))) (lt : k < so.gate.entries) (is : (store_in old.trail o).first ≡ Some first)
      (is_key : key_at old.trail so.map k ≡ Some key) (admits : detail_at old.trail so.map k ≡ Some d) (form : IsFormOf key.kind d.rep w) (holds : held_in key.kind d.rep w ≡ held) where
    abbrev new : View
    new = with_write old (Slot (first + k) w)

    owned : Owns old.trail o (first + k)
    owned = owns-index (store_in old.trail o) first k is (omega (arith, lt, so.fast.holds.capacity))

    written : Changed old new o
    written = record {
      writes = slot-written NoMap old o old.trail (first + k) w (λ used. owned);
      shape = refl;
      slots = le_refl old.used.slots;
      tree = trees old.shape old.trail new.trail h.heap.lawful (goes-on-of old.shape (slot-written NoMap old o old.trail (first + k) w (λ used. owned)) heap.lawful) (slot-tree old.trail (first + k) w) h.tree;
      heap = heap;
    }

    others : (j : ℕ) → j < so.gate.entries → j ≢ k → slot_word new.trail o j ≡ slot_word old.trail o j
    others j within ne =
        ap (λ (x : Option ℕ). word_from new.trail x j) is
        ∙ cond-other (first + k) (first + j) w (slot_in old.trail (first + j)) (λ e. omega (arith, e, ne))
        ∙ sym (ap (λ (x : Option ℕ). word_from old.trail x j) is)

    here : slot_word new.trail o k ≡ w
    here =
        ap (λ (x : Option ℕ). word_from new.trail x k) is
        ∙ ap (λ (b : Bool). cond b w (slot_in old.trail (first + k))) (eq-eqb (first + k) (first + k) refl)

    pub written-step : Stepped old new None o (with_list (fast_object old.trail o so.map) (held_at (fast_props old.trail o so.map) k held))
    written-step =
        let after = is-later maps details old new o h.heap written in
        record {
          changed = written;
          well = record {
            as_kept = record {
              map = so.map;
              gate = so.gate;
              is_map = so.is_map;
              fast = record {
                is_open = so.fast.is_open;
                holds = holds-written old.trail new.trail after o so.map so.gate so.fast k key d so.fast.holds.capacity others is_key admits (subst (λ (x : ℕ). IsFormOf key.kind d.rep x) (sym here) form);
                private = so.fast.private;
              };
            };
            store = h.stores o;
            owns = λ s owns used. owns;
            alone = λ p m g other a b gate. alone-still unused old h.heap kept of_null h o p m g other a b gate;
          };
          opens = λ m g none gate shared parent. not-both (gate_in old.trail m) g none gate;
          value =
              ap (λ (x : Option ℕ). object_shown new.trail o None x) so.is_map
              ∙ fast-written old.trail new.trail after o so.map so.gate k held so.fast.is_open others
              (prop-written old.trail new.trail o so.map k key d d held is_key is_key admits admits (ap (held_in key.kind d.rep) here ∙ holds));
        }

  -- the object grows into a map with one entry more
  pub grown-step : {Dies : ℕ → Type 0} (new : View) (c : ℕ) (key : Key) (d : Detail) (held : Held) → ChangedBut Dies old new o → OpensNoRoot old.trail new.trail
      → so.gate.is_locked ≡ false → (grown : IsGrown new.trail so.map c so.gate.entries key d) → map_in new.trail o ≡ Some c
      → grown.gate.is_private ≡ (root_in new.trail o).is_proto
      → so.gate.entries < (store_in new.trail o).capacity → SlotsStay old.trail new.trail o so.gate.entries
      → IsFormOf key.kind d.rep (slot_word new.trail o so.gate.entries) → held_in key.kind d.rep (slot_word new.trail o so.gate.entries) ≡ held
      → AreHandedOut new.used.slots (store_in new.trail o) → ((s : ℕ) → Owns new.trail o s → s < old.used.slots → Owns old.trail o s)
      → ((p m : ℕ) (g : GateWord) → p ≢ o → map_in new.trail o ≡ Some m → map_in old.trail p ≡ Some m → gate_in new.trail m ≡ Some g → g.is_private ≡ false)
      → SteppedBut Dies old new None o (with_list (fast_object old.trail o so.map) (fast_props old.trail o so.map ++ property key held ∷ []))
  grown-step new c key d held changed opens unlocked grown moved private room words form holds store owns alone =
      let after = is-later maps details old new o h.heap changed in
      record {
        changed = changed;
        well = record {
          as_kept = record {
            map = c;
            gate = grown.gate;
            is_map = moved;
            fast = record {
              is_open = grown.is_open;
              holds = holds-grown old.trail new.trail after o so.map so.gate so.fast c key d grown room words form;
              private = private;
            };
          };
          store = store;
          owns = owns;
          alone = alone;
        };
        opens = opens;
        value =
            ap (λ (x : Option ℕ). object_shown new.trail o None x) moved
            ∙ fast-grown old.trail new.trail after o so.map c so.gate key d so.fast.is_open unlocked grown words held holds;
      }

  -- the object leaves its map
  module _ (d : Dictionary) (heap : IsHeap (record old { trail = ObjectMap o None ∷ marked old.trail so.map })) (marked_tree : IsTree (marked old.trail so.map)) (marked_heap : IsHeap (record old { trail = marked old.trail so.map })) where
    abbrev left : View
    left = record old { trail = ObjectMap o None ∷ marked old.trail so.map }

    none-here : map_in left.trail o ≡ None
    none-here = ap (λ (b : Bool). cond b None (map_in (marked old.trail so.map) o)) (eq-eqb o o refl)

    marked-same : {T : Type 0} (reading : Trail → T) → ((b : MapBits) → reading (Bits so.map b ∷ old.trail) ≡ reading old.trail) → reading (marked old.trail so.map) ≡ reading old.trail
    marked-same {T} reading same = by (bits_in old.trail so.map).unstable
      where
        by : (b : Bool) → reading (cond b old.trail (Bits so.map (record { unstable = true; deprecated = (bits_in old.trail so.map).deprecated }) ∷ old.trail)) ≡ reading old.trail
        by true = refl
        by false = same (record { unstable = true; deprecated = (bits_in old.trail so.map).deprecated })

    store-same : store_in left.trail o ≡ store_in old.trail o
    store-same = marked-same (λ (t : Trail). store_in t o) (λ b. refl)

    pub left-step : Stepped old left (Some d) o (dictionary_object d)
    left-step = record {
      changed = record {
        writes = adds-on (map-marked NoMap old o old.trail so.map) (map-moved NoMap old o (marked old.trail so.map) None);
        shape = refl;
        slots = le_refl old.used.slots;
        tree = trees old.shape (marked old.trail so.map) left.trail marked_heap.lawful (goes-on-of old.shape (map-moved NoMap old o (marked old.trail so.map) None) heap.lawful) (move-tree (marked old.trail so.map) o None) marked_tree;
        heap = heap;
      };
      well = record {
        as_kept = none-here;
        store = subst (λ w. AreHandedOut old.used.slots w) (sym store-same) (h.stores o);
        owns = λ s owns used. subst (λ w. IsIn w s) store-same owns;
        alone = λ p m g other is was gate. absurd (not-both (map_in left.trail o) m none-here is);
      };
      opens = λ m g none gate shared parent. not-both (gate_in old.trail m) g none (sym (marked-same (λ (t : Trail). gate_in t m) (λ b. refl)) ∙ gate);
      value = refl;
    }
