-- An operation on one object leaves the words and slots of the others.
use Rattle.std.proofs.Common.{◌≡◌, ◌≢◌, ℕ, ◌+◌, ◌<◌, ◌≤◌, Bool, true, false, cond, eqb, eqb-true, Option, Some, None, IfSome, refl, sym, ap, ◌∙◌, subst, arith, List, [], ◌∷◌, ◌++◌, ⊎_elim}
use Rattle.std.specs.Prelude.{IsSomeAnd}
use Rattle.hc_layout.specs.declared.words.StoreWord.{StoreWord}
use Rattle.hc_heap.specs.Writes.{Write, Trail, Bits, ObjectMap, Root, Store, Slot}
use Rattle.hc_heap.specs.Readings.{bits_in, map_in, root_in, store_in, slot_in}
use Rattle.hc_heap.specs.Kept.{Adds, AllMeet}
use Rattle.hc_heap.specs.Frames.{same-after}
use Rattle.hc_heap.specs.States.{View}
use Rattle.hc_slots.specs.Slots.{IsIn, Owns, AreHandedOut}
use Rattle.hc_tree.specs.Details.{NoMap}
use Rattle.hc_tree.specs.Dying.{HaveDied}
use Rattle.hc_modes.specs.Changes.{Changed, ChangedBut, TouchesBut, WordsStay}
use Rattle.hc_modes.specs.Rest.{DeathsAre}
use Rattle.hc_slots.specs.Cases.{cond-other}

-- a slot that an object owns was handed out
pub owned-used : (slots : ℕ) (w : StoreWord) (s : ℕ) → AreHandedOut slots w → IsIn w s → s < slots
owned-used slots w s out here = by w.first here out.there
  where
    by : (first : Option ℕ) → IsSomeAnd first (λ x. (x ≤ s) × (s < x + w.capacity)) → IfSome first (λ x. x + w.capacity ≤ slots) → s < slots
    by (Some x) h k = omega (arith, h.0, h.1, k)
    by None h k = absurd h

module _ (Dies : ℕ → Type 0) (old : View) (o p : ℕ) (other : p ≢ o) where
  map-by : (t : Trail) (w : Write) → TouchesBut Dies old o t w → map_in (w ∷ t) p ≡ map_in t p
  map-by t (ObjectMap i h) e = cond-other i p h (map_in t p) (λ is. other (sym is ∙ e))
  map-by t _ e = refl

  store-by : (t : Trail) (w : Write) → TouchesBut Dies old o t w → store_in (w ∷ t) p ≡ store_in t p
  store-by t (Store i v) e = cond-other i p v (store_in t p) (λ is. other (sym is ∙ e))
  store-by t _ e = refl

  slot-by : (s : ℕ) → s < old.used.slots → (Owns old.trail o s → ⊥) → (t : Trail) (w : Write) → TouchesBut Dies old o t w → slot_in (w ∷ t) s ≡ slot_in t s
  slot-by s used free t (Slot i v) e = cond-other i s v (slot_in t s) (λ is. free (subst (λ (x : ℕ). Owns old.trail o x) is (e (subst (λ (x : ℕ). x < old.used.slots) (sym is) used))))
  slot-by s used free t _ e = refl

  pub root-by : (t : Trail) (w : Write) → TouchesBut Dies old o t w → (root_in (w ∷ t) p).is_proto ≡ (root_in t p).is_proto
  root-by t (Root i r) e = by (eqb i p) refl
    where
      by : (c : Bool) → eqb i p ≡ c → (cond c r (root_in t p)).is_proto ≡ (root_in t p).is_proto
      by true is = let same = eqb-true i p is in e.proto (λ x. other (sym same ∙ x)) ∙ ap (λ (x : ℕ). (root_in t x).is_proto) same
      by false is = refl
  root-by t _ e = refl

  -- the other object's words and slots stay
  pub words-stay : (new : Trail) → Adds (TouchesBut Dies old o) old.trail new → AreHandedOut old.used.slots (store_in old.trail p) → ((s : ℕ) → Owns old.trail o s → Owns old.trail p s → ⊥) → WordsStay old.trail new p
  words-stay new adds out apart = record {
    map = same-after (λ (t : Trail). map_in t p) map-by adds;
    store = same-after (λ (t : Trail). store_in t p) store-by adds;
    slots = λ s owns. same-after (λ (t : Trail). slot_in t s) (slot-by s (owned-used old.used.slots (store_in old.trail p) s out owns) (λ is. apart s is owns)) adds;
    proto = same-after (λ (t : Trail). (root_in t p).is_proto) root-by adds;
  }

-- no map becomes deprecated but those that die
live-by : (Dies : ℕ → Type 0) (old : View) (o m : ℕ) → (Dies m → ⊥) → (t : Trail) (w : Write) → TouchesBut Dies old o t w → (bits_in (w ∷ t) m).deprecated ≡ (bits_in t m).deprecated
live-by Dies old o m spared t (Bits i b) e = by (eqb i m) refl
  where
    by : (c : Bool) → eqb i m ≡ c → (cond c b (bits_in t m)).deprecated ≡ (bits_in t m).deprecated
    by true is = ⊎_elim (λ same. same ∙ ap (λ (x : ℕ). (bits_in t x).deprecated) (eqb-true i m is)) (λ dies. absurd (spared (subst Dies (eqb-true i m is) dies.0))) e
    by false is = refl
live-by Dies old o m spared t _ e = refl

pub live-stays : {Dies : ℕ → Type 0} (old : View) (new : Trail) (o m : ℕ) → (Dies m → ⊥) → Adds (TouchesBut Dies old o) old.trail new → (bits_in new m).deprecated ≡ (bits_in old.trail m).deprecated
live-stays {Dies} old new o m spared adds = same-after (λ (t : Trail). (bits_in t m).deprecated) (live-by Dies old o m spared) adds

-- exactly those died
pub deaths-of : {Dies : ℕ → Type 0} (old new : View) (o : ℕ) → ChangedBut Dies old new o → HaveDied Dies old.trail new.trail → DeathsAre Dies old.trail new.trail
deaths-of {Dies} old new o changed dead = record { dead = dead; rest = λ m spared. live-stays old new.trail o m spared changed.writes }

pub no-deaths : (old new : View) (o : ℕ) → Changed old new o → DeathsAre NoMap old.trail new.trail
no-deaths old new o changed = deaths-of old new o changed (λ m dies there. absurd dies)

-- where each map stays live or dead, none died
pub same-deaths : (old new : Trail) → ((m : ℕ) → (bits_in new m).deprecated ≡ (bits_in old m).deprecated) → DeathsAre NoMap old new
same-deaths old new same = record { dead = λ m dies there. absurd dies; rest = λ m spared. same m }

-- the same, said otherwise
pub deaths-as : {old new : Trail} (D E : ℕ → Type 0) → ((m : ℕ) → E m → D m) → ((m : ℕ) → D m → E m) → DeathsAre D old new → DeathsAre E old new
deaths-as {old} {new} D E from into it = record { dead = λ m dies there. it.dead m (from m dies) there; rest = λ m spared. it.rest m (λ dies. spared (into m dies)) }

-- what each write of a class keeps is kept
over : (P : Trail → Write → Type 0) (Q : Trail → Type 0) → ((t : Trail) (w : Write) → P t w → Q t → Q (w ∷ t)) → (old : Trail) (more : List Write) → AllMeet P old more → Q old → Q (more ++ old)
unfolding AllMeet
over P Q h old [] a q = q
over P Q h old (w ∷ more) a q = h (more ++ old) w a.1 (over P Q h old more a.0 q)

pub kept-after : {P : Trail → Write → Type 0} (Q : Trail → Type 0) → ((t : Trail) (w : Write) → P t w → Q t → Q (w ∷ t)) → {a b : Trail} → Adds P a b → Q a → Q b
kept-after {P} Q h {a} {b} x q = subst Q (sym x.is) (over P Q h a x.more x.meets q)

-- a root that was named stays
named-by : (Dies : ℕ → Type 0) (old : View) (o p m : ℕ) (t : Trail) (w : Write) → TouchesBut Dies old o t w → (root_in t p).map ≡ Some m → (root_in (w ∷ t) p).map ≡ Some m
named-by Dies old o p m t (Root i r) e is = by (eqb i p) refl
  where
    by : (c : Bool) → eqb i p ≡ c → (cond c r (root_in t p)).map ≡ Some m
    by true same = e.map m (subst (λ (x : ℕ). (root_in t x).map ≡ Some m) (sym (eqb-true i p same)) is)
    by false same = is
named-by Dies old o p m t _ e is = is

pub named-stays : {Dies : ℕ → Type 0} (old : View) (new : Trail) (o p m : ℕ) → Adds (TouchesBut Dies old o) old.trail new → (root_in old.trail p).map ≡ Some m → (root_in new p).map ≡ Some m
named-stays {Dies} old new o p m adds is = kept-after (λ (t : Trail). (root_in t p).map ≡ Some m) (named-by Dies old o p m) adds is
