-- What stays of a detail that rises, and which child is the newest one for a key.
use Rattle.std.proofs.Common.{◌≡◌, ℕ, Bool, true, false, cond, List, [], ◌∷◌, ◌++◌, Option, Some, None, true≢false, refl, sym, ap, ◌∙◌, subst}
use Rattle.std.proofs.lemmas.List.Elements.{All-head, All-tail}
use Rattle.std.specs.Prelude.{IsTrue, IfSome, All, ◌&&◌}
use Rattle.hc_value.specs.Field.{is_within, is_constness_within, is_class_within}
use Rattle.hc_value.specs.declared.field.Constness.{Constness}
use Rattle.hc_value.specs.declared.field.Constness.TheVariants.{Const, Mutable}
use Rattle.hc_value.specs.declared.field.Class.{Class}
use Rattle.hc_value.specs.declared.field.Class.TheVariants.{Of, Any}
use Rattle.hc_value.specs.declared.field.Detail.{Detail}
use Rattle.hc_value.specs.declared.key.Key.{Key}
use Rattle.hc_heap.specs.Lawful.{RisesTo}
use Rattle.hc_heap.specs.Readings.{bits_in, link_key_in, link_child_in}
use Rattle.hc_heap.specs.Writes.{Trail}
use Rattle.hc_links.specs.Chains.{is_key, newest_of}
use Rattle.hc_links.specs.Laws.{SameKeysAreEqual}
use Rattle.hc_tree.specs.Tree.{IsDeadFor, HaveOneLive}

-- Details

pub both : (a b : Bool) → (a && b) ≡ true → (a ≡ true) × (b ≡ true)
both true b h = (refl, h)
both false b h = absurd (true≢false (sym h))

stays-mutable : (c : Constness) → is_constness_within Mutable c ≡ true → c ≡ Mutable
stays-mutable Mutable h = refl
stays-mutable Const h = absurd (true≢false (sym h))

stays-any : (c : Class) → is_class_within Any c ≡ true → c ≡ Any
stays-any Any h = refl
stays-any (Of m) h = absurd (true≢false (sym h))

module _ (d e : Detail) (rises : RisesTo d e) where
  first-two : (is_within d.rep e.rep && is_constness_within d.constness e.constness) ≡ true
  first-two = (both (is_within d.rep e.rep && is_constness_within d.constness e.constness) (is_class_within d.class e.class) rises.within).0

  constness-rises : is_constness_within d.constness e.constness ≡ true
  constness-rises = (both (is_within d.rep e.rep) (is_constness_within d.constness e.constness) first-two).1

  class-rises : is_class_within d.class e.class ≡ true
  class-rises = (both (is_within d.rep e.rep && is_constness_within d.constness e.constness) (is_class_within d.class e.class) rises.within).1

  -- a mutable field stays so
  pub mutable-on : d.constness ≡ Mutable → e.constness ≡ Mutable
  mutable-on is = stays-mutable e.constness (subst (λ c. is_constness_within c e.constness ≡ true) is constness-rises)

  -- a field of any class stays so
  pub any-on : d.class ≡ Any → e.class ≡ Any
  any-on is = stays-any e.class (subst (λ c. is_class_within c e.class ≡ true) is class-rises)

-- Links

has-key : SameKeysAreEqual → (o : Option Key) (key : Key) → is_key o key ≡ true → o ≡ Some key
has-key same (Some k) key h = ap (λ x. Some x) ((same k key).0 h)
has-key same None key h = absurd (true≢false (sym h))

module _ (same : SameKeysAreEqual) (t : Trail) (key : Key) (c : ℕ) where
  -- where all links for a key lead to deprecated maps, so does the newest
  dead-case : (l : ℕ) (rest : Option ℕ) (test : Bool) → is_key (link_key_in t l) key ≡ test → IsDeadFor t (Some key) l → (rest ≡ Some c → IsTrue (bits_in t c).deprecated)
      → cond test (link_child_in t l) rest ≡ Some c → IsTrue (bits_in t c).deprecated
  dead-case l rest true is dead later e = subst (λ x. IfSome x (λ y. IsTrue (bits_in t y).deprecated)) e (dead (has-key same (link_key_in t l) key is))
  dead-case l rest false is dead later e = later e

  newest-dead : (ls : List ℕ) → All (IsDeadFor t (Some key)) ls → newest_of t ls key ≡ Some c → IsTrue (bits_in t c).deprecated
  newest-dead [] h e = let no : ⊥ = cc in absurd no
  newest-dead (l ∷ ls) h e =
      dead-case l (newest_of t ls key) (is_key (link_key_in t l) key) refl
      (All-head (IsDeadFor t (Some key)) l ls h) (newest-dead ls (All-tail (IsDeadFor t (Some key)) l ls h)) e

  newest-case : (l : ℕ) (ls : List ℕ) (test : Bool) → is_key (link_key_in t l) key ≡ test → All (IsDeadFor t (link_key_in t l)) ls → (bits_in t c).deprecated ≡ false
      → newest_of t ls key ≡ Some c → cond test (link_child_in t l) (newest_of t ls key) ≡ Some c
  newest-case l ls true is dead live e =
      absurd (true≢false (sym (newest-dead ls (subst (λ k. All (IsDeadFor t k) ls) (has-key same (link_key_in t l) key is) dead) e) ∙ live))
  newest-case l ls false is dead live e = e

  -- a live child of earlier links for a key is the newest still
  pub newest-on : (more ls : List ℕ) → HaveOneLive t (more ++ ls) → (bits_in t c).deprecated ≡ false → newest_of t ls key ≡ Some c → newest_of t (more ++ ls) key ≡ Some c
  newest-on [] ls one live e = e
  newest-on (l ∷ more) ls one live e = newest-case l (more ++ ls) (is_key (link_key_in t l) key) refl one.0 live (newest-on more ls one.1 live e)
