-- Lemmas on worlds: what each changing call leaves of what holds of the objects.
use Rattle.std.proofs.Common.{◌≡◌, ℕ, zero, suc, ◌+◌, ◌<◌, ◌≤◌, Bool, true, false, eqb, [], ◌∷◌, ◌++◌, Option, Some, None, length, map, set, refl, sym, ap, subst, ◌∙◌, arith, length-append}
use Rattle.std.specs.List.{AllByRecursion}
use Rattle.std.proofs.lemmas.List.{length-set}
use Rattle.std.proofs.lemmas.Bool.Decides.{nat_tests, Decides-eqb}
use Rattle.hc_value.specs.Prop.{kind_of}
use Rattle.hc_value.specs.declared.prop.Held.{Held}
use Rattle.hc_value.specs.declared.prop.Prop.{Prop}
use Rattle.hc_table.specs.Attributes.{IsProper, restricted}
use Rattle.hc_table.specs.Changes.{IsThere, name_at, kind_at, removed_at, reaches, with_link, locked, restricted_object, with_property, with_removed, with_proto, with_lock, with_integrity}
use Rattle.hc_table.specs.Changes.{Did, Nothing, Moved, Created, Added, Wrote, Reconfigured, Removed, Linked, Locked, Restricted, after}
use Rattle.hc_table.specs.Kept.{Kept, IsKept, Came, MayDo, with_world}
use Rattle.hc_table.specs.Ranges.{IsHeldInRange}
use Rattle.hc_table.specs.World.{Object, World, object, new_object, props_at, place_of, with_list, with_object, with_added, with_written, held_at, IsWorld, HaveDistinctNames, LeadsToNull}
use Rattle.hc_table.proofs.Chains.{none, more, along, avoids, linked}
use Rattle.hc_table.proofs.Edits.{distinct-same_names, names-set, All-set, proper-held_at, distinct-removed, proper-removed, All-restricted, names-restricted}
use Rattle.hc_table.proofs.Properties.{HaveDistinctNames-push, AllByRecursion-push, HaveDistinctNames-held_at, length-names}

module _ (kept : Kept) (h : IsKept kept) where
  pub few_properties : (o : ℕ) → length (props_at kept.world o) ≤ 1048576
  few_properties o = length-names (props_at kept.world o) (h.sound.names o) (h.proper o)

-- what holds of each object holds of each after a write to one, and with one object more
module _ (P : Object → Type 0) (x : Object) (h : P x) where
  pub each-set : (w : World) → ((o : ℕ) → P (object w o)) → (o k : ℕ) → P (object (set w o x) k)
  each-set [] all o k = all k
  each-set (y ∷ ys) all zero zero = h
  each-set (y ∷ ys) all zero (suc k) = all (suc k)
  each-set (y ∷ ys) all (suc o) zero = all zero
  each-set (y ∷ ys) all (suc o) (suc k) = each-set ys (λ j. all (suc j)) o k

  pub each-push : (w : World) → ((o : ℕ) → P (object w o)) → (k : ℕ) → P (object (w ++ x ∷ []) k)
  each-push [] all zero = h
  each-push [] all (suc k) = all zero
  each-push (y ∷ ys) all zero = all zero
  each-push (y ∷ ys) all (suc k) = each-push ys (λ j. all (suc j)) k

-- the objects after a write to one, and with one object more
pub object-set_same : (w : World) (o : ℕ) (x : Object) → o < length w → object (set w o x) o ≡ x
object-set_same [] o x h = absurd (omega arith)
object-set_same (y ∷ ys) zero x h = refl
object-set_same (y ∷ ys) (suc o) x h = object-set_same ys o x (omega arith)

eqb-suc : (k o : ℕ) → eqb (suc k) (suc o) ≡ false → eqb k o ≡ false
eqb-suc k o e = grind (arith, nat_tests)

pub object-set_other : (w : World) (o k : ℕ) (x : Object) → eqb k o ≡ false → object (set w o x) k ≡ object w k
object-set_other [] o k x e = refl
object-set_other (y ∷ ys) zero zero x e = absurd (cc)
object-set_other (y ∷ ys) zero (suc k) x e = refl
object-set_other (y ∷ ys) (suc o) zero x e = refl
object-set_other (y ∷ ys) (suc o) (suc k) x e = object-set_other ys o k x (eqb-suc k o e)

object-push_old : (w : World) (x : Object) (k : ℕ) → k < length w → object (w ++ x ∷ []) k ≡ object w k
object-push_old [] x k h = absurd (omega arith)
object-push_old (y ∷ ys) x zero h = refl
object-push_old (y ∷ ys) x (suc k) h = object-push_old ys x k (omega arith)

object-push_new : (w : World) (x : Object) → object (w ++ x ∷ []) (length w) ≡ x
object-push_new [] x = refl
object-push_new (y ∷ ys) x = object-push_new ys x

-- what is kept after a change of one object that leaves its prototype
module _ (kept : Kept) (h : IsKept kept) (o : ℕ) (x : Object) (link : x.proto ≡ (object kept.world o).proto) (names : HaveDistinctNames x.props) (proper : AllByRecursion IsProper x.props) where
  w : World
  w = kept.world

  length-same : length (set w o x) ≡ length w
  unfolding w
  length-same = length-set kept.world o x

  links : (k : ℕ) → k < length w → (k < length (set w o x)) × ((object (set w o x) k).proto ≡ (object w k).proto)
  unfolding w
  links k l = (omega (arith, length-same), by (eqb k o) refl)
    where
      by : (b : Bool) → eqb k o ≡ b → (object (set w o x) k).proto ≡ (object w k).proto
      by false e = ap (λ (y : Object). y.proto) (object-set_other w o k x e)
      by true e =
          let same : k ≡ o = (Decides-eqb k o).0 e in
          ap (λ j. (object (set w o x) j).proto) same
          ∙ ap (λ (y : Object). y.proto) (object-set_same w o x (subst (λ j. j < length w) same l))
          ∙ link ∙ ap (λ j. (object w j).proto) (sym same)

  pub IsKept-set : IsKept (with_world kept (set kept.world o x))
  unfolding w
  IsKept-set = record {
    sound = record {
      names = each-set (λ y. HaveDistinctNames y.props) x names kept.world h.sound.names o;
      chains = λ k l.
          subst (λ n. LeadsToNull n (set kept.world o x) (Some k)) (sym length-same)
          (along kept.world (set kept.world o x) links (length kept.world) (Some k) (h.sound.chains k (subst (λ n. k < n) length-same l)));
    };
    proper = each-set (λ y. AllByRecursion IsProper y.props) x proper kept.world h.proper o;
    room = omega (arith, length-same, h.room);
  }

-- what is kept after each call that changes it
module _ (kept : Kept) (h : IsKept kept) (o : ℕ) where
  pub IsKept-with_added : (p : Prop) → place_of (props_at kept.world o) p.name ≡ None → IsProper p → IsKept (with_world kept (with_added kept.world o p))
  IsKept-with_added p absent proper =
      let ps = props_at kept.world o in
      IsKept-set kept h o (with_list (object kept.world o) (ps ++ p ∷ [])) refl
      (HaveDistinctNames-push ps p (h.sound.names o) absent)
      (AllByRecursion-push IsProper ps p (h.proper o) proper)

  pub IsKept-with_written : (i : ℕ) (held : Held) → kind_at (props_at kept.world o) i ≡ Some (kind_of held) → IsHeldInRange held → IsKept (with_world kept (with_written kept.world o i held))
  IsKept-with_written i held kind range =
      let ps = props_at kept.world o in
      IsKept-set kept h o (with_list (object kept.world o) (held_at ps i held)) refl
      (HaveDistinctNames-held_at ps i held (h.sound.names o))
      (proper-held_at ps i held kind range (h.proper o))

  pub IsKept-with_property : (i : ℕ) (p : Prop) → name_at (props_at kept.world o) i ≡ Some p.name → IsProper p → IsKept (with_world kept (with_property kept.world o i p))
  IsKept-with_property i p name proper =
      let ps = props_at kept.world o in
      IsKept-set kept h o (with_list (object kept.world o) (set ps i p)) refl
      (distinct-same_names ps (set ps i p) (names-set ps i p name) (h.sound.names o))
      (All-set IsProper ps i p (h.proper o) proper)

  pub IsKept-with_removed : (i : ℕ) → IsKept (with_world kept (with_removed kept.world o i))
  IsKept-with_removed i =
      let ps = props_at kept.world o in
      IsKept-set kept h o (with_list (object kept.world o) (removed_at ps i)) refl
      (distinct-removed ps i (h.sound.names o))
      (proper-removed ps i (h.proper o))

  pub IsKept-with_lock : IsKept (with_world kept (with_lock kept.world o))
  IsKept-with_lock = IsKept-set kept h o (locked (object kept.world o)) refl (h.sound.names o) (h.proper o)

  pub IsKept-with_integrity : (frozen : Bool) → IsKept (with_world kept (with_integrity kept.world o frozen))
  IsKept-with_integrity frozen =
      let ps = props_at kept.world o in
      IsKept-set kept h o (restricted_object (object kept.world o) frozen) refl
      (distinct-same_names ps (map (restricted frozen) ps) (names-restricted frozen ps) (h.sound.names o))
      (All-restricted frozen ps (h.proper o))

leads_on : (w : World) → IsWorld w → (p : Option ℕ) → IsThere w p → LeadsToNull (length w) w p
leads_on w sound None there = none (length w) w
leads_on w sound (Some p) there = sound.chains p there

-- what is kept with another prototype, whose chain doesn't come to the object
module _ (kept : Kept) (h : IsKept kept) (o : ℕ) (p : Option ℕ) (here : o < length kept.world) (there : IsThere kept.world p) (free : reaches kept.world p o ≡ false) where
  y : Object
  y = with_link (object kept.world o) p

  new : World
  new = with_proto kept.world o p

  same : length new ≡ length kept.world
  unfolding new
  same = length-set kept.world o (with_link (object kept.world o) p)

  chains : (k : ℕ) → k < length new → LeadsToNull (length new) new (Some k)
  unfolding new
  chains k l =
      let v = kept.world in
      let w = with_proto kept.world o p in
      let x = with_link (object kept.world o) p in
      let proto_here : (object w o).proto ≡ p = ap (λ (z : Object). z.proto) (object-set_same v o x here) in
      let others : (j : ℕ) → eqb j o ≡ false → (object w j).proto ≡ (object v j).proto = λ j e. ap (λ (z : Object). z.proto) (object-set_other v o j x e) in
      let leads : LeadsToNull (length v) w p = avoids v w o p same proto_here others (length v) p (leads_on v h.sound p there) free in
      linked v w o p same proto_here others (length v) leads (length v) (Some k) (h.sound.chains k (subst (λ n. k < n) same l))

  pub IsKept-with_proto : IsKept (with_world kept (with_proto kept.world o p))
  unfolding new
  IsKept-with_proto = record {
    sound = record {
      names = each-set (λ z. HaveDistinctNames z.props) (with_link (object kept.world o) p) (h.sound.names o) kept.world h.sound.names o;
      chains = chains;
    };
    proper = each-set (λ z. AllByRecursion IsProper z.props) (with_link (object kept.world o) p) (h.proper o) kept.world h.proper o;
    room = omega (arith, same, h.room);
  }

-- what is kept with a new object
module _ (kept : Kept) (h : IsKept kept) (p : Option ℕ) (there : IsThere kept.world p) (room : length kept.world < kept.limit) where
  longer : length (with_object kept.world p) ≡ length kept.world + 1
  longer = omega (arith, length-append kept.world (new_object p ∷ []))

  chain-old : (k : ℕ) → k < length kept.world → (k < length (with_object kept.world p)) × ((object (with_object kept.world p) k).proto ≡ (object kept.world k).proto)
  chain-old k l = (omega (arith, longer), ap (λ (z : Object). z.proto) (object-push_old kept.world (new_object p) k l))

  chain-of : (q : Option ℕ) → LeadsToNull (length kept.world) kept.world q → LeadsToNull (length kept.world) (with_object kept.world p) q
  chain-of q l = along kept.world (with_object kept.world p) chain-old (length kept.world) q l

  first : LeadsToNull (suc (length kept.world)) (with_object kept.world p) (Some (length kept.world))
  first = (
    omega (arith, longer),
    subst (LeadsToNull (length kept.world) (with_object kept.world p))
        (sym (ap (λ (z : Object). z.proto) (object-push_new kept.world (new_object p))))
        (chain-of p (leads_on kept.world h.sound p there)),
  )

  chains-new : (k : ℕ) → k < length (with_object kept.world p) → LeadsToNull (length (with_object kept.world p)) (with_object kept.world p) (Some k)
  chains-new k l = by (eqb k (length kept.world)) refl
    where
      by : (b : Bool) → eqb k (length kept.world) ≡ b → LeadsToNull (length (with_object kept.world p)) (with_object kept.world p) (Some k)
      by true e =
          let same : k ≡ length kept.world = (Decides-eqb k (length kept.world)).0 e in
          subst (λ j. LeadsToNull (length (with_object kept.world p)) (with_object kept.world p) (Some j)) (sym same)
          (more (suc (length kept.world)) (with_object kept.world p) (Some (length kept.world)) first (length (with_object kept.world p)) (omega (arith, longer)))
      by false e =
          let differs : k ≡ length kept.world → ⊥ = λ same. absurd (cc (e, (Decides-eqb k (length kept.world)).1 same)) in
          let old : k < length kept.world = omega (arith, longer, differs) in
          more (length kept.world) (with_object kept.world p) (Some k) (chain-of (Some k) (h.sound.chains k old)) (length (with_object kept.world p)) (omega (arith, longer))

  pub IsKept-with_object : IsKept (with_world kept (with_object kept.world p))
  IsKept-with_object = record {
    sound = record {
      names = each-push (λ z. HaveDistinctNames z.props) (new_object p) tt kept.world h.sound.names;
      chains = chains-new;
    };
    proper = each-push (λ z. AllByRecursion IsProper z.props) (new_object p) tt kept.world h.proper;
    room = omega (arith, longer);
  }

-- what was done, as the tables saw themselves before and after
pub came-made : (kept now : Kept) → kept ≡ now → (did : Did) (w : World) → w ≡ after did kept.world → Came now did (with_world kept w)
came-made kept now is did w e = record {
  world = e ∙ ap (λ (k : Kept). after did k.world) is;
  limit = ap (λ (k : Kept). k.limit) is;
}

-- the objects stay sound after a call that may be made
pub changes-keep : (kept : Kept) (did : Did) → IsKept kept → MayDo kept did → IsKept (with_world kept (after did kept.world))
changes-keep kept Nothing h may = h
changes-keep kept Moved h may = h
changes-keep kept (Created proto) h may = IsKept-with_object kept h proto may.0 may.1
changes-keep kept (Added o p) h may = IsKept-with_added kept h o p may.0 may.1
changes-keep kept (Wrote o i held) h may = IsKept-with_written kept h o i held may.0 may.1
changes-keep kept (Reconfigured o i p) h may = IsKept-with_property kept h o i p may.0 may.1
changes-keep kept (Removed o i) h may = IsKept-with_removed kept h o i
changes-keep kept (Linked o proto) h may = IsKept-with_proto kept h o proto may.0 may.1 may.2
changes-keep kept (Locked o) h may = IsKept-with_lock kept h o
changes-keep kept (Restricted o frozen) h may = IsKept-with_integrity kept h o frozen
