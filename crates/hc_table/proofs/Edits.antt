-- Lemmas on what changes of a list of properties leave: names that differ, and properties that may be kept.
use Rattle.std.proofs.Common.{◌≡◌, ℕ, zero, suc, ◌<◌, Bool, true, false, ◌&&◌, ◌||◌, eqb, if◌then◌else◌, List, [], ◌∷◌, Option, Some, None, option_map, length, map, get_or, set, refl, sym, ap, subst, ◌∙◌, arith}
use Rattle.std.specs.List.{AllByRecursion, remove}
use Rattle.hc_value.specs.Attrs.{is_read_only, bits_of}
use Rattle.hc_value.specs.Prop.{kind_of}
use Rattle.hc_value.specs.declared.attrs.Attrs.{Attrs}
use Rattle.hc_value.specs.declared.prop.Held.{Held}
use Rattle.hc_value.specs.declared.prop.Held.TheVariants.{Datum, Pair}
use Rattle.hc_value.specs.declared.prop.Prop.{Prop}
use Rattle.hc_table.specs.Attributes.{attributes_of, is_datum, is_dont_enum, IsClear, IsProper, restricted}
use Rattle.hc_table.specs.Changes.{name_at, kind_at, removed_at}
use Rattle.hc_table.specs.Ranges.{IsHeldInRange}
use Rattle.hc_table.specs.World.{place_of, held_at, HaveDistinctNames}
use Rattle.hc_table.proofs.Properties.{absent_first, absent_more, names}

-- places and distinct names hang on the names alone
place_in : List ℕ → ℕ → Option ℕ
place_in [] name = None
place_in (n ∷ ns) name = if eqb n name then Some 0 else option_map suc (place_in ns name)

Differ : List ℕ → Type 0
Differ [] = Unit {0}
Differ (n ∷ ns) = (place_in ns n ≡ None) × Differ ns

place_of-names : (ps : List Prop) (name : ℕ) → place_of ps name ≡ place_in (names ps) name
unfolding place_in
place_of-names [] name = refl
place_of-names (p ∷ ps) name = ap (λ o. if eqb p.name name then Some 0 else option_map suc o) (place_of-names ps name)

differ : (ps : List Prop) → HaveDistinctNames ps → Differ (names ps)
unfolding Differ
differ [] d = tt
differ (p ∷ ps) d = (sym (place_of-names ps p.name) ∙ d.0, differ ps d.1)

distinct : (ps : List Prop) → Differ (names ps) → HaveDistinctNames ps
unfolding Differ
distinct [] d = tt
distinct (p ∷ ps) d = (place_of-names ps p.name ∙ d.0, distinct ps d.1)

pub distinct-same_names : (ps qs : List Prop) → names qs ≡ names ps → HaveDistinctNames ps → HaveDistinctNames qs
distinct-same_names ps qs e d = distinct qs (subst Differ (sym e) (differ ps d))

same_some : {X : Type 0} (x y : X) → Some x ≡ Some y → x ≡ y
same_some x y e = cc

-- another property of the same name at a place
pub names-set : (ps : List Prop) (i : ℕ) (p : Prop) → name_at ps i ≡ Some p.name → names (set ps i p) ≡ names ps
names-set [] i p h = refl
names-set (q ∷ ps) zero p h = ap (λ n. n ∷ names ps) (sym (same_some q.name p.name h))
names-set (q ∷ ps) (suc i) p h = ap (λ ns. q.name ∷ ns) (names-set ps i p h)

pub All-set : {X : Type 0} (P : X → Type 0) (xs : List X) (i : ℕ) (x : X) → AllByRecursion P xs → P x → AllByRecursion P (set xs i x)
All-set P [] i x all h = tt
All-set P (y ∷ xs) zero x all h = (h, all.1)
All-set P (y ∷ xs) (suc i) x all h = (all.0, All-set P xs i x all.1 h)

-- something else of its kind at a place
clear-kind : (held other : Held) (attrs : Attrs) → kind_of held ≡ kind_of other → IsClear held attrs → IsClear other attrs
clear-kind (Datum value) (Datum v) attrs e c = tt
clear-kind (Datum value) (Pair getter setter) attrs e c = absurd (cc)
clear-kind (Pair g s) (Datum value) attrs e c = tt
clear-kind (Pair g s) (Pair getter setter) attrs e c = c

pub proper-held_at : (ps : List Prop) (i : ℕ) (held : Held) → kind_at ps i ≡ Some (kind_of held) → IsHeldInRange held → AllByRecursion IsProper ps → AllByRecursion IsProper (held_at ps i held)
proper-held_at [] i held k range all = tt
proper-held_at (p ∷ ps) zero held k range all =
    let proper = all.0 in (
      record {
        name = proper.name;
        attributes = proper.attributes;
        clear = clear-kind p.held held p.attrs (same_some (kind_of p.held) (kind_of held) k) proper.clear;
        range = range;
      },
      all.1,
    )
proper-held_at (p ∷ ps) (suc i) held k range all = (all.0, proper-held_at ps i held k range all.1)

pub within-name : (ps : List Prop) (i n : ℕ) → name_at ps i ≡ Some n → i < length ps
within-name [] i n h = absurd (cc)
within-name (p ∷ ps) zero n h = omega arith
within-name (p ∷ ps) (suc i) n h = let rest = within-name ps i n h in omega arith

pub within-kind : (ps : List Prop) (i : ℕ) (held : Held) → kind_at ps i ≡ Some (kind_of held) → i < length ps
within-kind [] i held h = absurd (cc)
within-kind (p ∷ ps) zero held h = omega arith
within-kind (p ∷ ps) (suc i) held h = let rest = within-kind ps i held h in omega arith

-- one property fewer
absent-removed : (ps : List Prop) (i name : ℕ) → place_of ps name ≡ None → place_of (removed_at ps i) name ≡ None
absent-removed [] i name h = refl
absent-removed (p ∷ ps) zero name h = (absent_first p ps name h).1
absent-removed (p ∷ ps) (suc i) name h =
    let first = absent_first p ps name h in
    absent_more p (removed_at ps i) name first.0 (absent-removed ps i name first.1)

pub distinct-removed : (ps : List Prop) (i : ℕ) → HaveDistinctNames ps → HaveDistinctNames (removed_at ps i)
distinct-removed [] i d = tt
distinct-removed (p ∷ ps) zero d = d.1
distinct-removed (p ∷ ps) (suc i) d = (absent-removed ps i p.name d.0, distinct-removed ps i d.1)

pub proper-removed : (ps : List Prop) (i : ℕ) → AllByRecursion IsProper ps → AllByRecursion IsProper (removed_at ps i)
proper-removed [] i all = tt
proper-removed (p ∷ ps) zero all = all.1
proper-removed (p ∷ ps) (suc i) all = (all.0, proper-removed ps i all.1)

pub remove-removed_at : (ps : List Prop) (i : ℕ) → i < length ps → remove ps i ≡ removed_at ps i
remove-removed_at [] i h = absurd (omega arith)
remove-removed_at (p ∷ ps) zero h = refl
remove-removed_at (p ∷ ps) (suc i) h = ap (λ rest. p ∷ rest) (remove-removed_at ps i (omega arith))

-- sealed or frozen
read_only-of : (a b c : Bool) → is_read_only (attributes_of a b c) ≡ a
read_only-of true true true = refl
read_only-of true true false = refl
read_only-of true false true = refl
read_only-of true false false = refl
read_only-of false true true = refl
read_only-of false true false = refl
read_only-of false false true = refl
read_only-of false false false = refl

below_eight : (a b c : Bool) → bits_of (attributes_of a b c) < 8
below_eight true true true = omega arith
below_eight true true false = omega arith
below_eight true false true = omega arith
below_eight true false false = omega arith
below_eight false true true = omega arith
below_eight false true false = omega arith
below_eight false false true = omega arith
below_eight false false false = omega arith

frozen-pair : (read_only frozen : Bool) → read_only ≡ false → (read_only || (frozen && false)) ≡ false
frozen-pair true frozen e = absurd (cc)
frozen-pair false true e = refl
frozen-pair false false e = refl

proper-restricted : (frozen : Bool) (p : Prop) → IsProper p → IsProper (restricted frozen p)
proper-restricted frozen p h = record {
  name = h.name;
  attributes = below_eight (is_read_only p.attrs || (frozen && is_datum p.held)) (is_dont_enum p.attrs) true;
  clear = clear p.held h.clear;
  range = h.range;
}
  where
    clear : (held : Held) → IsClear held p.attrs → IsClear held (attributes_of (is_read_only p.attrs || (frozen && is_datum held)) (is_dont_enum p.attrs) true)
    clear (Datum value) c = tt
    clear (Pair getter setter) c =
        read_only-of (is_read_only p.attrs || (frozen && false)) (is_dont_enum p.attrs) true ∙ frozen-pair (is_read_only p.attrs) frozen c

pub All-restricted : (frozen : Bool) (ps : List Prop) → AllByRecursion IsProper ps → AllByRecursion IsProper (map (restricted frozen) ps)
All-restricted frozen [] all = tt
All-restricted frozen (p ∷ ps) all = (proper-restricted frozen p all.0, All-restricted frozen ps all.1)

pub names-restricted : (frozen : Bool) (ps : List Prop) → names (map (restricted frozen) ps) ≡ names ps
names-restricted frozen [] = refl
names-restricted frozen (p ∷ ps) = ap (λ ns. p.name ∷ ns) (names-restricted frozen ps)

-- what holds of each item holds of one at a place
pub All-at : {X : Type 0} (P : X → Type 0) (xs : List X) (i : ℕ) (d : X) → AllByRecursion P xs → i < length xs → P (get_or xs i d)
All-at P [] i d all h = absurd (omega arith)
All-at P (x ∷ xs) zero d all h = all.0
All-at P (x ∷ xs) (suc i) d all h = All-at P xs i d all.1 (omega arith)
