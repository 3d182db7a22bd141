use Rattle.std.proofs.Common.{◌≡◌, ℕ, ◌+◌, ◌-◌, ◌*◌, ◌/◌, ◌%◌, ◌<◌, ◌≤◌, Option, Some, None, refl, sym, ◌∙◌, ap, subst, arith}
use Rattle.std.proofs.lemmas.Bool.Decides.{nat_tests}
use Rattle.std.proofs.lemmas.Nat.{div-mul-add, mod-mul-add, div_below, mod_below, div-add-mod', mul-add-lt}
use Rattle.hc_layout.specs.declared.place.Place.{Place}
use Rattle.hc_layout.specs.declared.shape.Region.{Region}
use Rattle.hc_layout.specs.declared.shape.Region.TheVariants.{Maps, Entries, Fields, Links, Objects, Slots, Cells}
use Rattle.hc_layout.specs.declared.shape.Shape.{Shape}
use Rattle.hc_layout.specs.Shape.{item_words, items_of, start_of, words_of}
use Rattle.hc_layout.specs.Place.{IsPlace, IsAt, index_of, region_of, place_in, place_of}

-- the word at an index is one of a region
pub record LiesIn (s : Shape) (i : ℕ) (r : Region) : Type 0 where
  pub from : start_of s r ≤ i
  pub below : i < start_of s r + items_of s r * item_words r
  pub within : i < words_of s

pub region_there : (s : Shape) (i : ℕ) (r : Region) → start_of s r ≤ i → i < start_of s r + items_of s r * item_words r → region_of s i ≡ Some r
unfolding region_of
region_there s i Maps h k = grind (arith, nat_tests)
region_there s i Entries h k = grind (arith, nat_tests)
region_there s i Fields h k = grind (arith, nat_tests)
region_there s i Links h k = grind (arith, nat_tests)
region_there s i Objects h k = grind (arith, nat_tests)
region_there s i Slots h k = grind (arith, nat_tests)
region_there s i Cells h k = grind (arith, nat_tests)

pub region_lies : (s : Shape) (i : ℕ) (r : Region) → region_of s i ≡ Some r → LiesIn s i r
unfolding region_of
region_lies s i Maps h = grind (arith, nat_tests)
region_lies s i Entries h = grind (arith, nat_tests)
region_lies s i Fields h = grind (arith, nat_tests)
region_lies s i Links h = grind (arith, nat_tests)
region_lies s i Objects h = grind (arith, nat_tests)
region_lies s i Slots h = grind (arith, nat_tests)
region_lies s i Cells h = grind (arith, nat_tests)

pub region_none : (s : Shape) (i : ℕ) → region_of s i ≡ None → words_of s ≤ i
unfolding region_of
region_none s i h = grind (arith, nat_tests)

words_some : (r : Region) → 0 < item_words r
words_some Maps = omega arith
words_some Entries = omega arith
words_some Fields = omega arith
words_some Links = omega arith
words_some Objects = omega arith
words_some Slots = omega arith
words_some Cells = omega arith

pub place_is : (s : Shape) (i : ℕ) (r : Region) → region_of s i ≡ Some r → IsAt s i (place_in s i r)
unfolding place_of
place_is s i r h =
    let lies : LiesIn s i r = region_lies s i r h in
    let w : ℕ = item_words r in
    let n : ℕ = i - start_of s r in
    let below : n < items_of s r * w = omega arith in
    let split : n / w * w + n % w ≡ n = div-add-mod' n w in
    record {
      place = record { item = div_below n w (items_of s r) (words_some r) below; word = mod_below n w (words_some r) };
      index = omega arith;
      within = lies.within;
      value = rw (h, place_of);
    }

place_of_region : (s : Shape) (i : ℕ) (p : Place) (o : Option Region) → region_of s i ≡ o → place_of s i ≡ Some p → IsAt s i p
unfolding place_of
place_of_region s i p (Some r) h e =
    let is : place_in s i r ≡ p = cc in
    subst (IsAt s i) is (place_is s i r h)
place_of_region s i p None h e = cc

pub place_lies : (s : Shape) (i : ℕ) (p : Place) → place_of s i ≡ Some p → IsAt s i p
place_lies s i p e = place_of_region s i p (region_of s i) refl e

same_place : (r : Region) (a b x y : ℕ) → a ≡ x → b ≡ y → (let p : Place = record { region = r; item = a; word = b } in let q : Place = record { region = r; item = x; word = y } in p ≡ q)
same_place r a b x y h k = cc

pub index_is : (s : Shape) (p : Place) → IsPlace s p → IsAt s (index_of s p) p
index_is s p h =
    let w : ℕ = item_words p.region in
    let i : ℕ = index_of s p in
    let fits : p.item * w + p.word < w * items_of s p.region = mul-add-lt p.item w p.word (items_of s p.region) h.item h.word in
    let rest : i - start_of s p.region ≡ p.item * w + p.word = omega arith in
    let item : (i - start_of s p.region) / w ≡ p.item = ap (λ n. n / w) rest ∙ div-mul-add p.item w p.word h.word in
    let word : (i - start_of s p.region) % w ≡ p.word = ap (λ n. n % w) rest ∙ mod-mul-add p.item w p.word h.word in
    subst (IsAt s i) (same_place p.region _ _ p.item p.word item word)
    (place_is s i p.region (region_there s i p.region (omega arith) (omega arith)))

pub no_place : (s : Shape) (i : ℕ) → region_of s i ≡ None → (words_of s ≤ i) × (place_of s i ≡ None)
unfolding place_of
no_place s i h = (region_none s i h, rw (h, place_of))

-- the same, for the numbers that the program computes
pub found : (s : Shape) (i : ℕ) (r : Region) (a w : ℕ) → a ≡ start_of s r → w ≡ item_words r → Some r ≡ region_of s i → IsAt s i (record { region = r; item = (i - a) / w; word = (i - a) % w })
found s i r a w h k e =
    let item : (i - start_of s r) / item_words r ≡ (i - a) / w = cc in
    let word : (i - start_of s r) % item_words r ≡ (i - a) % w = cc in
    subst (IsAt s i) (same_place r _ _ ((i - a) / w) ((i - a) % w) item word) (place_is s i r (sym e))

-- the sum that the program computes is the index
pub summed : (s : Shape) (p : Place) (a w : ℕ) → a ≡ start_of s p.region → w ≡ item_words p.region → index_of s p ≡ a + p.item * w + p.word
summed s p a w h k = cc
