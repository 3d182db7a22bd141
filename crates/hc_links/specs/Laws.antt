-- What holds of the links in a lawful trail, each law the contract of a function of `laws.rt`.
use Rattle.std.specs.Prelude.{◌≡◌, ◌≢◌, ◌++◌, if◌then◌else◌, ℕ, ◌<◌, IsTrue, Option, Some, None, IfSome, IsSomeAnd, List, [], ◌∷◌, All, ◌↔◌}
use Rattle.hc_layout.specs.declared.shape.Shape.{Shape}
use Rattle.hc_value.specs.declared.key.Key.{Key}
use Rattle.hc_heap.specs.Writes.{Trail}
use Rattle.hc_heap.specs.Readings.{bits_in, head_in, link_key_in, link_child_in, link_next_in}
use Rattle.hc_heap.specs.Lawful.{Lawful, IsChildBy}
use Rattle.hc_heap.specs.Kept.{GoesOn}
use Rattle.hc_links.specs.Chains.{links_in, newest_of, child_of, linked, same_key}

-- links lead from one to the next, and the last to none
abbrev pub AreChained : Trail → Option ℕ → List ℕ → Type 0
AreChained t None [] = Unit {0}
AreChained t (Some l) (k ∷ ks) = (l ≡ k) × IsSomeAnd (link_next_in t l) (λ n. AreChained t n ks)
AreChained t _ _ = ⊥

-- the words of a map's head and of its links lead along its links
abbrev pub LinksAreChained : Type 0
LinksAreChained = (s : Shape) (t : Trail) (m : ℕ) → Lawful s t → AreChained t (head_in t m) (links_in t m)

-- the link that a map put in last is one of the board's
abbrev pub HeadsAreThere : Type 0
HeadsAreThere = (s : Shape) (t : Trail) (m : ℕ) → Lawful s t → IfSome (head_in t m) (λ l. l < s.links)

-- a link has a key, and leads to an open map whose parent is this map
pub record LeadsToChild (s : Shape) (t : Trail) (m l : ℕ) : Type 0 where
  pub there : l < s.links
  pub child : IsSomeAnd (link_key_in t l) (λ key. IsSomeAnd (link_child_in t l) (λ c. IsChildBy t m c key))

-- each link of a map leads to a child of it
abbrev pub LinksLead : Type 0
LinksLead = (s : Shape) (t : Trail) (m : ℕ) → Lawful s t → All (LeadsToChild s t m) (links_in t m)

-- the newest child for a key is open, and a child of the map by this key
abbrev pub ChildrenAreOpen : Type 0
ChildrenAreOpen = (s : Shape) (t : Trail) (m : ℕ) (key : Key) → Lawful s t → IfSome (child_of t m key) (λ c. IsChildBy t m c key)

-- a map that has a link is unstable
abbrev pub LinkedAreUnstable : Type 0
LinkedAreUnstable = (s : Shape) (t : Trail) (m l : ℕ) (ls : List ℕ) → Lawful s t → links_in t m ≡ l ∷ ls → IsTrue (bits_in t m).unstable

-- the links of a map stay its last ones, and lead where they led
pub record LinksStay (s : Shape) (old new : Trail) (m : ℕ) : Type 0 where
  pub more : List ℕ
  pub is : links_in new m ≡ more ++ links_in old m
  pub lead : (l : ℕ) → LeadsToChild s old m l → LeadsToChild s new m l
  pub newest : (key : Key) → newest_of new (links_in old m) key ≡ child_of old m key

abbrev pub LinksAreKept : Type 0
LinksAreKept = (s : Shape) (old new : Trail) (m : ℕ) → GoesOn s old new → LinksStay s old new m

-- after a link was put before those of a map: the key's child is the new one, and every other key and map has the child that it had
pub record IsLinked (old new : Trail) (m l : ℕ) (key : Key) (child : ℕ) : Type 0 where
  pub links : links_in new m ≡ l ∷ links_in old m
  pub others : (n : ℕ) → n ≢ m → links_in new n ≡ links_in old n
  pub has_key : link_key_in new l ≡ Some key
  pub leads : link_child_in new l ≡ Some child
  pub newest : (k : Key) → child_of new m k ≡ if same_key key k then Some child else child_of old m k
  pub same : (n : ℕ) (k : Key) → n ≢ m → child_of new n k ≡ child_of old n k

abbrev pub LinkedIsNewest : Type 0
LinkedIsNewest = (s : Shape) (t : Trail) (m l : ℕ) (key : Key) (child : ℕ) → Lawful s (linked t m l key child) → IsLinked t (linked t m l key child) m l key child

-- two keys are the same exactly where they are one
abbrev pub SameKeysAreEqual : Type 0
SameKeysAreEqual = (a b : Key) → IsTrue (same_key a b) ↔ a ≡ b
