-- Owners of fields, and the one live child of a key.
use Rattle.std.proofs.Common.{◌≡◌, ℕ, zero, suc, ◌+◌, ◌<◌, Bool, true, false, cond, Option, Some, None, List, [], ◌∷◌, refl, sym, ap, ◌∙◌, subst, arith, IfSome, ⊎_elim, true≢false}
use Rattle.std.specs.Prelude.{IsTrue, IsSomeAnd, All, Contains, slice_index_or}
use Rattle.std.proofs.lemmas.List.Elements.{All-contains, Contains-append_cases}
use Rattle.hc_layout.specs.declared.shape.Shape.{Shape}
use Rattle.hc_layout.specs.declared.words.GateWord.{GateWord}
use Rattle.hc_layout.specs.declared.words.MapBits.{MapBits}
use Rattle.hc_value.specs.declared.key.Key.{Key}
use Rattle.hc_heap.specs.Writes.{Trail, Bits}
use Rattle.hc_heap.specs.Readings.{gate_in, parent_in, prototype_in, bits_in, owner_in, link_key_in, link_child_in}
use Rattle.hc_heap.specs.Lawful.{Lawful}
use Rattle.hc_heap.specs.Frames.{goes-still}
use Rattle.hc_heap.specs.States.{View}
use Rattle.hc_descs.specs.Entries.{field_at, key_at}
use Rattle.hc_links.specs.Chains.{child_of, is_key, links_in, newest_of}
use Rattle.hc_links.specs.Laws.{SameKeysAreEqual}
use Rattle.hc_tree.specs.Kept.{MapsAreKept}
use Rattle.hc_tree.specs.Tree.{HaveOneLive, IsChildFor, IsDeadFor, IsLedTo, IsRoot, IsSoundLink, IsTree, gate_with}
use Rattle.hc_tree.specs.Growth.{live_of, live_child, root_of}
use Rattle.hc_tree.specs.Walking.{AreRoots}
use Rattle.hc_tree.specs.Dying.{IsDeprecated, IsOwnerOf}
use Rattle.hc_tree.specs.Frames.{dies-same}
use Rattle.hc_tree.proofs.Ended.{parent-first}
use Rattle.hc_tree.proofs.Opened.{key-of, live-is, not-key}
use Rattle.hc_tree.proofs.Opening.{same-or, some-of}

pub same-some : {T : Type 0} (a b : T) (o : Option T) → o ≡ Some a → o ≡ Some b → a ≡ b
same-some a b o p q = cc

-- the link that leads to a child, which is sound
pub record IsLed (t : Trail) (m c : ℕ) (g : GateWord) : Type 0 where
  pub link : ℕ
  pub there : Contains (links_in t m) link
  pub key : Key
  pub is_key : link_key_in t link ≡ Some key
  pub leads : link_child_in t link ≡ Some c
  pub child : IsChildFor t m g c key

pub led-to : (t : Trail) (m c : ℕ) (g : GateWord) → IsTree t → gate_in t m ≡ Some g → IsLedTo t m c → IsLed t m c g
led-to t m c g tree gate led =
    let sound = All-contains (IsSoundLink t m g) (links_in t m) led.link (tree.maps m g gate).links led.there in
    let same : sound.child ≡ c = same-some sound.child c (link_child_in t led.link) sound.is_child led.leads in
    record { link = led.link; there = led.there; key = sound.key; is_key = sound.is_key; leads = led.leads; child = subst (λ (x : ℕ). IsChildFor t m g x sound.key) same sound.sound }

-- Owners

-- a shared map with entries is the child of a map with one entry less
record HasParent (t : Trail) (m k : ℕ) : Type 0 where
  parent : ℕ
  key : Key
  gate : gate_in t parent ≡ Some (gate_with k false)
  child : IsChildFor t parent (gate_with k false) m key

abbrev gate_is : ℕ → Bool → Bool → GateWord
gate_is n p l = record { entries = n; is_private = p; is_locked = l }

gate-parts : (g : GateWord) (k : ℕ) → g.entries ≡ k → g.is_private ≡ false → g.is_locked ≡ false → g ≡ gate_with k false
gate-parts g k a b c = parts g.entries g.is_private g.is_locked a b c
  where
    parts : (n : ℕ) (p l : Bool) → n ≡ k → p ≡ false → l ≡ false → gate_is n p l ≡ gate_with k false
    parts n p l a b c = ap (λ (x : ℕ). gate_is x p l) a ∙ ap (λ (x : Bool). gate_is k x l) b ∙ ap (λ (x : Bool). gate_is k false x) c

no-member : (ls : List ℕ) (x : ℕ) → ls ≡ [] → Contains ls x → ⊥
no-member ls x is h = let h' : Contains [] x = subst (λ (l : List ℕ). Contains l x) is h in absurd (omega (arith, h'.1))

shared-of : (b : Bool) → (IsTrue b → ⊥) → b ≡ false
shared-of true h = absurd (h refl)
shared-of false h = refl

has-parent : MapsAreKept → (s : Shape) (t : Trail) (m k : ℕ) → Lawful s t → IsTree t → gate_in t m ≡ Some (gate_with (suc k) false) → HasParent t m k
has-parent law s t m k lawful tree gate =
    let whole = (law s t t lawful (goes-still s lawful)).opened m (gate_with (suc k) false) gate in
    let p = some-of (parent_in t m) whole.parent in
    by p.0 p.1
  where
    by : (p : Option ℕ) → parent_in t m ≡ Some p → HasParent t m k
    by None is = let bare = (tree.maps m (gate_with (suc k) false) gate).root refl is in let e : suc k ≡ 0 = bare.entries in absurd (omega (arith, e))
    by (Some q) is =
        let led = (tree.maps m (gate_with (suc k) false) gate).child q is in
        let it = led-to t q m led.gate tree led.is_open led in
        let sound = tree.maps q led.gate led.is_open in
        let same : gate_with (led.gate.entries + 1) false ≡ gate_with (suc k) false = same-some (gate_with (led.gate.entries + 1) false) (gate_with (suc k) false) (gate_in t m) it.child.gate gate in
        let count : led.gate.entries + 1 ≡ suc k = ap (λ (g : GateWord). g.entries) same in
        let shared : led.gate.is_private ≡ false = shared-of led.gate.is_private (λ private. no-member (links_in t q) it.link (sound.unlinked private) it.there) in
        let is_gate : led.gate ≡ gate_with k false = gate-parts led.gate k (omega (arith, count)) shared sound.unlocked in
        record {
          parent = q;
          key = it.key;
          gate = led.is_open ∙ ap (λ (g : GateWord). Some g) is_gate;
          child = subst (λ (g : GateWord). IsChildFor t q g m it.key) is_gate it.child;
        }

-- The root above a shared map

pub roots : MapsAreKept → (s : Shape) (t : Trail) (of_null : Option ℕ) (n m : ℕ) (p : Option ℕ) → Lawful s t → IsTree t → AreRoots t of_null → gate_in t m ≡ Some (gate_with n false) → prototype_in t m ≡ Some p → (r : ℕ) × ((root_of t p of_null ≡ Some r) × IsRoot t p r)
roots law s t of_null zero m p lawful tree are gate proto =
    let q = some-of (parent_in t m) ((law s t t lawful (goes-still s lawful)).opened m (gate_with 0 false) gate).parent in
    by q.0 q.1
  where
    by : (q : Option ℕ) → parent_in t m ≡ Some q → (r : ℕ) × ((root_of t p of_null ≡ Some r) × IsRoot t p r)
    by None is = (m, (are.named m (gate_with 0 false) p gate refl is proto, record { gate = gate; parent = is; prototype = proto }))
    by (Some q) is =
        let led = (tree.maps m (gate_with 0 false) gate).child q is in
        let it = led-to t q m led.gate tree led.is_open led in
        let same : gate_with (led.gate.entries + 1) false ≡ gate_with 0 false = same-some (gate_with (led.gate.entries + 1) false) (gate_with 0 false) (gate_in t m) it.child.gate gate in
        let count : led.gate.entries + 1 ≡ 0 = ap (λ (g : GateWord). g.entries) same in
        absurd (omega (arith, count))
roots law s t of_null (suc k) m p lawful tree are gate proto = up (has-parent law s t m k lawful tree gate) (λ (q : ℕ) (is : gate_in t q ≡ Some (gate_with k false)) (named : prototype_in t q ≡ Some p). roots law s t of_null k q p lawful tree are is named)
  where
    up : (it : HasParent t m k) → ((q : ℕ) → gate_in t q ≡ Some (gate_with k false) → prototype_in t q ≡ Some p → (r : ℕ) × ((root_of t p of_null ≡ Some r) × IsRoot t p r)) → (r : ℕ) × ((root_of t p of_null ≡ Some r) × IsRoot t p r)
    up it above = above it.parent it.gate (sym it.child.prototype ∙ proto)

own-field : (t : Trail) (c : ℕ) (o : Option ℕ) → IsSomeAnd o (λ f. owner_in t f ≡ Some c) → (f : ℕ) × ((o ≡ Some f) × (owner_in t f ≡ Some c))
own-field t c (Some f) h = (f, (refl, h))
own-field t c None h = absurd h

pub owners : MapsAreKept → (s : Shape) (t : Trail) (n m i : ℕ) → Lawful s t → IsTree t → gate_in t m ≡ Some (gate_with n false) → i < n → (a : ℕ) × IsOwnerOf t m n i a
owners law s t zero m i lawful tree gate lt = absurd (omega (arith, lt))
owners law s t (suc k) m i lawful tree gate lt = which (has-parent law s t m k lawful tree gate) (λ (q : ℕ) (is : gate_in t q ≡ Some (gate_with k false)) (less : i < k). owners law s t k q i lawful tree is less)
  where
    which : (up : HasParent t m k) → ((q : ℕ) → gate_in t q ≡ Some (gate_with k false) → i < k → (a : ℕ) × IsOwnerOf t q k i a) → (a : ℕ) × IsOwnerOf t m (suc k) i a
    which up above = same-or i k ((a : ℕ) × IsOwnerOf t m (suc k) i a)
        (λ same.
        let own = own-field t m (field_at t m k) up.child.field in (
          m,
          record {
            field = own.0;
            parent = up.parent;
            key = up.key;
            depth = 0;
            is_field = ap (field_at t m) same ∙ own.1.0;
            owner = own.1.1;
            high = refl;
            far = omega (arith, same);
            gate = subst (λ (x : ℕ). gate_in t up.parent ≡ Some (gate_with x false)) (sym same) up.gate;
            child = subst (λ (x : ℕ). IsChildFor t up.parent (gate_with x false) m up.key) (sym same) up.child;
            entries = record { keys = λ j below. refl; fields = λ j below. refl };
          },
        ))
        (λ other.
        let less : i < k = omega (arith, lt, other) in
        let it = above up.parent up.gate less in
        let own = it.1 in
        let far = own.far in (
          it.0,
          record {
            field = own.field;
            parent = own.parent;
            key = own.key;
            depth = suc own.depth;
            is_field = up.child.entries.fields i less ∙ own.is_field;
            owner = own.owner;
            high = parent-first t m up.parent own.depth up.child.parent ∙ own.high;
            far = omega (arith, far);
            gate = own.gate;
            child = own.child;
            entries = record {
              keys = λ j below. own.entries.keys j below ∙ sym (up.child.entries.keys j (omega (arith, below, less)));
              fields = λ j below. own.entries.fields j below ∙ sym (up.child.entries.fields j (omega (arith, below, less)));
            };
          },
        ))

-- The one live child

single : (x l : ℕ) → Contains (x ∷ []) l → x ≡ l
single x l h = at h.0 h.1 h.2
  where
    at : (k : ℕ) → k < 1 → slice_index_or (x ∷ []) k l ≡ l → x ≡ l
    at zero lt e = e
    at (suc k) lt e = absurd (omega (arith, lt))

dead-is : (t : Trail) (c : ℕ) (o : Option ℕ) → (bits_in t c).deprecated ≡ false → o ≡ Some c → IfSome o (λ y. IsTrue (bits_in t y).deprecated) → ⊥
dead-is t c (Some y) live e h = let same : y ≡ c = cc in true≢false (sym (subst (λ (z : ℕ). IsTrue (bits_in t z).deprecated) same h) ∙ live)
dead-is t c None live e h = let n : ⊥ = cc in n

live-step : SameKeysAreEqual → (t : Trail) (m c l x : ℕ) (g : GateWord) (key : Key) (ls : List ℕ) → IsSoundLink t m g x → All (IsDeadFor t (link_key_in t x)) ls → Contains (x ∷ ls) l → link_key_in t l ≡ Some key → link_child_in t l ≡ Some c → (bits_in t c).deprecated ≡ false
    → (Contains ls l → newest_of t ls key ≡ Some c) → (b : Bool) → is_key (link_key_in t x) key ≡ b → cond b (link_child_in t x) (newest_of t ls key) ≡ Some c
live-step law t m c l x g key ls here others has is leads live below true test = ⊎_elim
    (λ (one : Contains (x ∷ []) l). ap (link_child_in t) (single x l one) ∙ leads)
    (λ (in_rest : Contains ls l).
    let same : here.key ≡ key = key-of law (link_key_in t x) here.key key here.is_key test in
    let keys : link_key_in t l ≡ link_key_in t x = is ∙ ap (λ (k : Key). Some k) (sym same) ∙ sym here.is_key in
    absurd (dead-is t c (link_child_in t l) live leads (All-contains (IsDeadFor t (link_key_in t x)) ls l others in_rest keys)))
    (Contains-append_cases (x ∷ []) ls l has)
live-step law t m c l x g key ls here others has is leads live below false test = ⊎_elim
    (λ (one : Contains (x ∷ []) l). absurd (not-key law (link_key_in t x) key test (ap (link_key_in t) (single x l one) ∙ is)))
    below
    (Contains-append_cases (x ∷ []) ls l has)

live-found : SameKeysAreEqual → (t : Trail) (m c l : ℕ) (g : GateWord) (key : Key) (ls : List ℕ) → All (IsSoundLink t m g) ls → HaveOneLive t ls → Contains ls l → link_key_in t l ≡ Some key → link_child_in t l ≡ Some c → (bits_in t c).deprecated ≡ false → newest_of t ls key ≡ Some c
live-found law t m c l g key [] sound one has is leads live = absurd (no-member [] l refl has)
live-found law t m c l g key (x ∷ ls) sound one has is leads live =
    live-step law t m c l x g key ls (sound 0 x (omega arith)) one.0 has is leads live
    (λ (in_rest : Contains ls l). live-found law t m c l g key ls (λ k d lt. sound (suc k) d (omega arith)) one.1 in_rest is leads live)
    (is_key (link_key_in t x) key) refl

pub one-live : SameKeysAreEqual → (t : Trail) (m c : ℕ) (g : GateWord) (key : Key) → IsTree t → gate_in t m ≡ Some g → IsChildFor t m g c key → (bits_in t c).deprecated ≡ false → live_child t m key ≡ Some c
one-live law t m c g key tree gate child live =
    let led = (tree.maps c (gate_with (g.entries + 1) false) child.gate).child m child.parent in
    let it = led-to t m c g tree gate led in
    let same : it.key ≡ key = same-some it.key key (key_at t c g.entries) it.child.last child.last in
    let sound = tree.maps m g gate in
    let found : child_of t m key ≡ Some c = live-found law t m c it.link g key (links_in t m) sound.links sound.live it.there (it.is_key ∙ ap (λ (k : Key). Some k) same) it.leads live in
    ap (live_of t) found ∙ ap (λ (b : Bool). cond b None (Some c)) live

-- After a child was deprecated

newest-step : (t : Trail) (c : ℕ) (w : MapBits) (ls : List ℕ) (key : Key) → newest_of (Bits c w ∷ t) ls key ≡ newest_of t ls key
newest-step t c w [] key = refl
newest-step t c w (l ∷ ls) key = ap (λ (o : Option ℕ). cond (is_key (link_key_in t l) key) (link_child_in t l) o) (newest-step t c w ls key)

pub freed : SameKeysAreEqual → (old new : View) (m c : ℕ) (g : GateWord) (key : Key) → IsTree old.trail → gate_in old.trail m ≡ Some g → IsChildFor old.trail m g c key → (bits_in old.trail c).deprecated ≡ false → IsDeprecated old new c → live_child new.trail m key ≡ None
freed law old new m c g key tree gate child live it =
    let was : child_of old.trail m key ≡ Some c = live-is old.trail (child_of old.trail m key) c (one-live law old.trail m c g key tree gate child live) in
    let same : child_of new.trail m key ≡ child_of old.trail m key = dies-same old.trail c old.trail new.trail (λ (t : Trail). child_of t m key) (λ t x w. newest-step t x w (links_in t m) key) it.writes in
    ap (live_of new.trail) (same ∙ was) ∙ ap (λ (b : Bool). cond b None (Some c)) it.dead
