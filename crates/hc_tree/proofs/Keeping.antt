-- What is kept of the maps in a lawful trail that goes on.
use Rattle.std.proofs.Common.{◌≡◌, ℕ, ◌+◌, ◌<◌, Bool, true, false, Option, Some, None, List, [], ◌∷◌, get_or, suc, refl, sym, ap, ◌∙◌, subst, arith, cond, eqb, eqb-true, IfSome, IsSome}
use Rattle.std.specs.Prelude.{IsTrue, IsSomeAnd, ◌&&◌, All, Contains}
use Rattle.hc_layout.specs.declared.shape.Shape.{Shape}
use Rattle.hc_layout.specs.declared.words.ArrayWord.{ArrayWord}
use Rattle.hc_layout.specs.declared.words.GateWord.{GateWord}
use Rattle.hc_layout.specs.declared.words.MapBits.{MapBits}
use Rattle.hc_value.specs.Field.{is_within, is_constness_within, is_class_within}
use Rattle.hc_value.specs.declared.key.Key.{Key}
use Rattle.hc_value.specs.declared.field.Rep.{Rep}
use Rattle.hc_value.specs.declared.field.Rep.TheVariants.{Smi, Wide, HeapObject, Tagged}
use Rattle.hc_value.specs.declared.field.Constness.{Constness}
use Rattle.hc_value.specs.declared.field.Constness.TheVariants.{Const, Mutable}
use Rattle.hc_value.specs.declared.field.Class.{Class}
use Rattle.hc_value.specs.declared.field.Class.TheVariants.{Of, Any}
use Rattle.hc_value.specs.declared.field.Detail.{Detail}
use Rattle.hc_heap.specs.Writes.{Trail, Write, Bits}
use Rattle.hc_heap.specs.Readings.{gate_in, parent_in, prototype_in, bits_in, base_in, array_in, entry_key_in, reference_in, owner_in, detail_in, link_child_in, root_in}
use Rattle.hc_heap.specs.Lawful.{Lawful, RisesTo}
use Rattle.hc_heap.specs.States.{View, IsHeap, with_write}
use Rattle.hc_heap.specs.Kept.{GoesOn, WrittenIsKept, EntriesAreKept, EntriesStay, DetailsRise, GatesAreOpen}
use Rattle.hc_descs.specs.Entries.{field_at}
use Rattle.hc_descs.specs.Copies.{HasArray}
use Rattle.hc_links.specs.Chains.{links_in}
use Rattle.hc_tree.specs.Kept.{MapsStay, MapsAreKept}
use Rattle.hc_tree.specs.Tree.{gate_with, tagged_field, IsRoot, IsChildFor, IsSoundLink, IsDeadFor, HaveOneLive, IsSoundMap, IsTree}

-- the laws of the heap that are used here
pub record HeapLaws : Type 0 where
  pub written : WrittenIsKept
  pub entries : EntriesAreKept
  pub details : DetailsRise
  pub gates : GatesAreOpen

-- a detail that admits everything doesn't rise

rep-top : (r : Rep) → IsTrue (is_within Tagged r) → r ≡ Tagged
rep-top Smi h = let n : ⊥ = cc in absurd n
rep-top Wide h = let n : ⊥ = cc in absurd n
rep-top HeapObject h = let n : ⊥ = cc in absurd n
rep-top Tagged h = refl

constness-top : (c : Constness) → IsTrue (is_constness_within Mutable c) → c ≡ Mutable
constness-top Const h = let n : ⊥ = cc in absurd n
constness-top Mutable h = refl

class-top : (c : Class) → IsTrue (is_class_within Any c) → c ≡ Any
class-top (Of m) h = let n : ⊥ = cc in absurd n
class-top Any h = refl

each-true : (x y z : Bool) → IsTrue (x && y && z) → IsTrue x × IsTrue y × IsTrue z
each-true true true true h = (refl, refl, refl)
each-true true true false h = let n : ⊥ = cc in absurd n
each-true true false z h = let n : ⊥ = cc in absurd n
each-true false y z h = let n : ⊥ = cc in absurd n

abbrev detail_with : Rep → Constness → Class → Detail
detail_with r k c = record { rep = r; constness = k; class = c }

detail-of : (r : Rep) (k : Constness) (c : Class) → r ≡ Tagged → k ≡ Mutable → c ≡ Any → detail_with r k c ≡ tagged_field
detail-of r k c a b d = subst (λ (x : Rep). detail_with x k c ≡ tagged_field) (sym a) (subst (λ (x : Constness). detail_with Tagged x c ≡ tagged_field) (sym b) (ap (λ (x : Class). detail_with Tagged Mutable x) d))

detail-top : (d : Detail) → RisesTo tagged_field d → d ≡ tagged_field
detail-top d h =
    let p = each-true (is_within Tagged d.rep) (is_constness_within Mutable d.constness) (is_class_within Any d.class) h.within in
    detail-of d.rep d.constness d.class (rep-top d.rep p.0) (constness-top d.constness p.1) (class-top d.class p.2)

tagged-stays : (o : Option Detail) → IsSomeAnd o (λ e. RisesTo tagged_field e) → o ≡ Some tagged_field
tagged-stays (Some d) h = ap Some (detail-top d h)
tagged-stays None h = absurd h

goes-nowhere : (s : Shape) (new : Trail) → Lawful s new → GoesOn s new new
goes-nowhere s new h = record { more = []; is = refl; lawful = h }

pub keeps : HeapLaws → (s : Shape) (old new : Trail) → Lawful s old → GoesOn s old new → MapsStay old new
keeps laws s old new before goes = record {
  written = laws.written s old new goes;
  entry = λ m k g e lt.
      let stay : EntriesStay old new new m k = laws.entries s old new new m g k goes (goes-nowhere s new goes.lawful) e lt in
      record { key = stay.key; field = stay.field };
  tagged = λ f e. tagged-stays (detail_in new f) (laws.details s old new f tagged_field goes e);
  opened = λ m g e. laws.gates s old m g before e;
}

-- no map is deprecated that wasn't
abbrev pub SameLives : Trail → Trail → Type 0
SameLives old new = (x : ℕ) → (bits_in new x).deprecated ≡ (bits_in old x).deprecated

some-of : {T : Type 0} (o : Option T) → IsSome o → (v : T) × (o ≡ Some v)
some-of (Some v) h = (v, refl)
some-of None h = let n : ⊥ = cc in absurd n

-- a word of an open map that is there is what it was
was : {T : Type 0} (a b : Option T) (v : T) → IsSome a → ((x : T) → a ≡ Some x → b ≡ Some x) → b ≡ Some v → a ≡ Some v
was a b v some stays now = let x = some-of a some in let y = stays x.0 x.1 in x.1 ∙ (sym y ∙ now)

-- deprecated maps stay so; others die only with all their children, and no root does
pub record Lives (old new : Trail) : Type 0 where
  pub rises : (x : ℕ) → IsTrue (bits_in old x).deprecated → IsTrue (bits_in new x).deprecated
  pub falls : (m c : ℕ) (g : GateWord) (key : Key) → gate_in old m ≡ Some g → IsChildFor old m g c key → IsTrue (bits_in new m).deprecated → IsTrue (bits_in new c).deprecated
  pub bare : (m : ℕ) (g : GateWord) → gate_in old m ≡ Some g → g.is_private ≡ false → parent_in old m ≡ Some None → (bits_in old m).deprecated ≡ false → (bits_in new m).deprecated ≡ false

pub same-lives : (old new : Trail) → SameLives old new → Lives old new
same-lives old new same = record {
  rises = λ x d. same x ∙ d;
  falls = λ m c g key e h d. same c ∙ h.deprecated (sym (same m) ∙ d);
  bare = λ m g e shared top live. same m ∙ live;
}

module _ (old new : Trail) (kept : MapsStay old new) (lives : Lives old new) where
  same-prototype : (m : ℕ) (g : GateWord) → gate_in old m ≡ Some g → prototype_in new m ≡ prototype_in old m
  same-prototype m g e = let p = some-of (prototype_in old m) (kept.opened m g e).prototype in kept.written.prototype m p.0 p.1 ∙ sym p.1

  owner-kept : (o n : Option ℕ) (c : ℕ) → n ≡ o → IsSomeAnd o (λ f. owner_in old f ≡ Some c) → IsSomeAnd n (λ f. owner_in new f ≡ Some c)
  owner-kept (Some f) n c e h = subst (λ (x : Option ℕ). IsSomeAnd x (λ f. owner_in new f ≡ Some c)) (sym e) (kept.written.owner f c h)
  owner-kept None n c e h = absurd h

  pub child-kept : (m : ℕ) (g : GateWord) (c : ℕ) (key : Key) → gate_in old m ≡ Some g → IsChildFor old m g c key → IsChildFor new m g c key
  child-kept m g c key e h =
      let h' : GateWord = gate_with (g.entries + 1) false in
      let lt : g.entries < h'.entries = omega arith in
      let last = kept.entry c g.entries h' h.gate lt in
      record {
        younger = h.younger;
        gate = kept.written.gate c h' h.gate;
        parent = kept.written.parent c (Some m) h.parent;
        prototype = same-prototype c h' h.gate ∙ (h.prototype ∙ sym (same-prototype m g e));
        entries = record {
          keys = λ k lt. (kept.entry c k h' h.gate (omega arith)).key ∙ (h.entries.keys k lt ∙ sym (kept.entry m k g e lt).key);
          fields = λ k lt. (kept.entry c k h' h.gate (omega arith)).field ∙ (h.entries.fields k lt ∙ sym (kept.entry m k g e lt).field);
        };
        last = last.key ∙ h.last;
        field = owner-kept (field_at old c g.entries) (field_at new c g.entries) c last.field h.field;
        deprecated = λ d. lives.falls m c g key e h d;
      }

  link-kept : (m : ℕ) (g : GateWord) (l : ℕ) → gate_in old m ≡ Some g → IsSoundLink old m g l → IsSoundLink new m g l
  link-kept m g l e h = record {
    key = h.key;
    child = h.child;
    is_key = kept.written.link_key l h.key h.is_key;
    is_child = kept.written.link_child l h.child h.is_child;
    sound = child-kept m g h.child h.key e h.sound;
  }

  pub links-kept : (m : ℕ) (g : GateWord) (ls : List ℕ) → gate_in old m ≡ Some g → All (IsSoundLink old m g) ls → All (IsSoundLink new m g) ls
  links-kept m g ls e h = λ k d lt. link-kept m g (get_or ls k d) e (h k d lt)

  dead-case : (l : ℕ) (c : ℕ) (o : Option ℕ) → o ≡ Some c → IfSome o (λ c. IsTrue (bits_in old c).deprecated) → IsTrue (bits_in old c).deprecated
  dead-case l c (Some x) e h = let same : x ≡ c = cc in subst (λ (y : ℕ). IsTrue (bits_in old y).deprecated) same h
  dead-case l c None e h = let n : ⊥ = cc in absurd n

  dead-kept : (m : ℕ) (g : GateWord) (key : Key) (l : ℕ) → IsSoundLink old m g l → IsDeadFor old (Some key) l → IsDeadFor new (Some key) l
  dead-kept m g key l h dead same =
      let is = kept.written.link_key l h.key h.is_key in
      let before = dead-case l h.child (link_child_in old l) h.is_child (dead (h.is_key ∙ (sym is ∙ same))) in
      subst (λ (o : Option ℕ). IfSome o (λ c. IsTrue (bits_in new c).deprecated)) (sym (kept.written.link_child l h.child h.is_child)) (lives.rises h.child before)

  pub dead-all : (m : ℕ) (g : GateWord) (key : Key) (ls : List ℕ) → All (IsSoundLink old m g) ls → All (IsDeadFor old (Some key)) ls → All (IsDeadFor new (Some key)) ls
  dead-all m g key ls h dead = λ k d lt. dead-kept m g key (get_or ls k d) (h k d lt) (dead k d lt)

  pub live-kept : (m : ℕ) (g : GateWord) (ls : List ℕ) → All (IsSoundLink old m g) ls → HaveOneLive old ls → HaveOneLive new ls
  live-kept m g [] h live = tt
  live-kept m g (l ∷ ls) h live =
      let first : IsSoundLink old m g l = h 0 l (omega arith) in
      let rest : All (IsSoundLink old m g) ls = λ k d lt. h (suc k) d (omega arith) in
      let now = kept.written.link_key l first.key first.is_key in
      let dead = dead-all m g first.key ls rest (subst (λ (o : Option Key). All (IsDeadFor old o) ls) first.is_key live.0) in
      (subst (λ (o : Option Key). All (IsDeadFor new o) ls) (sym now) dead, live-kept m g ls rest live.1)

  -- an open map stays sound, where its links and its array are
  pub map-kept : ((x l : ℕ) → Contains (links_in old x) l → Contains (links_in new x) l) → (m : ℕ) (g : GateWord) → gate_in old m ≡ Some g → IsSoundMap old m g
      → (IsTrue g.is_private → links_in new m ≡ []) → All (IsSoundLink new m g) (links_in new m) → HaveOneLive new (links_in new m) → HasArray new m g.entries → IsSoundMap new m g
  map-kept more m g e h unlinked links live array =
      let whole = kept.opened m g e in
      record {
        distinct = λ i j ij jn a b ia jb. h.distinct i j ij jn a b (sym (kept.entry m i g e (omega arith)).key ∙ ia) (sym (kept.entry m j g e jn).key ∙ jb);
        proper = λ k key lt is. h.proper k key lt (sym (kept.entry m k g e lt).key ∙ is);
        tagged = λ k f key lt is kind at. kept.tagged f (h.tagged k f key lt (sym (kept.entry m k g e lt).key ∙ is) kind (sym (kept.entry m k g e lt).field ∙ at));
        array = array;
        unlocked = h.unlocked;
        alone = λ private. kept.written.parent m None (h.alone private);
        unlinked = unlinked;
        links = links;
        live = live;
        child = λ p is.
            let led = h.child p (was (parent_in old m) (parent_in new m) (Some p) whole.parent (λ v x. kept.written.parent m v x) is) in
            record {
              link = led.link;
              there = more p led.link led.there;
              leads = kept.written.link_child led.link m led.leads;
              gate = led.gate;
              is_open = kept.written.gate p led.gate led.is_open;
            };
        root = λ shared is.
            let top = was (parent_in old m) (parent_in new m) None whole.parent (λ v x. kept.written.parent m v x) is in
            let bare = h.root shared top in
            record { entries = bare.entries; live = lives.bare m g e shared top bare.live };
      }

  pub root-kept : (p : Option ℕ) (r : ℕ) → IsRoot old p r → IsRoot new p r
  root-kept p r h = record {
    gate = kept.written.gate r (gate_with 0 false) h.gate;
    parent = kept.written.parent r None h.parent;
    prototype = kept.written.prototype r p h.prototype;
  }

  -- the tree stays sound while no map is opened and no link is put in
  pub tree-kept : ((x : ℕ) → links_in new x ≡ links_in old x) → ((x : ℕ) → gate_in new x ≡ gate_in old x) → ((o : ℕ) → (root_in new o).map ≡ (root_in old o).map)
      → ((m : ℕ) (g : GateWord) → gate_in old m ≡ Some g → HasArray old m g.entries → HasArray new m g.entries) → IsTree old → IsTree new
  tree-kept links gates roots arrays h = record {
    maps = λ m g e.
        let e' = sym (gates m) ∙ e in
        let sound = h.maps m g e' in
        map-kept (λ x l there. subst (λ (ls : List ℕ). Contains ls l) (sym (links x)) there) m g e' sound
        (λ private. links m ∙ sound.unlinked private)
        (subst (λ (ls : List ℕ). All (IsSoundLink new m g) ls) (sym (links m)) (links-kept m g (links_in old m) e' sound.links))
        (subst (λ (ls : List ℕ). HaveOneLive new ls) (sym (links m)) (live-kept m g (links_in old m) sound.links sound.live))
        (arrays m g e' sound.array);
    roots = λ o r is. root-kept (Some o) r (h.roots o r (sym (roots o) ∙ is));
    places = λ m n g k i j f em en li lj fi fj.
        let em' = sym (gates m) ∙ em in
        let en' = sym (gates n) ∙ en in
        h.places m n g k i j f em' en' li lj (sym (kept.entry m i g em' li).field ∙ fi) (sym (kept.entry n j k en' lj).field ∙ fj);
  }

-- a map has its array where the words of the array and of all entries are what they were
pub array-kept : (old new : Trail) (m n : ℕ) → array_in new m ≡ array_in old m → base_in new m ≡ base_in old m → ((e : ℕ) → entry_key_in new e ≡ entry_key_in old e) → ((e : ℕ) → reference_in new e ≡ reference_in old e)
    → HasArray old m n → HasArray new m n
array-kept old new m n array base keys fields h = record {
  array = array ∙ h.array;
  spare = λ b k is le lt. (let free = h.spare b k (sym base ∙ is) le (subst (λ (a : ArrayWord). k < a.capacity) array lt) in record { key = keys (b + k) ∙ free.key; field = fields (b + k) ∙ free.field });
}

-- one write more
pub goes-by : (s : Shape) (t : Trail) (w : Write) → Lawful s (w ∷ t) → GoesOn s t (w ∷ t)
goes-by s t w h = record { more = w ∷ []; is = refl; lawful = h }

-- a map whose deprecated bit stays
pub lives-case : (b : MapBits) (n x : ℕ) (old : MapBits) (test : Bool) → eqb n x ≡ test → (eqb n x ≡ true → b.deprecated ≡ old.deprecated) → (cond test b old).deprecated ≡ old.deprecated
lives-case b n x old true e same = same e
lives-case b n x old false e same = refl

-- the tree stays sound where a map becomes unstable
pub bits-tree : (t : Trail) (m : ℕ) (b : MapBits) → MapsStay t (Bits m b ∷ t) → b.deprecated ≡ (bits_in t m).deprecated → IsTree t → IsTree (Bits m b ∷ t)
bits-tree t m b kept same h =
    tree-kept t (Bits m b ∷ t) kept (same-lives t (Bits m b ∷ t) (λ x. lives-case b m x (bits_in t x) (eqb m x) refl (λ e. subst (λ (y : ℕ). b.deprecated ≡ (bits_in t y).deprecated) (eqb-true m x e) same))) (λ x. refl) (λ x. refl) (λ o. refl)
    (λ n g e a. array-kept t (Bits m b ∷ t) n g.entries refl refl (λ x. refl) (λ x. refl) a) h

pub bits-view : MapsAreKept → (old new : View) (m : ℕ) (b : MapBits) → new ≡ with_write old (Bits m b) → IsHeap old → IsHeap new → b.deprecated ≡ (bits_in old.trail m).deprecated → IsTree old.trail → IsTree new.trail
bits-view law old new m b e before after same h =
    let after' : IsHeap (with_write old (Bits m b)) = subst IsHeap e after in
    let kept = law old.shape old.trail (Bits m b ∷ old.trail) before.lawful (goes-by old.shape old.trail (Bits m b) after'.lawful) in
    subst (λ (v : View). IsTree v.trail) (sym e) (bits-tree old.trail m b kept same h)
