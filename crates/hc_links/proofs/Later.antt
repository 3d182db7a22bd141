-- The links of a map in a trail that goes on.
use Rattle.std.proofs.Common.{◌≡◌, ◌≢◌, ℕ, Bool, true, false, cond, eqb, eqb-true, eq-eqb, Option, Some, None, List, [], ◌∷◌, ◌++◌, refl, sym, ap, ◌∙◌, subst}
use Rattle.std.specs.Prelude.{IfSome, IsSomeAnd, All}
use Rattle.std.proofs.lemmas.List.Elements.{All-head, All-tail}
use Rattle.hc_layout.specs.declared.shape.Shape.{Shape}
use Rattle.hc_value.specs.declared.key.Key.{Key}
use Rattle.hc_heap.specs.Writes.{Write, Trail, Head, LinkKey, LinkChild, LinkNext}
use Rattle.hc_heap.specs.Readings.{head_in, link_key_in, link_child_in}
use Rattle.hc_heap.specs.Lawful.{Lawful, IsChildBy}
use Rattle.hc_heap.specs.Kept.{GoesOn, WrittenStays, WrittenIsKept}
use Rattle.hc_links.specs.Chains.{is_key, links_in, linked, newest_of, child_of, same_key}
use Rattle.hc_links.specs.Laws.{LeadsToChild, LinksLead, SameKeysAreEqual, LinksStay, LinksAreKept, IsLinked}
use Rattle.hc_links.proofs.Chained.{lead-on, links-lead}

-- what a link that leads to a child says
record Says (t : Trail) (m l : ℕ) : Type 0 where
  key : Key
  child : ℕ
  is_key : link_key_in t l ≡ Some key
  is_child : link_child_in t l ≡ Some child
  by : IsChildBy t m child key

some-and : {T : Type 0} (P : T → Type 0) (o : Option T) → IsSomeAnd o P → (v : T) × (o ≡ Some v) × P v
some-and P (Some v) h = (v, refl, h)
some-and P None h = absurd h

says : (s : Shape) (t : Trail) (m l : ℕ) → LeadsToChild s t m l → Says t m l
says s t m l h =
    let key = some-and (λ key. IsSomeAnd (link_child_in t l) (λ c. IsChildBy t m c key)) (link_key_in t l) h.child in
    let child = some-and (λ c. IsChildBy t m c key.0) (link_child_in t l) key.2 in
    record { key = key.0; child = child.0; is_key = key.1; is_child = child.1; by = child.2 }

module _ (s : Shape) (old new : Trail) (stays : WrittenStays old new) (m : ℕ) where
  pub newest-on : (ls : List ℕ) (k : Key) → All (LeadsToChild s old m) ls → newest_of new ls k ≡ newest_of old ls k
  newest-on [] k h = refl
  newest-on (l ∷ ls) k h =
      let said = says s old m l (All-head (LeadsToChild s old m) l ls h) in
      let key : link_key_in new l ≡ link_key_in old l = stays.link_key l said.key said.is_key ∙ sym said.is_key in
      let child : link_child_in new l ≡ link_child_in old l = stays.link_child l said.child said.is_child ∙ sym said.is_child in
      let rest = newest-on ls k (All-tail (LeadsToChild s old m) l ls h) in
      ap (λ o. cond (is_key o k) (link_child_in new l) (newest_of new ls k)) key
      ∙ ap (λ o. cond (is_key (link_key_in old l) k) o (newest_of new ls k)) child
      ∙ ap (λ o. cond (is_key (link_key_in old l) k) (link_child_in old l) o) rest

module _ (s : Shape) (keys : SameKeysAreEqual) (t : Trail) (m : ℕ) (key : Key) where
  open-case : (k : Key) (c : ℕ) (rest : Option ℕ) (test : Bool) → same_key k key ≡ test → IsChildBy t m c k → IfSome rest (λ x. IsChildBy t m x key) → IfSome (cond test (Some c) rest) (λ x. IsChildBy t m x key)
  open-case k c rest true e by later = subst (λ (x : Key). IsChildBy t m c x) ((keys k key).0 e) by
  open-case k c rest false e by later = later

  newest-open : (ls : List ℕ) → All (LeadsToChild s t m) ls → IfSome (newest_of t ls key) (λ c. IsChildBy t m c key)
  newest-open [] h = tt
  newest-open (l ∷ ls) h =
      let said = says s t m l (All-head (LeadsToChild s t m) l ls h) in
      let rest = newest-open ls (All-tail (LeadsToChild s t m) l ls h) in
      subst (λ o. IfSome (cond (is_key o key) (link_child_in t l) (newest_of t ls key)) (λ c. IsChildBy t m c key)) (sym said.is_key)
      (subst (λ o. IfSome (cond (same_key said.key key) o (newest_of t ls key)) (λ c. IsChildBy t m c key)) (sym said.is_child)
      (open-case said.key said.child (newest_of t ls key) (same_key said.key key) refl said.by rest))

  pub child-open : LinksLead → Lawful s t → IfSome (child_of t m key) (λ c. IsChildBy t m c key)
  child-open law h = newest-open (links_in t m) (law s t m h)

-- the links that were added, in front of those before
record Front (old new : Trail) (m : ℕ) : Type 0 where
  more : List ℕ
  is : links_in new m ≡ more ++ links_in old m

front-case : (old t : Trail) (n m l : ℕ) (test : Bool) → eqb n m ≡ test → Front old t m → Front old (Head n (Some l) ∷ t) m
front-case old t n m l true e h = record { more = l ∷ h.more; is = ap (λ b. cond b (l ∷ links_in t m) (links_in t m)) e ∙ ap (λ x. l ∷ x) h.is }
front-case old t n m l false e h = record { more = h.more; is = ap (λ b. cond b (l ∷ links_in t m) (links_in t m)) e ∙ h.is }

front-on : (old t : Trail) (w : Write) (m : ℕ) → Front old t m → Front old (w ∷ t) m
front-on old t (Head n (Some l)) m h = front-case old t n m l (eqb n m) refl h
front-on old t w m h = record { more = h.more; is = h.is }

front : (old : Trail) (more : List Write) (m : ℕ) → Front old (more ++ old) m
front old [] m = record { more = []; is = refl }
front old (w ∷ more) m = front-on old (more ++ old) w m (front old more m)

module _ (s : Shape) where
  lawful-under : (old : Trail) (more : List Write) → Lawful s (more ++ old) → Lawful s old
  unfolding Lawful
  lawful-under old [] h = h
  lawful-under old (w ∷ more) h = lawful-under old more h.0

  pub links-kept : (keeps : WrittenIsKept) (old new : Trail) (m : ℕ) → GoesOn s old new → LinksStay s old new m
  links-kept keeps old new m g =
      let stays = keeps s old new g in
      let lawful : Lawful s old = lawful-under old g.more (subst (Lawful s) g.is g.lawful) in
      let added = subst (λ t. Front old t m) (sym g.is) (front old g.more m) in
      record {
        more = added.more;
        is = added.is;
        lead = λ l h. lead-on old new stays s m l h;
        newest = λ key. newest-on s old new stays m (links_in old m) key (links-lead s keeps old m lawful);
      }

eqb-itself : (n : ℕ) → eqb n n ≡ true
eqb-itself n = eq-eqb n n refl

eqb-other : (n m : ℕ) (test : Bool) → eqb n m ≡ test → m ≢ n → test ≡ false
eqb-other n m true e differ = absurd (differ (sym (eqb-true n m e)))
eqb-other n m false e differ = refl

pub linked-newest : (s : Shape) (keeps : LinksAreKept) (t : Trail) (m l : ℕ) (key : Key) (child : ℕ) → Lawful s (linked t m l key child) → IsLinked t (linked t m l key child) m l key child
linked-newest s keeps t m l key child h =
    let new = linked t m l key child in
    let on : GoesOn s t new = record { more = Head m (Some l) ∷ LinkNext l (head_in t m) ∷ LinkChild l child ∷ LinkKey l key ∷ []; is = refl; lawful = h } in
    let links : links_in new m ≡ l ∷ links_in t m = ap (λ b. cond b (l ∷ links_in t m) (links_in t m)) (eqb-itself m) in
    let others : (n : ℕ) → n ≢ m → links_in new n ≡ links_in t n = λ n differ. ap (λ b. cond b (l ∷ links_in t n) (links_in t n)) (eqb-other m n (eqb m n) refl differ) in
    let has_key : link_key_in new l ≡ Some key = ap (λ b. cond b (Some key) (link_key_in t l)) (eqb-itself l) in
    let has_child : link_child_in new l ≡ Some child = ap (λ b. cond b (Some child) (link_child_in t l)) (eqb-itself l) in
    record {
      links = links;
      others = others;
      has_key = has_key;
      leads = has_child;
      newest = λ k.
          ap (λ ls. newest_of new ls k) links
          ∙ ap (λ o. cond (is_key o k) (link_child_in new l) (newest_of new (links_in t m) k)) has_key
          ∙ ap (λ o. cond (same_key key k) o (newest_of new (links_in t m) k)) has_child
          ∙ ap (λ o. cond (same_key key k) (Some child) o) ((keeps s t new m on).newest k);
      same = λ n k differ. ap (λ ls. newest_of new ls k) (others n differ) ∙ (keeps s t new n on).newest k;
    }
