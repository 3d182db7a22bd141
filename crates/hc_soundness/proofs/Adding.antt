-- What a store that adds the property was told by: the links of the map, and the child.
use Rattle.hc_board.specs.Trail.{Access}
use Rattle.hc_heap.specs.Decode.{typed, key_read, number_read, optional_number, settled_number}
use Rattle.hc_heap.specs.Frames.{lawful-before}
use Rattle.hc_heap.specs.Kept.{WordsSay, PositionsGoOn, WrittenIsKept, WrittenStays, EntriesAreKept}
use Rattle.hc_heap.specs.Lawful.{Lawful, IsChildBy}
use Rattle.hc_heap.specs.Readings.{gate_in, bits_in, base_in, head_in, link_key_in, link_child_in, link_next_in}
use Rattle.hc_heap.specs.Writes.{Trail}
use Rattle.hc_heap.specs.declared.kind.Kind.TheVariants.{GateOfMap, BitsOfMap, BaseOfMap, HeadOfMap, KeyOfLink, ChildOfLink, NextOfLink}
use Rattle.hc_layout.specs.Words.{gate_of, map_bits_of}
use Rattle.hc_layout.specs.declared.shape.Shape.{Shape}
use Rattle.hc_layout.specs.declared.words.GateWord.{GateWord}
use Rattle.hc_layout.specs.declared.words.MapBits.{MapBits}
use Rattle.hc_links.specs.Chains.{same_key, same_kind, is_key, links_in, newest_of, child_of}
use Rattle.hc_links.specs.Laws.{AreChained, LinksAreChained, LinksLead, LeadsToChild}
use Rattle.hc_plan.specs.Chains.{Hop}
use Rattle.hc_plan.specs.declared.case.Case.{Case}
use Rattle.hc_plan.specs.declared.case.Op.TheVariants.{Store}
use Rattle.hc_plan.specs.declared.case.Way.TheVariants.{Add, Reject}
use Rattle.hc_plan.specs.declared.lists.TheConstants.{MAX_CHAIN}
use Rattle.hc_plan.specs.declared.skip.Skip.TheVariants.{Dead, NoLink, PrototypeMap}
use Rattle.hc_plan.specs.declared.skip.Skip.{Skip}
use Rattle.hc_question.specs.Ask.{Ask, stop, ask_base, ask_gate, ask_head, ask_link_child, ask_link_next}
use Rattle.hc_question.specs.Question.{Then, is_data, is_added, child_field, child_entries, child_gate, child_bits, of_child, linked, links_from, of_add, ask_field}
use Rattle.hc_question.specs.declared.outcome.Answer.TheVariants.{Found, Skipped}
use Rattle.hc_soundness.proofs.Answering.{Ends, ends, skipped, saw-detail}
use Rattle.hc_soundness.proofs.Looking.{T, now, Goes, goes, stays, Looked, looked, field-looked, field-now}
use Rattle.hc_soundness.proofs.Options.{some-same, some-and}
use Rattle.hc_soundness.specs.Finding.{added_key}
use Rattle.hc_soundness.specs.Told.{IsAdded, IsOpenTo}
use Rattle.hc_value.specs.Attrs.{bits_of}
use Rattle.hc_value.specs.declared.key.Key.{Key}
use Rattle.hc_value.specs.declared.prop.Kind.TheVariants.{DataProp, AccessorProp}
use Rattle.hc_value.specs.declared.prop.Kind.{Kind as PropertyKind}
use Rattle.std.proofs.Common.{◌≡◌, ◌≢◌, ℕ, zero, suc, ◌+◌, ◌-◌, ◌≤◌, Bool, true, false, cond, eqb, Option, Some, None, List, [], ◌∷◌, length, refl, sym, ap, ◌∙◌, subst, arith}
use Rattle.std.proofs.lemmas.Bool.{eqb-false}
use Rattle.std.proofs.lemmas.List.Elements.{All-head, All-tail}
use Rattle.std.specs.Prelude.{if◌then◌else◌, ◌&&◌, IsSomeAnd, All}
use mathlib.Core.Logic.{inr}

-- the key that a store looks for is the one that it adds

data-kind : (kind : PropertyKind) → is_data kind ≡ same_kind kind DataProp
data-kind DataProp = refl
data-kind AccessorProp = refl

and-over : (a b c : Bool) → (a && (b && c)) ≡ ((a && b) && c)
and-over true b c = refl
and-over false b c = refl

pub added-same : (name : ℕ) (key : Key) → is_added name key ≡ same_key key (added_key name)
added-same name key =
    and-over (eqb key.name name) (is_data key.kind) (eqb (bits_of key.attrs) 0)
    ∙ ap (λ (b : Bool). (eqb key.name name && b) && eqb (bits_of key.attrs) 0) (data-kind key.kind)

-- what a link says that leads to a child
record LinkIs (t : Trail) (l : ℕ) : Type 0 where
  key : Key
  child : ℕ
  is_key : link_key_in t l ≡ Some key
  is_child : link_child_in t l ≡ Some child

link-is : (s : Shape) (t : Trail) (m l : ℕ) → LeadsToChild s t m l → LinkIs t l
link-is s t m l h =
    let key = some-and (λ key. IsSomeAnd (link_child_in t l) (λ c. IsChildBy t m c key)) (link_key_in t l) h.child in
    let child = some-and (λ c. IsChildBy t m c key.0) (link_child_in t l) key.2 in
    record { key = key.0; child = child.0; is_key = key.1; is_child = child.1 }

module _ (words : WordsSay) (positions : PositionsGoOn) (written : WrittenIsKept) (kept : EntriesAreKept) (chains : LinksAreChained) (lead : LinksLead)
    (s : Shape) (stores : List Access) (lawful : Lawful s (typed s stores)) (upto : ℕ) (cs : List Case)
    (Saw : (Trail → Type 0) → Type 0) (start : ℕ) (see : (q : ℕ) → start ≤ q → q ≤ upto → (P : Trail → Type 0) → P (T words positions written kept s stores lawful upto cs q) → Saw P)
    (name m : ℕ) (next : Then) (chain : List Hop) (short : length chain ≤ MAX_CHAIN) where
  abbrev At : ℕ → Trail
  At q = T words positions written kept s stores lawful upto cs q

  abbrev Here : Trail
  Here = now words positions written kept s stores lawful upto cs

  abbrev Left : ℕ → Ask → Type 0
  Left from question = Goes words positions written kept s stores lawful upto cs from question

  abbrev Ended : Type 0
  Ended = Ends words positions written kept s stores lawful upto cs Saw start see Store name m next

  skips : (skip : Skip) (place : ℕ) → start ≤ place → Left place (next chain (Skipped skip)) → Ended
  skips skip place on left = skipped words positions written kept s stores lawful upto cs Saw start see name m next Store chain skip place on left

  module _ (g : GateWord) (is_open : gate_in Here m ≡ Some g) (nothing : IsOpenTo Saw Here name m chain) where
    module _ (unlocked : g.is_locked ≡ false) (shared : g.is_private ≡ false) where
      -- The child

      module _ (child : ℕ) (newest : Saw (λ u. child_of u m (added_key name) ≡ Some child)) where
        module _ (alive : Saw (λ u. (bits_in u child).deprecated ≡ false)) (c : GateWord) (opened : ℕ) (on : start ≤ opened) (top : opened ≤ upto) (gate : gate_in (At opened) child ≡ Some c) (some : c.entries ≢ 0) where
          child-ends : (based first : ℕ) → opened ≤ based → based ≤ upto → base_in (At based) child ≡ Some first → Left based (ask_field (first + (c.entries - 1)) (child_field child (c.entries - 1) chain next)) → Ended
          child-ends based first after most base rest =
              let l = field-looked words positions written kept s stores lawful upto cs (first + (c.entries - 1)) (child_field child (c.entries - 1) chain next) based rest in
              let a = l.on in
              let later : start ≤ l.place = omega (arith, on, after, a) in
              let at_child = field-now words positions written kept s stores lawful upto cs child c opened gate name (λ e k key. stop) stop based first after most base (c.entries - 1) (omega (arith, some)) in
              ends words positions written kept s stores lawful upto cs Saw start see name m next Store chain (Add child (c.entries - 1) l.field l.detail.rep l.detail.class) l.place short
              (record {
                gate = g;
                is_open = is_open;
                unlocked = unlocked;
                shared = shared;
                nothing = nothing;
                grows = record {
                  newest = newest;
                  live = alive;
                  gate = c;
                  is_open = (stays words positions written kept s stores lawful upto cs opened top).gate child c gate;
                  last = omega (arith, some);
                  field = at_child ∙ l.is_field;
                  admits = saw-detail words positions written kept s stores lawful upto cs Saw start see name m next l.field l.place l.detail (IsAdded l.detail.rep l.detail.class) later l.most l.is_detail (record { of_rep = refl; class = refl });
                };
              })
              later l.left

          child-based : (l : Looked words positions written kept s stores lawful upto cs BaseOfMap optional_number child (child_entries child (c.entries - 1) chain next) opened) → Ended
          child-based l = by l.value (some-same (base_in (At l.place) child) l.value (sym l.says ∙ l.is)) l.left
            where
              by : (first : Option ℕ) → base_in (At l.place) child ≡ first → Left l.place (child_entries child (c.entries - 1) chain next first) → Ended
              by None e rest = absurd rest
              by (Some first) e rest = child-ends l.place first l.on l.most e rest

        child-opened : (from : ℕ) → start ≤ from → Saw (λ u. (bits_in u child).deprecated ≡ false) → (l : Looked words positions written kept s stores lawful upto cs GateOfMap gate_of child (child_gate child chain next) from) → Ended
        child-opened from on alive l = by (eqb l.value.entries 0) refl l.left
          where
            by : (b : Bool) → eqb l.value.entries 0 ≡ b → Left l.place (if b then stop else ask_base child (child_entries child (l.value.entries - 1) chain next)) → Ended
            by true e rest = absurd rest
            by false e rest =
                let a = l.on in
                child-based alive l.value l.place (omega (arith, on, a)) l.most (sym l.says ∙ l.is) (eqb-false l.value.entries 0 e)
                (looked words positions written kept s stores lawful upto cs BaseOfMap optional_number child (child_entries child (l.value.entries - 1) chain next) l.place rest)

        child-told : (from : ℕ) → start ≤ from → (l : Looked words positions written kept s stores lawful upto cs BitsOfMap map_bits_of child (child_bits child chain next) from) → Ended
        child-told from on l = by l.value.deprecated refl l.left
          where
            later : start ≤ l.place
            later = let a = l.on in omega (arith, on, a)

            bits : bits_in (At l.place) child ≡ l.value
            bits = some-same (bits_in (At l.place) child) l.value (sym l.says ∙ l.is)

            by : (b : Bool) → l.value.deprecated ≡ b → Left l.place (if b then next chain (Skipped (Dead child)) else ask_gate child (child_gate child chain next)) → Ended
            by true e rest = skips (Dead child) l.place later rest
            by false e rest =
                child-opened l.place later (see l.place later l.most (λ u. (bits_in u child).deprecated ≡ false) (ap (λ (x : MapBits). x.deprecated) bits ∙ e))
                (looked words positions written kept s stores lawful upto cs GateOfMap gate_of child (child_gate child chain next) l.place rest)

      -- The links, as they were where the head was read

      module _ (headed : ℕ) (on_head : start ≤ headed) (top : headed ≤ upto) where
        since : (q : ℕ) → headed ≤ q → WrittenStays (At headed) (At q)
        since q le = written s (At headed) (At q) (goes words positions written kept s stores lawful upto cs headed q le)

        -- the newest child for the key is that of these links
        abbrev IsLeft : List ℕ → Type 0
        IsLeft ls = child_of (At headed) m (added_key name) ≡ newest_of (At headed) ls (added_key name)

        found-child : (l : ℕ) (ls : List ℕ) (link : LinkIs (At headed) l) → is_added name link.key ≡ true → IsLeft (l ∷ ls) → (from : ℕ) → headed ≤ from
            → (k : Looked words positions written kept s stores lawful upto cs ChildOfLink number_read l (of_child chain next) from) → Ended
        found-child l ls link same left from le k =
            let a = k.on in
            let child : k.value ≡ link.child = some-same k.value link.child (sym k.is ∙ k.says ∙ (since k.place (omega (arith, le, a))).link_child l link.child link.is_child) in
            let newest : child_of (At headed) m (added_key name) ≡ Some k.value =
            left
            ∙ ap (λ o. cond (is_key o (added_key name)) (link_child_in (At headed) l) (newest_of (At headed) ls (added_key name))) link.is_key
            ∙ ap (λ b. cond b (link_child_in (At headed) l) (newest_of (At headed) ls (added_key name))) (sym (added-same name link.key) ∙ same)
            ∙ link.is_child ∙ ap (λ x. Some x) (sym child) in
            child-told k.value (see headed on_head top (λ u. child_of u m (added_key name) ≡ Some k.value) newest) k.place (omega (arith, on_head, le, a))
            (looked words positions written kept s stores lawful upto cs BitsOfMap map_bits_of k.value (child_bits k.value chain next) k.place k.left)

        passed : (l : ℕ) (ls : List ℕ) (link : LinkIs (At headed) l) → is_added name link.key ≡ false → IsLeft (l ∷ ls) → IsLeft ls
        passed l ls link other left =
            left
            ∙ ap (λ o. cond (is_key o (added_key name)) (link_child_in (At headed) l) (newest_of (At headed) ls (added_key name))) link.is_key
            ∙ ap (λ b. cond b (link_child_in (At headed) l) (newest_of (At headed) ls (added_key name))) (sym (added-same name link.key) ∙ other)

        -- one link, and the links after it
        module _ (room : ℕ) (ls : List ℕ)
            (onward : (at : Option ℕ) (place : ℕ) → headed ≤ place → AreChained (At headed) at ls → IsLeft ls → Left place (links_from name m room chain next at) → Ended) where
          next-link : (l : ℕ) → IsSomeAnd (link_next_in (At headed) l) (λ n. AreChained (At headed) n ls) → IsLeft ls → (from : ℕ) → headed ≤ from
              → (k : Looked words positions written kept s stores lawful upto cs NextOfLink settled_number l (links_from name m room chain next) from) → Ended
          next-link l chained left from le k =
              let a = k.on in
              let after = some-and (λ n. AreChained (At headed) n ls) (link_next_in (At headed) l) chained in
              let is : k.value ≡ after.0 = some-same k.value after.0 (sym k.is ∙ k.says ∙ (since k.place (omega (arith, le, a))).link_next l after.0 after.1) in
              onward k.value k.place (omega (arith, le, a)) (subst (λ n. AreChained (At headed) n ls) (sym is) after.2) left k.left

          one-link : (l : ℕ) → LinkIs (At headed) l → IsSomeAnd (link_next_in (At headed) l) (λ n. AreChained (At headed) n ls) → IsLeft (l ∷ ls) → (from : ℕ) → headed ≤ from
              → (k : Looked words positions written kept s stores lawful upto cs KeyOfLink key_read l (linked name l chain next (links_from name m room chain next)) from) → Ended
          one-link l link chained left from le k = by (is_added name k.value) refl k.left
            where
              after : headed ≤ k.place
              after = let a = k.on in omega (arith, le, a)

              key : k.value ≡ link.key
              key = some-same k.value link.key (sym k.is ∙ k.says ∙ (since k.place after).link_key l link.key link.is_key)

              by : (b : Bool) → is_added name k.value ≡ b → Left k.place (if b then ask_link_child l (of_child chain next) else ask_link_next l (links_from name m room chain next)) → Ended
              by true e rest =
                  found-child l ls link (ap (is_added name) (sym key) ∙ e) left k.place after
                  (looked words positions written kept s stores lawful upto cs ChildOfLink number_read l (of_child chain next) k.place rest)
              by false e rest =
                  next-link l chained (passed l ls link (ap (is_added name) (sym key) ∙ e) left) k.place after
                  (looked words positions written kept s stores lawful upto cs NextOfLink settled_number l (links_from name m room chain next) k.place rest)

        links-walked : (room : ℕ) (at : Option ℕ) (ls : List ℕ) (from : ℕ) → headed ≤ from → AreChained (At headed) at ls → All (LeadsToChild s (At headed) m) ls → IsLeft ls → Left from (links_from name m room chain next at) → Ended
        unfolding links_from
        links-walked zero None ls from le chained leads left h = skips (NoLink m) from (omega (arith, on_head, le)) h
        links-walked zero (Some l) ls from le chained leads left h = absurd h
        links-walked (suc room) None ls from le chained leads left h = skips (NoLink m) from (omega (arith, on_head, le)) h
        links-walked (suc room) (Some l) [] from le chained leads left h = absurd chained
        links-walked (suc room) (Some l) (k ∷ ls) from le chained leads left h =
            let here = subst (λ x. LeadsToChild s (At headed) m x) (sym chained.0) (All-head (LeadsToChild s (At headed) m) k ls leads) in
            one-link room ls (λ at place le2 chained2 left2 rest. links-walked room at ls place le2 chained2 (All-tail (LeadsToChild s (At headed) m) k ls leads) left2 rest)
            l (link-is s (At headed) m l here) chained.1 (subst (λ x. IsLeft (x ∷ ls)) (sym chained.0) left) from le
            (looked words positions written kept s stores lawful upto cs KeyOfLink key_read l (linked name l chain next (links_from name m room chain next)) from h)

      headed-links : (most from : ℕ) → start ≤ from → (l : Looked words positions written kept s stores lawful upto cs HeadOfMap optional_number m (links_from name m most chain next) from) → Ended
      headed-links most from on l =
          let a = l.on in
          let before = lawful-before s (goes words positions written kept s stores lawful upto cs l.place upto l.most) in
          let head = some-same (head_in (At l.place) m) l.value (sym l.says ∙ l.is) in
          links-walked l.place (omega (arith, on, a)) l.most most l.value (links_in (At l.place) m) l.place (omega arith)
          (subst (λ x. AreChained (At l.place) x (links_in (At l.place) m)) head (chains s (At l.place) m before)) (lead s (At l.place) m before) refl l.left

    -- a store that adds the property
    pub added : (most from : ℕ) → start ≤ from → Left from (of_add name most m g chain next) → Ended
    added most from on h = by g.is_locked refl h
      where
        alone : g.is_locked ≡ false → (b : Bool) → g.is_private ≡ b → Left from (if b then next chain (Skipped (PrototypeMap m)) else ask_head m (links_from name m most chain next)) → Ended
        alone unlocked true e rest = skips (PrototypeMap m) from on rest
        alone unlocked false e rest =
            headed-links unlocked e most from on (looked words positions written kept s stores lawful upto cs HeadOfMap optional_number m (links_from name m most chain next) from rest)

        by : (b : Bool) → g.is_locked ≡ b
            → Left from (if b then next chain (Found Reject) else (if g.is_private then next chain (Skipped (PrototypeMap m)) else ask_head m (links_from name m most chain next))) → Ended
        by true e rest =
            ends words positions written kept s stores lawful upto cs Saw start see name m next Store chain Reject from short (inr (record { gate = g; is_open = is_open; locked = e; nothing = nothing })) on rest
        by false e rest = alone e g.is_private refl rest
