-- What reads tell of a site's maps is told, or was seen, of each case.
use Rattle.std.proofs.Common.{◌≡◌, ℕ, ◌≤◌, Bool, true, false, Some, List, [], ◌∷◌, ◌++◌, length, refl, sym, ap, ◌∙◌, subst, arith}
use Rattle.std.specs.List.{AllByRecursion}
use Rattle.std.specs.Prelude.{if◌then◌else◌, ◌⊎◌}
use mathlib.Core.Logic.{inl, inr}
use Rattle.hc_board.specs.Fits.{AreOf, ReadsFit}
use Rattle.hc_board.specs.Trail.{Access}
use Rattle.hc_layout.specs.Shape.{words_of}
use Rattle.hc_layout.specs.Words.{gate_of, map_bits_of}
use Rattle.hc_layout.specs.declared.shape.Shape.{Shape}
use Rattle.hc_layout.specs.declared.words.GateWord.{GateWord}
use Rattle.hc_layout.specs.declared.words.MapBits.{MapBits}
use Rattle.hc_value.specs.Attrs.{is_read_only}
use Rattle.hc_heap.specs.Decode.{typed, settled_number}
use Rattle.hc_heap.specs.Kept.{at as position_at, WordsSay, PositionsGoOn, WrittenIsKept, EntriesAreKept}
use Rattle.hc_heap.specs.Lawful.{Lawful}
use Rattle.hc_heap.specs.Readings.{gate_in, bits_in}
use Rattle.hc_heap.specs.Writes.{Trail}
use Rattle.hc_heap.specs.declared.kind.Kind.TheVariants.{GateOfMap, PrototypeOfMap, BitsOfMap}
use Rattle.hc_links.specs.Laws.{LinksAreChained, LinksLead}
use Rattle.hc_plan.specs.Chains.{Hop}
use Rattle.hc_plan.specs.Deps.{deps_of}
use Rattle.hc_plan.specs.declared.case.Case.{Case}
use Rattle.hc_plan.specs.declared.case.Op.{Op}
use Rattle.hc_plan.specs.declared.case.Op.TheVariants.{Load, Store}
use Rattle.hc_plan.specs.declared.case.Site.{Site}
use Rattle.hc_plan.specs.declared.lists.TheConstants.{MAX_CHAIN}
use Rattle.hc_plan.specs.declared.plan.Plan.{Plan}
use Rattle.hc_plan.specs.declared.skip.Skip.{Skip}
use Rattle.hc_plan.specs.declared.skip.Skip.TheVariants.{Dead}
use Rattle.hc_question.specs.Ask.{Ask, ask_gate, ask_proto}
use Rattle.hc_question.specs.Question.{Then, own_entry, of_add, walk, of_gate, of_bits, of_map, answered, of_maps, question}
use Rattle.hc_question.specs.Told.{IsTold as ReadsTold, outcome_of}
use Rattle.hc_question.specs.declared.outcome.Answer.{Answer}
use Rattle.hc_question.specs.declared.outcome.Answer.TheVariants.{Found, Skipped}
use Rattle.hc_question.specs.declared.outcome.Outcome.TheVariants.{Planned}
use Rattle.hc_soundness.specs.Finding.{Finds, Lacks}
use Rattle.hc_soundness.specs.Moments.{Now, Once, IsToldNow, IsSeen}
use Rattle.hc_soundness.specs.Reads.{IsPlanOf}
use Rattle.hc_soundness.specs.Told.{IsOpenTo, IsTold}
use Rattle.hc_soundness.proofs.Adding.{added}
use Rattle.hc_soundness.proofs.Answering.{Ends, IsGood, own-answer, walked}
use Rattle.hc_soundness.proofs.Lists.{all-joined}
use Rattle.hc_soundness.proofs.Looking.{T, now, Goes, stays, Looked, looked, FoundEntry, NoEntry, in-map}
use Rattle.hc_soundness.proofs.Options.{some-same, is-some}
use Rattle.hc_soundness.proofs.Reaching.{fits-reach, one-fits}

module _ (words : WordsSay) (positions : PositionsGoOn) (written : WrittenIsKept) (kept : EntriesAreKept) (chains : LinksAreChained) (lead : LinksLead)
    (s : Shape) (stores : List Access) (lawful : Lawful s (typed s stores)) (upto : ℕ) (cs : List Case)
    (Saw : (Trail → Type 0) → Type 0) (start : ℕ) (see : (q : ℕ) → start ≤ q → q ≤ upto → (P : Trail → Type 0) → P (T words positions written kept s stores lawful upto cs q) → Saw P) where
  abbrev At : ℕ → Trail
  At q = T words positions written kept s stores lawful upto cs q

  abbrev Here : Trail
  Here = now words positions written kept s stores lawful upto cs

  abbrev Left : ℕ → Ask → Type 0
  Left from question = Goes words positions written kept s stores lawful upto cs from question

  -- Maps

  -- what is told of a map's answer
  abbrev IsAnswered : Site → ℕ → List Hop → Answer → Type 0
  IsAnswered what m chain (Found way) = IsTold Saw Here what.op what.name (record { map = m; chain = chain; way = way })
  IsAnswered what m chain (Skipped skip) = Unit {0}

  record MapEnds (what : Site) (m : ℕ) (next : Then) : Type 0 where
    chain : List Hop
    answer : Answer
    good : IsAnswered what m chain answer
    place : ℕ
    on : start ≤ place
    left : Left place (next chain answer)

  module _ (what : Site) (most m : ℕ) (next : Then) where
    abbrev Ended : Type 0
    Ended = Ends words positions written kept s stores lawful upto cs Saw start see what.op what.name m next

    module _ (g : GateWord) (opened : ℕ) (on : start ≤ opened) (top : opened ≤ upto) (gate : gate_in (At opened) m ≡ Some g) where
      is_open : gate_in Here m ≡ Some g
      is_open = (stays words positions written kept s stores lawful upto cs opened top).gate m g gate

      adds-by : (op : Op) (chain : List Hop) (from : ℕ) → op ≡ Store → length chain ≤ MAX_CHAIN → start ≤ from → IsOpenTo Saw Here what.name m chain → Left from (of_add what.name most m g chain next)
          → Ends words positions written kept s stores lawful upto cs Saw start see op what.name m next
      adds-by Load chain from e short after nothing rest = let no : ⊥ = cc in absurd no
      adds-by Store chain from e short after nothing rest =
          added words positions written kept chains lead s stores lawful upto cs Saw start see what.name m next chain short g is_open nothing most from after rest

      past-own : Lacks Here m what.name → (from : ℕ) → start ≤ from → (l : Looked words positions written kept s stores lawful upto cs PrototypeOfMap settled_number m (walk what most m g MAX_CHAIN next []) from) → Ended
      past-own lacks from after l =
          let a = l.on in
          let proto = (stays words positions written kept s stores lawful upto cs l.place l.most).prototype m l.value (sym l.says ∙ l.is) in
          walked words positions written kept s stores lawful upto cs Saw start see what.name m next what.op most g lacks l.value proto (adds-by what.op)
          MAX_CHAIN [] l.value l.place (omega arith) (omega (arith, after, a)) refl l.left

      map-open : Left opened (of_gate what most m [] next g) → Ended
      map-open rest = by (in-map words positions written kept s stores lawful upto cs m g opened gate what.name (own_entry what [] next) (ask_proto m (walk what most m g MAX_CHAIN next [])) opened (omega arith) rest)
        where
          by : FoundEntry words positions written kept s stores lawful upto cs m g opened gate what.name (own_entry what [] next) (ask_proto m (walk what most m g MAX_CHAIN next [])) opened
              ⊎ NoEntry words positions written kept s stores lawful upto cs m g opened gate what.name (own_entry what [] next) (ask_proto m (walk what most m g MAX_CHAIN next [])) opened → Ended
          by (inl f) =
              let b = f.on in
              let finds : Finds Here m what.name f.k f.key = record { gate = g; is_open = is_open; within = f.within; is_key = f.is_key; named = f.named; before = f.before } in
              own-answer words positions written kept s stores lawful upto cs Saw start see what.name m next f.k f.key finds f.entry f.field what.op f.key.kind refl (is_read_only f.key.attrs) refl f.place
              (omega (arith, on, b)) f.left
          by (inr n) =
              let b = n.on in
              past-own (record { gate = g; is_open = is_open; none = n.none }) n.place (omega (arith, on, b))
              (looked words positions written kept s stores lawful upto cs PrototypeOfMap settled_number m (walk what most m g MAX_CHAIN next []) n.place n.left)

      -- with the map's bits, its answer is told
      map-told : Saw (λ u. (bits_in u m).deprecated ≡ false) → Ended → MapEnds what m next
      map-told live e = by e.answer e.good e.left
        where
          by : (answer : Answer) → IsGood words positions written kept s stores lawful upto cs Saw start see what.op what.name m e.chain answer → Left e.place (next e.chain answer) → MapEnds what m next
          by (Found way) good rest = record {
            chain = e.chain;
            answer = Found way;
            good = record { live = live; open_map = is-some (gate_in Here m) g is_open; short = good.0; way = good.1 };
            place = e.place;
            on = e.on;
            left = rest;
          }
          by (Skipped skip) good rest = record { chain = e.chain; answer = Skipped skip; good = tt; place = e.place; on = e.on; left = rest }

    map-gate : (from : ℕ) → start ≤ from → Saw (λ u. (bits_in u m).deprecated ≡ false) → (l : Looked words positions written kept s stores lawful upto cs GateOfMap gate_of m (of_gate what most m [] next) from) → MapEnds what m next
    map-gate from on live l =
        let a = l.on in
        let later : start ≤ l.place = omega (arith, on, a) in
        map-told l.value l.place later l.most (sym l.says ∙ l.is) live (map-open l.value l.place later l.most (sym l.says ∙ l.is) l.left)

    map-bits : (from : ℕ) → start ≤ from → (l : Looked words positions written kept s stores lawful upto cs BitsOfMap map_bits_of m (of_bits what most m [] next) from) → MapEnds what m next
    map-bits from on l = by l.value.deprecated refl l.left
      where
        later : start ≤ l.place
        later = let a = l.on in omega (arith, on, a)

        bits : bits_in (At l.place) m ≡ l.value
        bits = some-same (bits_in (At l.place) m) l.value (sym l.says ∙ l.is)

        by : (b : Bool) → l.value.deprecated ≡ b → Left l.place (if b then next [] (Skipped (Dead m)) else ask_gate m (of_gate what most m [] next)) → MapEnds what m next
        by true e rest = record { chain = []; answer = Skipped (Dead m); good = tt; place = l.place; on = later; left = rest }
        by false e rest =
            map-gate l.place later (see l.place later l.most (λ u. (bits_in u m).deprecated ≡ false) (ap (λ (x : MapBits). x.deprecated) bits ∙ e))
            (looked words positions written kept s stores lawful upto cs GateOfMap gate_of m (of_gate what most m [] next) l.place rest)

    map-ends : (from : ℕ) → start ≤ from → Left from (of_map what most m [] next) → MapEnds what m next
    map-ends from on h = map-bits from on (looked words positions written kept s stores lawful upto cs BitsOfMap map_bits_of m (of_bits what most m [] next) from h)

  -- Questions

  module _ (what : Site) (most : ℕ) where
    abbrev AllTold : List Case → Type 0
    AllTold cases = AllByRecursion (IsTold Saw Here what.op what.name) cases

    one-map : (m : ℕ) (rest : List Case → List Skip → Ask) (cases : List Case) (skips : List Skip) → AllTold cases
        → ((cases2 : List Case) (skips2 : List Skip) (place : ℕ) → start ≤ place → AllTold cases2 → Left place (rest cases2 skips2) → AllTold cs)
        → MapEnds what m (answered m rest cases skips) → AllTold cs
    one-map m rest cases skips told onward e = by e.answer e.good e.left
      where
        by : (answer : Answer) → IsAnswered what m e.chain answer → Left e.place (answered m rest cases skips e.chain answer) → AllTold cs
        by (Found way) good left =
            onward (cases ++ record { map = m; chain = e.chain; way = way } ∷ []) skips e.place e.on
            (all-joined (IsTold Saw Here what.op what.name) cases (record { map = m; chain = e.chain; way = way } ∷ []) told (good, tt)) left
        by (Skipped skip) good left = onward cases (skips ++ skip ∷ []) e.place e.on told left

    maps-told : (maps : List ℕ) (cases : List Case) (skips : List Skip) (from : ℕ) → start ≤ from → AllTold cases → Left from (of_maps what most maps cases skips) → AllTold cs
    unfolding of_maps
    maps-told [] cases skips from on told h = subst AllTold h told
    maps-told (m ∷ maps) cases skips from on told h =
        one-map m (of_maps what most maps) cases skips told (λ cases2 skips2 place on2 told2 left. maps-told maps cases2 skips2 place on2 told2 left)
        (map-ends what most m (answered m (of_maps what most maps) cases skips) from on h)

  pub question-told : (what : Site) (maps : List ℕ) (mega : Bool) → Left start (question s what maps mega) → AllByRecursion (IsTold Saw Here what.op what.name) cs
  question-told what maps true h = subst (AllByRecursion (IsTold Saw Here what.op what.name)) h tt
  question-told what maps false h = maps-told what s.links maps [] [] start (omega arith) tt h

-- Plans

-- a plan that is told is that of its site, and of the cases that were told
record Planning (site : ℕ) (what : Site) (plan : Plan) (cases : List Case) : Type 0 where
  of : IsPlanOf site what plan
  cases_are : plan.cases ≡ cases

planning : (site : ℕ) (what : Site) (maps : List ℕ) (mega : Bool) (cases : List Case) (skips : List Skip) (plan : Plan) → Planned plan ≡ outcome_of site what maps mega cases skips → Planning site what plan cases
planning site what maps true cases skips plan e = let no : ⊥ = cc in absurd no
planning site what [] false cases skips plan e = let no : ⊥ = cc in absurd no
planning site what (m ∷ maps) false [] skips plan e = let no : ⊥ = cc in absurd no
planning site what (m ∷ maps) false (case ∷ cases) skips plan e =
    let is : plan ≡ record { site = site; op = what.op; name = what.name; cases = case ∷ cases; deps = deps_of (case ∷ cases) } = cc in
    record {
      of = record {
        site = ap (λ (p : Plan). p.site) is;
        op = ap (λ (p : Plan). p.op) is;
        name = ap (λ (p : Plan). p.name) is;
        deps = ap (λ (p : Plan). p.deps) is ∙ ap deps_of (sym (ap (λ (p : Plan). p.cases) is));
      };
      cases_are = ap (λ (p : Plan). p.cases) is;
    }

pub plan-of-told : (s : Shape) (site : ℕ) (what : Site) (maps : List ℕ) (mega : Bool) (reads : List Access) (plan : Plan) → ReadsTold s site what maps mega reads (Planned plan) → IsPlanOf site what plan
plan-of-told s site what maps mega reads plan told = (planning site what maps mega told.cases told.skips plan told.outcome_is).of

module _ (words : WordsSay) (positions : PositionsGoOn) (written : WrittenIsKept) (kept : EntriesAreKept) (chains : LinksAreChained) (lead : LinksLead)
    (s : Shape) (stores : List Access) (lawful : Lawful s (typed s stores)) (site : ℕ) (what : Site) (maps : List ℕ) (mega : Bool) (reads : List Access) (plan : Plan) (told : ReadsTold s site what maps mega reads (Planned plan)) where
  plans : Planning site what plan told.cases
  plans = planning site what maps mega told.cases told.skips plan told.outcome_is

  over-plan : (P : Op → ℕ → Case → Type 0) → AllByRecursion (P what.op what.name) told.cases → AllByRecursion (P plan.op plan.name) plan.cases
  over-plan P h =
      subst (λ (n : ℕ). AllByRecursion (P plan.op n) plan.cases) (sym plans.of.name)
      (subst (λ (op : Op). AllByRecursion (P op what.name) plan.cases) (sym plans.of.op)
      (subst (AllByRecursion (P what.op what.name)) (sym plans.cases_are) h))

  pub reads-seen : (from upto : ℕ) → ReadsFit (words_of s) stores from upto reads → AllByRecursion (IsSeen s (position_at upto (typed s stores)) plan.op plan.name) plan.cases
  reads-seen from upto fits =
      over-plan (IsSeen s (position_at upto (typed s stores)))
      (question-told words positions written kept chains lead s stores lawful upto told.cases
      (Once s (position_at upto (typed s stores))) from
      (λ q on most P p. record { earlier = position_at q (typed s stores); goes_on = positions s (typed s stores) q upto most lawful; was = p })
      what maps mega (fits-reach s (words_of s) stores upto told.cases told.skips reads from (question s what maps mega) fits told.asked))

  pub reads-told : (position : ℕ) → AreOf (words_of s) stores position reads → AllByRecursion (IsToldNow (position_at position (typed s stores)) plan.op plan.name) plan.cases
  reads-told position are =
      over-plan (IsToldNow (position_at position (typed s stores)))
      (question-told words positions written kept chains lead s stores lawful position told.cases
      (Now (position_at position (typed s stores))) position
      (λ q on most P p. subst (λ (n : ℕ). P (position_at n (typed s stores))) (same q position on most) p)
      what maps mega (fits-reach s (words_of s) stores position told.cases told.skips reads position (question s what maps mega) (one-fits (words_of s) stores position reads are) told.asked))
    where
      same : (a b : ℕ) → b ≤ a → a ≤ b → a ≡ b
      same a b h k = omega (arith, h, k)
