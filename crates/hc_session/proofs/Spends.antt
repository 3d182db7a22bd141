-- What the commands of a run hand out, and which objects they leave slow for want of room.
use Rattle.std.proofs.Common.{◌≡◌, ℕ, suc, ◌+◌, ◌*◌, ◌≤◌, Bool, true, false, List, [], ◌∷◌, ◌++◌, length, length-append, append_assoc, append-nil, drop, Option, Some, refl, sym, ap, ◌∙◌, subst, arith}
use Rattle.std.specs.Prelude.{if◌then◌else◌}
use Rattle.std.proofs.lemmas.List.{drop_at}
use Rattle.hc_table.specs.Changes.{Did, Moved}
use Rattle.hc_access.specs.Accesses.{AskedCell}
use Rattle.hc_commands.specs.declared.command.Command.{Command}
use Rattle.hc_commands.specs.declared.command.Command.TheVariants.{Exec}
use Rattle.hc_objects.specs.Came.{Came, MadeLive}
use Rattle.hc_objects.specs.Laws.{came-stands, live-moves}
use Rattle.hc_layout.specs.declared.shape.Shape.{Shape}
use Rattle.hc_value.specs.declared.reply.Cause.TheVariants.{Space}
use Rattle.hc_value.specs.declared.value.Value.{Value}
use Rattle.hc_tree.specs.declared.need.Need.{Need}
use Rattle.hc_tree.specs.Needs.{HasSpace}
use Rattle.hc_slots.specs.Meaning.{Dictionary}
use Rattle.hc_modes.specs.Meaning.{cause_in}
use Rattle.hc_modes.specs.Spent.{IsNearlyFull, IsSpent, greatest_need}
use Rattle.hc_modes.specs.State.{ObjectsState, IsObjects}
use Rattle.hc_board.specs.Parts.{MetEntry}
use Rattle.hc_report.specs.declared.line.Line.{Line}
use Rattle.hc_session.specs.Jobs.{HaveMet}
use Rattle.hc_session.specs.Keeping.{IsLeft, IsLeftInWant, IsUsed, but_cells}
use Rattle.hc_session.specs.Logging.{answers_in, is_answer, lines_since}
use Rattle.hc_session.specs.Output.{Place, Turns, Answers}
use Rattle.hc_session.specs.Replay.{the_first_place}
use Rattle.hc_session.specs.Plain.{Answer, act_in, is_access}
use Rattle.hc_session.specs.Plans.{lines_lost, lines_ready}
use Rattle.hc_session.specs.Standing.{Standing, plain_of, plain_with}
use Rattle.hc_session.specs.State.{Does, NotedInWant, Stands, Wants, any_pace}
use Rattle.hc_session.specs.Tables.{did_in}
use Rattle.hc_objects.specs.State.{IsStanding}
use Rattle.hc_session.specs.Using.{AreReadied, is_accepted, uses_if}
use Rattle.hc_sites.specs.declared.state.SiteState.{SiteState}
use Rattle.hc_session.proofs.Losing.{lost-none}
use Rattle.hc_session.proofs.Marked.{lines_marked}
use Rattle.hc_session.proofs.Readers.{looked_at, met-by}
use Rattle.hc_session.proofs.Readied.{became-by, few-used, readied-keeps}
use mathlib.Core.Logic.{◌⊎◌, inl, inr}

-- operations spend little: the law of objects
pub record SpendLittle (P : Type 0) : Type 0 where
  pub one : (a b : ObjectsState P) (did : Did) → IsObjects a.heap.view a.kept a.of_null → Came any_pace a did b → IsSpent 4 a b
  pub live : (a b : ObjectsState P) (o : ℕ) → IsObjects a.heap.view a.kept a.of_null → MadeLive any_pace a o b → IsSpent 1 a b
  pub none : (n : ℕ) (a : ObjectsState P) → IsSpent n a a
  pub onward : (m n : ℕ) (a b c : ObjectsState P) → IsSpent m a b → IsSpent n b c → IsSpent (m + n) a c
  pub more : (m n : ℕ) (a b : ObjectsState P) → m ≤ n → IsSpent m a b → IsSpent n a b

-- a question for a cell hands out one at most
abbrev pub FewCells : Type 0 → Type 0
FewCells P = (a b : ObjectsState P) → AskedCell any_pace a b → b.heap.view.used.cells ≤ a.heap.view.used.cells + 1

-- at most n steps lead from a state to a later one, and hand out k cells at most
record AreSpent {P : Type 0} (n k : ℕ) (a b : ObjectsState P) : Type 0 where
  pub spent : IsSpent n a (but_cells a b)
  pub cells : b.heap.view.used.cells ≤ a.heap.view.used.cells + k

-- a region has room, whatever cells were handed out
space-but : {P : Type 0} (x y c : ObjectsState P) (need : Need) → HasSpace (but_cells x c).heap.view need → HasSpace (but_cells y c).heap.view need
space-but {P} x y c need h = record { maps = h.maps; entries = h.entries; fields = h.fields; links = h.links; slots = h.slots }

full-but : {P : Type 0} (x y c : ObjectsState P) (R : Type 0) → R ⊎ IsNearlyFull (but_cells x c).heap.view → R ⊎ IsNearlyFull (but_cells y c).heap.view
full-but {P} x y c R (inl r) = inl r
full-but {P} x y c R (inr full) = inr (λ space. full (space-but y x c greatest_need space))

spent-but : {P : Type 0} (n : ℕ) (x b c : ObjectsState P) → IsSpent n b (but_cells b c) → IsSpent n (but_cells x b) (but_cells x c)
spent-but {P} n x b c h = record {
  within = record {
    maps = h.within.maps;
    entries = h.within.entries;
    fields = h.within.fields;
    links = h.within.links;
    slots = h.within.slots;
    cells = refl;
    rises = record { maps = h.within.rises.maps; entries = h.within.rises.entries; fields = h.within.rises.fields; links = h.within.rises.links; slots = h.within.rises.slots };
  };
  shape = h.shape;
  space = λ o is. full-but b x c (cause_in b.kept o ≡ Some Space) (h.space o is);
}

-- no cell was handed out
same-but : {P : Type 0} (n : ℕ) (a b : ObjectsState P) → IsSpent n a b → AreSpent n 0 a b
same-but {P} n a b h = record {
  spent = record {
    within = record {
      maps = h.within.maps;
      entries = h.within.entries;
      fields = h.within.fields;
      links = h.within.links;
      slots = h.within.slots;
      cells = refl;
      rises = record { maps = h.within.rises.maps; entries = h.within.rises.entries; fields = h.within.rises.fields; links = h.within.rises.links; slots = h.within.rises.slots };
    };
    shape = h.shape;
    space = λ o is. by (h.space o is);
  };
  cells = omega (arith, h.within.cells);
}
  where
    by : {R : Type 0} → R ⊎ IsNearlyFull b.heap.view → R ⊎ IsNearlyFull (but_cells a b).heap.view
    by {R} (inl r) = inl r
    by {R} (inr full) = inr (λ space. full (record { maps = space.maps; entries = space.entries; fields = space.fields; links = space.links; slots = space.slots }))

-- a cell was asked for
asked-but : {P : Type 0} (law : SpendLittle P) (n : ℕ) (a b : ObjectsState P) → b.heap.view.used.cells ≤ a.heap.view.used.cells + 1 → AskedCell any_pace a b → AreSpent n 1 a b
asked-but {P} law n a b few asked =
    let used = asked.only.used in
    let none = law.none n a in
    record {
      spent = record {
        within = record {
          maps = omega (arith, none.within.maps, ap (λ (s : Shape). s.maps) used);
          entries = omega (arith, none.within.entries, ap (λ (s : Shape). s.entries) used);
          fields = omega (arith, none.within.fields, ap (λ (s : Shape). s.fields) used);
          links = omega (arith, none.within.links, ap (λ (s : Shape). s.links) used);
          slots = omega (arith, none.within.slots, ap (λ (s : Shape). s.slots) used);
          cells = refl;
          rises = record {
            maps = omega (arith, ap (λ (s : Shape). s.maps) used);
            entries = omega (arith, ap (λ (s : Shape). s.entries) used);
            fields = omega (arith, ap (λ (s : Shape). s.fields) used);
            links = omega (arith, ap (λ (s : Shape). s.links) used);
            slots = omega (arith, ap (λ (s : Shape). s.slots) used);
          };
        };
        shape = asked.only.steps.shape;
        space = λ o is. inl (sym (ap (λ (kept : List (Option Dictionary)). cause_in kept o) asked.only.kept) ∙ is);
      };
      cells = few;
    }

-- readers that are met hand out nothing
met-spent : {P : Type 0} (a : ObjectsState P) (entries : List MetEntry) (n : ℕ) → IsSpent 4 a a → IsSpent 4 a (looked_at a entries n)
met-spent {P} a entries n h = record { within = h.within; shape = h.shape; space = h.space }

-- how many lines say how a site answered
answers-both : (xs ys : List (ℕ × Line)) → answers_in (xs ++ ys) ≡ answers_in xs + answers_in ys
answers-both [] ys = omega arith
answers-both (x ∷ xs) ys = if-more (is_answer x.1) (answers_in (xs ++ ys)) (answers_in xs) (answers_in ys) (answers-both xs ys)
  where
    if-more : (b : Bool) (both first second : ℕ) → both ≡ first + second → (if b then suc both else both) ≡ (if b then suc first else first) + second
    if-more true both first second e = omega (arith, e)
    if-more false both first second e = e

module _ {P : Type 0} (law : SpendLittle P) (few : FewCells P) where
  spent-on : (m n j k : ℕ) (a b c : ObjectsState P) → AreSpent m j a b → AreSpent n k b c → AreSpent (m + n) (j + k) a c
  spent-on m n j k a b c first second = record {
    spent = law.onward m n a (but_cells a b) (but_cells a c) first.spent (spent-but n a b c second.spent);
    cells = omega (arith, first.cells, second.cells);
  }

  spent-none : (n : ℕ) (a : ObjectsState P) → AreSpent n 0 a a
  spent-none n a = same-but n a a (law.none n a)

  -- a migration is a step
  readied-spent : (uses : List ℕ) (a b : ObjectsState P) → IsStanding a → AreReadied any_pace a uses b → IsSpent (length uses) a b
  readied-spent [] a b sound readied = subst (λ (s : ObjectsState P). IsSpent 0 a s) (sym readied) (law.none 0 a)
  readied-spent (o ∷ os) a b sound readied =
      subst (λ (n : ℕ). IsSpent n a b) (one-more (length os))
      (law.onward 1 (length os) a readied.0 b (law.live a readied.0 o sound.objects readied.1)
      (readied-spent os readied.0 b (came-stands any_pace a readied.0 Moved sound (live-moves any_pace a readied.0 o readied.1)) readied.2))
    where
      one-more : (n : ℕ) → 1 + n ≡ suc n
      one-more n = omega arith

  readied-sound : (uses : List ℕ) (a b : ObjectsState P) → IsStanding a → AreReadied any_pace a uses b → IsStanding b
  readied-sound uses a b sound readied = (readied-keeps any_pace (λ (s : ObjectsState P). Unit {0}) (λ x y first second moves k. tt) uses a b sound readied tt).0

  -- then one thing that is done
  then-spent : (uses : List ℕ) (a ready b : ObjectsState P) (did : Did) → length uses ≤ 3 → IsStanding a → AreReadied any_pace a uses ready → Came any_pace ready did b → IsSpent 8 a b
  then-spent uses a ready b did le sound readied came =
      law.more (length uses + 4) 8 a b (omega (arith, le))
      (law.onward (length uses) 4 a ready b (readied-spent uses a ready sound readied) (law.one ready b did (readied-sound uses a ready sound readied).objects came))

  -- then a question for a cell
  then-asked : (uses : List ℕ) (a ready b : ObjectsState P) → length uses ≤ 3 → IsStanding a → AreReadied any_pace a uses ready → AskedCell any_pace ready b → AreSpent 8 1 a b
  then-asked uses a ready b le sound readied asked =
      let both = spent-on (length uses) 4 0 1 a ready b (same-but (length uses) a ready (readied-spent uses a ready sound readied)) (asked-but law 4 ready b (few ready b asked) asked) in
      record { spent = law.more (length uses + 4) 8 a (but_cells a b) (omega (arith, le)) both.spent; cells = omega (arith, both.cells) }

  -- then readers that are met
  then-met : (uses : List ℕ) (a ready b : ObjectsState P) → length uses ≤ 3 → IsStanding a → AreReadied any_pace a uses ready → HaveMet ready b → IsSpent 8 a b
  then-met uses a ready b le sound readied met =
      law.more (length uses + 4) 8 a b (omega (arith, le))
      (law.onward (length uses) 4 a ready b (readied-spent uses a ready sound readied) (met-by ready b (λ (s : ObjectsState P). IsSpent 4 ready s) (λ entries n. met-spent ready entries n (law.none 4 ready)) met))

  -- a command that is answered
  with-lines : (a b : ObjectsState P) (m n : ℕ) → m ≤ n → AreSpent 8 m a b → AreSpent 8 n a b
  with-lines a b m n le h = record { spent = h.spent; cells = omega (arith, le, h.cells) }

  asked-once : (old new : Standing P) (command : Command) (s o : ℕ) (value : Option Value) → command ≡ Exec s o value → is_accepted (plain_of old) command ≡ true → answers_in (lines_since old new) ≡ (if is_access (plain_of old) command then 1 else 0) → 1 ≤ answers_in (lines_since old new)
  asked-once old new command s o value is yes_it_is one =
      let accepted : is_access (plain_of old) (Exec s o value) ≡ true = subst (λ (c : Command). is_accepted (plain_of old) c ≡ true) is yes_it_is in
      let lines : answers_in (lines_since old new) ≡ 1 =
      one ∙ ap (λ (c : Command). if is_access (plain_of old) c then 1 else 0) is ∙ ap (λ (b : Bool). if b then 1 else 0) accepted in
      omega (arith, lines)

  answer-spent : (old new : Standing P) (command : Command) (answer : Answer) → Stands old.objects → Does any_pace old command answer new → AreSpent 8 (answers_in (lines_since old new)) old.objects new.objects
  answer-spent old new command answer stands does =
      let accepted = is_accepted (plain_of old) command in
      let uses = uses_if accepted command in
      let sound : IsStanding old.objects = record { objects = stands.sound; cells = stands.cells } in
      let ready = does.used.ready in
      became-by any_pace (AreSpent 8 (answers_in (lines_since old new)) old.objects new.objects) accepted ready new.objects command (did_in (act_in (plain_of old) command))
      (λ did came. with-lines old.objects new.objects 0 (answers_in (lines_since old new)) (omega arith)
      (same-but 8 old.objects new.objects (then-spent uses old.objects ready new.objects did (few-used accepted command) sound does.used.readied came)))
      (λ s o value is yes_it_is asked. with-lines old.objects new.objects 1 (answers_in (lines_since old new)) (asked-once old new command s o value is yes_it_is does.logs.one)
      (then-asked uses old.objects ready new.objects (few-used accepted command) sound does.used.readied asked))
      (λ met. with-lines old.objects new.objects 0 (answers_in (lines_since old new)) (omega arith)
      (same-but 8 old.objects new.objects (then-met uses old.objects ready new.objects (few-used accepted command) sound does.used.readied met)))
      does.used.done

  -- a line asks for one command at most, and leaves objects that stand
  record SpendsSo (begun : ℕ) (start end : Standing P) : Type 0 where
    pub more : List (ℕ × Line)
    pub log : end.log ≡ start.log ++ more
    pub spent : AreSpent (8 * begun) (answers_in more) start.objects end.objects
    pub stands : Stands end.objects

  so-none : (start end : Standing P) → end ≡ start → Stands start.objects → SpendsSo 0 start end
  so-none start end same stands = subst (λ (s : Standing P). SpendsSo 0 start s) (sym same) (record {
    more = [];
    log = sym (append-nil start.log);
    spent = spent-none 0 start.objects;
    stands = stands;
  })

  so-on : (m n : ℕ) (a b c : Standing P) → SpendsSo m a b → SpendsSo n b c → SpendsSo (m + n) a c
  so-on m n a b c first second = record {
    more = first.more ++ second.more;
    log = second.log ∙ ap (λ (xs : List (ℕ × Line)). xs ++ second.more) first.log ∙ append_assoc a.log first.more second.more;
    spent = subst (λ (k : ℕ). AreSpent (8 * (m + n)) k a.objects c.objects) (sym (answers-both first.more second.more))
        (subst (λ (k : ℕ). AreSpent k (answers_in first.more + answers_in second.more) a.objects c.objects) (eightfold m n)
        (spent-on (8 * m) (8 * n) (answers_in first.more) (answers_in second.more) a.objects b.objects c.objects first.spent second.spent));
    stands = second.stands;
  }
    where
      eightfold : (m n : ℕ) → 8 * m + 8 * n ≡ 8 * (m + n)
      eightfold m n = omega arith

  so-answered : (old new : Standing P) (command : Command) (answer : Answer) → Stands old.objects → Does any_pace old command answer new → SpendsSo 1 old new
  so-answered old new command answer stands does = record {
    more = lines_since old new;
    log = does.logs.log;
    spent = answer-spent old new command answer stands does;
    stands = does.stands;
  }

  lines_spend : (lines : List (List ℕ)) (start end : Place (Standing P)) (text : List ℕ) → Stands start.state.objects → Answers (Does any_pace) start lines text end → (n : ℕ) × (end.begun ≡ start.begun + n) × SpendsSo n start.state end.state
  lines_spend [] start end text stands answers = (
    0,
    omega (arith, ap (λ (p : Place (Standing P)). p.begun) answers.0),
    so-none start.state end.state (ap (λ (p : Place (Standing P)). p.state) answers.0) stands,
  )
  lines_spend (line ∷ lines) start end text stands answers = by answers.0 answers.1 answers.3 (lines_spend lines answers.0 end answers.2) answers.4
    where
      by : (mid : Place (Standing P)) (first : List ℕ) → Turns (Does any_pace) start line first mid → (Stands mid.state.objects → Answers (Does any_pace) mid lines answers.2 end → (n : ℕ) × (end.begun ≡ mid.begun + n) × SpendsSo n mid.state end.state) → Answers (Does any_pace) mid lines answers.2 end → (n : ℕ) × (end.begun ≡ start.begun + n) × SpendsSo n start.state end.state
      by mid first (inl passed) further others =
          let rest = further (subst (λ (s : Standing P). Stands s.objects) (sym passed.same) stands) others in
          (rest.0, omega (arith, rest.1, passed.begun), subst (λ (s : Standing P). SpendsSo rest.0 s end.state) passed.same rest.2)
      by mid first (inr answered) further others =
          let rest = further answered.done.stands others in
          (1 + rest.0, omega (arith, rest.1, answered.begun), so-on 1 rest.0 start.state mid.state end.state (so-answered start.state mid.state answered.command answered.answer stands answered.done) rest.2)

  -- what was used, by the lines that came
  used-so : (n : ℕ) (a b : Standing P) → SpendsSo n a b → IsUsed n a b
  used-so n a b so =
      let lines : lines_since a b ≡ so.more = ap (λ (xs : List (ℕ × Line)). drop (length a.log) xs) so.log ∙ drop_at a.log so.more (length a.log) refl in
      record { spent = so.spent.spent; cells = omega (arith, so.spent.cells, ap answers_in lines) }

  -- so at the end of a run
  pub is_left : (old new : Standing P) → Stands old.objects → (lines : List (List ℕ)) (text : List ℕ) (end : Place (Standing P)) → Answers (Does any_pace) (the_first_place old) lines text end → end.state ≡ new → IsLeft old new end
  is_left old new stands lines text end answers same =
      let spent = lines_spend lines (the_first_place old) end text stands answers in
      let count : spent.0 ≡ end.begun = omega (arith, spent.1) in
      record {
        same = same;
        marks = omega (arith, lines_marked lines (the_first_place old) end text answers, ap (λ (s : Standing P). length s.marks) same);
        spent = subst (λ (n : ℕ). IsUsed n old new) count (subst (λ (s : Standing P). IsUsed spent.0 old s) same (used-so spent.0 old end.state spent.2));
      }

  -- a command that lacked memory spends as much at most
  first-few : (first left uses : List ℕ) → uses ≡ first ++ left → length uses ≤ 3 → length first ≤ 3
  first-few first left uses is le = omega (arith, le, ap (λ (xs : List ℕ). length xs) is, length-append first left)

  -- it puts no line into the log that says how a site answered
  record SpendsInWant (a b : Standing P) : Type 0 where
    pub more : List (ℕ × Line)
    pub log : b.log ≡ a.log ++ more
    pub none : answers_in more ≡ 0
    pub spent : IsSpent 8 a.objects b.objects

  ready-none : (ready : ObjectsState P) (sites : List SiteState) (command : Command) → answers_in (lines_ready ready sites command) ≡ 0
  ready-none ready sites (Exec s o value) = by (is_access (plain_with ready sites) (Exec s o value))
    where
      by : (b : Bool) → answers_in (if b then lines_lost ready sites else []) ≡ 0
      by true = lost-none ready sites
      by false = refl
  ready-none ready sites command = refl

  -- the lines of discards, if any
  noted-lines : (a b : Standing P) (command : Command) → NotedInWant any_pace a.objects a.sites a.log command b.sites b.log → (more : List (ℕ × Line)) × (b.log ≡ a.log ++ more) × (answers_in more ≡ 0)
  noted-lines a b command (inl same) = ([], same.1 ∙ sym (append-nil a.log), refl)
  noted-lines a b command (inr noted) = (lines_ready noted.0 a.sites command, noted.2.lines_are, ready-none noted.0 a.sites command)

  want_spends : (a b : Standing P) (command : Command) → Stands a.objects → Wants any_pace a command b → SpendsInWant a b
  want_spends a b command stands (inl same) = record { more = []; log = same.log ∙ sym (append-nil a.log); none = refl; spent = subst (λ (o : ObjectsState P). IsSpent 8 a.objects o) (sym same.objects) (law.none 8 a.objects) }
  want_spends a b command stands (inr marked) =
      let want = marked.moves in
      let lines = noted-lines a b command marked.noted in
      record {
        more = lines.0;
        log = lines.1;
        none = lines.2;
        spent = then-spent want.first a.objects want.ready b.objects Moved (first-few want.first want.left (uses_if (is_accepted (plain_of a) command) command) want.split (few-used (is_accepted (plain_of a) command) command))
            (record { objects = stands.sound; cells = stands.cells }) want.readied want.moves;
      }

  in-want-so : (n : ℕ) (a b c : Standing P) → SpendsSo n a b → SpendsInWant b c → IsUsed (n + 1) a c
  in-want-so n a b c so want =
      let both = spent-on (8 * n) 8 (answers_in so.more) 0 a.objects b.objects c.objects so.spent (same-but 8 b.objects c.objects want.spent) in
      let log : c.log ≡ a.log ++ (so.more ++ want.more) = want.log ∙ ap (λ (xs : List (ℕ × Line)). xs ++ want.more) so.log ∙ append_assoc a.log so.more want.more in
      let lines : lines_since a c ≡ so.more ++ want.more = ap (λ (xs : List (ℕ × Line)). drop (length a.log) xs) log ∙ drop_at a.log (so.more ++ want.more) (length a.log) refl in
      record {
        spent = subst (λ (k : ℕ). IsSpent k a.objects (but_cells a.objects c.objects)) (eight-more n) both.spent;
        cells = omega (arith, both.cells, want.none, ap answers_in lines, answers-both so.more want.more);
      }
    where
      eight-more : (n : ℕ) → 8 * n + 8 ≡ 8 * (n + 1)
      eight-more n = omega arith

  -- and where memory ran out
  pub is_left_in_want : (old new : Standing P) → Stands old.objects → (lines : List (List ℕ)) (text : List ℕ) (place : Place (Standing P)) (command : Command) → Answers (Does any_pace) (the_first_place old) lines text place → Wants any_pace place.state command new → IsLeftInWant old new place
  is_left_in_want old new stands lines text place command answers wants =
      let spent = lines_spend lines (the_first_place old) place text stands answers in
      let count : spent.0 + 1 ≡ place.begun + 1 = omega (arith, spent.1) in
      record {
        command = command;
        wants = wants;
        spent = subst (λ (n : ℕ). IsUsed n old new) count (in-want-so spent.0 old place.state new spent.2 (want_spends place.state new command spent.2.stands wants));
      }
