-- What objects keep, whatever is done to them.
use Rattle.std.proofs.Common.{◌≡◌, ℕ, Ok, Err, Bool, false, List, [], ◌∷◌, append-nil, refl, sym, ap, ◌∙◌, subst, arith}
use Rattle.std.specs.Prelude.{IfOk, OnOk, OnErr, Result}
use Rattle.hc_board.specs.Trail.{Access}
use Rattle.hc_value.specs.declared.memory.Memory.{Memory}
use Rattle.hc_value.specs.declared.reply.Reply.{Reply}
use Rattle.hc_access.specs.Accesses.{AskedCell}
use Rattle.hc_commands.specs.declared.command.Command.{Command}
use Rattle.hc_facts.specs.Laws.{ConstantsStayOn}
use Rattle.hc_heap.specs.Frames.{goes-further, goes-on, goes-still}
use Rattle.hc_heap.specs.Kept.{GoesOn}
use Rattle.hc_heap.specs.Lawful.{Lawful}
use Rattle.hc_heap.specs.States.{Goes}
use Rattle.hc_heap.specs.Writes.{Trail}
use Rattle.hc_layout.specs.declared.shape.Shape.{Shape}
use Rattle.hc_modes.specs.Admitting.{FactsStay}
use Rattle.hc_modes.specs.Came.{AreMoves, Came as CameBare, Effect, IsMove, Marked, Became, Left, Migrated, Generalised, Move, moves_before}
use Rattle.hc_modes.specs.Rest.{AreCalm}
use Rattle.hc_modes.specs.State.{IsObjects, ObjectsState}
use Rattle.hc_modes.specs.Validity.{OnlyCells}
use Rattle.hc_objects.specs.Came.{Came, Followed, IsStill}
use Rattle.hc_objects.specs.Laws.{came-shape, over-came}
use Rattle.hc_objects.specs.State.{IsStanding}
use Rattle.hc_report.specs.declared.line.Line.{Line}
use Rattle.hc_sites.specs.declared.state.SiteState.{SiteState}
use Rattle.hc_table.specs.Changes.{Did, Nothing, Moved, Created, Added, Wrote, Reconfigured, Removed, Linked, Locked, Restricted}
use Rattle.hc_session.specs.Jobs.{HaveMet}
use Rattle.hc_session.specs.Plain.{act_in, is_beside}
use Rattle.hc_session.specs.State.{Used}
use Rattle.hc_session.specs.Serving.{KeepsOn, Serves}
use Rattle.hc_session.specs.Standing.{plain_with}
use Rattle.hc_session.specs.Tables.{did_in}
use Rattle.hc_session.specs.Using.{MovesInWant, is_accepted, uses_if}
use Rattle.hc_session.proofs.Readers.{met-none}
use Rattle.hc_session.proofs.Readied.{IsKept, not-asking, result-keeps, used-keeps, want-keeps}

-- The writer goes on

still-goes : {P : Type 0} (a b : ObjectsState P) → IsStill a b → Goes a.heap.desk b.heap.desk
still-goes {P} a b still = record {
  board = ap (λ (s : ObjectsState P). s.heap.desk.board) still.is;
  trail = record { more = []; is = ap (λ (s : ObjectsState P). s.heap.desk.trail) still.is ∙ sym (append-nil a.heap.desk.trail) };
  loads = still.loads;
  met = record { more = []; is = ap (λ (s : ObjectsState P). s.heap.desk.met) still.is ∙ sym (append-nil a.heap.desk.met) };
}

-- readers were met
met-goes : {P : Type 0} (a b : ObjectsState P) → HaveMet a b → Goes a.heap.desk b.heap.desk
met-goes {P} a b met = record {
  board = ap (λ (s : ObjectsState P). s.heap.desk.board) met.1.is;
  trail = record { more = []; is = ap (λ (s : ObjectsState P). s.heap.desk.trail) met.1.is ∙ sym (append-nil a.heap.desk.trail) };
  loads = met.1.loads;
  met = record { more = met.0; is = ap (λ (s : ObjectsState P). s.heap.desk.met) met.1.is };
}

module _ {P : Type 0} (went : P → List Access → List Access → P → Type 0) where
  move-goes : (a b : ObjectsState P) (move : Move) → IsMove went a move b → Goes a.heap.desk b.heap.desk
  move-goes a b (Marked o) h = h.steps.goes
  move-goes a b (Became p) h = h.steps.goes
  move-goes a b (Left o cause) h = h.steps.goes
  move-goes a b (Migrated o) h = h.replaced.steps.goes
  move-goes a b (Generalised o i held) h = h.replaced.steps.goes

  moves-goes : (a b : ObjectsState P) (moves : List Move) → AreMoves went a moves b → Goes a.heap.desk b.heap.desk
  moves-goes a b [] h = still-goes a b h
  moves-goes a b (move ∷ moves) h = goes-on a.heap.desk h.0.heap.desk b.heap.desk (move-goes a h.0 move h.1) (moves-goes h.0 b moves h.2)

  effect-goes : (a b : ObjectsState P) (did : Did) → Effect went a did b → Goes a.heap.desk b.heap.desk
  effect-goes a b did h = goes-on a.heap.desk h.mid.heap.desk b.heap.desk (moves-goes a h.mid (moves_before a did) h.moves) h.own.steps.goes

  bare-goes : (a b : ObjectsState P) (did : Did) → CameBare went a did b → Goes a.heap.desk b.heap.desk
  bare-goes a b Nothing h = still-goes a b h
  bare-goes a b Moved h = moves-goes a b h.moves h.are
  bare-goes a b (Created proto) h = effect-goes a b (Created proto) h
  bare-goes a b (Added o p) h = effect-goes a b (Added o p) h
  bare-goes a b (Wrote o i held) h = effect-goes a b (Wrote o i held) h
  bare-goes a b (Reconfigured o i p) h = effect-goes a b (Reconfigured o i p) h
  bare-goes a b (Removed o i) h = effect-goes a b (Removed o i) h
  bare-goes a b (Linked o proto) h = effect-goes a b (Linked o proto) h
  bare-goes a b (Locked o) h = effect-goes a b (Locked o) h
  bare-goes a b (Restricted o frozen) h = effect-goes a b (Restricted o frozen) h

  followed-goes : (a b : ObjectsState P) (did : Did) → Followed went a did b → Goes a.heap.desk b.heap.desk
  followed-goes a b did h = goes-on a.heap.desk h.bare.heap.desk b.heap.desk (bare-goes a h.bare did h.came) h.only.steps.goes

  came-goes : (a b : ObjectsState P) (did : Did) → Came went a did b → Goes a.heap.desk b.heap.desk
  came-goes a b did came =
      over-came went (λ n x y. Goes x.heap.desk y.heap.desk) still-goes (λ m n x y z first second. goes-on x.heap.desk y.heap.desk z.heap.desk first second) (λ m n x y le h. h)
      (λ x y h. followed-goes x y Moved h) followed-goes a b did came

-- What fields say

-- one thing after another
facts_on : ConstantsStayOn → (s r : Shape) (a b c : Trail) → r ≡ s → FactsStay s a b → FactsStay r b c → FactsStay s a c
facts_on law s r a b c same x y = record {
  goes = goes-further s x.goes (subst (λ (q : Shape). GoesOn q b c) same y.goes);
  constants = law s a b c x.goes (subst (λ (q : Shape). GoesOn q b c) same y.goes) x.constants y.constants;
  honest = λ h. y.honest (x.honest h);
}

facts_none : (s : Shape) (t : Trail) → Lawful s t → FactsStay s t t
facts_none s t lawful = record { goes = goes-still s lawful; constants = λ o m k f d datum admits const stable. refl; honest = λ h. h }

-- All of it

-- readers were met, and nothing else was done
pub met-keeps-on : {P : Type 0} (a b : ObjectsState P) → Lawful a.heap.view.shape a.heap.view.trail → HaveMet a b → KeepsOn a b
met-keeps-on {P} a b lawful met = record {
  shape = ap (λ (s : ObjectsState P). s.heap.view.shape) met.1.is;
  goes = met-goes a b met;
  facts = subst (λ (s : ObjectsState P). FactsStay a.heap.view.shape a.heap.view.trail s.heap.view.trail) (sym met.1.is) (facts_none a.heap.view.shape a.heap.view.trail lawful);
  calm = λ calm. subst (λ (s : ObjectsState P). AreCalm s.heap.view.trail) (sym met.1.is) calm;
}

-- the laws of objects
pub record Laws {P : Type 0} (went_on : P → List Access → List Access → P → Type 0) : Type 0 where
  pub constants : ConstantsStayOn
  pub facts : (a b : ObjectsState P) (did : Did) → IsObjects a.heap.view a.kept a.of_null → Came went_on a did b → FactsStay a.heap.view.shape a.heap.view.trail b.heap.view.trail
  pub calm : (a b : ObjectsState P) (did : Did) → IsObjects a.heap.view a.kept a.of_null → IsObjects b.heap.view b.kept b.of_null → Came went_on a did b → AreCalm a.heap.view.trail → AreCalm b.heap.view.trail
  pub asked_facts : (a b : ObjectsState P) → OnlyCells went_on a b → FactsStay a.heap.view.shape a.heap.view.trail b.heap.view.trail
  pub asked_calm : (a b : ObjectsState P) → OnlyCells went_on a b → AreCalm a.heap.view.trail → AreCalm b.heap.view.trail

module _ {P : Type 0} (went : P → List Access → List Access → P → Type 0) (laws : Laws went) where
  keeps-on : (a b c : ObjectsState P) → KeepsOn a b → KeepsOn b c → KeepsOn a c
  keeps-on a b c x y = record {
    shape = y.shape ∙ x.shape;
    goes = goes-on a.heap.desk b.heap.desk c.heap.desk x.goes y.goes;
    facts = facts_on laws.constants a.heap.view.shape b.heap.view.shape a.heap.view.trail b.heap.view.trail c.heap.view.trail x.shape x.facts y.facts;
    calm = λ calm. y.calm (x.calm calm);
  }

  came-keeps-on : (a b : ObjectsState P) (did : Did) → IsStanding a → IsStanding b → Came went a did b → KeepsOn a b
  came-keeps-on a b did sound now came = record {
    shape = came-shape went a b did came;
    goes = came-goes went a b did came;
    facts = laws.facts a b did sound.objects came;
    calm = laws.calm a b did sound.objects now.objects came;
  }

  asked-keeps-on : (a b : ObjectsState P) → AskedCell went a b → KeepsOn a b
  asked-keeps-on a b asked = record {
    shape = asked.only.steps.shape;
    goes = asked.only.steps.goes;
    facts = laws.asked_facts a b asked.only;
    calm = laws.asked_calm a b asked.only;
  }

  -- whatever came before
  kept : (old : ObjectsState P) → IsKept went (KeepsOn old)
  kept old x y did sound now came k = keeps-on old x y k (came-keeps-on x y did sound now came)

  kept-lawful : (old x y : ObjectsState P) → HaveMet x y → KeepsOn old x → KeepsOn old y
  kept-lawful old x y met k = keeps-on old x y k (met-keeps-on x y (subst (λ (s : Shape). Lawful s x.heap.view.trail) (sym k.shape) k.facts.goes.lawful) met)

  pub none-keeps-on : (a : ObjectsState P) → IsStanding a → KeepsOn a a
  none-keeps-on a sound = met-keeps-on a a sound.objects.heap.lawful (met-none a a refl)

  -- a command that is answered, and one that lacked memory
  pub used-keeps-on : (a b : ObjectsState P) (sites now : List SiteState) (log log_now : List (ℕ × Line)) (command : Command) (reply : Reply) → IsStanding a → IsStanding b → Serves went a sites log command reply b now log_now → KeepsOn a b
  used-keeps-on a b sites now log log_now command reply sound sound_now serves =
      used-keeps went (KeepsOn a) (kept a) (kept-lawful a) a b (is_accepted (plain_with a sites) command) command (did_in (act_in (plain_with a sites) command))
      (λ s o value is x y asked k. keeps-on a x y k (asked-keeps-on x y asked)) sound sound_now serves.used (none-keeps-on a sound)

  pub want-keeps-on : (a b : ObjectsState P) (uses : List ℕ) → IsStanding a → IsStanding b → MovesInWant went a uses b → KeepsOn a b
  want-keeps-on a b uses sound now want = want-keeps went (KeepsOn a) (kept a) a b uses sound now want (none-keeps-on a sound)

  pub result-keeps-on : (a b : ObjectsState P) (sites now : List SiteState) (log log_now : List (ℕ × Line)) (command : Command) (r : Result Reply Memory) → IsStanding a → IsStanding b → IfOk r (λ reply. Serves went a sites log command reply b now log_now)
      → OnErr r (MovesInWant went a (uses_if (is_accepted (plain_with a sites) command) command) b) → KeepsOn a b
  result-keeps-on a b sites now log log_now command (Ok reply) sound sound_now serves wants = used-keeps-on a b sites now log log_now command reply sound sound_now serves
  result-keeps-on a b sites now log log_now command (Err fault) sound sound_now serves wants = want-keeps-on a b (uses_if (is_accepted (plain_with a sites) command) command) sound sound_now wants

  -- a command on objects, up to the discards of its end
  pub objects-keep-on : (a b : ObjectsState P) (accepted : Bool) (command : Command) (did : Did) (r : Result Reply Memory) → is_beside command ≡ false → IsStanding a → IsStanding b → OnOk r (Used went a accepted command did b) → OnErr r (MovesInWant went a (uses_if accepted command) b) → KeepsOn a b
  objects-keep-on a b accepted command did r on sound sound_now used want =
      result-keeps went Reply (KeepsOn a) (kept a) (kept-lawful a) a b accepted command did r (not-asking went (KeepsOn a) command on) sound sound_now used want (none-keeps-on a sound)
