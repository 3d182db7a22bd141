-- The end of an access: the plans that it broke are discarded.
use Rattle.std.proofs.Common.{◌≡◌, ℕ, ◌+◌, ◌<◌, ◌≤◌, ◌^◌, ◌-◌, Ok, Err, true, List, [], ◌∷◌, ◌++◌, length, length-append, append-nil, Option, Some, None, refl, sym, ap, ◌∙◌, subst, arith, min}
use Rattle.std.specs.Prelude.{◌⊎◌, OnErr, OnOk, IfOk, Result}
use Rattle.hc_board.specs.States.{counted, words_of}
use Rattle.hc_board.specs.Trail.{Access}
use Rattle.hc_heap.specs.Decode.{typed}
use Rattle.hc_heap.specs.Kept.{GoesOn, StoresAreWrites}
use Rattle.hc_heap.specs.States.{IsDesk, View}
use Rattle.hc_heap.specs.Writes.{Trail, Write}
use Rattle.hc_layout.specs.declared.shape.Shape.{Shape}
use Rattle.hc_cells.specs.Cells.{with_cell}
use Rattle.hc_modes.specs.Admitting.{ConstantsStay}
use Rattle.hc_modes.specs.State.{ObjectsState}
use Rattle.hc_objects.specs.Came.{Came, IsStill, MadeLive, Moves}
use Rattle.hc_objects.specs.Onward.{HasGoneOn}
use Rattle.hc_ops.specs.Act.{Act}
use Rattle.hc_plan.specs.declared.case.Site.{Site}
use Rattle.hc_sites.specs.declared.state.SiteState.{SiteState}
use Rattle.hc_soundness.specs.Breaks.{breaks}
use Rattle.hc_table.specs.Changes.{Did, Nothing}
use Rattle.hc_table.specs.Kept.{Kept as Tables}
use Rattle.hc_value.specs.declared.memory.Memory.{Memory}
use Rattle.hc_value.specs.declared.reply.Reply.{Reply}
use Rattle.hc_value.specs.declared.value.Value.{Value}
use Rattle.hc_access.specs.Accesses.{AskedCell}
use Rattle.hc_access.specs.Entries.{AreGood}
use Rattle.hc_commands.specs.declared.command.Command.{Command}
use Rattle.hc_commands.specs.declared.command.Command.TheVariants.{Exec}
use Rattle.hc_installed.specs.Discards.{unbroken_sites}
use Rattle.hc_installed.specs.Installed.{AreInstalled}
use Rattle.hc_installed.specs.Laws.{AreUnbroken}
use Rattle.hc_report.specs.declared.line.Line.{Line}
use Rattle.hc_session.specs.Asking.{HasAccessed}
use Rattle.hc_session.specs.Jobs.{AreSeen}
use Rattle.hc_session.specs.Plans.{lines_lost, sites_left}
use Rattle.hc_session.specs.Serving.{Serves}
use Rattle.hc_session.specs.Standing.{tables_of}
use Rattle.hc_session.specs.State.{Became}
use Rattle.hc_session.specs.Using.{MovesInWant}
use Rattle.hc_session.proofs.Asked.{left-good, left-seen, left-still}
use Rattle.hc_session.proofs.Readied.{want-tables}
use mathlib.Core.Logic.{inl, inr}

-- No write to bits or details

-- a cell's writes are none
cell-quiet : (a b : View) (p : ℕ) → (b ≡ a) ⊎ (b ≡ with_cell a p) → breaks b.trail ≡ breaks a.trail
cell-quiet a b p (inl same) = ap (λ (v : View). breaks v.trail) same
cell-quiet a b p (inr made) = ap (λ (v : View). breaks v.trail) made

-- a load
pub load-quiet : {P : Type 0} (went : P → List Access → List Access → P → Type 0) (a b : ObjectsState P) (s o : ℕ) → Became went true a (Exec s o None) Nothing b → breaks b.heap.view.trail ≡ breaks a.heap.view.trail
load-quiet {P} went a b s o (inl still) = ap (λ (x : ObjectsState P). breaks x.heap.view.trail) still.is
load-quiet {P} went a b s o (inr asked) = cell-quiet a.heap.view b.heap.view asked.2.proto asked.2.view

-- No store at all

same-count : (m n limit : ℕ) → min m limit ≡ min n limit → min m limit < limit → m ≡ n
same-count m n limit same lt = omega (arith, same, lt)

none-more : (more : List Write) → length more ≡ 0 → more ≡ []
none-more [] e = refl
none-more (x ∷ xs) e = absurd (omega (arith, e))

-- as many stores were made as before, below the end of their count: so none was
count-quiet : StoresAreWrites → (a ready b : View) (d e : List Access) (law1 : GoesOn ready.shape a.trail ready.trail) (law2 : GoesOn b.shape ready.trail b.trail) → a.trail ≡ typed a.shape d → b.trail ≡ typed b.shape e
    → counted (length d) ≡ counted (length e) → counted (length d) < 2 ^ 64 - 1 → b.trail ≡ ready.trail
count-quiet law a ready b d e first second at_a at_b same lt =
    let lengths : length d ≡ length e = same-count (length d) (length e) (2 ^ 64 - 1) same lt in
    let here : length a.trail ≡ length d = ap (λ (t : Trail). length t) at_a ∙ law a.shape d in
    let there : length b.trail ≡ length e = ap (λ (t : Trail). length t) at_b ∙ law b.shape e in
    let one : length ready.trail ≡ length first.more + length a.trail = ap (λ (t : Trail). length t) first.is ∙ length-append first.more a.trail in
    let two : length b.trail ≡ length second.more + length ready.trail = ap (λ (t : Trail). length t) second.is ∙ length-append second.more ready.trail in
    let none : length second.more ≡ 0 = omega (arith, lengths, here, there, one, two) in
    second.is ∙ ap (λ (more : List Write). more ++ ready.trail) (none-more second.more none)

pub since-quiet : {P : Type 0} (law : StoresAreWrites) (a ready b : ObjectsState P) → IsDesk a.heap.view a.heap.desk → IsDesk b.heap.view b.heap.desk → HasGoneOn a ready → HasGoneOn ready b → counted (length a.heap.desk.trail) ≡ counted (length b.heap.desk.trail) → counted (length a.heap.desk.trail) < 2 ^ 64 - 1
    → breaks b.heap.view.trail ≡ breaks ready.heap.view.trail
since-quiet {P} law a ready b first second one two same lt =
    ap (λ (t : Trail). breaks t) (count-quiet law a.heap.view ready.heap.view b.heap.view a.heap.desk.trail b.heap.desk.trail one.goes two.goes first.trail second.trail same lt)

-- What is left of sites

pub end-installed : {P : Type 0} (b c : ObjectsState P) (mid now : List SiteState) → IsStill b c → now ≡ sites_left b mid → AreInstalled b.heap.view.shape b.heap.view.trail (sites_left b mid) → AreInstalled c.heap.view.shape c.heap.view.trail now
end-installed {P} b c mid now still left are =
    subst (λ (xs : List SiteState). AreInstalled c.heap.view.shape c.heap.view.trail xs) (sym left) (subst (λ (x : ObjectsState P). AreInstalled x.heap.view.shape x.heap.view.trail (sites_left b mid)) (sym still.is) are)

pub end-good : {P : Type 0} (b c : ObjectsState P) (mid now : List SiteState) → now ≡ sites_left b mid → AreGood c mid → AreGood c now
end-good {P} b c mid now left good = subst (λ (xs : List SiteState). AreGood c xs) (sym left) (left-good c b.heap.view.shape (words_of b.heap.desk) mid good)

pub end-seen : {P : Type 0} (b c : ObjectsState P) (mid now : List SiteState) → IsStill b c → now ≡ sites_left b mid → AreSeen b.heap.view.trail mid → AreSeen c.heap.view.trail now
end-seen {P} b c mid now still left seen =
    subst (λ (xs : List SiteState). AreSeen c.heap.view.trail xs) (sym left)
    (subst (λ (x : ObjectsState P). AreSeen x.heap.view.trail (sites_left b mid)) (sym still.is) (left-seen b.heap.view.trail b.heap.view.shape (words_of b.heap.desk) mid seen))

-- the limit of objects
pub want-limit : {P : Type 0} (went : P → List Access → List Access → P → Type 0) (a b : ObjectsState P) (uses : List ℕ) → MovesInWant went a uses b → b.heap.view.shape.objects ≡ a.heap.view.shape.objects
want-limit {P} went a b uses want = ap (λ (t : Tables). t.limit) (want-tables went a b uses want)

pub serves-limit : {P : Type 0} (went : P → List Access → List Access → P → Type 0) (a b : ObjectsState P) (sites now : List SiteState) (log log_now : List (ℕ × Line)) (command : Command) (reply : Reply) → Serves went a sites log command reply b now log_now → b.heap.view.shape.objects ≡ a.heap.view.shape.objects
serves-limit {P} went a b sites now log log_now command reply serves = ap (λ (t : Tables). t.limit) serves.tables_are
