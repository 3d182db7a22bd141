-- The script from a place on is what a generator gives there.
use Rattle.std.proofs.Common.{◌≡◌, ℕ, zero, suc, ◌+◌, ◌-◌, ◌*◌, ◌<◌, ◌≤◌, Bool, true, false, cond, List, [], ◌∷◌, ◌++◌, length, get_or, None, refl, sym, ap, ◌∙◌, append_assoc, add-zero, zero-add, length-append, arith}
use Rattle.std.specs.Prelude.{count_by, nat_lt}
use Rattle.std.proofs.lemmas.List.{append-nil}
use Rattle.std.proofs.lemmas.List.Sums.{sum_by-append}
use Rattle.std.proofs.lemmas.Bool.Decides.{nat_tests}
use Rattle.hc_commands.specs.declared.command.Command.{Command}
use Rattle.hc_commands.specs.declared.command.Command.TheVariants.{New}
use Rattle.hc_script.specs.declared.generator.progress.Progress.{Progress}
use Rattle.hc_script.specs.Generator.{after_draws, draws_from, generated, the_opening, command_of_draws, next_command, makes_object, starts_job, finishes_job, progress_behind}
use Rattle.hc_script.specs.GeneratorView.{counted, number_behind, one_further, commands_from}

-- one element more
length_more : {X : Type 0} (xs : List X) (x : X) → length (xs ++ x ∷ []) ≡ length xs + 1
length_more xs x = length-append xs (x ∷ [])

one_or_none : (b : Bool) (n : ℕ) → n + cond b 1 0 ≡ cond b (n + 1) n
one_or_none true n = refl
one_or_none false n = add-zero n

count_more : {X : Type 0} (p : X → Bool) (xs : List X) (x : X) → count_by p (xs ++ x ∷ []) ≡ cond (p x) (count_by p xs + 1) (count_by p xs)
count_more {X} p xs x =
    let split : count_by p (xs ++ x ∷ []) ≡ count_by p xs + cond (p x) 1 0 =
    omega (arith, sum_by-append (λ (y : X). cond (p y) 1 0) xs (x ∷ [])) in
    split ∙ one_or_none (p x) (count_by p xs)

four_more : (k x : ℕ) → after_draws (k + 4) x ≡ after_draws 4 (after_draws k x)
four_more k x = let e : k + 4 ≡ suc (suc (suc (suc k))) = omega arith in ap (λ (m : ℕ). after_draws m x) e

-- the number behind one more command, by whether it is one of the first
number_more : (first : Bool) (n start : ℕ) → nat_lt n 16 ≡ first
    → after_draws (4 * (n + 1 - 16)) start ≡ cond first (after_draws (4 * (n - 16)) start) (after_draws 4 (after_draws (4 * (n - 16)) start))
number_more true n start is =
    let few : n < 16 = grind (arith, nat_tests) in
    let e : 4 * (n + 1 - 16) ≡ 4 * (n - 16) = omega arith in
    ap (λ (m : ℕ). after_draws m start) e
number_more false n start is =
    let many : 16 ≤ n = grind (arith, nat_tests) in
    let e : 4 * (n + 1 - 16) ≡ 4 * (n - 16) + 4 = omega arith in
    ap (λ (m : ℕ). after_draws m start) e ∙ four_more (4 * (n - 16)) start

pub progress_more : (start : ℕ) (commands : List Command) (command : Command)
    → progress_behind start (commands ++ command ∷ [])
    ≡ counted (record (progress_behind start commands) { number = number_behind (progress_behind start commands) }) command
progress_more start commands command =
    let given : length (commands ++ command ∷ []) ≡ length commands + 1 = length_more commands command in
    let number : after_draws (4 * (length (commands ++ command ∷ []) - 16)) start ≡ number_behind (progress_behind start commands) =
    ap (λ (n : ℕ). after_draws (4 * (n - 16)) start) given ∙ number_more (nat_lt (length commands) 16) (length commands) start refl in
    rw (number, given, count_more makes_object commands command, count_more starts_job commands command, count_more finishes_job commands command) refl

pub length_generated : (n start : ℕ) → length (generated n start) ≡ n
length_generated zero start = refl
length_generated (suc n) start =
    let more : length (generated (suc n) start) ≡ length (generated n start) + 1 =
    length_more (generated n start) (next_command (progress_behind start (generated n start))) in
    omega (arith, more, length_generated n start)

-- the script of so many commands more
goes_on : (m k start : ℕ) → generated (k + m) start ≡ generated k start ++ commands_from m (progress_behind start (generated k start))
goes_on zero k start = ap (λ (n : ℕ). generated n start) (add-zero k) ∙ sym (append-nil (generated k start))
goes_on (suc m) k start =
    let here : Command = next_command (progress_behind start (generated k start)) in
    let shift : k + suc m ≡ suc k + m = omega arith in
    ap (λ (n : ℕ). generated n start) shift
    ∙ goes_on m (suc k) start
    ∙ ap (λ p. generated k start ++ next_command (progress_behind start (generated k start)) ∷ [] ++ commands_from m p)
    (progress_more start (generated k start) (next_command (progress_behind start (generated k start))))
    ∙ append_assoc (generated k start) (next_command (progress_behind start (generated k start)) ∷ [])
    (commands_from m (one_further (progress_behind start (generated k start))))

-- a generator that has given nothing
pub gives_script : (n start : ℕ) → commands_from n (progress_behind start []) ≡ generated n start
gives_script n start = sym (ap (λ (m : ℕ). generated m start) (sym (zero-add n)) ∙ goes_on n 0 start)

-- the next command is one of the first sixteen, or is drawn
pub next_first : (at : Progress) → at.given < 16 → next_command at ≡ get_or the_opening at.given (New None)
next_first at first = let e : nat_lt at.given 16 ≡ true = grind (arith, nat_tests) in rw e refl

pub next_drawn : (at : Progress) → 16 ≤ at.given → next_command at ≡ command_of_draws (draws_from at.number) at
next_drawn at later = let e : nat_lt at.given 16 ≡ false = grind (arith, nat_tests) in rw e refl

-- and took no draw, or four
pub number_first : (at : Progress) → at.given < 16 → at ≡ record at { number = number_behind at }
number_first at first = let e : nat_lt at.given 16 ≡ true = grind (arith, nat_tests) in rw e refl

pub number_drawn : (at : Progress) → 16 ≤ at.given → record at { number = after_draws 4 at.number } ≡ record at { number = number_behind at }
number_drawn at later = let e : nat_lt at.given 16 ≡ false = grind (arith, nat_tests) in rw e refl

-- a generator gives the next command
pub gives_next : (n : ℕ) (at : Progress) → 0 < n → commands_from n at ≡ next_command at ∷ commands_from (n - 1) (one_further at)
gives_next zero at some = absurd (omega arith)
gives_next (suc n) at some =
    let e : n ≡ suc n - 1 = omega arith in ap (λ (m : ℕ). next_command at ∷ commands_from m (one_further at)) e
