-- A line means one thing where it stands.
use Rattle.std.proofs.Common.{◌≡◌, ℕ, ◌+◌, ◌<◌, ◌≤◌, List, length, refl, sym, ap, ◌∙◌, arith, true, false}
use Rattle.std.proofs.lemmas.Bool.{cases_Bool, cases_lt}
use Rattle.std.specs.Prelude.{Bool}
use Rattle.hc_commands.specs.Words.{words_of, is_skipped}
use Rattle.hc_commands.specs.Grammar.{Form, is_built_form, IsForm, IsSpelled, HaveNoForm, command_of, names_after}
use Rattle.hc_commands.specs.Asks.{AsksFor, AreUnbuilt}
use Rattle.hc_lines.specs.Lines.{content, IsShort}
use Rattle.hc_lines.specs.declared.limits.TheConstants.{MAX_BYTES, MAX_LINE}
use Rattle.hc_names.specs.declared.TheConstants.{MAX_NAMES}
use Rattle.hc_script.specs.Line.{AsksForTooMany, is_plain, IsQuestion, IsRefusedBehind}
use Rattle.hc_script.specs.Reading.{Position, behind, IsWithin, IsPassed, IsAsked, IsRefused}
use Rattle.hc_commands.specs.declared.command.Command.{Command}
use Rattle.hc_script.specs.declared.fault.What.{What}
use Rattle.hc_script.specs.declared.fault.What.TheVariants.{Form as FormWord, Long, Size, Names, Unbuilt}
use mathlib.Core.Logic.{◌⊎◌, inl, inr}

-- words are those of one form at most
abbrev pub AreApart : Type 0
AreApart = (f g : Form) (words : List (List ℕ)) → IsForm f → IsForm g → IsSpelled f words → IsSpelled g words → f ≡ g

contrary : (b : Bool) → b ≡ true → b ≡ false → ⊥
contrary b is isn_t = let both : true ≡ false = sym is ∙ isn_t in cc

-- one command, and the names after it
pub asks_once : AreApart → (names words after behind : List (List ℕ)) (command other : Command) → AsksFor names words command after → AsksFor names words other behind → (command ≡ other) × (after ≡ behind)
asks_once apart names words after behind command other a b =
    let same : a.form ≡ b.form = apart a.form b.form words a.is_form b.is_form a.spelling b.spelling in
    (a.command_is ∙ ap (command_of names) same ∙ sym b.command_is, a.names_are ∙ ap (names_after names) same ∙ sym b.names_are)

pub asked_once : AreApart → (at : Position) (line : List ℕ) (command other : Command) (after behind : Position) → IsAsked at line command after → IsAsked at line other behind → (command ≡ other) × (after ≡ behind)
asked_once apart at line command other after behind a b =
    let same = asks_once apart at.names (words_of line) after.names behind.names command other a.understood.asks b.understood.asks in
    (same.0, a.goes_on ∙ rw same.1 refl ∙ sym b.goes_on)

pub passed_or_asked : (at : Position) (line : List ℕ) (command : Command) (after behind : Position) → IsPassed at line after → IsAsked at line command behind → ⊥
passed_or_asked at line command after behind p a = contrary (is_skipped line) p.skipped a.understood.question.unskipped

-- a line that is passed over is refused nowhere
pub passed_or_refused : (at : Position) (line : List ℕ) (after : Position) (what : What) → IsPassed at line after → IsRefused at line what → ⊥
passed_or_refused at line after Size p r = omega (arith, p.within, r)
passed_or_refused at line after Long p r = omega (arith, p.short, r.1)
passed_or_refused at line after FormWord p r = contrary (is_skipped line) p.skipped r.1.0.unskipped
passed_or_refused at line after Unbuilt p r = contrary (is_skipped line) p.skipped r.1.0.unskipped
passed_or_refused at line after Names p r = contrary (is_skipped line) p.skipped r.1.question.unskipped

-- words that ask for a command have a form
has_form : (names words after : List (List ℕ)) (command : Command) → AsksFor names words command after → HaveNoForm words → ⊥
has_form names words after command asks none = none asks.form asks.is_form asks.spelling

-- and aren't those of a command that isn't built
built_or_unbuilt : AreApart → (words : List (List ℕ)) (form : Form) → IsForm form → IsSpelled form words → is_built_form form ≡ true → AreUnbuilt words → ⊥
built_or_unbuilt apart words form is spelled built unbuilt =
    let same : form ≡ unbuilt.form = apart form unbuilt.form words is unbuilt.is_form spelled unbuilt.spelling in
    contrary (is_built_form form) built (rw same unbuilt.unbuilt)

-- a line that asks for a command is refused nowhere
pub asked_or_refused : AreApart → (at : Position) (line : List ℕ) (command : Command) (after : Position) (what : What) → IsAsked at line command after → IsRefused at line what → ⊥
asked_or_refused apart at line command after Size a r = omega (arith, a.within, r)
asked_or_refused apart at line command after Long a r = omega (arith, a.understood.question.short, r.1)
asked_or_refused apart at line command after FormWord a r = by_form a.understood.plain a.understood.asks r.1.1 where
  by_form : is_plain line ≡ true → AsksFor at.names (words_of line) command after.names → (is_plain line ≡ false) ⊎ ((is_plain line ≡ true) × HaveNoForm (words_of line)) → ⊥
  by_form plain asks (inl bad) = contrary (is_plain line) plain bad
  by_form plain asks (inr none) = has_form at.names (words_of line) after.names command asks none.1
asked_or_refused apart at line command after Unbuilt a r =
    let asks = a.understood.asks in
    built_or_unbuilt apart (words_of line) asks.form asks.is_form asks.spelling asks.built r.1.2
asked_or_refused apart at line command after Names a r =
    let asks = a.understood.asks in
    let same : asks.form ≡ r.1.form = apart asks.form r.1.form (words_of line) asks.is_form r.1.is_form asks.spelling r.1.spelling in
    let after_same : after.names ≡ names_after at.names r.1.form = asks.names_are ∙ ap (names_after at.names) same in
    omega (arith, a.understood.room, ap length after_same, r.1.too_many)

-- the refusals of a line that lies within a script exclude each other
unplain_or_no_meaning : (at : Position) (line : List ℕ) → IsRefusedBehind at.names line FormWord → IsRefusedBehind at.names line Unbuilt → ⊥
unplain_or_no_meaning at line f u = by_case f.1 where
  by_case : (is_plain line ≡ false) ⊎ ((is_plain line ≡ true) × HaveNoForm (words_of line)) → ⊥
  by_case (inl bad) = contrary (is_plain line) u.1 bad
  by_case (inr none) = none.1 u.2.form u.2.is_form u.2.spelling

form_or_names : (names : List (List ℕ)) (line : List ℕ) → IsRefusedBehind names line FormWord → AsksForTooMany names line → ⊥
form_or_names names line f m = by_case f.1 where
  by_case : (is_plain line ≡ false) ⊎ ((is_plain line ≡ true) × HaveNoForm (words_of line)) → ⊥
  by_case (inl bad) = contrary (is_plain line) m.plain bad
  by_case (inr none) = none.1 m.form m.is_form m.spelling

-- a line is refused by one word
pub refused_once : AreApart → (at : Position) (line : List ℕ) (what why : What) → IsRefused at line what → IsRefused at line why → what ≡ why
refused_once apart at line Size Size a b = refl
refused_once apart at line Long Long a b = refl
refused_once apart at line FormWord FormWord a b = refl
refused_once apart at line Unbuilt Unbuilt a b = refl
refused_once apart at line Names Names a b = refl
refused_once apart at line Size Long a b = absurd (omega (arith, a, b.0))
refused_once apart at line Size FormWord a b = absurd (omega (arith, a, b.0))
refused_once apart at line Size Unbuilt a b = absurd (omega (arith, a, b.0))
refused_once apart at line Size Names a b = absurd (omega (arith, a, b.0))
refused_once apart at line Long Size a b = absurd (omega (arith, b, a.0))
refused_once apart at line FormWord Size a b = absurd (omega (arith, b, a.0))
refused_once apart at line Unbuilt Size a b = absurd (omega (arith, b, a.0))
refused_once apart at line Names Size a b = absurd (omega (arith, b, a.0))
refused_once apart at line Long FormWord a b = absurd (omega (arith, a.1, b.1.0.short))
refused_once apart at line Long Unbuilt a b = absurd (omega (arith, a.1, b.1.0.short))
refused_once apart at line Long Names a b = absurd (omega (arith, a.1, b.1.question.short))
refused_once apart at line FormWord Long a b = absurd (omega (arith, b.1, a.1.0.short))
refused_once apart at line Unbuilt Long a b = absurd (omega (arith, b.1, a.1.0.short))
refused_once apart at line Names Long a b = absurd (omega (arith, b.1, a.1.question.short))
refused_once apart at line FormWord Unbuilt a b = absurd (unplain_or_no_meaning at line a.1 b.1)
refused_once apart at line Unbuilt FormWord a b = absurd (unplain_or_no_meaning at line b.1 a.1)
refused_once apart at line FormWord Names a b = absurd (form_or_names at.names line a.1 b.1)
refused_once apart at line Names FormWord a b = absurd (form_or_names at.names line b.1 a.1)
refused_once apart at line Unbuilt Names a b = absurd (built_or_unbuilt apart (words_of line) b.1.form b.1.is_form b.1.spelling b.1.built a.1.2)
refused_once apart at line Names Unbuilt a b = absurd (built_or_unbuilt apart (words_of line) a.1.form a.1.is_form a.1.spelling a.1.built b.1.2)

-- a line that is neither passed over nor asked for is refused: its words have no form, or one that isn't built, or one
-- with too many names
pub some_meaning : (at : Position) (line : List ℕ) → ((after : Position) → IsPassed at line after → ⊥) → ((command : Command) (after : Position) → IsAsked at line command after → ⊥) → ((what : What) → IsRefused at line what → ⊥) → ⊥
some_meaning at line passed asked refused = by_bytes (cases_lt MAX_BYTES (at.bytes + length line)) where
  by_form : IsWithin at line → IsQuestion line → is_plain line ≡ true → (form : Form) → IsForm form → IsSpelled form (words_of line) → ⊥
  by_form within question plain form is spelled = by_built (cases_Bool (is_built_form form)) where
    by_room : is_built_form form ≡ true → (MAX_NAMES < length (names_after at.names form)) ⊎ (length (names_after at.names form) ≤ MAX_NAMES) → ⊥
    by_room built (inl more) = refused Names (within, record { question = question; plain = plain; form = form; is_form = is; spelling = spelled; built = built; too_many = more })
    by_room built (inr room) =
        let asks : AsksFor at.names (words_of line) (command_of at.names form) (names_after at.names form) = record { form = form; is_form = is; spelling = spelled; built = built; command_is = refl; names_are = refl } in
        asked (command_of at.names form) (behind at line (names_after at.names form)) (record { within = within; understood = record { question = question; plain = plain; asks = asks; room = room }; goes_on = refl })

    by_built : (is_built_form form ≡ true) ⊎ (is_built_form form ≡ false) → ⊥
    by_built (inl built) = by_room built (cases_lt MAX_NAMES (length (names_after at.names form)))
    by_built (inr unbuilt) = refused Unbuilt (within, (question, plain, record { form = form; is_form = is; spelling = spelled; unbuilt = unbuilt }))

  by_plain : IsWithin at line → IsQuestion line → (is_plain line ≡ true) ⊎ (is_plain line ≡ false) → ⊥
  by_plain within question (inl plain) = refused FormWord (within, (question, inr (plain, by_form within question plain)))
  by_plain within question (inr unplain) = refused FormWord (within, (question, inl unplain))

  by_skipped : IsWithin at line → IsShort line → (is_skipped line ≡ true) ⊎ (is_skipped line ≡ false) → ⊥
  by_skipped within short (inl skipped) = passed (behind at line at.names) (record { within = within; short = short; skipped = skipped; goes_on = refl })
  by_skipped within short (inr unskipped) = by_plain within (record { short = short; unskipped = unskipped }) (cases_Bool (is_plain line))

  by_size : IsWithin at line → (MAX_LINE < length (content line)) ⊎ (length (content line) ≤ MAX_LINE) → ⊥
  by_size within (inl long) = refused Long (within, long)
  by_size within (inr short) = by_skipped within short (cases_Bool (is_skipped line))

  by_bytes : (MAX_BYTES < at.bytes + length line) ⊎ (at.bytes + length line ≤ MAX_BYTES) → ⊥
  by_bytes (inl far) = refused Size far
  by_bytes (inr within) = by_size within (cases_lt MAX_LINE (length (content line)))
