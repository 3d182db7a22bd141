-- The first word of a line where it is a name.
use Rattle.std.proofs.Common.{◌≡◌, ℕ, suc, ◌-◌, Bool, true, false, ◌&&◌, List, [], ◌∷◌, take, drop, length, refl, sym, ◌∙◌, ap, arith}
use Rattle.std.proofs.lemmas.List.{take_rest}
use Rattle.std.proofs.lemmas.Bool.Decides.{nat_tests}
use Rattle.std.specs.List.{list_all}
use Rattle.hc_commands.specs.Words.{parts, quoted_behind, words_of, continues, word_end, BeginsWithWord}
use Rattle.hc_commands.specs.Values.{begins_name, continues_name, is_name_text, name_run, IsName}
use Rattle.hc_commands.proofs.FirstWord.{first_word_is}
use Rattle.hc_commands.proofs.Spelling.{begins_continues}

-- a byte of a name parts no words
pub parts_none : (byte : ℕ) → continues_name byte ≡ true → parts false byte ≡ false
parts_none byte h = grind (arith, nat_tests)

-- and is no quote
pub quotes_none : (byte : ℕ) → continues_name byte ≡ true → quoted_behind false byte ≡ false
quotes_none byte h = grind (arith, nat_tests)

pub run_of : (byte : ℕ) (bytes : List ℕ) (goes_on : Bool) → continues_name byte ≡ goes_on → list_all continues_name (take (name_run bytes) bytes) ≡ true → list_all continues_name (take (name_run (byte ∷ bytes)) (byte ∷ bytes)) ≡ true
run_of byte bytes true h rest = rw h (rw h rest)
run_of byte bytes false h rest = rw h refl

-- a name may go on with each byte of the run
pub run_is_of_names : (bytes : List ℕ) → list_all continues_name (take (name_run bytes) bytes) ≡ true
run_is_of_names [] = refl
run_is_of_names (byte ∷ bytes) = run_of byte bytes (continues_name byte) refl (run_is_of_names bytes)

-- a run that ends where no word goes on is the first word
run_ends : (byte : ℕ) (bytes : List ℕ) (name parting : Bool) → continues_name byte ≡ name → parts false byte ≡ parting → (continues false (drop (name_run bytes) bytes) ≡ false → word_end false bytes ≡ name_run bytes) → continues false (drop (name_run (byte ∷ bytes)) (byte ∷ bytes)) ≡ false → word_end false (byte ∷ bytes) ≡ name_run (byte ∷ bytes)
run_ends byte bytes true parting h e further ends =
    rw (h, parts_none byte h, quotes_none byte h) (ap suc (further (rw h at ends)))
run_ends byte bytes false true h e further ends = rw (h, e) refl
run_ends byte bytes false false h e further ends = absurd (let no : true ≡ false = rw (h, e) at ends in cc)

pub run_is_word : (bytes : List ℕ) → continues false (drop (name_run bytes) bytes) ≡ false → word_end false bytes ≡ name_run bytes
run_is_word [] ends = refl
run_is_word (byte ∷ bytes) ends = run_ends byte bytes (continues_name byte) (parts false byte) refl refl (run_is_word bytes) ends

-- the first word is the run, and no word goes on behind it
record IsRun (bytes : List ℕ) : Type 0 where
  pub run : name_run bytes ≡ word_end false bytes
  pub ends : continues false (drop (name_run bytes) bytes) ≡ false

both : (a b : Bool) → a && b ≡ true → (a ≡ true) × (b ≡ true)
both true b h = (refl, h)
both false b h = absurd (cc)

word_runs : (byte : ℕ) (bytes : List ℕ) (name parting : Bool) → continues_name byte ≡ name → parts false byte ≡ parting → (list_all continues_name (take (word_end false bytes) bytes) ≡ true → IsRun bytes) → list_all continues_name (take (word_end false (byte ∷ bytes)) (byte ∷ bytes)) ≡ true → IsRun (byte ∷ bytes)
word_runs byte bytes true parting h e further all =
    let rest : IsRun bytes = further (both (continues_name byte) _ (rw (parts_none byte h, quotes_none byte h) at all)).1 in
    record {
      run = rw (h, parts_none byte h, quotes_none byte h) (ap suc rest.run);
      ends = rw h rest.ends;
    }
word_runs byte bytes false true h e further all = record { run = rw (h, e) refl; ends = rw (h, e) refl }
word_runs byte bytes false false h e further all =
    absurd (let no : false ≡ true = sym h ∙ (both (continues_name byte) _ (rw e at all)).0 in cc)

-- a first word of bytes of names is the run
word_is_run : (bytes : List ℕ) → list_all continues_name (take (word_end false bytes) bytes) ≡ true → IsRun bytes
word_is_run [] all = record { run = refl; ends = refl }
word_is_run (byte ∷ bytes) all = word_runs byte bytes (continues_name byte) (parts false byte) refl refl (word_is_run bytes) all

-- bytes that begin with a word, whose run is a name and ends there
pub name_first : (bytes : List ℕ) (n : ℕ) → n ≡ name_run bytes → BeginsWithWord bytes → is_name_text (take n bytes) ≡ true → continues false (take (length bytes - n) (drop n bytes)) ≡ false → words_of bytes ≡ take n bytes ∷ words_of (take (length bytes - n) (drop n bytes))
name_first [] n run begins name ends = absurd (let none : false ≡ true = rw run at name in cc)
name_first (byte ∷ bytes) n run begins name ends =
    let all : List ℕ = byte ∷ bytes in
    let first = first_word_is all begins (λ e. omega (arith, e)) in
    let same : word_end false all ≡ n = run_is_word all (rw (run, take_rest) at ends) ∙ sym run in
    rw same at first

names_continue : (name : List ℕ) → is_name_text name ≡ true → list_all continues_name name ≡ true
names_continue [] h = refl
names_continue (byte ∷ bytes) h =
    let parts : (begins_name byte ≡ true) × (list_all continues_name bytes ≡ true) = both (begins_name byte) (list_all continues_name bytes) h in
    rw (begins_continues byte parts.0) parts.1

head_is : (name word : List ℕ) (words rest : List (List ℕ)) → word ∷ rest ≡ name ∷ words → word ≡ name
head_is name word words rest e = cc

-- a first word that is a name is the run, and no word goes on behind it
pub record IsNameRun (bytes : List ℕ) (n : ℕ) (name : List ℕ) : Type 0 where
  pub run : take n bytes ≡ name
  pub ends : continues false (take (length bytes - n) (drop n bytes)) ≡ false

pub name_is_run : (bytes : List ℕ) (n : ℕ) (name : List ℕ) (words : List (List ℕ)) → n ≡ name_run bytes → BeginsWithWord bytes → IsName name → words_of bytes ≡ name ∷ words → IsNameRun bytes n name
name_is_run [] n name words same begins is e = absurd (cc)
name_is_run (byte ∷ bytes) n name words same begins is e =
    let all : List ℕ = byte ∷ bytes in
    let first : take (word_end false all) all ≡ name = head_is name _ words _ (sym (first_word_is all begins (λ e. omega (arith, e))) ∙ e) in
    let run : IsRun all = word_is_run all (rw first (names_continue name is.spelling)) in
    record { run = ap (λ n. take n all) (same ∙ run.run) ∙ first; ends = rw (same, take_rest) run.ends }
