-- Words ask for one script at most.
use Rattle.std.proofs.Common.{◌≡◌, ◌⊎◌, inl, inr, ℕ, ◌<◌, ◌≤◌, ◌^◌, List, [], ◌∷◌, sym, ◌∙◌, arith}
use Rattle.std.specs.Prelude.{codes, Option, Some, None, IfNone}
use Rattle.std.specs.Fmt.{decimal}
use Rattle.std.proofs.lemmas.Fmt.{decimal_injective}
use Rattle.hc_script.specs.declared.generator.words.GenRequest.{GenRequest}
use Rattle.hc_script.specs.GeneratorWords.{AskForScript, AskForCount}

-- the text of a number that is small enough is that of no other
same_count : (n m : ℕ) → n ≤ 200000 → m ≤ 200000 → decimal n ≡ decimal m → n ≡ m
same_count n m few fewer e = decimal_injective n m (omega (arith, few)) (omega (arith, fewer)) e

one_by_words : (words : List (List ℕ)) (n m start begin : ℕ) → n ≤ 200000 → m ≤ 200000 → start < 2 ^ 64 → begin < 2 ^ 64
    → ((words ≡ codes "gen" ∷ decimal n ∷ decimal start ∷ []) ⊎ ((words ≡ codes "gen" ∷ decimal n ∷ []) × (start ≡ 1)))
    → ((words ≡ codes "gen" ∷ decimal m ∷ decimal begin ∷ []) ⊎ ((words ≡ codes "gen" ∷ decimal m ∷ []) × (begin ≡ 1)))
    → (n ≡ m) × (start ≡ begin)
one_by_words words n m start begin few fewer small smaller (inl e) (inl f) =
    let all : codes "gen" ∷ decimal n ∷ decimal start ∷ [] ≡ codes "gen" ∷ decimal m ∷ decimal begin ∷ [] = sym e ∙ f in
    let counts : decimal n ≡ decimal m = cc in
    let starts : decimal start ≡ decimal begin = cc in
    (same_count n m few fewer counts, decimal_injective start begin small smaller starts)
one_by_words words n m start begin few fewer small smaller (inl e) (inr f) =
    let all : codes "gen" ∷ decimal n ∷ decimal start ∷ [] ≡ codes "gen" ∷ decimal m ∷ [] = sym e ∙ f.0 in cc
one_by_words words n m start begin few fewer small smaller (inr e) (inl f) =
    let all : codes "gen" ∷ decimal n ∷ [] ≡ codes "gen" ∷ decimal m ∷ decimal begin ∷ [] = sym e.0 ∙ f in cc
one_by_words words n m start begin few fewer small smaller (inr e) (inr f) =
    let all : codes "gen" ∷ decimal n ∷ [] ≡ codes "gen" ∷ decimal m ∷ [] = sym e.0 ∙ f.0 in
    let counts : decimal n ≡ decimal m = cc in
    (same_count n m few fewer counts, e.1 ∙ sym f.1)

pub one_script : (words : List (List ℕ)) (n m start begin : ℕ) → AskForScript words n start → AskForScript words m begin → (n ≡ m) × (start ≡ begin)
one_script words n m start begin a b =
    one_by_words words n m start begin a.few b.few a.small b.small a.words_are b.words_are

-- the first two of three words
of_three : (verb count start : List ℕ) (n number : ℕ) → AskForScript (verb ∷ count ∷ start ∷ []) n number → AskForCount verb count n × (start ≡ decimal number)
of_three verb count start n number asked = elim asked.words_are [
  | inl e ↦ (record { enough = asked.enough; few = asked.few; verb_is = cc; count_is = cc }, cc)
  | inr e ↦ absurd (cc (e.0))
]

pub three_ask : (r : Option GenRequest) (verb count start : List ℕ) → IfNone r ((n : ℕ) → AskForCount verb count n → ⊥) → IfNone r ((n number : ℕ) → AskForScript (verb ∷ count ∷ start ∷ []) n number → ⊥)
three_ask (Some request) verb count start none = tt
three_ask None verb count start none = λ n number asked. none n (of_three verb count start n number asked).0

pub none_asks : (verb count start : List ℕ) → ((k : ℕ) → k < 2 ^ 64 → start ≡ decimal k → ⊥) → (n number : ℕ) → AskForScript (verb ∷ count ∷ start ∷ []) n number → ⊥
none_asks verb count start none n number asked = none number asked.small (of_three verb count start n number asked).1

-- and two words
of_two : (verb count : List ℕ) (n number : ℕ) → AskForScript (verb ∷ count ∷ []) n number → AskForCount verb count n
of_two verb count n number asked = elim asked.words_are [
  | inl e ↦ absurd (cc (e))
  | inr e ↦ record { enough = asked.enough; few = asked.few; verb_is = cc (e.0); count_is = cc (e.0) }
]

pub two_ask : (r : Option GenRequest) (verb count : List ℕ) → IfNone r ((n : ℕ) → AskForCount verb count n → ⊥) → IfNone r ((n number : ℕ) → AskForScript (verb ∷ count ∷ []) n number → ⊥)
two_ask (Some request) verb count none = tt
two_ask None verb count none = λ n number asked. none n (of_two verb count n number asked)
