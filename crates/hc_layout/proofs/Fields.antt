use Rattle.std.proofs.Common.{◌≡◌, ℕ, ◌+◌, ◌-◌, ◌*◌, ◌/◌, ◌%◌, ◌^◌, ◌<◌, ◌≤◌, inl, inr, sym, ◌∙◌, ap, subst, arith}
use Rattle.std.proofs.lemmas.Nat.{shr-shr, shr_split, mod-pow-add, field_of as field_below, pow-add, pow_pos, shr_high, mod_low, mod_below, shl_whole, shr_below, mul-add-lt}
use Rattle.hc_layout.specs.Bits.{field_of, AreApart}

-- the word whose field from bit s on, w bits wide, is v, between what lies above and what lies below
abbrev joined : ℕ → ℕ → ℕ → ℕ → ℕ → ℕ
joined s w high v low = (high * 2 ^ w + v) * 2 ^ s + low

field_fits : (s w x : ℕ) → x / 2 ^ s % 2 ^ w < 2 ^ w
field_fits s w x = mod_below (x / 2 ^ s) (2 ^ w) (pow_pos w)

low_fits : (s x : ℕ) → x % 2 ^ s < 2 ^ s
low_fits s x = mod_below x (2 ^ s) (pow_pos s)

word_split : (s w x : ℕ) → x ≡ joined s w (x / 2 ^ (s + w)) (x / 2 ^ s % 2 ^ w) (x % 2 ^ s)
word_split s w x =
    let above : x / 2 ^ s ≡ x / 2 ^ (s + w) * 2 ^ w + x / 2 ^ s % 2 ^ w =
    sym (shr_split (x / 2 ^ s) w) ∙ ap (λ h. h * 2 ^ w + x / 2 ^ s % 2 ^ w) (shr-shr x s w) in
    sym (shr_split x s) ∙ ap (λ h. h * 2 ^ s + x % 2 ^ s) above

joined_field : (s w high v low : ℕ) → v < 2 ^ w → low < 2 ^ s → joined s w high v low / 2 ^ s % 2 ^ w ≡ v
joined_field s w high v low hv hl =
    ap (λ x. x % 2 ^ w) (shr_high (high * 2 ^ w + v) s low hl) ∙ mod_low high w v hv

joined_low : (s w high v low : ℕ) → low < 2 ^ s → joined s w high v low % 2 ^ s ≡ low
joined_low s w high v low hl = mod_low (high * 2 ^ w + v) s low hl

joined_high : (s w high v low : ℕ) → v < 2 ^ w → low < 2 ^ s → joined s w high v low / 2 ^ (s + w) ≡ high
joined_high s w high v low hv hl =
    sym (shr-shr (joined s w high v low) s w)
    ∙ ap (λ x. x / 2 ^ w) (shr_high (high * 2 ^ w + v) s low hl)
    ∙ shr_high high w v hv

joined_fits : (s w j high v low : ℕ) → high < 2 ^ j → v < 2 ^ w → low < 2 ^ s → joined s w high v low < 2 ^ s * (2 ^ w * 2 ^ j)
joined_fits s w j high v low hh hv hl =
    mul-add-lt (high * 2 ^ w + v) (2 ^ s) low (2 ^ w * 2 ^ j) (mul-add-lt high (2 ^ w) v (2 ^ j) hh hv) hl

mod_mod : (m k x : ℕ) → m ≤ k → x % 2 ^ k % 2 ^ m ≡ x % 2 ^ m
mod_mod m k x h =
    let e : k ≡ (k - m) + m = omega arith in
    ap (λ j. x % 2 ^ j % 2 ^ m) e
    ∙ ap (λ y. y % 2 ^ m) (mod-pow-add x (k - m) m)
    ∙ mod_low (x / 2 ^ m % 2 ^ (k - m)) m (x % 2 ^ m) (low_fits m x)

-- two words that are the same below and above a field have the same fields there
same_apart : (s w x y : ℕ) → x % 2 ^ s ≡ y % 2 ^ s → x / 2 ^ (s + w) ≡ y / 2 ^ (s + w) → (a b : ℕ) → AreApart a b s w → field_of a b x ≡ field_of a b y
same_apart s w x y low high a b (inl h) =
    let k : b + a ≤ s = omega arith in
    let below = λ (z : ℕ). ap (λ m. m / 2 ^ a) (sym (mod_mod (b + a) s z k)) in
    sym (field_below x b a)
    ∙ below x
    ∙ ap (λ m. m % 2 ^ (b + a) / 2 ^ a) low
    ∙ sym (below y)
    ∙ field_below y b a
same_apart s w x y low high a b (inr h) =
    let e : a ≡ (s + w) + (a - (s + w)) = omega arith in
    let above = λ (z : ℕ). ap (λ k. z / 2 ^ k % 2 ^ b) e ∙ ap (λ m. m % 2 ^ b) (sym (shr-shr z (s + w) (a - (s + w)))) in
    above x ∙ ap (λ m. m / 2 ^ (a - (s + w)) % 2 ^ b) high ∙ sym (above y)

-- what a word is after a field is put
pub record IsPut (s w x v n : ℕ) : Type 0 where
  pub fits : n < 2 ^ 64
  pub gives : n / 2 ^ s % 2 ^ w ≡ v
  pub stays : (a b : ℕ) → AreApart a b s w → field_of a b n ≡ field_of a b x
  pub exact : n + x / 2 ^ s % 2 ^ w * 2 ^ s ≡ x + v * 2 ^ s

pub put_is : (s w x v old : ℕ) → old ≡ field_of s w x → s + w ≤ 64 → x < 2 ^ 64 → v < 2 ^ w → IsPut s w x v (x - old * 2 ^ s % 2 ^ 64 + v * 2 ^ s % 2 ^ 64)
put_is s w x v old is_old h hx hv =
    let high : ℕ = x / 2 ^ (s + w) in
    let low : ℕ = x % 2 ^ s in
    let k : w + s ≤ 64 = omega arith in
    let hl : low < 2 ^ s = low_fits s x in
    let old_whole : old * 2 ^ s % 2 ^ 64 ≡ old * 2 ^ s = shl_whole old w s 64 (subst (λ m. m < 2 ^ w) (sym is_old) (field_fits s w x)) k in
    let new_whole : v * 2 ^ s % 2 ^ 64 ≡ v * 2 ^ s = shl_whole v w s 64 hv k in
    let split : x ≡ joined s w high old low = word_split s w x ∙ ap (λ m. joined s w high m low) (sym is_old) in
    let n : ℕ = x - old * 2 ^ s % 2 ^ 64 + v * 2 ^ s % 2 ^ 64 in
    let is : n ≡ joined s w high v low = omega arith in
    let j : ℕ = 64 - (s + w) in
    let hh : high < 2 ^ j = shr_below x j (s + w) (subst (λ m. x < 2 ^ m) (let e : 64 ≡ j + (s + w) = omega arith in e) hx) in
    let whole : 2 ^ s * (2 ^ w * 2 ^ j) ≡ 2 ^ 64 =
    ap (λ m. 2 ^ s * m) (sym (pow-add 2 w j)) ∙ sym (pow-add 2 s (w + j)) ∙ ap (λ m. 2 ^ m) (let e : s + (w + j) ≡ 64 = omega arith in e) in
    record {
      fits = subst (λ m. m < 2 ^ 64) (sym is) (subst (λ m. joined s w high v low < m) whole (joined_fits s w j high v low hh hv hl));
      gives = ap (λ m. m / 2 ^ s % 2 ^ w) is ∙ joined_field s w high v low hv hl;
      stays = same_apart s w n x (ap (λ m. m % 2 ^ s) is ∙ joined_low s w high v low hl) (ap (λ m. m / 2 ^ (s + w)) is ∙ joined_high s w high v low hv hl);
      exact = let scaled : old * 2 ^ s ≡ x / 2 ^ s % 2 ^ w * 2 ^ s = ap (λ m. m * 2 ^ s) is_old in omega arith;
    }
