-- Where lines break.
use Rattle.std.proofs.Common.{◌≡◌, ◌≢◌, ℕ, zero, suc, ◌+◌, List, [], ◌∷◌, ◌++◌, take, drop, zero-add, arith}
use Rattle.std.proofs.Math.Seq.{take-nil}
use Rattle.std.proofs.lemmas.List.{take-append-drop}
use Rattle.hc_lines.specs.Lines.{IsUnbroken, IsWholeLine}

-- unbroken bytes behind unbroken bytes
pub unbroken-append : (a b : List ℕ) → IsUnbroken a → IsUnbroken b → IsUnbroken (a ++ b)
unbroken-append [] b u v = v
unbroken-append (byte ∷ a) b u v = (u.0, unbroken-append a b u.1 v)

-- a byte before a line
pub whole_behind : (byte : ℕ) (line : List ℕ) → byte ≢ 10 → IsWholeLine line → IsWholeLine (byte ∷ line)
whole_behind byte [] other whole = absurd whole
whole_behind byte (next ∷ line) other whole = (other, whole)

-- a line behind unbroken bytes
pub whole-append : (a line : List ℕ) → IsUnbroken a → IsWholeLine line → IsWholeLine (a ++ line)
whole-append [] line u whole = whole
whole-append (byte ∷ a) line u whole = whole_behind byte (a ++ line) u.0 (whole-append a line u.1 whole)

-- a line that ends in the part that is still to be searched
pub whole_from : (bytes : List ℕ) (scanned n : ℕ) → IsUnbroken (take scanned bytes) → IsWholeLine (take n (drop scanned bytes)) → IsWholeLine (take (scanned + n) bytes)
whole_from bytes zero n u whole = rw zero-add whole
whole_from [] (suc scanned) n u whole = absurd (rw take-nil at whole)
whole_from (byte ∷ bytes) (suc scanned) n u whole = let e : suc scanned + n ≡ suc (scanned + n) = omega arith in rw e (whole_behind byte (take (scanned + n) bytes) u.0 (whole_from bytes scanned n u.1 whole))

-- unbroken bytes up to a place and from it
pub unbroken_from : (bytes : List ℕ) (scanned : ℕ) → IsUnbroken (take scanned bytes) → IsUnbroken (drop scanned bytes) → IsUnbroken bytes
unbroken_from bytes scanned u v = rw (← take-append-drop scanned bytes) (unbroken-append (take scanned bytes) (drop scanned bytes) u v)

-- the first of unbroken bytes
pub unbroken-take : (n : ℕ) (bytes : List ℕ) → IsUnbroken bytes → IsUnbroken (take n bytes)
unbroken-take n [] u = rw take-nil tt
unbroken-take zero (byte ∷ bytes) u = tt
unbroken-take (suc n) (byte ∷ bytes) u = (u.0, unbroken-take n bytes u.1)
