-- Names of listed properties.
use Rattle.std.proofs.Common.{◌≡◌, ◌≢◌, ℕ, zero, suc, ◌<◌, None, sym, arith}
use Rattle.std.specs.List.{AllByRecursion}
use Rattle.hc_value.specs.declared.prop.Prop.{Prop}
use Rattle.hc_table.specs.Attributes.{IsProper}
use Rattle.hc_table.specs.World.{place_of, HaveDistinctNames}
use Rattle.hc_slots.specs.Listed.{listed, slice_get-listed, place-absent, all-at}
use Rattle.hc_slots.proofs.Fetching.{place-none}

names-differ : (f : ℕ → Prop) (n j k : ℕ) → HaveDistinctNames (listed f n) → j < k → k < n → (f j).name ≢ (f k).name
names-differ f zero j k h jk kn = absurd (omega arith)
names-differ f (suc n) j zero h jk kn = absurd (omega arith)
names-differ f (suc n) zero (suc k) h jk kn = λ e. place-absent (λ i. f (suc i)) n k (f 0).name (omega arith) h.0 (sym e)
names-differ f (suc n) (suc j) (suc k) h jk kn = names-differ (λ i. f (suc i)) n j k h.1 (omega arith) (omega arith)

-- the name of a property is none of those before it
pub name-new : (f : ℕ → Prop) (n k : ℕ) → HaveDistinctNames (listed f n) → k < n → place_of (listed f k) (f k).name ≡ None
name-new f n k h kn = place-none f k (f k).name (λ j jk. names-differ f n j k h jk kn)

pub proper-at : (f : ℕ → Prop) (n k : ℕ) → AllByRecursion IsProper (listed f n) → k < n → IsProper (f k)
proper-at f n k all kn = all-at IsProper (listed f n) k (f k) all (slice_get-listed f n k kn)
