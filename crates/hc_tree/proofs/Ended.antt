-- Walks along live children.
use Rattle.std.proofs.Common.{◌≡◌, ℕ, zero, suc, ◌+◌, ◌<◌, ◌≤◌, false, Some, None, refl, sym, ap, ◌∙◌, subst, arith, add-one}
use Rattle.hc_value.specs.declared.key.Key.{Key}
use Rattle.hc_heap.specs.Writes.{Trail}
use Rattle.hc_heap.specs.Readings.{gate_in, parent_in, bits_in}
use Rattle.hc_descs.specs.Entries.{count_of, entries_in, key_at}
use Rattle.hc_links.specs.Chains.{child_of}
use Rattle.hc_links.specs.Laws.{SameKeysAreEqual}
use Rattle.hc_tree.specs.Tree.{IsTree, gate_with}
use Rattle.hc_tree.specs.Growth.{live_child}
use Rattle.hc_tree.specs.Walking.{IsLiveEnd, IsOnPath, above, ancestor, parent_of}
use Rattle.hc_tree.proofs.Opened.{live-child}
use Rattle.hc_tree.proofs.Opening.{live-bits, same-or}

pub path-none : (t : Trail) (root m : ℕ) → gate_in t root ≡ Some (gate_with 0 false) → (bits_in t root).deprecated ≡ false → IsOnPath t root m root 0
path-none t root m gate live = record { gate = gate; live = live; prototype = refl; keys = λ k lt. absurd (omega (arith, lt)); high = refl }

-- what is above a child is above its parent, one step less
pub parent-first : (t : Trail) (c p d : ℕ) → parent_in t c ≡ Some (Some p) → ancestor t (suc d) c ≡ ancestor t d p
parent-first t c p zero is = ap parent_of is
parent-first t c p (suc d) is = ap (above t) (parent-first t c p d is)

-- a step more
pub path-more : SameKeysAreEqual → (t : Trail) (root m at k c : ℕ) (key : Key) → IsTree t → IsOnPath t root m at k → live_child t at key ≡ Some c → key_at t m k ≡ Some key → IsOnPath t root m c (k + 1)
path-more law t root m at k c key tree path live is =
    let child = live-child law t at (gate_with k false) key c tree path.gate live in
    record {
      gate = child.gate;
      live = live-bits t (child_of t at key) c live;
      prototype = child.prototype ∙ path.prototype;
      keys = λ j lt. same-or j k (key_at t c j ≡ key_at t m j)
          (λ same. ap (key_at t c) same ∙ child.last ∙ sym is ∙ ap (key_at t m) (sym same))
          (λ other. let before : j < k = omega (arith, lt, other) in child.entries.keys j before ∙ path.keys j before);
      high = subst (λ (d : ℕ). ancestor t d c ≡ Some root) (sym (add-one k)) (parent-first t c at k child.parent ∙ path.high);
    }

-- the walk ends where there is no live child, or no key more
pub path-ends : (t : Trail) (root m n at k : ℕ) → IsOnPath t root m at k → k ≤ n → ((key : Key) → k < n → key_at t m k ≡ Some key → live_child t at key ≡ None) → IsLiveEnd t root m n at (count_of t at)
path-ends t root m n at k path le ends =
    let count : count_of t at ≡ k = ap entries_in path.gate in
    subst (λ (x : ℕ). IsLiveEnd t root m n at x) (sym count) (record { path = path; within = le; ends = ends })

pub path-stops : (t : Trail) (root m n at k : ℕ) (key : Key) → IsOnPath t root m at k → k < n → key_at t m k ≡ Some key → live_child t at key ≡ None → IsLiveEnd t root m n at (count_of t at)
path-stops t root m n at k key path lt is none = path-ends t root m n at k path (omega (arith, lt)) (λ other _ now. subst (λ (x : Key). live_child t at x ≡ None) (same key other is now) none)
  where
    same : (a b : Key) → key_at t m k ≡ Some a → key_at t m k ≡ Some b → a ≡ b
    same a b x y = cc
