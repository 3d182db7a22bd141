use Rattle.std.proofs.Common.{◌≡◌, ℕ, ◌+◌, ◌<◌, ◌≤◌, Bool, true, ap, sym, ◌∙◌, subst, arith}
use Rattle.hc_layout.specs.declared.shape.Shape.{Shape}
use Rattle.hc_heap.specs.Readings.{gate_in}
use Rattle.hc_heap.specs.Lawful.{Lawful}
use Rattle.hc_heap.specs.Kept.{Adds}
use Rattle.hc_heap.specs.Frames.{adds-none}
use Rattle.hc_descs.specs.Entries.{AreFree, entries_in}
use Rattle.hc_descs.specs.Copies.{FillsArray, HasKeysOf, HasOwnArray}
use Rattle.hc_tree.specs.Copying.{HasNewFields, HasCopied}
use Rattle.hc_tree.proofs.Arrays.{no-has, own-has}
use Rattle.hc_tree.proofs.Made.{array-same, gate-same}
use Rattle.hc_tree.proofs.Filled.{count-is, some-entries, still-open, array-fills, both-fill, has-new, like-made, used-new, room-kept}
use Rattle.hc_tree.proofs.copies.fill_alike.Goals as goal

pub returns-then-n-eq0-clause-writes : goal.returns-then-n-eq0-clause-writes
returns-then-n-eq0-clause-writes g c = adds-none c.args.h.now.view.trail

pub returns-then-not-fresh-clause-writes : goal.returns-then-not-fresh-clause-writes
returns-then-not-fresh-clause-writes g c =
    let v = c.args.h.now.view in
    array-fills c.args.copy v.used.entries v.used.fields v.trail c.copy_all.new.h.view.trail c.copy_all.ensures.writes

pub returns-then-n-eq0-clause-array : goal.returns-then-n-eq0-clause-array
returns-then-n-eq0-clause-array g c = no-has c.args.h.now.view.trail c.args.copy c.args.n c.if-n-eq0.true c.requires.bare

pub returns-then-not-fresh-clause-array : goal.returns-then-not-fresh-clause-array
returns-then-not-fresh-clause-array g c =
    let v = c.args.h.now.view in
    let end = c.copy_all.new.h.view.trail in
    let count = count-is (gate_in v.trail c.args.map) c.args.n c.requires.open in
    own-has end c.args.copy c.args.n v.used.entries (omega (arith, c.if-n-eq0.false))
    (subst (λ (k : ℕ). HasOwnArray end c.args.copy k v.used.entries) count c.copy_all.ensures.array)
    (subst (λ (k : ℕ). AreFree end (v.used.entries + k)) count c.copy_all.ensures.spare)

pub copy_keys-requires-clause-bare : goal.copy_keys-requires-clause-bare
copy_keys-requires-clause-bare g c =
    let v = c.args.h.now.view in
    array-same v.used.fields c.args.copy v.trail c.new_fields-first.new.h.view.trail c.new_fields-first.ensures.writes ∙ c.requires.bare

pub copy_keys-requires-clause-open : goal.copy_keys-requires-clause-open
copy_keys-requires-clause-open g c =
    let v = c.args.h.now.view in
    let mid = c.new_fields-first.new.h.view in
    let some = still-open v.used.fields c.args.map c.args.n v.trail mid.trail c.new_fields-first.ensures.writes c.requires.open in
    some-entries (gate_in mid.trail c.args.map) c.args.n some (omega (arith, c.if-n-eq0.false))

pub copy_keys-requires-clause-closed : goal.copy_keys-requires-clause-closed
copy_keys-requires-clause-closed g c =
    let v = c.args.h.now.view in
    gate-same v.used.fields c.args.copy v.trail c.new_fields-first.new.h.view.trail c.new_fields-first.ensures.writes ∙ c.requires.closed

pub copy_keys-requires-clause-fields : goal.copy_keys-requires-clause-fields
copy_keys-requires-clause-fields g c =
    let v = c.args.h.now.view in
    let mid = c.new_fields-first.new.h.view in
    let some = still-open v.used.fields c.args.map c.args.n v.trail mid.trail c.new_fields-first.ensures.writes c.requires.open in
    let used : mid.used.fields ≡ v.used.fields + c.args.n = ap (λ (s : Shape). s.fields) c.new_fields-first.ensures.used in
    let first = c.new_fields-first.ensures.first in
    subst (λ (k : ℕ). c.new_fields-first.result + k ≤ mid.used.fields) (sym (count-is (gate_in mid.trail c.args.map) c.args.n some)) (omega (arith, used, first))

pub copy_keys-requires-clause-made : goal.copy_keys-requires-clause-made
copy_keys-requires-clause-made g c =
    let v = c.args.h.now.view in
    let mid = c.new_fields-first.new.h.view in
    let some = still-open v.used.fields c.args.map c.args.n v.trail mid.trail c.new_fields-first.ensures.writes c.requires.open in
    let count = count-is (gate_in mid.trail c.args.map) c.args.n some in
    λ k lt.
    let below : k < c.args.n = subst (λ (n : ℕ). k < n) count lt in
    like-made mid c.args.copy c.args.map k c.args.n (c.new_fields-first.result + k) c.gates_are_open.ensures.law c.new_fields-first.ensures.heap some below (c.new_fields-first.ensures.made k below)

pub copy_keys-requires-clause-room : goal.copy_keys-requires-clause-room
copy_keys-requires-clause-room g c =
    let v = c.args.h.now.view in
    let mid = c.new_fields-first.new.h.view in
    let some = still-open v.used.fields c.args.map c.args.n v.trail mid.trail c.new_fields-first.ensures.writes c.requires.open in
    let count = count-is (gate_in mid.trail c.args.map) c.args.n some in
    room-kept v mid c.args.n (entries_in (gate_in mid.trail c.args.map)) (omega (arith, c.if-n-eq0.false)) count c.new_fields-first.ensures.shape c.new_fields-first.ensures.used c.requires.entries

pub returns-clause-entries : goal.returns-clause-entries
returns-clause-entries g c =
    let v = c.args.h.now.view in
    let mid = c.new_fields-first.new.h.view in
    let end = c.copy_keys.new.h.view in
    let some = still-open v.used.fields c.args.map c.args.n v.trail mid.trail c.new_fields-first.ensures.writes c.requires.open in
    let count = count-is (gate_in mid.trail c.args.map) c.args.n some in
    let keys = subst (λ (n : ℕ). HasKeysOf end.trail c.args.copy c.args.map n c.new_fields-first.result) count c.copy_keys.ensures.all in
    let whole = subst (λ (s : Shape). Lawful s end.trail) c.copy_keys.ensures.shape c.copy_keys.ensures.heap.lawful in
    let is : c.args.fresh ≡ true = c.if-not-fresh.false in
    subst (λ (b : Bool). HasCopied b end.trail c.args.copy c.args.map c.args.n v.used.fields) (sym is)
    (subst (λ (f : ℕ). HasNewFields end.trail c.args.copy c.args.map c.args.n f) c.new_fields-first.ensures.first
    (has-new c.maps_are_kept.ensures.law mid.shape mid.trail end.trail c.args.copy mid.used.entries c.args.map c.args.n c.new_fields-first.result c.new_fields-first.ensures.heap.lawful whole c.copy_keys.ensures.writes some c.new_fields-first.ensures.made keys))

pub returns-clause-used : goal.returns-clause-used
returns-clause-used g c =
    let v = c.args.h.now.view in
    let mid = c.new_fields-first.new.h.view in
    let some = still-open v.used.fields c.args.map c.args.n v.trail mid.trail c.new_fields-first.ensures.writes c.requires.open in
    let count = count-is (gate_in mid.trail c.args.map) c.args.n some in
    used-new c.args.fresh v.used mid.used c.copy_keys.new.h.view.used c.args.n (entries_in (gate_in mid.trail c.args.map)) c.if-not-fresh.false (omega (arith, c.if-n-eq0.false)) count c.new_fields-first.ensures.used c.copy_keys.ensures.used

pub returns-clause-writes : goal.returns-clause-writes
returns-clause-writes g c =
    let v = c.args.h.now.view in
    let mid = c.new_fields-first.new.h.view in
    let end = c.copy_keys.new.h.view.trail in
    let entries : mid.used.entries ≡ v.used.entries = ap (λ (s : Shape). s.entries) c.new_fields-first.ensures.used in
    both-fill c.args.copy v.used.entries v.used.fields v.trail mid.trail end c.new_fields-first.ensures.writes
    (subst (λ (e : ℕ). Adds (FillsArray c.args.copy e) mid.trail end) entries c.copy_keys.ensures.writes)

pub returns-clause-array : goal.returns-clause-array
returns-clause-array g c =
    let v = c.args.h.now.view in
    let mid = c.new_fields-first.new.h.view in
    let end = c.copy_keys.new.h.view.trail in
    let some = still-open v.used.fields c.args.map c.args.n v.trail mid.trail c.new_fields-first.ensures.writes c.requires.open in
    let count = count-is (gate_in mid.trail c.args.map) c.args.n some in
    own-has end c.args.copy c.args.n mid.used.entries (omega (arith, c.if-n-eq0.false))
    (subst (λ (k : ℕ). HasOwnArray end c.args.copy k mid.used.entries) count c.copy_keys.ensures.array)
    (subst (λ (k : ℕ). AreFree end (mid.used.entries + k)) count c.copy_keys.ensures.spare)
