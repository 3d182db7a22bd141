use Rattle.std.proofs.Common.{◌≡◌, ◌∙◌, ℕ, true, ap, sym, subst}
use Rattle.hc_heap.specs.States.{HeapState, View}
use Rattle.hc_descs.specs.Entries.{count_of, entries_in}
use Rattle.hc_tree.specs.Details.{fits_at}
use Rattle.hc_tree.specs.Walking.{AreJoined, IsLiveEnd}
use Rattle.hc_update.specs.Updating.{IsStop}
use Rattle.hc_update.proofs.Raised.{base-ends, base-keys, base-map, base-wanted, end-gate, end-live, updated-is}
use Rattle.hc_update.proofs.update.renew.Goals as goal

pub admit_all-requires-clause-fits : goal.admit_all-requires-clause-fits
admit_all-requires-clause-fits g c j lt =
    let read : c.first_stop-stop.new.h.view ≡ c.gate.new.self.view = ap (λ (s : HeapState g.row.P.Denot). s.view) c.first_stop-stop.ensures.same in
    subst (λ (x : View). fits_at x.trail c.live_end-end.result c.args.map j ≡ true) (sym read) (c.first_stop-stop.ensures.stop.before j lt)

pub cut-base-requires-clause-map : goal.cut-base-requires-clause-map
cut-base-requires-clause-map g c =
    let v = c.args.h.now.view in
    let u = c.admit_all.new.h.view in
    let m = c.args.map in
    let n = c.args.n in
    let end = c.live_end-end.result in
    let count = c.unwrap-count.result.entries in
    let stop = c.first_stop-stop.result in
    let first : c.live_end-end.new.h.view ≡ v = ap (λ (s : HeapState g.row.P.Denot). s.view) c.live_end-end.ensures.same in
    let second : c.gate.new.self.view ≡ v = ap (λ (s : HeapState g.row.P.Denot). s.view) c.gate.ensures.new ∙ first in
    let third : c.first_stop-stop.new.h.view ≡ v = ap (λ (s : HeapState g.row.P.Denot). s.view) c.first_stop-stop.ensures.same ∙ second in
    let size : count ≡ count_of v.trail end = ap entries_in (sym c.unwrap-count.ensures ∙ c.gate.ensures.value) ∙ ap (λ (x : View). count_of x.trail end) first in
    let ended : IsLiveEnd v.trail c.args.root m n end count = subst (λ (x : ℕ). IsLiveEnd v.trail c.args.root m n end x) (sym size) c.live_end-end.ensures.ended in
    let stopped : IsStop v.trail end m count stop = subst (λ (x : View). IsStop x.trail end m count stop) second c.first_stop-stop.ensures.stop in
    let joined : AreJoined v u end m stop count n stop = subst (λ (x : View). AreJoined x u end m stop count n stop) third c.admit_all.ensures.joined in
    end-gate c.maps_are_kept.ensures.law v u c.args.root end count stop m n c.stands.ensures.heap ended stopped joined c.requires.map

pub cut-base-requires-clause-live : goal.cut-base-requires-clause-live
cut-base-requires-clause-live g c =
    let v = c.args.h.now.view in
    let u = c.admit_all.new.h.view in
    let m = c.args.map in
    let n = c.args.n in
    let end = c.live_end-end.result in
    let count = c.unwrap-count.result.entries in
    let stop = c.first_stop-stop.result in
    let first : c.live_end-end.new.h.view ≡ v = ap (λ (s : HeapState g.row.P.Denot). s.view) c.live_end-end.ensures.same in
    let second : c.gate.new.self.view ≡ v = ap (λ (s : HeapState g.row.P.Denot). s.view) c.gate.ensures.new ∙ first in
    let third : c.first_stop-stop.new.h.view ≡ v = ap (λ (s : HeapState g.row.P.Denot). s.view) c.first_stop-stop.ensures.same ∙ second in
    let size : count ≡ count_of v.trail end = ap entries_in (sym c.unwrap-count.ensures ∙ c.gate.ensures.value) ∙ ap (λ (x : View). count_of x.trail end) first in
    let ended : IsLiveEnd v.trail c.args.root m n end count = subst (λ (x : ℕ). IsLiveEnd v.trail c.args.root m n end x) (sym size) c.live_end-end.ensures.ended in
    let stopped : IsStop v.trail end m count stop = subst (λ (x : View). IsStop x.trail end m count stop) second c.first_stop-stop.ensures.stop in
    let joined : AreJoined v u end m stop count n stop = subst (λ (x : View). AreJoined x u end m stop count n stop) third c.admit_all.ensures.joined in
    end-live c.maps_are_kept.ensures.law v u c.args.root end count stop m n c.stands.ensures.heap ended stopped joined c.requires.map

pub build-requires-clause-keys : goal.build-requires-clause-keys
build-requires-clause-keys g c =
    let v = c.args.h.now.view in
    let u = c.admit_all.new.h.view in
    let m = c.args.map in
    let n = c.args.n in
    let end = c.live_end-end.result in
    let count = c.unwrap-count.result.entries in
    let stop = c.first_stop-stop.result in
    let first : c.live_end-end.new.h.view ≡ v = ap (λ (s : HeapState g.row.P.Denot). s.view) c.live_end-end.ensures.same in
    let second : c.gate.new.self.view ≡ v = ap (λ (s : HeapState g.row.P.Denot). s.view) c.gate.ensures.new ∙ first in
    let third : c.first_stop-stop.new.h.view ≡ v = ap (λ (s : HeapState g.row.P.Denot). s.view) c.first_stop-stop.ensures.same ∙ second in
    let size : count ≡ count_of v.trail end = ap entries_in (sym c.unwrap-count.ensures ∙ c.gate.ensures.value) ∙ ap (λ (x : View). count_of x.trail end) first in
    let ended : IsLiveEnd v.trail c.args.root m n end count = subst (λ (x : ℕ). IsLiveEnd v.trail c.args.root m n end x) (sym size) c.live_end-end.ensures.ended in
    let stopped : IsStop v.trail end m count stop = subst (λ (x : View). IsStop x.trail end m count stop) second c.first_stop-stop.ensures.stop in
    let joined : AreJoined v u end m stop count n stop = subst (λ (x : View). AreJoined x u end m stop count n stop) third c.admit_all.ensures.joined in
    base-keys c.maps_are_kept.ensures.law v u c.args.root end count stop m n c.stands.ensures.heap ended stopped joined c.requires.map c.cut-base.new.h.view c.cut-base.result c.cut-base.ensures.cut

pub build-requires-clause-map : goal.build-requires-clause-map
build-requires-clause-map g c =
    let v = c.args.h.now.view in
    let u = c.admit_all.new.h.view in
    let m = c.args.map in
    let n = c.args.n in
    let end = c.live_end-end.result in
    let count = c.unwrap-count.result.entries in
    let stop = c.first_stop-stop.result in
    let first : c.live_end-end.new.h.view ≡ v = ap (λ (s : HeapState g.row.P.Denot). s.view) c.live_end-end.ensures.same in
    let second : c.gate.new.self.view ≡ v = ap (λ (s : HeapState g.row.P.Denot). s.view) c.gate.ensures.new ∙ first in
    let third : c.first_stop-stop.new.h.view ≡ v = ap (λ (s : HeapState g.row.P.Denot). s.view) c.first_stop-stop.ensures.same ∙ second in
    let size : count ≡ count_of v.trail end = ap entries_in (sym c.unwrap-count.ensures ∙ c.gate.ensures.value) ∙ ap (λ (x : View). count_of x.trail end) first in
    let ended : IsLiveEnd v.trail c.args.root m n end count = subst (λ (x : ℕ). IsLiveEnd v.trail c.args.root m n end x) (sym size) c.live_end-end.ensures.ended in
    let stopped : IsStop v.trail end m count stop = subst (λ (x : View). IsStop x.trail end m count stop) second c.first_stop-stop.ensures.stop in
    let joined : AreJoined v u end m stop count n stop = subst (λ (x : View). AreJoined x u end m stop count n stop) third c.admit_all.ensures.joined in
    base-map c.maps_are_kept.ensures.law v u c.args.root end count stop m n c.stands.ensures.heap ended stopped joined c.requires.map c.cut-base.new.h.view c.cut-base.result c.cut-base.ensures.cut

pub build-requires-clause-ends : goal.build-requires-clause-ends
build-requires-clause-ends g c =
    let v = c.args.h.now.view in
    let u = c.admit_all.new.h.view in
    let m = c.args.map in
    let n = c.args.n in
    let end = c.live_end-end.result in
    let count = c.unwrap-count.result.entries in
    let stop = c.first_stop-stop.result in
    let first : c.live_end-end.new.h.view ≡ v = ap (λ (s : HeapState g.row.P.Denot). s.view) c.live_end-end.ensures.same in
    let second : c.gate.new.self.view ≡ v = ap (λ (s : HeapState g.row.P.Denot). s.view) c.gate.ensures.new ∙ first in
    let third : c.first_stop-stop.new.h.view ≡ v = ap (λ (s : HeapState g.row.P.Denot). s.view) c.first_stop-stop.ensures.same ∙ second in
    let size : count ≡ count_of v.trail end = ap entries_in (sym c.unwrap-count.ensures ∙ c.gate.ensures.value) ∙ ap (λ (x : View). count_of x.trail end) first in
    let ended : IsLiveEnd v.trail c.args.root m n end count = subst (λ (x : ℕ). IsLiveEnd v.trail c.args.root m n end x) (sym size) c.live_end-end.ensures.ended in
    let stopped : IsStop v.trail end m count stop = subst (λ (x : View). IsStop x.trail end m count stop) second c.first_stop-stop.ensures.stop in
    let joined : AreJoined v u end m stop count n stop = subst (λ (x : View). AreJoined x u end m stop count n stop) third c.admit_all.ensures.joined in
    base-ends c.maps_are_kept.ensures.law v u c.args.root end count stop m n c.stands.ensures.heap ended stopped joined c.requires.map c.cut-base.new.h.view c.cut-base.result c.cut-base.ensures.cut

pub build-requires-clause-wanted : goal.build-requires-clause-wanted
build-requires-clause-wanted g c =
    let v = c.args.h.now.view in
    let u = c.admit_all.new.h.view in
    let m = c.args.map in
    let n = c.args.n in
    let end = c.live_end-end.result in
    let count = c.unwrap-count.result.entries in
    let stop = c.first_stop-stop.result in
    let first : c.live_end-end.new.h.view ≡ v = ap (λ (s : HeapState g.row.P.Denot). s.view) c.live_end-end.ensures.same in
    let second : c.gate.new.self.view ≡ v = ap (λ (s : HeapState g.row.P.Denot). s.view) c.gate.ensures.new ∙ first in
    let third : c.first_stop-stop.new.h.view ≡ v = ap (λ (s : HeapState g.row.P.Denot). s.view) c.first_stop-stop.ensures.same ∙ second in
    let size : count ≡ count_of v.trail end = ap entries_in (sym c.unwrap-count.ensures ∙ c.gate.ensures.value) ∙ ap (λ (x : View). count_of x.trail end) first in
    let ended : IsLiveEnd v.trail c.args.root m n end count = subst (λ (x : ℕ). IsLiveEnd v.trail c.args.root m n end x) (sym size) c.live_end-end.ensures.ended in
    let stopped : IsStop v.trail end m count stop = subst (λ (x : View). IsStop x.trail end m count stop) second c.first_stop-stop.ensures.stop in
    let joined : AreJoined v u end m stop count n stop = subst (λ (x : View). AreJoined x u end m stop count n stop) third c.admit_all.ensures.joined in
    base-wanted c.maps_are_kept.ensures.law v u c.args.root end count stop m n c.stands.ensures.heap ended stopped joined c.requires.map c.cut-base.new.h.view c.cut-base.result c.cut-base.ensures.cut

pub returns-clause-updated : goal.returns-clause-updated
returns-clause-updated g c =
    let v = c.args.h.now.view in
    let u = c.admit_all.new.h.view in
    let m = c.args.map in
    let n = c.args.n in
    let end = c.live_end-end.result in
    let count = c.unwrap-count.result.entries in
    let stop = c.first_stop-stop.result in
    let first : c.live_end-end.new.h.view ≡ v = ap (λ (s : HeapState g.row.P.Denot). s.view) c.live_end-end.ensures.same in
    let second : c.gate.new.self.view ≡ v = ap (λ (s : HeapState g.row.P.Denot). s.view) c.gate.ensures.new ∙ first in
    let third : c.first_stop-stop.new.h.view ≡ v = ap (λ (s : HeapState g.row.P.Denot). s.view) c.first_stop-stop.ensures.same ∙ second in
    let size : count ≡ count_of v.trail end = ap entries_in (sym c.unwrap-count.ensures ∙ c.gate.ensures.value) ∙ ap (λ (x : View). count_of x.trail end) first in
    let ended : IsLiveEnd v.trail c.args.root m n end count = subst (λ (x : ℕ). IsLiveEnd v.trail c.args.root m n end x) (sym size) c.live_end-end.ensures.ended in
    let stopped : IsStop v.trail end m count stop = subst (λ (x : View). IsStop x.trail end m count stop) second c.first_stop-stop.ensures.stop in
    let joined : AreJoined v u end m stop count n stop = subst (λ (x : View). AreJoined x u end m stop count n stop) third c.admit_all.ensures.joined in
    updated-is c.maps_are_kept.ensures.law v u c.args.root end count stop m n c.stands.ensures.heap ended stopped joined c.requires.map c.cut-base.new.h.view c.cut-base.result c.cut-base.ensures.cut c.set_is_kept.ensures.law c.unused_says_nothing.ensures.law c.build.new.h.view c.build.result c.build.ensures.built

pub returns-clause-went : goal.returns-clause-went
returns-clause-went g c =
    let on = g.met.P.Pace.goes_on in
    on _ _ _ _ _ _ (on _ _ _ _ _ _ (on _ _ _ _ _ _ (on _ _ _ _ _ _ (on _ _ _ _ _ _ c.live_end-end.ensures.went c.gate.ensures.went) c.first_stop-stop.ensures.went) c.admit_all.ensures.went) c.cut-base.ensures.went) c.build.ensures.went
