use Rattle.std.proofs.Common.{◌≡◌, ◌∙◌, ℕ, ◌<◌, ap, sym, subst, refl, arith, Option, Some, None, true≢false}
use Rattle.std.specs.Prelude.{IsSomeAnd}
use Rattle.hc_layout.specs.declared.words.GateWord.{GateWord}
use Rattle.hc_value.specs.declared.field.Detail.{Detail}
use Rattle.hc_layout.specs.declared.words.MapBits.{MapBits}
use Rattle.hc_heap.specs.Readings.{bits_in, detail_in, gate_in}
use Rattle.hc_heap.specs.Writes.{Trail}
use Rattle.hc_heap.specs.States.{View}
use Rattle.hc_heap.specs.Kept.{Adds}
use Rattle.hc_heap.specs.Frames.{adds-none, adds-on, adds-wider}
use Rattle.hc_descs.specs.Entries.{count_of, entries_in, field_at}
use Rattle.hc_fields.specs.Fields.{raised}
use Rattle.hc_tree.specs.Frames.{details-by, details-same, reshapes-dies}
use Rattle.hc_tree.specs.Details.{ChildGets, DetailsAre, NoMap, Reshapes, child_detail, detail_at, joined_with}
use Rattle.hc_tree.specs.Dying.{IsOutgrown, MarksOnly, OutgrownFor}
use Rattle.hc_tree.specs.Growth.{AskGets, EndsWith, asked_detail, fitting_child, live_child, marked}
use Rattle.hc_tree.proofs.Instead.{IsFitting, fitting-at, fitting-found}
use Rattle.hc_tree.proofs.Joins.{Raised, raised-writes, raised-field, raised-child, raised-live, raised-ends, raised-gets, raised-got}
use Rattle.hc_tree.proofs.Opened.{child-space, marked-gets}
use Rattle.hc_tree.proofs.children.child_or_make.Goals as goal

pub admit-requires-clause-entry : goal.admit-requires-clause-entry
admit-requires-clause-entry g c =
    let v = c.args.h.now.view in
    let m = c.args.map in
    let key = c.args.key in
    let d = c.args.detail in
    let n = count_of v.trail m in
    let read : c.gate.new.self.view ≡ v = ap (λ s. s.view) c.gate.ensures.new in
    let second : c.live-known.new.h.view ≡ v = ap (λ s. s.view) c.live-known.ensures.same ∙ read in
    let same : c.fitting.new.h.view ≡ v = ap (λ s. s.view) c.fitting.ensures.same ∙ second in
    let count : c.unwrap-n.result.entries ≡ n = ap entries_in (sym c.unwrap-n.ensures ∙ c.gate.ensures.value) in
    let fit : c.fitting.result ≡ fitting_child v.trail m key d = fitting-at v c.gate.new.self.view c.live-known.new.h.view m c.unwrap-n.result.entries key d c.live-known.result c.fitting.result read second count c.live-known.ensures.live c.fitting.ensures.fits in
    let child = c.in-Some.child in
    let it : IsFitting v.trail m child key d = fitting-found c.same_keys_are_equal.ensures.law v m child key d (sym fit ∙ c.in-Some.is) c.requires.tree c.requires.open in
    subst (λ (w : View). IsSomeAnd (gate_in w.trail child) (λ x. c.unwrap-n.result.entries < x.entries)) (sym same)
    (subst (λ (o : Option GateWord). IsSomeAnd o (λ x. c.unwrap-n.result.entries < x.entries)) (sym it.found.child.gate) (omega (arith, count)))

pub returns-in-Some-clause-live : goal.returns-in-Some-clause-live
returns-in-Some-clause-live g c =
    let v = c.args.h.now.view in
    let m = c.args.map in
    let key = c.args.key in
    let d = c.args.detail in
    let n = count_of v.trail m in
    let read : c.gate.new.self.view ≡ v = ap (λ s. s.view) c.gate.ensures.new in
    let second : c.live-known.new.h.view ≡ v = ap (λ s. s.view) c.live-known.ensures.same ∙ read in
    let same : c.fitting.new.h.view ≡ v = ap (λ s. s.view) c.fitting.ensures.same ∙ second in
    let count : c.unwrap-n.result.entries ≡ n = ap entries_in (sym c.unwrap-n.ensures ∙ c.gate.ensures.value) in
    let fit : c.fitting.result ≡ fitting_child v.trail m key d = fitting-at v c.gate.new.self.view c.live-known.new.h.view m c.unwrap-n.result.entries key d c.live-known.result c.fitting.result read second count c.live-known.ensures.live c.fitting.ensures.fits in
    let child = c.in-Some.child in
    let it : IsFitting v.trail m child key d = fitting-found c.same_keys_are_equal.ensures.law v m child key d (sym fit ∙ c.in-Some.is) c.requires.tree c.requires.open in
    let w = c.admit.new.h.view in
    let up : Raised v w child n d = raised-field v w child n d
    (subst (λ (k : ℕ). IsSomeAnd (field_at v.trail child k) (λ f. w ≡ record v { trail = raised v.trail f d })) count
    (subst (λ (x : View). IsSomeAnd (field_at x.trail child c.unwrap-n.result.entries) (λ f. w ≡ record x { trail = raised x.trail f d })) same c.admit.ensures.view)) in
    raised-live c.maps_are_kept.ensures.law v w m child n key d c.stands.ensures.heap c.admit.ensures.heap up it.found.gate it.found.child it.found.live

pub returns-in-Some-clause-child : goal.returns-in-Some-clause-child
returns-in-Some-clause-child g c =
    let v = c.args.h.now.view in
    let m = c.args.map in
    let key = c.args.key in
    let d = c.args.detail in
    let n = count_of v.trail m in
    let read : c.gate.new.self.view ≡ v = ap (λ s. s.view) c.gate.ensures.new in
    let second : c.live-known.new.h.view ≡ v = ap (λ s. s.view) c.live-known.ensures.same ∙ read in
    let same : c.fitting.new.h.view ≡ v = ap (λ s. s.view) c.fitting.ensures.same ∙ second in
    let count : c.unwrap-n.result.entries ≡ n = ap entries_in (sym c.unwrap-n.ensures ∙ c.gate.ensures.value) in
    let fit : c.fitting.result ≡ fitting_child v.trail m key d = fitting-at v c.gate.new.self.view c.live-known.new.h.view m c.unwrap-n.result.entries key d c.live-known.result c.fitting.result read second count c.live-known.ensures.live c.fitting.ensures.fits in
    let child = c.in-Some.child in
    let it : IsFitting v.trail m child key d = fitting-found c.same_keys_are_equal.ensures.law v m child key d (sym fit ∙ c.in-Some.is) c.requires.tree c.requires.open in
    let w = c.admit.new.h.view in
    let up : Raised v w child n d = raised-field v w child n d
    (subst (λ (k : ℕ). IsSomeAnd (field_at v.trail child k) (λ f. w ≡ record v { trail = raised v.trail f d })) count
    (subst (λ (x : View). IsSomeAnd (field_at x.trail child c.unwrap-n.result.entries) (λ f. w ≡ record x { trail = raised x.trail f d })) same c.admit.ensures.view)) in
    raised-child c.maps_are_kept.ensures.law v w m child n key d c.stands.ensures.heap c.admit.ensures.heap up it.found.gate it.found.child

pub returns-in-Some-clause-ends : goal.returns-in-Some-clause-ends
returns-in-Some-clause-ends g c =
    let v = c.args.h.now.view in
    let m = c.args.map in
    let key = c.args.key in
    let d = c.args.detail in
    let n = count_of v.trail m in
    let read : c.gate.new.self.view ≡ v = ap (λ s. s.view) c.gate.ensures.new in
    let second : c.live-known.new.h.view ≡ v = ap (λ s. s.view) c.live-known.ensures.same ∙ read in
    let same : c.fitting.new.h.view ≡ v = ap (λ s. s.view) c.fitting.ensures.same ∙ second in
    let count : c.unwrap-n.result.entries ≡ n = ap entries_in (sym c.unwrap-n.ensures ∙ c.gate.ensures.value) in
    let fit : c.fitting.result ≡ fitting_child v.trail m key d = fitting-at v c.gate.new.self.view c.live-known.new.h.view m c.unwrap-n.result.entries key d c.live-known.result c.fitting.result read second count c.live-known.ensures.live c.fitting.ensures.fits in
    let child = c.in-Some.child in
    let it : IsFitting v.trail m child key d = fitting-found c.same_keys_are_equal.ensures.law v m child key d (sym fit ∙ c.in-Some.is) c.requires.tree c.requires.open in
    let w = c.admit.new.h.view in
    let up : Raised v w child n d = raised-field v w child n d
    (subst (λ (k : ℕ). IsSomeAnd (field_at v.trail child k) (λ f. w ≡ record v { trail = raised v.trail f d })) count
    (subst (λ (x : View). IsSomeAnd (field_at x.trail child c.unwrap-n.result.entries) (λ f. w ≡ record x { trail = raised x.trail f d })) same c.admit.ensures.view)) in
    let joined : detail_at w.trail child n ≡ Some (joined_with (detail_at v.trail child n) d) = subst (λ (k : ℕ). detail_at w.trail child k ≡ Some (joined_with (detail_at v.trail child k) d)) count
    (subst (λ (x : View). detail_at w.trail child c.unwrap-n.result.entries ≡ Some (joined_with (detail_at x.trail child c.unwrap-n.result.entries) d)) same c.admit.ensures.joined) in
    subst (λ (e : Detail). EndsWith w.trail child n key e) (sym it.wanted)
    (raised-ends c.maps_are_kept.ensures.law v w m child n key d c.stands.ensures.heap c.admit.ensures.heap up it.found.gate it.found.child joined)

pub returns-in-Some-clause-space : goal.returns-in-Some-clause-space
returns-in-Some-clause-space g c =
    let v = c.args.h.now.view in
    let m = c.args.map in
    let key = c.args.key in
    let d = c.args.detail in
    let n = count_of v.trail m in
    let read : c.gate.new.self.view ≡ v = ap (λ s. s.view) c.gate.ensures.new in
    let second : c.live-known.new.h.view ≡ v = ap (λ s. s.view) c.live-known.ensures.same ∙ read in
    let same : c.fitting.new.h.view ≡ v = ap (λ s. s.view) c.fitting.ensures.same ∙ second in
    let count : c.unwrap-n.result.entries ≡ n = ap entries_in (sym c.unwrap-n.ensures ∙ c.gate.ensures.value) in
    let fit : c.fitting.result ≡ fitting_child v.trail m key d = fitting-at v c.gate.new.self.view c.live-known.new.h.view m c.unwrap-n.result.entries key d c.live-known.result c.fitting.result read second count c.live-known.ensures.live c.fitting.ensures.fits in
    let child = c.in-Some.child in
    let it : IsFitting v.trail m child key d = fitting-found c.same_keys_are_equal.ensures.law v m child key d (sym fit ∙ c.in-Some.is) c.requires.tree c.requires.open in
    child-space v c.stands.ensures.heap (fitting_child v.trail m key d) child n it.is

pub returns-in-Some-clause-writes : goal.returns-in-Some-clause-writes
returns-in-Some-clause-writes g c =
    let v = c.args.h.now.view in
    let m = c.args.map in
    let key = c.args.key in
    let d = c.args.detail in
    let n = count_of v.trail m in
    let read : c.gate.new.self.view ≡ v = ap (λ s. s.view) c.gate.ensures.new in
    let second : c.live-known.new.h.view ≡ v = ap (λ s. s.view) c.live-known.ensures.same ∙ read in
    let same : c.fitting.new.h.view ≡ v = ap (λ s. s.view) c.fitting.ensures.same ∙ second in
    let count : c.unwrap-n.result.entries ≡ n = ap entries_in (sym c.unwrap-n.ensures ∙ c.gate.ensures.value) in
    let fit : c.fitting.result ≡ fitting_child v.trail m key d = fitting-at v c.gate.new.self.view c.live-known.new.h.view m c.unwrap-n.result.entries key d c.live-known.result c.fitting.result read second count c.live-known.ensures.live c.fitting.ensures.fits in
    let child = c.in-Some.child in
    let it : IsFitting v.trail m child key d = fitting-found c.same_keys_are_equal.ensures.law v m child key d (sym fit ∙ c.in-Some.is) c.requires.tree c.requires.open in
    let w = c.admit.new.h.view in
    let up : Raised v w child n d = raised-field v w child n d
    (subst (λ (k : ℕ). IsSomeAnd (field_at v.trail child k) (λ f. w ≡ record v { trail = raised v.trail f d })) count
    (subst (λ (x : View). IsSomeAnd (field_at x.trail child c.unwrap-n.result.entries) (λ f. w ≡ record x { trail = raised x.trail f d })) same c.admit.ensures.view)) in
    subst (λ (x : View). Adds (Reshapes v.used (OutgrownFor v.trail m key d) (AskGets v.trail m key d v.used.fields)) v.trail x.trail) (sym up.view)
    (raised-gets v.trail v.used (OutgrownFor v.trail m key d) (fitting_child v.trail m key d) child n up.field d (asked_detail v.trail m key d) it.is up.at it.wanted)

pub returns-in-Some-clause-details : goal.returns-in-Some-clause-details
returns-in-Some-clause-details g c =
    let v = c.args.h.now.view in
    let m = c.args.map in
    let key = c.args.key in
    let d = c.args.detail in
    let n = count_of v.trail m in
    let read : c.gate.new.self.view ≡ v = ap (λ s. s.view) c.gate.ensures.new in
    let second : c.live-known.new.h.view ≡ v = ap (λ s. s.view) c.live-known.ensures.same ∙ read in
    let same : c.fitting.new.h.view ≡ v = ap (λ s. s.view) c.fitting.ensures.same ∙ second in
    let count : c.unwrap-n.result.entries ≡ n = ap entries_in (sym c.unwrap-n.ensures ∙ c.gate.ensures.value) in
    let fit : c.fitting.result ≡ fitting_child v.trail m key d = fitting-at v c.gate.new.self.view c.live-known.new.h.view m c.unwrap-n.result.entries key d c.live-known.result c.fitting.result read second count c.live-known.ensures.live c.fitting.ensures.fits in
    let child = c.in-Some.child in
    let it : IsFitting v.trail m child key d = fitting-found c.same_keys_are_equal.ensures.law v m child key d (sym fit ∙ c.in-Some.is) c.requires.tree c.requires.open in
    let w = c.admit.new.h.view in
    let up : Raised v w child n d = raised-field v w child n d
    (subst (λ (k : ℕ). IsSomeAnd (field_at v.trail child k) (λ f. w ≡ record v { trail = raised v.trail f d })) count
    (subst (λ (x : View). IsSomeAnd (field_at x.trail child c.unwrap-n.result.entries) (λ f. w ≡ record x { trail = raised x.trail f d })) same c.admit.ensures.view)) in
    let joined : detail_at w.trail child n ≡ Some (joined_with (detail_at v.trail child n) d) = subst (λ (k : ℕ). detail_at w.trail child k ≡ Some (joined_with (detail_at v.trail child k) d)) count
    (subst (λ (x : View). detail_at w.trail child c.unwrap-n.result.entries ≡ Some (joined_with (detail_at x.trail child c.unwrap-n.result.entries) d)) same c.admit.ensures.joined) in
    let wanted : Detail = asked_detail v.trail m key d in
    let G : Option ℕ → ℕ → Detail → Type 0 = λ o. ChildGets v.trail o n wanted v.used.fields in
    let writes : Adds (Reshapes v.used (OutgrownFor v.trail m key d) (G (Some child))) v.trail w.trail = subst (λ (x : View). Adds (Reshapes v.used (OutgrownFor v.trail m key d) (G (Some child))) v.trail x.trail) (sym up.view)
    (raised-gets v.trail v.used (OutgrownFor v.trail m key d) (Some child) child n up.field d wanted refl up.at it.wanted) in
    let got : detail_at w.trail child n ≡ Some wanted = joined ∙ ap (λ (e : Detail). Some e) (sym it.wanted) in
    subst (λ (o : Option ℕ). DetailsAre (G o) v.trail w.trail) (sym it.is)
    (details-by v.used (OutgrownFor v.trail m key d) (G (Some child)) writes (raised-got c.maps_are_kept.ensures.law v w m child n key d c.stands.ensures.heap c.admit.ensures.heap up it.found.gate it.found.child wanted got v.used.fields))

pub returns-in-Some-clause-marks : goal.returns-in-Some-clause-marks
returns-in-Some-clause-marks g c =
    let v = c.args.h.now.view in
    let m = c.args.map in
    let key = c.args.key in
    let d = c.args.detail in
    let n = count_of v.trail m in
    let read : c.gate.new.self.view ≡ v = ap (λ s. s.view) c.gate.ensures.new in
    let second : c.live-known.new.h.view ≡ v = ap (λ s. s.view) c.live-known.ensures.same ∙ read in
    let same : c.fitting.new.h.view ≡ v = ap (λ s. s.view) c.fitting.ensures.same ∙ second in
    let count : c.unwrap-n.result.entries ≡ n = ap entries_in (sym c.unwrap-n.ensures ∙ c.gate.ensures.value) in
    let fit : c.fitting.result ≡ fitting_child v.trail m key d = fitting-at v c.gate.new.self.view c.live-known.new.h.view m c.unwrap-n.result.entries key d c.live-known.result c.fitting.result read second count c.live-known.ensures.live c.fitting.ensures.fits in
    let child = c.in-Some.child in
    let it : IsFitting v.trail m child key d = fitting-found c.same_keys_are_equal.ensures.law v m child key d (sym fit ∙ c.in-Some.is) c.requires.tree c.requires.open in
    let w = c.admit.new.h.view in
    let up : Raised v w child n d = raised-field v w child n d
    (subst (λ (k : ℕ). IsSomeAnd (field_at v.trail child k) (λ f. w ≡ record v { trail = raised v.trail f d })) count
    (subst (λ (x : View). IsSomeAnd (field_at x.trail child c.unwrap-n.result.entries) (λ f. w ≡ record x { trail = raised x.trail f d })) same c.admit.ensures.view)) in
    λ x stable now.
    let bits : bits_in w.trail x ≡ bits_in v.trail x = ap (λ (y : View). bits_in y.trail x) up.view ∙ details-same v.trail (raised v.trail up.field d) (λ (t : Trail). bits_in t x) (λ t f e. refl) (raised-writes v.trail up.field d) in
    absurd (true≢false (sym now ∙ (ap (λ (y : MapBits). y.unstable) bits ∙ stable)))

pub returns-in-Some-clause-went : goal.returns-in-Some-clause-went
returns-in-Some-clause-went g c =
    let on = g.met.P.Pace.goes_on in
    on _ _ _ _ _ _ (on _ _ _ _ _ _ (on _ _ _ _ _ _ c.gate.ensures.went c.live-known.ensures.went) c.fitting.ensures.went) c.admit.ensures.went

pub returns-then-not-has_space-clause-writes : goal.returns-then-not-has_space-clause-writes
returns-then-not-has_space-clause-writes g c =
    let v = c.args.h.now.view in
    let m = c.args.map in
    let key = c.args.key in
    let d = c.args.detail in
    let n = count_of v.trail m in
    let read : c.gate.new.self.view ≡ v = ap (λ s. s.view) c.gate.ensures.new in
    let second : c.live-known.new.h.view ≡ v = ap (λ s. s.view) c.live-known.ensures.same ∙ read in
    let same : c.fitting.new.h.view ≡ v = ap (λ s. s.view) c.fitting.ensures.same ∙ second in
    let count : c.unwrap-n.result.entries ≡ n = ap entries_in (sym c.unwrap-n.ensures ∙ c.gate.ensures.value) in
    let fit : c.fitting.result ≡ fitting_child v.trail m key d = fitting-at v c.gate.new.self.view c.live-known.new.h.view m c.unwrap-n.result.entries key d c.live-known.result c.fitting.result read second count c.live-known.ensures.live c.fitting.ensures.fits in
    subst (λ (w : View). Adds (Reshapes v.used (OutgrownFor v.trail m key d) (AskGets v.trail m key d v.used.fields)) v.trail w.trail) (sym same) (adds-none v.trail)

pub returns-clause-writes : goal.returns-clause-writes
returns-clause-writes g c =
    let v = c.args.h.now.view in
    let m = c.args.map in
    let key = c.args.key in
    let d = c.args.detail in
    let n = count_of v.trail m in
    let read : c.gate.new.self.view ≡ v = ap (λ s. s.view) c.gate.ensures.new in
    let second : c.live-known.new.h.view ≡ v = ap (λ s. s.view) c.live-known.ensures.same ∙ read in
    let same : c.fitting.new.h.view ≡ v = ap (λ s. s.view) c.fitting.ensures.same ∙ second in
    let count : c.unwrap-n.result.entries ≡ n = ap entries_in (sym c.unwrap-n.ensures ∙ c.gate.ensures.value) in
    let fit : c.fitting.result ≡ fitting_child v.trail m key d = fitting-at v c.gate.new.self.view c.live-known.new.h.view m c.unwrap-n.result.entries key d c.live-known.result c.fitting.result read second count c.live-known.ensures.live c.fitting.ensures.fits in
    let none : fitting_child v.trail m key d ≡ None = sym fit ∙ c.in_default.is in
    let x = c.make_instead.new.h.view in
    let live : c.live-known.result ≡ live_child v.trail m key = c.live-known.ensures.live ∙ ap (λ (y : View). live_child y.trail m key) read in
    let Dies : ℕ → Type 0 = OutgrownFor v.trail m key d in
    let wanted : Detail = asked_detail v.trail m key d in
    let G : ℕ → Detail → Type 0 = ChildGets v.trail None n wanted v.used.fields in
    let begins : Adds (Reshapes v.used Dies G) (marked v.trail m) x.trail =
    subst (λ (o : Option ℕ). Adds (Reshapes v.used (IsOutgrown v.trail o n d) (ChildGets v.trail None n (child_detail v.trail o n d) v.used.fields)) (marked v.trail m) x.trail) live
    (subst (λ (k : ℕ). Adds (Reshapes v.used (IsOutgrown v.trail c.live-known.result k d) (ChildGets v.trail None k (child_detail v.trail c.live-known.result k d) v.used.fields)) (marked v.trail m) x.trail) count
    (subst (λ (y : View). Adds (Reshapes y.used (IsOutgrown y.trail c.live-known.result c.unwrap-n.result.entries d) (ChildGets y.trail None c.unwrap-n.result.entries (child_detail y.trail c.live-known.result c.unwrap-n.result.entries d) y.used.fields)) (marked y.trail m) x.trail) same c.make_instead.ensures.begins)) in
    let writes : Adds (Reshapes v.used Dies G) v.trail x.trail = adds-on (adds-wider (reshapes-dies v.used NoMap Dies (λ y no. absurd no) G) (marked-gets v.used G v.trail m)) begins in
    subst (λ (o : Option ℕ). Adds (Reshapes v.used Dies (ChildGets v.trail o n wanted v.used.fields)) v.trail x.trail) (sym none) writes

pub returns-clause-begins : goal.returns-clause-begins
returns-clause-begins g c =
    let v = c.args.h.now.view in
    let m = c.args.map in
    let key = c.args.key in
    let d = c.args.detail in
    let n = count_of v.trail m in
    let read : c.gate.new.self.view ≡ v = ap (λ s. s.view) c.gate.ensures.new in
    let second : c.live-known.new.h.view ≡ v = ap (λ s. s.view) c.live-known.ensures.same ∙ read in
    let same : c.fitting.new.h.view ≡ v = ap (λ s. s.view) c.fitting.ensures.same ∙ second in
    let count : c.unwrap-n.result.entries ≡ n = ap entries_in (sym c.unwrap-n.ensures ∙ c.gate.ensures.value) in
    let fit : c.fitting.result ≡ fitting_child v.trail m key d = fitting-at v c.gate.new.self.view c.live-known.new.h.view m c.unwrap-n.result.entries key d c.live-known.result c.fitting.result read second count c.live-known.ensures.live c.fitting.ensures.fits in
    let none : fitting_child v.trail m key d ≡ None = sym fit ∙ c.in_default.is in
    let x = c.make_instead.new.h.view in
    let live : c.live-known.result ≡ live_child v.trail m key = c.live-known.ensures.live ∙ ap (λ (y : View). live_child y.trail m key) read in
    let Dies : ℕ → Type 0 = OutgrownFor v.trail m key d in
    let wanted : Detail = asked_detail v.trail m key d in
    let G : ℕ → Detail → Type 0 = ChildGets v.trail None n wanted v.used.fields in
    let begins : Adds (Reshapes v.used Dies G) (marked v.trail m) x.trail =
    subst (λ (o : Option ℕ). Adds (Reshapes v.used (IsOutgrown v.trail o n d) (ChildGets v.trail None n (child_detail v.trail o n d) v.used.fields)) (marked v.trail m) x.trail) live
    (subst (λ (k : ℕ). Adds (Reshapes v.used (IsOutgrown v.trail c.live-known.result k d) (ChildGets v.trail None k (child_detail v.trail c.live-known.result k d) v.used.fields)) (marked v.trail m) x.trail) count
    (subst (λ (y : View). Adds (Reshapes y.used (IsOutgrown y.trail c.live-known.result c.unwrap-n.result.entries d) (ChildGets y.trail None c.unwrap-n.result.entries (child_detail y.trail c.live-known.result c.unwrap-n.result.entries d) y.used.fields)) (marked y.trail m) x.trail) same c.make_instead.ensures.begins)) in
    let writes : Adds (Reshapes v.used Dies G) v.trail x.trail = adds-on (adds-wider (reshapes-dies v.used NoMap Dies (λ y no. absurd no) G) (marked-gets v.used G v.trail m)) begins in
    λ _. subst (λ (o : Option ℕ). Adds (Reshapes v.used Dies (ChildGets v.trail o n wanted v.used.fields)) (marked v.trail m) x.trail) (sym none) begins

pub returns-clause-details : goal.returns-clause-details
returns-clause-details g c =
    let v = c.args.h.now.view in
    let m = c.args.map in
    let key = c.args.key in
    let d = c.args.detail in
    let n = count_of v.trail m in
    let read : c.gate.new.self.view ≡ v = ap (λ s. s.view) c.gate.ensures.new in
    let second : c.live-known.new.h.view ≡ v = ap (λ s. s.view) c.live-known.ensures.same ∙ read in
    let same : c.fitting.new.h.view ≡ v = ap (λ s. s.view) c.fitting.ensures.same ∙ second in
    let count : c.unwrap-n.result.entries ≡ n = ap entries_in (sym c.unwrap-n.ensures ∙ c.gate.ensures.value) in
    let fit : c.fitting.result ≡ fitting_child v.trail m key d = fitting-at v c.gate.new.self.view c.live-known.new.h.view m c.unwrap-n.result.entries key d c.live-known.result c.fitting.result read second count c.live-known.ensures.live c.fitting.ensures.fits in
    let none : fitting_child v.trail m key d ≡ None = sym fit ∙ c.in_default.is in
    let x = c.make_instead.new.h.view in
    let live : c.live-known.result ≡ live_child v.trail m key = c.live-known.ensures.live ∙ ap (λ (y : View). live_child y.trail m key) read in
    let Dies : ℕ → Type 0 = OutgrownFor v.trail m key d in
    let wanted : Detail = asked_detail v.trail m key d in
    let G : ℕ → Detail → Type 0 = ChildGets v.trail None n wanted v.used.fields in
    let begins : Adds (Reshapes v.used Dies G) (marked v.trail m) x.trail =
    subst (λ (o : Option ℕ). Adds (Reshapes v.used (IsOutgrown v.trail o n d) (ChildGets v.trail None n (child_detail v.trail o n d) v.used.fields)) (marked v.trail m) x.trail) live
    (subst (λ (k : ℕ). Adds (Reshapes v.used (IsOutgrown v.trail c.live-known.result k d) (ChildGets v.trail None k (child_detail v.trail c.live-known.result k d) v.used.fields)) (marked v.trail m) x.trail) count
    (subst (λ (y : View). Adds (Reshapes y.used (IsOutgrown y.trail c.live-known.result c.unwrap-n.result.entries d) (ChildGets y.trail None c.unwrap-n.result.entries (child_detail y.trail c.live-known.result c.unwrap-n.result.entries d) y.used.fields)) (marked y.trail m) x.trail) same c.make_instead.ensures.begins)) in
    let writes : Adds (Reshapes v.used Dies G) v.trail x.trail = adds-on (adds-wider (reshapes-dies v.used NoMap Dies (λ y no. absurd no) G) (marked-gets v.used G v.trail m)) begins in
    let got : detail_in x.trail v.used.fields ≡ Some wanted =
    subst (λ (o : Option ℕ). detail_in x.trail v.used.fields ≡ Some (child_detail v.trail o n d)) live
    (subst (λ (k : ℕ). detail_in x.trail v.used.fields ≡ Some (child_detail v.trail c.live-known.result k d)) count
    (subst (λ (y : View). detail_in x.trail y.used.fields ≡ Some (child_detail y.trail c.live-known.result c.unwrap-n.result.entries d)) same c.make_instead.ensures.detail)) in
    subst (λ (o : Option ℕ). DetailsAre (ChildGets v.trail o n wanted v.used.fields) v.trail x.trail) (sym none)
    (details-by v.used Dies G writes (λ f e at. ap (detail_in x.trail) at.0 ∙ (got ∙ ap (λ (y : Detail). Some y) (sym at.1))))

pub returns-clause-marks : goal.returns-clause-marks
returns-clause-marks g c =
    let v = c.args.h.now.view in
    let m = c.args.map in
    let key = c.args.key in
    let d = c.args.detail in
    let n = count_of v.trail m in
    let read : c.gate.new.self.view ≡ v = ap (λ s. s.view) c.gate.ensures.new in
    let second : c.live-known.new.h.view ≡ v = ap (λ s. s.view) c.live-known.ensures.same ∙ read in
    let same : c.fitting.new.h.view ≡ v = ap (λ s. s.view) c.fitting.ensures.same ∙ second in
    let count : c.unwrap-n.result.entries ≡ n = ap entries_in (sym c.unwrap-n.ensures ∙ c.gate.ensures.value) in
    let x = c.make_instead.new.h.view in
    let live : c.live-known.result ≡ live_child v.trail m key = c.live-known.ensures.live ∙ ap (λ (y : View). live_child y.trail m key) read in
    subst (λ (o : Option ℕ). MarksOnly m (IsOutgrown v.trail o n d) v.trail x.trail) live
    (subst (λ (k : ℕ). MarksOnly m (IsOutgrown v.trail c.live-known.result k d) v.trail x.trail) count
    (subst (λ (y : View). MarksOnly m (IsOutgrown y.trail c.live-known.result c.unwrap-n.result.entries d) y.trail x.trail) same c.make_instead.ensures.marks))
