use Rattle.std.proofs.Common.{◌≡◌, ◌∙◌, ◌<◌, ℕ, ap, sym, subst, refl, arith, Option, None}
use Rattle.std.specs.Prelude.{IsSomeAnd}
use Rattle.hc_layout.specs.declared.shape.Shape.{Shape}
use Rattle.hc_layout.specs.declared.words.GateWord.{GateWord}
use Rattle.hc_value.specs.declared.field.Detail.{Detail}
use Rattle.hc_heap.specs.Lawful.{IsClassThere, Lawful}
use Rattle.hc_heap.specs.Kept.{Adds}
use Rattle.hc_heap.specs.Frames.{adds-on, adds-wider, goes-on-of}
use Rattle.hc_heap.specs.States.{HeapState, View}
use Rattle.hc_tree.specs.Details.{ChildGets, NoMap, Reshapes, child_detail}
use Rattle.hc_tree.specs.Growth.{MayGrow, marked}
use Rattle.hc_tree.specs.Dying.{IsOutgrown}
use Rattle.hc_tree.specs.Frames.{reshapes-dies}
use Rattle.hc_tree.proofs.Begun.{open-handed}
use Rattle.hc_tree.proofs.Joins.{IsFound, found-at}
use Rattle.hc_tree.proofs.Opened.{found-dead}
use Rattle.hc_tree.proofs.Instead.{child-may, count-w, dead-w, died-by, grows-w, joins-known, lacks-w, live-w, marks-alone, marks-instead, outgrown-is, outgrown-under, there-w, under-dead, used-w}
use Rattle.hc_tree.proofs.Wants.{class-join}
use Rattle.hc_tree.proofs.children.make_instead.Goals as goal

pub make_child-requires-clause-dead : goal.make_child-requires-clause-dead
make_child-requires-clause-dead g c = found-dead c.same_keys_are_equal.ensures.law c.args.h.now.view.trail c.args.map c.args.key c.requires.tree c.requires.open (sym c.requires.known ∙ c.in_default.is)

pub returns-in_default-clause-begins : goal.returns-in_default-clause-begins
returns-in_default-clause-begins g c =
    let v = c.args.h.now.view in
    let n = c.args.n in
    let d = c.args.detail in
    let known = c.args.known in
    let x = c.make_child.new.h.view in
    subst (λ (o : Option ℕ). Adds (Reshapes v.used (IsOutgrown v.trail known n d) (ChildGets v.trail None n (child_detail v.trail o n d) v.used.fields)) (marked v.trail c.args.map) x.trail) (sym c.in_default.is)
    (adds-wider (reshapes-dies v.used NoMap (IsOutgrown v.trail known n d) (λ y no. absurd no) (ChildGets v.trail None n d v.used.fields)) c.make_child.ensures.first)

pub detail_at-own-requires : goal.detail_at-own-requires
detail_at-own-requires g c =
    let v = c.args.h.now.view in
    let it : IsFound v.trail c.args.map c.in-Some.child c.args.key = found-at c.same_keys_are_equal.ensures.law v v c.args.map c.in-Some.child c.args.key c.args.known refl c.requires.known c.in-Some.is c.requires.tree c.requires.open in
    let count = c.requires.count in
    record { entry = subst (λ (o : Option GateWord). IsSomeAnd o (λ x. c.args.n < x.entries)) (sym it.child.gate) (omega (arith, count)) }

pub mark_unstable-requires-clause-handed : goal.mark_unstable-requires-clause-handed
mark_unstable-requires-clause-handed g c =
    let v = c.args.h.now.view in
    let read : c.detail_at-own.new.h.view ≡ v = ap (λ (s : HeapState g.row.P.Denot). s.view) c.detail_at-own.ensures.same in
    subst (λ (x : View). c.args.map < x.used.maps) (sym read) (open-handed MayGrow c.unused_says_nothing.ensures.law v c.args.map c.stands.ensures.heap c.requires.open)

pub deprecate-requires-clause-open : goal.deprecate-requires-clause-open
deprecate-requires-clause-open g c =
    let v = c.args.h.now.view in
    let m = c.args.map in
    let it : IsFound v.trail m c.in-Some.child c.args.key = found-at c.same_keys_are_equal.ensures.law v v m c.in-Some.child c.args.key c.args.known refl c.requires.known c.in-Some.is c.requires.tree c.requires.open in
    let read : c.detail_at-own.new.h.view ≡ v = ap (λ (s : HeapState g.row.P.Denot). s.view) c.detail_at-own.ensures.same in
    let marks : c.mark_unstable.new.h.view ≡ record v { trail = marked v.trail m } = c.mark_unstable.ensures.view ∙ ap (λ (x : View). record x { trail = marked x.trail m }) read in
    child-may c.maps_are_kept.ensures.law v c.mark_unstable.new.h.view m c.in-Some.child c.args.key c.stands.ensures.heap it marks c.mark_unstable.ensures.heap

pub make_child-requires-2-clause-open : goal.make_child-requires-2-clause-open
make_child-requires-2-clause-open g c =
    let v = c.args.h.now.view in
    let u = c.mark_unstable.new.h.view in
    let w = c.deprecate.new.h.view in
    let m = c.args.map in
    let child = c.in-Some.child in
    let it : IsFound v.trail m child c.args.key = found-at c.same_keys_are_equal.ensures.law v v m child c.args.key c.args.known refl c.requires.known c.in-Some.is c.requires.tree c.requires.open in
    let read : c.detail_at-own.new.h.view ≡ v = ap (λ (s : HeapState g.row.P.Denot). s.view) c.detail_at-own.ensures.same in
    let marks : u ≡ record v { trail = marked v.trail m } = c.mark_unstable.ensures.view ∙ ap (λ (x : View). record x { trail = marked x.trail m }) read in
    grows-w c.maps_are_kept.ensures.law v u m child c.args.key c.stands.ensures.heap it marks c.mark_unstable.ensures.heap c.same_keys_are_equal.ensures.law w c.mark_unstable.ensures.tree c.deprecate.ensures.dies c.requires.open

pub make_child-requires-2-clause-count : goal.make_child-requires-2-clause-count
make_child-requires-2-clause-count g c =
    let v = c.args.h.now.view in
    let u = c.mark_unstable.new.h.view in
    let w = c.deprecate.new.h.view in
    let m = c.args.map in
    let child = c.in-Some.child in
    let it : IsFound v.trail m child c.args.key = found-at c.same_keys_are_equal.ensures.law v v m child c.args.key c.args.known refl c.requires.known c.in-Some.is c.requires.tree c.requires.open in
    let read : c.detail_at-own.new.h.view ≡ v = ap (λ (s : HeapState g.row.P.Denot). s.view) c.detail_at-own.ensures.same in
    let marks : u ≡ record v { trail = marked v.trail m } = c.mark_unstable.ensures.view ∙ ap (λ (x : View). record x { trail = marked x.trail m }) read in
    c.requires.count ∙ sym (count-w c.maps_are_kept.ensures.law v u m child c.args.key c.stands.ensures.heap it marks c.mark_unstable.ensures.heap c.same_keys_are_equal.ensures.law w c.mark_unstable.ensures.tree c.deprecate.ensures.dies)

pub make_child-requires-2-clause-live : goal.make_child-requires-2-clause-live
make_child-requires-2-clause-live g c =
    let v = c.args.h.now.view in
    let u = c.mark_unstable.new.h.view in
    let w = c.deprecate.new.h.view in
    let m = c.args.map in
    let child = c.in-Some.child in
    let it : IsFound v.trail m child c.args.key = found-at c.same_keys_are_equal.ensures.law v v m child c.args.key c.args.known refl c.requires.known c.in-Some.is c.requires.tree c.requires.open in
    let read : c.detail_at-own.new.h.view ≡ v = ap (λ (s : HeapState g.row.P.Denot). s.view) c.detail_at-own.ensures.same in
    let marks : u ≡ record v { trail = marked v.trail m } = c.mark_unstable.ensures.view ∙ ap (λ (x : View). record x { trail = marked x.trail m }) read in
    live-w c.maps_are_kept.ensures.law v u m child c.args.key c.stands.ensures.heap it marks c.mark_unstable.ensures.heap c.same_keys_are_equal.ensures.law w c.mark_unstable.ensures.tree c.deprecate.ensures.dies c.requires.live

pub make_child-requires-2-clause-lacks : goal.make_child-requires-2-clause-lacks
make_child-requires-2-clause-lacks g c =
    let v = c.args.h.now.view in
    let u = c.mark_unstable.new.h.view in
    let w = c.deprecate.new.h.view in
    let m = c.args.map in
    let child = c.in-Some.child in
    let it : IsFound v.trail m child c.args.key = found-at c.same_keys_are_equal.ensures.law v v m child c.args.key c.args.known refl c.requires.known c.in-Some.is c.requires.tree c.requires.open in
    let read : c.detail_at-own.new.h.view ≡ v = ap (λ (s : HeapState g.row.P.Denot). s.view) c.detail_at-own.ensures.same in
    let marks : u ≡ record v { trail = marked v.trail m } = c.mark_unstable.ensures.view ∙ ap (λ (x : View). record x { trail = marked x.trail m }) read in
    lacks-w c.maps_are_kept.ensures.law v u m child c.args.key c.stands.ensures.heap it marks c.mark_unstable.ensures.heap c.same_keys_are_equal.ensures.law w c.mark_unstable.ensures.tree c.deprecate.ensures.dies c.args.n c.args.key.name c.requires.lacks

pub make_child-requires-2-clause-there : goal.make_child-requires-2-clause-there
make_child-requires-2-clause-there g c =
    let v = c.args.h.now.view in
    let u = c.mark_unstable.new.h.view in
    let w = c.deprecate.new.h.view in
    let m = c.args.map in
    let child = c.in-Some.child in
    let it : IsFound v.trail m child c.args.key = found-at c.same_keys_are_equal.ensures.law v v m child c.args.key c.args.known refl c.requires.known c.in-Some.is c.requires.tree c.requires.open in
    let read : c.detail_at-own.new.h.view ≡ v = ap (λ (s : HeapState g.row.P.Denot). s.view) c.detail_at-own.ensures.same in
    let marks : u ≡ record v { trail = marked v.trail m } = c.mark_unstable.ensures.view ∙ ap (λ (x : View). record x { trail = marked x.trail m }) read in
    let own = c.detail_at-own.result in
    let joined : IsClassThere v.shape v.trail c.join.result.class = subst (λ (e : Detail). IsClassThere v.shape v.trail e.class) (sym c.join.ensures.value) (class-join (IsClassThere v.shape v.trail) own.class c.args.detail.class c.detail_at-own.ensures.there tt) in
    there-w c.maps_are_kept.ensures.law v u m child c.args.key c.stands.ensures.heap it marks c.mark_unstable.ensures.heap c.same_keys_are_equal.ensures.law w c.mark_unstable.ensures.tree c.deprecate.ensures.dies c.join.result.class joined

pub make_child-requires-2-clause-dead : goal.make_child-requires-2-clause-dead
make_child-requires-2-clause-dead g c =
    let v = c.args.h.now.view in
    let u = c.mark_unstable.new.h.view in
    let w = c.deprecate.new.h.view in
    let m = c.args.map in
    let child = c.in-Some.child in
    let it : IsFound v.trail m child c.args.key = found-at c.same_keys_are_equal.ensures.law v v m child c.args.key c.args.known refl c.requires.known c.in-Some.is c.requires.tree c.requires.open in
    let read : c.detail_at-own.new.h.view ≡ v = ap (λ (s : HeapState g.row.P.Denot). s.view) c.detail_at-own.ensures.same in
    let marks : u ≡ record v { trail = marked v.trail m } = c.mark_unstable.ensures.view ∙ ap (λ (x : View). record x { trail = marked x.trail m }) read in
    dead-w c.maps_are_kept.ensures.law v u m child c.args.key c.stands.ensures.heap it marks c.mark_unstable.ensures.heap c.same_keys_are_equal.ensures.law w c.mark_unstable.ensures.tree c.deprecate.ensures.dies c.requires.open

pub returns-clause-begins : goal.returns-clause-begins
returns-clause-begins g c =
    let v = c.args.h.now.view in
    let u = c.mark_unstable.new.h.view in
    let w = c.deprecate.new.h.view in
    let m = c.args.map in
    let child = c.in-Some.child in
    let it : IsFound v.trail m child c.args.key = found-at c.same_keys_are_equal.ensures.law v v m child c.args.key c.args.known refl c.requires.known c.in-Some.is c.requires.tree c.requires.open in
    let read : c.detail_at-own.new.h.view ≡ v = ap (λ (s : HeapState g.row.P.Denot). s.view) c.detail_at-own.ensures.same in
    let marks : u ≡ record v { trail = marked v.trail m } = c.mark_unstable.ensures.view ∙ ap (λ (x : View). record x { trail = marked x.trail m }) read in
    let x = c.make_child-2.new.h.view in
    let n = c.args.n in
    let d = c.args.detail in
    let known = c.args.known in
    let own = c.detail_at-own.result in
    let joined = c.join.result in
    let wanted : Detail = child_detail v.trail known n d in
    let Dies : ℕ → Type 0 = IsOutgrown v.trail known n d in
    let G : ℕ → Detail → Type 0 = ChildGets v.trail None n wanted v.used.fields in
    let same : joined ≡ wanted = joins-known v.trail known child n own d joined c.in-Some.is c.detail_at-own.ensures.value c.join.ensures.value in
    let made : Adds (Reshapes v.used NoMap (ChildGets v.trail None n joined v.used.fields)) w.trail x.trail = subst (λ (s : Shape). Adds (Reshapes s NoMap (ChildGets v.trail None n joined s.fields)) w.trail x.trail) (used-w c.maps_are_kept.ensures.law v u m child c.args.key c.stands.ensures.heap it marks c.mark_unstable.ensures.heap c.same_keys_are_equal.ensures.law w c.mark_unstable.ensures.tree c.deprecate.ensures.dies) c.make_child-2.ensures.gets in
    let second : Adds (Reshapes v.used Dies G) w.trail x.trail = adds-wider (reshapes-dies v.used NoMap Dies (λ y no. absurd no) G) (subst (λ (e : Detail). Adds (Reshapes v.used NoMap (ChildGets v.trail None n e v.used.fields)) w.trail x.trail) same made) in
    let first : Adds (Reshapes v.used Dies G) u.trail w.trail = died-by c.maps_are_kept.ensures.law v u m child c.args.key c.stands.ensures.heap it marks c.mark_unstable.ensures.heap c.same_keys_are_equal.ensures.law w c.mark_unstable.ensures.tree c.deprecate.ensures.dies Dies G (outgrown-is v.trail known child n d c.in-Some.is c.requires.outgrown) in
    subst (λ (y : View). Adds (Reshapes v.used Dies G) y.trail x.trail) marks (adds-on first second)

pub returns-clause-dead : goal.returns-clause-dead
returns-clause-dead g c =
    let v = c.args.h.now.view in
    let u = c.mark_unstable.new.h.view in
    let w = c.deprecate.new.h.view in
    let m = c.args.map in
    let child = c.in-Some.child in
    let it : IsFound v.trail m child c.args.key = found-at c.same_keys_are_equal.ensures.law v v m child c.args.key c.args.known refl c.requires.known c.in-Some.is c.requires.tree c.requires.open in
    let read : c.detail_at-own.new.h.view ≡ v = ap (λ (s : HeapState g.row.P.Denot). s.view) c.detail_at-own.ensures.same in
    let marks : u ≡ record v { trail = marked v.trail m } = c.mark_unstable.ensures.view ∙ ap (λ (x : View). record x { trail = marked x.trail m }) read in
    let x = c.make_child-2.new.h.view in
    let goes = goes-on-of w.shape c.make_child-2.ensures.writes (subst (λ (s : Shape). Lawful s x.trail) c.make_child-2.ensures.shape c.make_child-2.ensures.heap.lawful) in
    λ y out there. (c.set_is_kept.ensures.law w.shape w.trail x.trail goes).deprecated y
    (under-dead c.maps_are_kept.ensures.law v u m child c.args.key c.stands.ensures.heap it marks c.mark_unstable.ensures.heap c.same_keys_are_equal.ensures.law w c.mark_unstable.ensures.tree c.deprecate.ensures.dies y (outgrown-under v.trail c.args.known child c.args.n c.args.detail y c.in-Some.is out) there)

pub returns-in_default-clause-marks : goal.returns-in_default-clause-marks
returns-in_default-clause-marks g c =
    let v = c.args.h.now.view in
    marks-alone (IsOutgrown v.trail c.args.known c.args.n c.args.detail) v.used c.args.map v.trail c.make_child.new.h.view.trail c.make_child.ensures.writes

pub returns-clause-marks : goal.returns-clause-marks
returns-clause-marks g c =
    let v = c.args.h.now.view in
    let u = c.mark_unstable.new.h.view in
    let w = c.deprecate.new.h.view in
    let m = c.args.map in
    let child = c.in-Some.child in
    let it : IsFound v.trail m child c.args.key = found-at c.same_keys_are_equal.ensures.law v v m child c.args.key c.args.known refl c.requires.known c.in-Some.is c.requires.tree c.requires.open in
    let read : c.detail_at-own.new.h.view ≡ v = ap (λ (s : HeapState g.row.P.Denot). s.view) c.detail_at-own.ensures.same in
    let marks : u ≡ record v { trail = marked v.trail m } = c.mark_unstable.ensures.view ∙ ap (λ (x : View). record x { trail = marked x.trail m }) read in
    marks-instead c.maps_are_kept.ensures.law v u m child c.args.key c.stands.ensures.heap it marks c.mark_unstable.ensures.heap c.same_keys_are_equal.ensures.law w c.mark_unstable.ensures.tree c.deprecate.ensures.dies
    (IsOutgrown v.trail c.args.known c.args.n c.args.detail) w.used c.make_child-2.new.h.view (outgrown-is v.trail c.args.known child c.args.n c.args.detail c.in-Some.is c.requires.outgrown) c.make_child-2.ensures.writes
