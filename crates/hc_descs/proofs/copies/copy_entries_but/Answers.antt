use Rattle.std.proofs.Common.{◌≡◌, ℕ, ◌+◌, Bool, true, false, cond, Option, Some, None, IsSome, ◌∷◌, ap, sym, ◌∙◌, subst, refl, rules, arith}
use Rattle.std.specs.Prelude.{◌==◌}
use Rattle.hc_layout.specs.declared.shape.Region.TheVariants.{Entries}
use Rattle.hc_heap.specs.Writes.{Trail, EntryKey, Reference}
use Rattle.hc_heap.specs.Readings.{base_in, reference_in}
use Rattle.hc_heap.specs.Frames.{goes-on}
use Rattle.hc_heap.specs.States.{View, HeapState}
use Rattle.hc_descs.specs.Copies.{field_but}
use Rattle.hc_descs.specs.Entries.{key_at, field_at}
use Rattle.hc_descs.specs.Filling.{IsFilled}
use Rattle.hc_descs.proofs.Having.{none-have}
use Rattle.hc_descs.proofs.Filled.{source, filled-none, filled-more}
use Rattle.hc_descs.proofs.copies.copy_entries_but.Goals as goal

chosen-is : (b : Bool) (o : Option ℕ) (field own : ℕ) → o ≡ Some own → cond b (Some field) o ≡ Some (cond b field own)
chosen-is true o field own is = refl
chosen-is false o field own is = is

pub returns-in_default-clause-filled : goal.returns-in_default-clause-filled
returns-in_default-clause-filled g c =
    let t = c.args.h.now.view.trail in
    let m = c.args.map in
    let none : base_in t m ≡ None = cc in
    let same : t ≡ c.base.new.self.view.trail = cc in
    subst (λ (now : Trail). IsFilled t now c.args.to c.args.n (key_at t m) (field_but t m c.args.place c.args.field)) same
    (filled-none t c.args.to c.args.n (key_at t m) (field_but t m c.args.place c.args.field) (λ k lt. none-have t (base_in t m) c.args.n k c.requires.entries none lt) c.requires.free)

pub loop-k-init : goal.loop-k-init
loop-k-init g c =
    let t = c.args.h.now.view.trail in
    let m = c.args.map in
    let same : t ≡ c.base.new.self.view.trail = cc in
    record {
      view = search rules;
      filled = subst (λ (now : Trail). IsFilled t now c.args.to 0 (key_at t m) (field_but t m c.args.place c.args.field)) same
          (filled-none t c.args.to 0 (key_at t m) (field_but t m c.args.place c.args.field) (λ k lt. omega arith) c.requires.free);
      heap = search rules;
      goes = search rules;
      went = search rules;
    }

pub key_of-key-requires : goal.key_of-key-requires
key_of-key-requires g c =
    let t = c.args.h.now.view.trail in
    let base : base_in t c.args.map ≡ Some c.in-Some.from = cc in
    let from = source t c.loop-k.h.view.trail (base_in t c.args.map) c.args.n c.in-Some.from c.args.to c.loop-k.k c.requires.entries base c.requires.free c.loop-k.invariant.filled.writes c.loop-k-test.true in
    record { written = from.written }

pub field_of-own-requires : goal.field_of-own-requires
field_of-own-requires g c =
    let t = c.args.h.now.view.trail in
    let base : base_in t c.args.map ≡ Some c.in-Some.from = cc in
    let from = source t c.loop-k.h.view.trail (base_in t c.args.map) c.args.n c.in-Some.from c.args.to c.loop-k.k c.requires.entries base c.requires.free c.loop-k.invariant.filled.writes c.loop-k-test.true in
    let same : c.loop-k.h.view.trail ≡ c.key_of-key.new.h.view.trail = cc in
    record { written = subst (λ (now : Trail). IsSome (reference_in now (c.in-Some.from + c.loop-k.k))) same from.made }

pub overflow_add-to : goal.overflow_add-to
overflow_add-to g c =
    let shape = c.stands.ensures.heap.shape in
    let most = c.stands.ensures.heap.most Entries in
    omega arith

pub loop-k-preserved : goal.loop-k-preserved
loop-k-preserved g c =
    let t = c.args.h.now.view.trail in
    let m = c.args.map in
    let k = c.loop-k.k in
    let now = c.loop-k.h.view.trail in
    let base : base_in t m ≡ Some c.in-Some.from = cc in
    let from = source t now (base_in t m) c.args.n c.in-Some.from c.args.to k c.requires.entries base c.requires.free c.loop-k.invariant.filled.writes c.loop-k-test.true in
    let key : key_at t m k ≡ Some c.key_of-key.result = from.key ∙ c.key_of-key.ensures.value in
    let same : c.key_of-key.new.h.view.trail ≡ now = ap (λ (s : HeapState g.row.P.Denot). s.view.trail) c.key_of-key.ensures.new in
    let same_still : c.field_of-own.new.h.view.trail ≡ now = ap (λ (s : HeapState g.row.P.Denot). s.view.trail) c.field_of-own.ensures.new ∙ same in
    let own : field_at t m k ≡ Some c.field_of-own.result = from.field ∙ (ap (λ (x : Trail). reference_in x (c.in-Some.from + k)) (sym same) ∙ c.field_of-own.ensures.value) in
    let its = c.chosen.result in
    let field : field_but t m c.args.place c.args.field k ≡ Some its = chosen-is (k == c.args.place) (field_at t m k) c.args.field c.field_of-own.result own ∙ ap (λ (x : ℕ). Some x) (sym c.chosen.ensures) in
    let is : c.put_entry.new.h.view.trail ≡ Reference (c.args.to + k) its ∷ EntryKey (c.args.to + k) c.key_of-key.result ∷ now =
    ap (λ (v : View). v.trail) c.put_entry.ensures.view ∙ ap (λ (x : Trail). Reference (c.args.to + k) its ∷ EntryKey (c.args.to + k) c.key_of-key.result ∷ x) same_still in
    let on = g.met.P.Pace.goes_on in
    record {
      view = search rules;
      filled = subst (λ (x : Trail). IsFilled t x c.args.to (k + 1) (key_at t m) (field_but t m c.args.place c.args.field)) (sym is)
          (filled-more t now c.args.to k (key_at t m) (field_but t m c.args.place c.args.field) c.key_of-key.result its c.loop-k.invariant.filled key field);
      heap = c.put_entry.ensures.heap;
      goes = goes-on c.args.h.now.desk c.loop-k.h.desk c.put_entry.new.h.desk c.loop-k.invariant.goes
          (goes-on c.loop-k.h.desk c.key_of-key.new.h.desk c.put_entry.new.h.desk c.key_of-key.ensures.goes
          (goes-on c.key_of-key.new.h.desk c.field_of-own.new.h.desk c.put_entry.new.h.desk c.field_of-own.ensures.goes c.put_entry.ensures.goes));
      went = on c.args.h.now.pace c.loop-k.h.pace c.put_entry.new.h.pace c.args.h.now.desk.trail c.loop-k.h.desk.trail c.put_entry.new.h.desk.trail c.loop-k.invariant.went
          (on c.loop-k.h.pace c.key_of-key.new.h.pace c.put_entry.new.h.pace c.loop-k.h.desk.trail c.key_of-key.new.h.desk.trail c.put_entry.new.h.desk.trail c.key_of-key.ensures.went
          (on c.key_of-key.new.h.pace c.field_of-own.new.h.pace c.put_entry.new.h.pace c.key_of-key.new.h.desk.trail c.field_of-own.new.h.desk.trail c.put_entry.new.h.desk.trail c.field_of-own.ensures.went c.put_entry.ensures.went));
    }
