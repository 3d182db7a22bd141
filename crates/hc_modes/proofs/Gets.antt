-- What fields got, over several steps.
use Rattle.std.proofs.Common.{◌≡◌, ◌∙◌, ℕ, Bool, true, false, Option, Some, None, List, ◌∷◌, refl, sym, subst, true≢false}
use Rattle.hc_value.specs.declared.field.Detail.{Detail}
use Rattle.hc_value.specs.declared.prop.Prop.{Prop}
use Rattle.hc_heap.specs.Frames.{same-after}
use Rattle.hc_heap.specs.Readings.{detail_in, map_in, root_in}
use Rattle.hc_heap.specs.States.{View}
use Rattle.hc_heap.specs.Writes.{Slot, Store, Trail, Write}
use Rattle.hc_descs.specs.Entries.{count_of, detail_at}
use Rattle.hc_tree.specs.Copying.{CopyGets, More}
use Rattle.hc_tree.specs.Details.{DetailsAre, NoMap}
use Rattle.hc_update.specs.Renewing.{IsDoomed}
use Rattle.hc_modes.specs.Rest.{DeathsAre}
use Rattle.hc_tree.specs.Growth.{marked}
use Rattle.hc_tree.specs.Walking.{IsLiveEnd}
use Rattle.hc_update.specs.Retargeting.{HasMapFor, rooted}
use Rattle.hc_update.specs.Updating.{UpdateGets}
use Rattle.hc_modes.specs.Resettled.{marked_view}
use Rattle.hc_slots.specs.Cases.{some-is}
use Rattle.hc_slots.specs.Slots.{FillsStore, IsFitted}
use Rattle.hc_modes.specs.Details.{IfFast, AddedGets, BecameGets, GetsNothing, GrownGets, HasRewalked, IsRewalked, LinkedDetails}
use Rattle.hc_tree.specs.Needs.{HasSpace}
use Rattle.hc_slots.specs.Meaning.{Dictionary}
use Rattle.hc_modes.specs.Meaning.{kept_of}
use Rattle.hc_modes.specs.Modes.{link_need}
use Rattle.hc_value.specs.declared.reply.Cause.{Cause}
use Rattle.hc_modes.proofs.Left.{marked-same}

-- the same, said otherwise
pub details-as : {old new : Trail} (G H : ℕ → Detail → Type 0) → ((f : ℕ) (d : Detail) → H f d → G f d) → ((f : ℕ) (d : Detail) → G f d → H f d) → DetailsAre G old new → DetailsAre H old new
details-as G H from into it = record { gets = λ f d got. it.gets f d (from f d got); rest = λ f none. it.rest f (λ d got. none d (into f d got)) }

-- a step before, and one afterwards, that change no detail
pub details-from : {G : ℕ → Detail → Type 0} {a b c : Trail} → ((f : ℕ) → detail_in b f ≡ detail_in a f) → DetailsAre G b c → DetailsAre G a c
details-from same it = record { gets = it.gets; rest = λ f none. it.rest f none ∙ same f }

pub details-on : {G : ℕ → Detail → Type 0} {a b c : Trail} → DetailsAre G a b → ((f : ℕ) → detail_in c f ≡ detail_in b f) → DetailsAre G a c
details-on it same = record { gets = λ f d got. same f ∙ it.gets f d got; rest = λ f none. same f ∙ it.rest f none }

pub details-none : {a b : Trail} → ((f : ℕ) → detail_in b f ≡ detail_in a f) → DetailsAre GetsNothing a b
details-none same = record { gets = λ f d got. absurd got; rest = λ f none. same f }

-- a map is made unstable first
pub marked-detail : (t : Trail) (m f : ℕ) → detail_in (marked t m) f ≡ detail_in t f
marked-detail t m f = marked-same t m (λ (u : Trail). detail_in u f) (λ b. refl)

marked-admits : (t : Trail) (m k : ℕ) → detail_at (marked t m) m k ≡ detail_at t m k
marked-admits t m k = marked-same t m (λ (u : Trail). detail_at u m k) (λ b. refl)

marked-from : (more : More) (fresh : Bool) (t : Trail) (m n first f : ℕ) (d : Detail) → CopyGets fresh more t m n first f d → CopyGets fresh more (marked t m) m n first f d
marked-from None fresh t m n first f d got = record { place = got.place; from = got.from; within = got.within; field = got.field; same = marked-admits t m got.place ∙ got.same }
marked-from (Some e) fresh t m n first f d got = got

marked-into : (more : More) (fresh : Bool) (t : Trail) (m n first f : ℕ) (d : Detail) → CopyGets fresh more (marked t m) m n first f d → CopyGets fresh more t m n first f d
marked-into None fresh t m n first f d got = record { place = got.place; from = got.from; within = got.within; field = got.field; same = sym (marked-admits t m got.place) ∙ got.same }
marked-into (Some e) fresh t m n first f d got = got

pub marked-copy : (t new : Trail) (m first : ℕ) (fresh : Bool) (more : More) → DetailsAre (CopyGets fresh more (marked t m) m (count_of (marked t m) m) first) (marked t m) new → DetailsAre (CopyGets fresh more t m (count_of t m) first) t new
marked-copy t new m first fresh more it =
    let count : count_of (marked t m) m ≡ count_of t m = marked-same t m (λ (u : Trail). count_of u m) (λ b. refl) in
    let same : DetailsAre (CopyGets fresh more (marked t m) m (count_of t m) first) (marked t m) new = subst (λ (n : ℕ). DetailsAre (CopyGets fresh more (marked t m) m n first) (marked t m) new) count it in
    details-from (marked-detail t m) (details-as (CopyGets fresh more (marked t m) m (count_of t m) first) (CopyGets fresh more t m (count_of t m) first)
    (marked-from more fresh t m (count_of t m) first) (marked-into more fresh t m (count_of t m) first) same)

-- slots are filled
fills-detail : (v : View) (o f : ℕ) (t : Trail) (w : Write) → FillsStore v o t w → detail_in (w ∷ t) f ≡ detail_in t f
fills-detail v o f t (Store p x) h = refl
fills-detail v o f t (Slot s x) h = refl
fills-detail v o f t _ h = absurd h

pub fitted-detail : (v w : View) (o n f : ℕ) → IsFitted v w o n → detail_in w.trail f ≡ detail_in v.trail f
fitted-detail v w o n f it = same-after (λ (t : Trail). detail_in t f) (fills-detail v o f) it.writes

-- a property is added
pub added-gets : (v w : View) (o m n : ℕ) (p : Prop) (b : Bool) → map_in v.trail o ≡ Some m → count_of v.trail m ≡ n → (root_in v.trail o).is_proto ≡ b → DetailsAre (GrownGets b v.trail v.used m n p) v.trail w.trail → DetailsAre (AddedGets v o p) v.trail w.trail
added-gets v w o m n p b has count proto it = details-as (GrownGets b v.trail v.used m n p) (AddedGets v o p)
    (λ f d got.
    let same : got.map ≡ m = some-is got.map m (sym got.has ∙ has) in
    subst (λ (x : Bool). GrownGets x v.trail v.used m n p f d) proto
    (subst (λ (k : ℕ). GrownGets (root_in v.trail o).is_proto v.trail v.used m k p f d) count
    (subst (λ (x : ℕ). GrownGets (root_in v.trail o).is_proto v.trail v.used x (count_of v.trail x) p f d) same got.gets)))
    (λ f d got. record {
      map = m;
      has = has;
      gets = subst (λ (x : Bool). GrownGets x v.trail v.used m (count_of v.trail m) p f d) (sym proto) (subst (λ (k : ℕ). GrownGets b v.trail v.used m k p f d) (sym count) got);
    }) it

-- an object becomes a prototype
pub became-gets : (v w : View) (p m : ℕ) → map_in v.trail p ≡ Some m → (root_in v.trail p).is_proto ≡ false → DetailsAre (CopyGets true None v.trail m (count_of v.trail m) v.used.fields) v.trail w.trail → DetailsAre (BecameGets v p) v.trail w.trail
became-gets v w p m has shared it = details-as (CopyGets true None v.trail m (count_of v.trail m) v.used.fields) (BecameGets v p)
    (λ f d got. subst (λ (x : ℕ). CopyGets true None v.trail x (count_of v.trail x) v.used.fields f d) (some-is got.map m (sym got.has ∙ has)) got.gets)
    (λ f d got. record { map = m; has = has; shared = shared; gets = got }) it

-- an object gets another prototype
pub rewalked : (v w x : View) (null then : Option ℕ) (m c n : ℕ) (proto : Option ℕ) → count_of v.trail m ≡ n → (it : HasMapFor (marked_view v m) w null then m c n proto)
    → ((f : ℕ) → detail_in x.trail f ≡ detail_in w.trail f)
    → DeathsAre (IsDoomed (rooted (marked_view v m) null proto it.root) it.found.end it.found.count it.found.stop) v.trail x.trail → IsRewalked v null m proto x.trail
rewalked v w x null then m c n proto count it same deaths =
    let t = rooted (marked_view v m) null proto it.root in
    record {
      root = it.root;
      end = it.found.end;
      count = it.found.count;
      stop = it.found.stop;
      ended = subst (λ (k : ℕ). IsLiveEnd t it.root m k it.found.end it.found.count) (sym count) it.found.ended;
      stopped = it.found.stopped;
      details = subst (λ (k : ℕ). DetailsAre (UpdateGets t it.found.end m it.found.count it.found.stop k v.used.fields) v.trail x.trail) (sym count)
          (details-on (details-from (marked-detail v.trail m) it.found.details) same);
      deaths = deaths;
    }

-- one that is or was a prototype gets another, and one that isn't
pub private-details : (v : View) (kept : List (Option Dictionary)) (null : Option ℕ) (o : ℕ) (proto : Option ℕ) (new : Trail) → (root_in v.trail o).is_proto ≡ true → DetailsAre GetsNothing v.trail new → DeathsAre NoMap v.trail new → LinkedDetails v kept null o proto new
private-details v kept null o proto new is it deaths = record { walked = λ may. absurd (true≢false (sym is ∙ may.shared)); nothing = λ no. it; spares = λ no. deaths }

pub shared-details : (v : View) (kept : List (Option Dictionary)) (null : Option ℕ) (o : ℕ) (proto : Option ℕ) (new : Trail) → kept_of kept o ≡ None → HasSpace v (link_need v.trail o proto null) → (root_in v.trail o).is_proto ≡ false
    → HasRewalked v null o proto new → LinkedDetails v kept null o proto new
shared-details v kept null o proto new fast room shared it = record {
  walked = λ may. it;
  nothing = λ no. absurd (no (record { fast = fast; room = room; shared = shared }));
  spares = λ no. absurd (no (record { fast = fast; room = room; shared = shared }));
}

-- of an object that is fast then, or isn't
pub fast-now : {a b : Trail} (x : Option Cause) (G : ℕ → Detail → Type 0) → x ≡ None → DetailsAre G a b → DetailsAre (IfFast x G) a b
fast-now {a} {b} x G is it = subst (λ (y : Option Cause). DetailsAre (IfFast y G) a b) (sym is) (details-as G (IfFast None G) (λ f d got. got) (λ f d got. got) it)

pub slow-now : {a b : Trail} (x : Option Cause) (G : ℕ → Detail → Type 0) (cause : Cause) → x ≡ Some cause → DetailsAre GetsNothing a b → DetailsAre (IfFast x G) a b
slow-now {a} {b} x G cause is it = subst (λ (y : Option Cause). DetailsAre (IfFast y G) a b) (sym is) (details-as GetsNothing (IfFast (Some cause) G) (λ f d got. absurd got) (λ f d got. absurd got) it)

pub never-now : {a b : Trail} (x : Option Cause) (G : ℕ → Detail → Type 0) → ((f : ℕ) (d : Detail) → G f d → ⊥) → DetailsAre GetsNothing a b → DetailsAre (IfFast x G) a b
never-now None G never it = details-as GetsNothing (IfFast None G) (λ f d got. absurd (never f d got)) (λ f d got. absurd got) it
never-now (Some cause) G never it = details-as GetsNothing (IfFast (Some cause) G) (λ f d got. absurd got) (λ f d got. absurd got) it

pub as-now : {a b : Trail} (x : Option Cause) (G H : ℕ → Detail → Type 0) → ((f : ℕ) (d : Detail) → H f d → G f d) → ((f : ℕ) (d : Detail) → G f d → H f d) → DetailsAre (IfFast x G) a b → DetailsAre (IfFast x H) a b
as-now None G H from into it = details-as (IfFast None G) (IfFast None H) from into it
as-now (Some cause) G H from into it = details-as (IfFast (Some cause) G) (IfFast (Some cause) H) (λ f d got. absurd got) (λ f d got. absurd got) it
