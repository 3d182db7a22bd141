-- Trails that go on: what the writes of one class leave as it was, and how such runs follow one another.
use Rattle.std.specs.Prelude.{◌≡◌, List, [], ◌∷◌, ◌++◌}
use Rattle.std.proofs.Common.{refl, sym, ap, ◌∙◌, append_assoc, append-nil, subst}
use Rattle.std.proofs.Math.Nat.{le_trans, le_refl}
use Rattle.hc_board.specs.States.{WriterState}
use Rattle.hc_layout.specs.declared.shape.Shape.{Shape}
use Rattle.hc_heap.specs.Writes.{Write, Trail}
use Rattle.hc_heap.specs.Lawful.{Lawful}
use Rattle.hc_heap.specs.Kept.{AllMeet, Adds, GoesOn}
use Rattle.hc_heap.specs.States.{Extends, Goes}

-- nothing was added
pub adds-none : {P : Trail → Write → Type 0} (t : Trail) → Adds P t t
unfolding AllMeet
adds-none t = record { more = []; is = refl; meets = tt }

-- one write was added
pub adds-one : {P : Trail → Write → Type 0} (t : Trail) (w : Write) → P t w → Adds P t (w ∷ t)
unfolding AllMeet
adds-one t w p = record { more = w ∷ []; is = refl; meets = (tt, p) }

meet-on : (P : Trail → Write → Type 0) (old : Trail) (first second : List Write) → AllMeet P old first → AllMeet P (first ++ old) second → AllMeet P old (second ++ first)
unfolding AllMeet
meet-on P old first [] a b = a
meet-on P old first (w ∷ second) a b = (meet-on P old first second a b.0, subst (λ (t : Trail). P t w) (sym (append_assoc second first old)) b.1)

-- writes were added, and then others
pub adds-on : {P : Trail → Write → Type 0} {a b c : Trail} → Adds P a b → Adds P b c → Adds P a c
adds-on {P} {a} {b} {c} x y = record {
  more = y.more ++ x.more;
  is = y.is ∙ (ap (λ (t : Trail). y.more ++ t) x.is ∙ sym (append_assoc y.more x.more a));
  meets = meet-on P a x.more y.more x.meets (subst (λ (t : Trail). AllMeet P t y.more) x.is y.meets);
}

wider-meet : (P Q : Trail → Write → Type 0) → ((t : Trail) (w : Write) → P t w → Q t w) → (old : Trail) (more : List Write) → AllMeet P old more → AllMeet Q old more
unfolding AllMeet
wider-meet P Q h old [] a = tt
wider-meet P Q h old (w ∷ more) a = (wider-meet P Q h old more a.0, h (more ++ old) w a.1)

-- writes of a class are writes of a wider one
pub adds-wider : {P Q : Trail → Write → Type 0} {a b : Trail} → ((t : Trail) (w : Write) → P t w → Q t w) → Adds P a b → Adds Q a b
adds-wider {P} {Q} {a} h x = record { more = x.more; is = x.is; meets = wider-meet P Q h a x.more x.meets }

same-over : {T : Type 0} (P : Trail → Write → Type 0) (reading : Trail → T) → ((t : Trail) (w : Write) → P t w → reading (w ∷ t) ≡ reading t) → (old : Trail) (more : List Write) → AllMeet P old more → reading (more ++ old) ≡ reading old
unfolding AllMeet
same-over P reading h old [] a = refl
same-over P reading h old (w ∷ more) a = h (more ++ old) w a.1 ∙ same-over P reading h old more a.0

-- a reading that no write of a class changes is the same after such writes
pub same-after : {T : Type 0} {P : Trail → Write → Type 0} (reading : Trail → T) → ((t : Trail) (w : Write) → P t w → reading (w ∷ t) ≡ reading t) → {a b : Trail} → Adds P a b → reading b ≡ reading a
same-after {T} {P} reading h {a} {b} x = ap reading x.is ∙ same-over P reading h a x.more x.meets

-- a lawful trail with more writes goes on
pub goes-on-of : {P : Trail → Write → Type 0} {a b : Trail} (s : Shape) → Adds P a b → Lawful s b → GoesOn s a b
goes-on-of s x h = record { more = x.more; is = x.is; lawful = h }

-- a lawful trail goes on from itself
pub goes-still : {t : Trail} (s : Shape) → Lawful s t → GoesOn s t t
goes-still s h = record { more = []; is = refl; lawful = h }

-- a trail goes on, and on
pub goes-further : {a b c : Trail} (s : Shape) → GoesOn s a b → GoesOn s b c → GoesOn s a c
goes-further {a} s x y = record { more = y.more ++ x.more; is = y.is ∙ (ap (λ (t : Trail). y.more ++ t) x.is ∙ sym (append_assoc y.more x.more a)); lawful = y.lawful }

lawful-front : (s : Shape) (a : Trail) (more : List Write) → Lawful s (more ++ a) → Lawful s a
unfolding Lawful
lawful-front s a [] h = h
lawful-front s a (w ∷ more) h = lawful-front s a more h.0

-- a trail from which a lawful one goes on is lawful
pub lawful-before : {a b : Trail} (s : Shape) → GoesOn s a b → Lawful s a
lawful-before {a} s g = lawful-front s a g.more (subst (Lawful s) g.is g.lawful)

-- a list goes on from itself
pub extends-none : {T : Type 0} (a : List T) → Extends a a
extends-none a = record { more = []; is = sym (append-nil a) }

pub extends-on : {T : Type 0} {a b c : List T} → Extends a b → Extends b c → Extends a c
extends-on {a} {b} {c} x y = record { more = x.more ++ y.more; is = y.is ∙ (ap (λ t. t ++ y.more) x.is ∙ append_assoc a x.more y.more) }

-- the writer stands still
pub goes-none : (a : WriterState) → Goes a a
goes-none a = record { board = refl; trail = extends-none a.trail; loads = le_refl a.loads; met = extends-none a.met }

-- the writer goes on, and on
pub goes-on : (a b c : WriterState) → Goes a b → Goes b c → Goes a c
goes-on a b c x y = record { board = y.board ∙ x.board; trail = extends-on x.trail y.trail; loads = le_trans x.loads y.loads; met = extends-on x.met y.met }
