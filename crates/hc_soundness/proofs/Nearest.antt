-- What the words of a moment at rest tell of the nearest property of a name.
use Rattle.std.proofs.Common.{◌≡◌, ℕ, ◌<◌, List, [], ◌∷◌, Option, Some, None, length, sym, ap, ◌∙◌, subst}
use Rattle.hc_value.specs.declared.field.Detail.{Detail}
use Rattle.hc_value.specs.declared.key.Key.{Key}
use Rattle.hc_heap.specs.Lawful.{slot_word}
use Rattle.hc_heap.specs.Kept.{GatesAreOpen, UnusedSaysNothing}
use Rattle.hc_heap.specs.Readings.{prototype_in, map_in}
use Rattle.hc_heap.specs.States.{View}
use Rattle.hc_descs.specs.Entries.{detail_at}
use Rattle.hc_table.specs.World.{Object, World, LeadsToNull, property_of}
use Rattle.hc_slots.specs.Meaning.{proto_of}
use Rattle.hc_ops.specs.Nearest.{nearest}
use Rattle.hc_plan.specs.Chains.{Hop}
use Rattle.hc_soundness.specs.Answers.{holder_of}
use Rattle.hc_soundness.specs.Finding.{Finds, Lacks}
use Rattle.hc_soundness.specs.Meaning.{Dictionary, world}
use Rattle.hc_soundness.specs.Moments.{Now}
use Rattle.hc_soundness.specs.Rest.{IsRest}
use Rattle.hc_soundness.specs.Told.{Leads, ComesToNull, IsHolder}
use Rattle.hc_soundness.proofs.Shown.{prop_with, lacks-property, finds-property, is-there, length-world, shown}
use Rattle.hc_soundness.proofs.Walks.{Walks, walk-still, walk-on, walk-past, nearest-here, nearest-null}

module _ (gates : GatesAreOpen) (unused : UnusedSaysNothing) (v : View) (kept : List (Option Dictionary)) (rest : IsRest v kept) (name : ℕ) where
  abbrev the-world : World
  the-world = world v.trail kept

  -- past an object with a map that lacks the name, to the map's prototype
  past : (o h : ℕ) (next : Option ℕ) → map_in v.trail o ≡ Some h → Lacks v.trail h name → prototype_in v.trail h ≡ Some next → Walks the-world name (Some o) next
  past o h next has lacks proto =
      let is = shown unused v kept rest o h has in
      walk-past the-world name o next
      (ap (λ (x : Object). property_of x.props name) is ∙ lacks-property gates v kept rest o h name lacks)
      (ap (λ (x : Object). x.proto) is ∙ ap proto_of proto)

  leads : (hops : List Hop) (from upto : Option ℕ) → Leads (Now v.trail) v.trail name from hops upto → Walks the-world name from upto
  leads [] from upto h = subst (λ x. Walks the-world name from x) h (walk-still the-world name from)
  leads (hop ∷ hops) from upto h =
      let passes = h.2 in
      let here = past hop.0 hop.1 h.0 passes.has passes.lacks passes.proto in
      walk-on the-world name from h.0 upto (subst (λ x. Walks the-world name x h.0) (sym h.1) here) (leads hops h.0 upto h.3)

  -- the way to the holder, which has the map in which the name is found
  pub to-holder : (m : ℕ) (chain : List Hop) (at : Option ℕ) (h o : ℕ) → IsHolder (Now v.trail) v.trail name m chain at h → map_in v.trail o ≡ Some m
      → Walks the-world name (Some o) (Some (holder_of at o)) × (map_in v.trail (holder_of at o) ≡ Some h)
  to-holder m chain None h o is has = (walk-still the-world name (Some o), has ∙ ap (λ x. Some x) (sym is.1))
  to-holder m chain (Some q) h o is has =
      (walk-on the-world name (Some o) is.proto (Some q) (past o m is.proto has is.lacks is.is_proto) (leads is.before is.proto (Some q) is.leads), is.has)

  from-receiver : (o m : ℕ) → map_in v.trail o ≡ Some m → LeadsToNull (length the-world) the-world (Some o)
  from-receiver o m has = rest.sound.chains o (subst (λ n. o < n) (sym (length-world unused v kept rest)) (is-there unused v kept rest o m has))

  -- the nearest property is the one that the holder's map says
  pub nearest-found : (m : ℕ) (chain : List Hop) (at : Option ℕ) (h k o : ℕ) (key : Key) (d : Detail)
      → IsHolder (Now v.trail) v.trail name m chain at h → Finds v.trail h name k key → detail_at v.trail h k ≡ Some d → map_in v.trail o ≡ Some m
      → nearest the-world o name ≡ Some (record { holder = holder_of at o; property = prop_with key d (slot_word v.trail (holder_of at o) k) })
  nearest-found m chain at h k o key d is finds admits has =
      let way = to-holder m chain at h o is has in
      let walk = way.0 (length the-world) (from-receiver o m has) in
      let it = ap (λ (x : Object). property_of x.props name) (shown unused v kept rest (holder_of at o) h way.1) ∙ finds-property gates v kept rest (holder_of at o) h name k key d finds admits in
      walk.2 ∙ nearest-here the-world name (holder_of at o) (prop_with key d (slot_word v.trail (holder_of at o) k)) it walk.0 walk.1

  -- there is none
  pub nearest-none : (m : ℕ) (chain : List Hop) (o : ℕ) → ComesToNull (Now v.trail) v.trail name m chain → map_in v.trail o ≡ Some m → nearest the-world o name ≡ None
  nearest-none m chain o is has =
      let way = walk-on the-world name (Some o) is.proto None (past o m is.proto has is.lacks is.is_proto) (leads chain is.proto None is.leads) in
      let walk = way (length the-world) (from-receiver o m has) in
      walk.2 ∙ nearest-null the-world name walk.0
