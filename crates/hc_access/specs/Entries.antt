-- What an entry of an inline cache says, and when it may be used.
use Rattle.std.specs.Prelude.{◌≡◌, ℕ, Bool, true, false, ◌&&◌, ◌==◌, Option, Some, None, IsSomeAnd, List, slice_get}
use Rattle.hc_layout.specs.declared.words.CellWord.{CellWord}
use Rattle.hc_value.specs.Attrs.{is_read_only}
use Rattle.hc_value.specs.declared.key.Key.{Key}
use Rattle.hc_value.specs.declared.prop.Kind.TheVariants.{DataProp}
use Rattle.hc_heap.specs.Writes.{Trail}
use Rattle.hc_heap.specs.Readings.{map_in, prototype_in, validity_in}
use Rattle.hc_cells.specs.Cells.{is_valid}
use Rattle.hc_descs.specs.Entries.{IsFirstNamed, IsOpenMap, LacksName, count_of, key_at}
use Rattle.hc_modes.specs.State.{ObjectsState}
use Rattle.hc_plan.specs.declared.case.Op.{Op}
use Rattle.hc_plan.specs.declared.case.Op.TheVariants.{Load, Store}
use Rattle.hc_plan.specs.declared.case.Site.{Site}
use Rattle.hc_sites.specs.State.{cache_at}
use Rattle.hc_sites.specs.declared.cached.Cached.{Cached}
use Rattle.hc_sites.specs.declared.cached.CacheWay.{CacheWay}
use Rattle.hc_sites.specs.declared.cached.CacheWay.TheVariants.{Own, Holder, Absent}
use Rattle.hc_sites.specs.declared.state.SiteState.{SiteState}
use Rattle.hc_access.specs.Spots.{Place, place_from}

-- When an entry may be used

-- there is no cell, or it is valid
abbrev pub is_unbroken : Trail → Option ℕ → Bool
is_unbroken t None = true
is_unbroken t (Some c) = is_valid (validity_in t c)

-- an entry names a map, and its cell, where it has one, is valid
abbrev pub names_map : Trail → Option Cached → Option ℕ → Bool
names_map t (Some entry) (Some m) = (entry.map == m) && is_unbroken t entry.cell
names_map t _ _ = false

-- the inline cache of a site answers for an object: it is fast, and the entry names its map
abbrev pub is_cached : Trail → List SiteState → ℕ → ℕ → Bool
is_cached t sites s o = names_map t (cache_at sites s) (map_in t o)

-- What an entry says

-- a site that stores may store to a property of this key: one with a value, that is writable
abbrev pub AdmitsKey : Op → Option Key → Type 0
AdmitsKey Load key = Unit {0}
AdmitsKey Store (Some key) = (key.kind ≡ DataProp) × (is_read_only key.attrs ≡ false)
AdmitsKey Store None = ⊥

-- the receiver's map has the property at this place. Maps keep their entries, so it is so for good
pub record IsOwn (t : Trail) (site : Site) (m i : ℕ) : Type 0 where
  pub opened : IsOpenMap t m
  pub first : IsFirstNamed t m site.name i
  pub key : AdmitsKey site.op (key_at t m i)

-- the cell is one of this prototype, and as long as it is valid the property is found there on the prototype's chain
pub record IsWatched {P : Type 0} (s : ObjectsState P) (name p : ℕ) (at : Option Place) (word : CellWord) : Type 0 where
  pub object : word.object ≡ p
  pub found : word.invalid ≡ false → place_from s (Some p) name ≡ at

-- behind a map with this prototype the property is found there: with no prototype nowhere, and else while the cell is valid
abbrev pub IsBehind : {P : Type 0} → ObjectsState P → ℕ → Option ℕ → Option ℕ → Option Place → Type 0
IsBehind s name None None at = at ≡ None
IsBehind s name (Some p) (Some c) at = IsSomeAnd (validity_in s.heap.view.trail c) (IsWatched s name p at)
IsBehind s name _ _ at = ⊥

-- the receiver's map lacks the property, which is found there on the chain of its prototype
pub record IsFound {P : Type 0} (s : ObjectsState P) (site : Site) (m : ℕ) (cell : Option ℕ) (at : Option Place) : Type 0 where
  pub loads : site.op ≡ Load
  pub opened : IsOpenMap s.heap.view.trail m
  pub lacks : LacksName s.heap.view.trail m (count_of s.heap.view.trail m) site.name
  pub proto : Option ℕ
  pub prototype : prototype_in s.heap.view.trail m ≡ Some proto
  pub behind : IsBehind s site.name proto cell at

abbrev pub IsGoodWay : {P : Type 0} → ObjectsState P → Site → ℕ → Option ℕ → CacheWay → Type 0
IsGoodWay s site m cell (Own i) = IsOwn s.heap.view.trail site m i
IsGoodWay s site m cell (Holder h i) = IsFound s site m cell (Some (record { holder = h; place = i }))
IsGoodWay s site m cell Absent = IsFound s site m cell None

-- an entry of a site says where full lookup finds the property, for each receiver with its map
abbrev pub IsGoodEntry : {P : Type 0} → ObjectsState P → Site → Cached → Type 0
IsGoodEntry s site entry = IsGoodWay s site entry.map entry.cell entry.way

-- each entry of the sites is such
abbrev pub AreGood : {P : Type 0} → ObjectsState P → List SiteState → Type 0
AreGood s sites = (n : ℕ) (state : SiteState) (entry : Cached) → slice_get sites n ≡ Some state → state.cache ≡ Some entry → IsGoodEntry s state.site entry
