-- What the words tell of a case of a plan. A word that is written once is one of the trail `t`; a word that may still change is
-- known as `Saw` says, which is that of the trail itself, or that it was so at some moment.
use Rattle.std.specs.Prelude.{◌≡◌, ◌⊎◌, ℕ, ◌+◌, ◌≤◌, true, false, Option, Some, None, IsSome, IsSomeAnd, List, [], ◌∷◌, ◌++◌, length}
use Rattle.hc_layout.specs.declared.words.GateWord.{GateWord}
use Rattle.hc_value.specs.declared.key.Key.{Key}
use Rattle.hc_value.specs.declared.field.Rep.{Rep}
use Rattle.hc_value.specs.declared.field.Constness.TheVariants.{Const, Mutable}
use Rattle.hc_value.specs.declared.field.Class.{Class}
use Rattle.hc_value.specs.declared.field.Detail.{Detail}
use Rattle.hc_heap.specs.Writes.{Trail}
use Rattle.hc_heap.specs.Readings.{gate_in, prototype_in, bits_in, detail_in, map_in, store_in, slot_in}
use Rattle.hc_descs.specs.Entries.{field_at}
use Rattle.hc_links.specs.Chains.{child_of}
use Rattle.hc_plan.specs.Chains.{Hop}
use Rattle.hc_plan.specs.declared.case.Case.{Case}
use Rattle.hc_plan.specs.declared.case.Op.{Op}
use Rattle.hc_plan.specs.declared.case.Op.TheVariants.{Load, Store}
use Rattle.hc_plan.specs.declared.case.Way.{Way}
use Rattle.hc_plan.specs.declared.case.Way.TheVariants.{Own, Holder, Constant, Absent, Getter, StoreOwn, Add, Setter, Reject}
use Rattle.hc_plan.specs.declared.lists.TheConstants.{MAX_CHAIN}
use Rattle.hc_soundness.specs.Finding.{Finds, Lacks, IsDatum, IsWritable, IsReadOnly, IsAccessor, added_key}

-- What is asked of a field's detail

abbrev pub IsOfRep : Rep → Detail → Type 0
IsOfRep rep d = d.rep ≡ rep

-- a field that has had more than its first values
pub record IsMutable (rep : Rep) (d : Detail) : Type 0 where
  pub of_rep : d.rep ≡ rep
  pub mutable : d.constness ≡ Mutable

-- a field that has only ever had its first values
pub record IsConstant (rep : Rep) (d : Detail) : Type 0 where
  pub of_rep : d.rep ≡ rep
  pub constant : d.constness ≡ Const

-- a field to which a plan stores
pub record IsStored (rep : Rep) (its_class : Class) (d : Detail) : Type 0 where
  pub of_rep : d.rep ≡ rep
  pub mutable : d.constness ≡ Mutable
  pub class : d.class ≡ its_class

-- the field of a property that a plan adds
pub record IsAdded (rep : Rep) (its_class : Class) (d : Detail) : Type 0 where
  pub of_rep : d.rep ≡ rep
  pub class : d.class ≡ its_class

module _ (Saw : (Trail → Type 0) → Type 0) (t : Trail) where
  -- Prototypes

  -- an object has this map
  abbrev pub HasMapWord : Hop → Type 0
  HasMapWord hop = Saw (λ s. map_in s hop.0 ≡ Some hop.1)

  -- an object is passed on the way to the next prototype: its map lacks the name
  pub record Passes (name : ℕ) (hop : Hop) (next : Option ℕ) : Type 0 where
    pub has : HasMapWord hop
    pub lacks : Lacks t hop.1 name
    pub proto : prototype_in t hop.1 ≡ Some next

  -- the prototypes lead past these objects, from one to another
  abbrev pub Leads : ℕ → Option ℕ → List Hop → Option ℕ → Type 0
  Leads name from [] upto = from ≡ upto
  Leads name from (hop ∷ hops) upto = (next : Option ℕ) × (from ≡ Some hop.0) × Passes name hop next × Leads name next hops upto

  -- past a map without the name, and the chain but for its last object, the prototypes lead to that object
  pub record ComesTo (name m : ℕ) (chain : List Hop) (o h : ℕ) : Type 0 where
    pub lacks : Lacks t m name
    pub proto : Option ℕ
    pub is_proto : prototype_in t m ≡ Some proto
    pub before : List Hop
    pub is : chain ≡ before ++ (o, h) ∷ []
    pub leads : Leads name proto before (Some o)
    pub has : HasMapWord (o, h)

  -- past a map without the name, and the chain, the prototypes lead to null
  pub record ComesToNull (name m : ℕ) (chain : List Hop) : Type 0 where
    pub lacks : Lacks t m name
    pub proto : Option ℕ
    pub is_proto : prototype_in t m ≡ Some proto
    pub leads : Leads name proto chain None

  -- the receiver itself, or an object of its chain, has the map in which the name is found
  abbrev pub IsHolder : ℕ → ℕ → List Hop → Option ℕ → ℕ → Type 0
  IsHolder name m chain None h = (chain ≡ []) × (h ≡ m)
  IsHolder name m chain (Some o) h = ComesTo name m chain o h

  -- Properties

  -- the nearest property of the name is the k-th of the receiver or of an object of the chain, and its key is such a one
  pub record HasProperty (IsSuch : Key → Type 0) (name m : ℕ) (chain : List Hop) (at : Option ℕ) (k : ℕ) : Type 0 where
    pub map : ℕ
    pub key : Key
    pub holder : IsHolder name m chain at map
    pub finds : Finds t map name k key
    pub such : IsSuch key

  -- the same, and its field admits so much
  pub record HasField (IsSuch : Key → Type 0) (Admits : Detail → Type 0) (name m : ℕ) (chain : List Hop) (at : Option ℕ) (k f : ℕ) : Type 0 where
    pub map : ℕ
    pub key : Key
    pub holder : IsHolder name m chain at map
    pub finds : Finds t map name k key
    pub such : IsSuch key
    pub field : field_at t map k ≡ Some f
    pub admits : Saw (λ s. IsSomeAnd (detail_in s f) Admits)

  -- an object's store begins with this slot, and its k-th slot has this word
  pub record HoldsWord (o k w : ℕ) : Type 0 where
    pub first : ℕ
    pub begins : Saw (λ s. (store_in s o).first ≡ Some first)
    pub word : Saw (λ s. slot_in s (first + k) ≡ w)

  -- a constant of an object of the chain
  pub record HasConstant (name m : ℕ) (chain : List Hop) (o k f : ℕ) (rep : Rep) (w : ℕ) : Type 0 where
    pub field : HasField IsDatum (IsConstant rep) name m chain (Some o) k f
    pub holds : HoldsWord o k w

  -- What a store meets

  -- the nearest property of the name is data of an object of the chain, which a new property may hide
  pub record Hides (name m : ℕ) (chain : List Hop) : Type 0 where
    pub object : ℕ
    pub place : ℕ
    pub hidden : HasProperty IsWritable name m chain (Some object) place

  -- nothing keeps a store from adding the property, but for the map's own lock
  abbrev pub IsOpenTo : ℕ → ℕ → List Hop → Type 0
  IsOpenTo name m chain = ComesToNull name m chain ⊎ Hides name m chain

  -- a map's newest child for the property that a store adds, and that child's last field
  pub record HasChild (name m child k f : ℕ) (Admits : Detail → Type 0) : Type 0 where
    pub newest : Saw (λ s. child_of s m (added_key name) ≡ Some child)
    pub live : Saw (λ s. (bits_in s child).deprecated ≡ false)
    pub gate : GateWord
    pub is_open : gate_in t child ≡ Some gate
    pub last : k + 1 ≡ gate.entries
    pub field : field_at t child k ≡ Some f
    pub admits : Saw (λ s. IsSomeAnd (detail_in s f) Admits)

  -- a store adds the property, by a move to a child of the map
  pub record AddsBy (name m : ℕ) (chain : List Hop) (child k f : ℕ) (Admits : Detail → Type 0) : Type 0 where
    pub gate : GateWord
    pub is_open : gate_in t m ≡ Some gate
    pub unlocked : gate.is_locked ≡ false
    pub shared : gate.is_private ≡ false
    pub nothing : IsOpenTo name m chain
    pub grows : HasChild name m child k f Admits

  -- the nearest property of the name may only be read
  pub record IsOnlyRead (name m : ℕ) (chain : List Hop) : Type 0 where
    pub at : Option ℕ
    pub place : ℕ
    pub property : HasProperty IsReadOnly name m chain at place

  -- the property would be added, and the map is locked
  pub record IsLockedFor (name m : ℕ) (chain : List Hop) : Type 0 where
    pub gate : GateWord
    pub is_open : gate_in t m ≡ Some gate
    pub locked : gate.is_locked ≡ true
    pub nothing : IsOpenTo name m chain

  -- Cases

  -- an operation on the name answers so for the receivers of a map
  abbrev pub ToldWay : Op → ℕ → ℕ → List Hop → Way → Type 0
  ToldWay Load name m chain (Own k f rep) = HasField IsDatum (IsOfRep rep) name m chain None k f
  ToldWay Load name m chain (Holder o k f rep) = HasField IsDatum (IsMutable rep) name m chain (Some o) k f
  ToldWay Load name m chain (Constant o k f rep w) = HasConstant name m chain o k f rep w
  ToldWay Load name m chain Absent = ComesToNull name m chain
  ToldWay Load name m chain (Getter at k) = HasProperty IsAccessor name m chain at k
  ToldWay Store name m chain (StoreOwn k f rep class) = HasField IsWritable (IsStored rep class) name m chain None k f
  ToldWay Store name m chain (Add child k f rep class) = AddsBy name m chain child k f (IsAdded rep class)
  ToldWay Store name m chain (Setter at k) = HasProperty IsAccessor name m chain at k
  ToldWay Store name m chain Reject = IsOnlyRead name m chain ⊎ IsLockedFor name m chain
  ToldWay _ name m chain _ = ⊥

  -- a case of an operation on the name is told: its map is open and not deprecated, its chain is short enough, and its way is so
  pub record IsTold (op : Op) (name : ℕ) (case : Case) : Type 0 where
    pub live : Saw (λ s. (bits_in s case.map).deprecated ≡ false)
    pub open_map : IsSome (gate_in t case.map)
    pub short : length case.chain ≤ MAX_CHAIN
    pub way : ToldWay op name case.map case.chain case.way
