-- How many looks a seeker makes at most, from each look on: far more than it ever does, but fewer after each look.
use Rattle.std.specs.Prelude.{ℕ, ◌+◌, ◌*◌, List, sum_by}
use Rattle.hc_planner.specs.declared.at.At.{At}
use Rattle.hc_planner.specs.declared.at.At.TheVariants.{Map, Chain, Field, Link, Ended, Stopped}
use Rattle.hc_planner.specs.declared.at.Searched.{Searched}
use Rattle.hc_planner.specs.declared.at.Searched.TheVariants.{Own, Holder}
use Rattle.hc_planner.specs.declared.at.MapLook.{MapLook}
use Rattle.hc_planner.specs.declared.at.MapLook.TheVariants.{Bits, Gate, Proto, Base, Key}
use Rattle.hc_planner.specs.declared.at.ChainLook.{ChainLook}
use Rattle.hc_planner.specs.declared.at.ChainLook.TheVariants.{Object, Gate as HolderGate, Proto as HolderProto}
use Rattle.hc_planner.specs.declared.at.FieldLook.{FieldLook}
use Rattle.hc_planner.specs.declared.at.FieldLook.TheVariants.{Reference, Detail as FieldDetail, Store, Slot}
use Rattle.hc_planner.specs.declared.at.LinkLook.{LinkLook}
use Rattle.hc_planner.specs.declared.at.LinkLook.TheVariants.{Head, Key as LinkKey, Next, Child, Bits as ChildBits, Gate as ChildGate, Base as ChildBase, Reference as ChildReference}
use Rattle.hc_planner.specs.declared.seeker.Seeker.{Seeker}

-- after a property was found, or none: at most as many links as there are numbers
abbrev pub tail_left : ℕ
tail_left = 8589934605

-- after a prototype, where so many objects may follow: of each three words, and as many entries as there are numbers
abbrev pub walk_left : ℕ → ℕ
walk_left left = left * 12884901904 + tail_left

abbrev pub missing_left : Searched → ℕ
missing_left Own = 1 + walk_left 16
missing_left (Holder object proto left) = walk_left left

abbrev pub search_left : Searched → ℕ → ℕ
search_left searched entries = entries + missing_left searched + tail_left

abbrev pub map_left : MapLook → ℕ
map_left Bits = 4294967298 + search_left Own 0
map_left Gate = 4294967297 + search_left Own 0
map_left Proto = 1 + walk_left 16
map_left (Base searched holder entries) = 1 + search_left searched entries
map_left (Key searched first entry left) = 1 + search_left searched left

abbrev pub chain_left : ChainLook → ℕ
chain_left (Object object left) = 4294967299 + walk_left left + tail_left
chain_left (HolderGate object holder left) = 4294967298 + walk_left left + tail_left
chain_left (HolderProto object holder entries left) = 2 + entries + walk_left left + tail_left

abbrev pub field_left : FieldLook → ℕ
field_left (Reference purpose entry) = 4
field_left (FieldDetail purpose field) = 3
field_left (Store object slot field rep) = 2
field_left (Slot object slot field rep start) = 1

-- from a link on, after which so many may follow
abbrev pub links_left : ℕ → ℕ
links_left left = 8 + left * 2

abbrev pub link_left : LinkLook → ℕ
link_left Head = tail_left
link_left (LinkKey link left) = 2 + links_left left
link_left (Next link left) = 1 + links_left left
link_left (Child link) = 8
link_left (ChildBits child) = 7
link_left (ChildGate child) = 6
link_left (ChildBase child slot) = 5
link_left (ChildReference child slot first) = 4

abbrev pub left_at : At → ℕ
left_at (Map look) = map_left look
left_at (Chain look) = chain_left look
left_at (Field look) = field_left look
left_at (Link look) = link_left look
left_at (Ended answer) = 0
left_at Stopped = 0

-- how many looks seekers make at most
abbrev pub left_of : List Seeker → ℕ
left_of seekers = sum_by (λ x. left_at x.at) seekers
