-- What changes of an object as a whole do: its prototype, whether it gets properties, its integrity.
use Rattle.std.specs.Prelude.{ℕ, Bool, true, false, Option, Some, None, if◌then◌else◌, ◌==◌}
use Rattle.hc_table.specs.Changes.{Linked, Locked, Restricted, reaches}
use Rattle.hc_table.specs.World.{World, object}
use Rattle.hc_ops.specs.Act.{Act, answers, does}

-- two prototypes are the same
abbrev pub same_proto : Option ℕ → Option ℕ → Bool
same_proto None None = true
same_proto None (Some b) = false
same_proto (Some a) None = false
same_proto (Some a) (Some b) = a == b

-- ECMA-262, 10.1.2.1, OrdinarySetPrototypeOf: the same prototype (step 2), an object that isn't extensible (step 4), a
-- chain that comes to the object (step 7), and else the change
abbrev pub set_proto_act : World → ℕ → Option ℕ → Act
set_proto_act w o proto =
    if same_proto proto (object w o).proto then answers true
    else (if (object w o).extensible
    then (if reaches w proto o then answers false else does (Linked o proto))
    else answers false)

-- ECMA-262, 10.1.4.1, OrdinaryPreventExtensions
abbrev pub lock_act : World → ℕ → Act
lock_act w o = if (object w o).extensible then does (Locked o) else answers true

-- ECMA-262, 7.3.16, SetIntegrityLevel with sealed, and with frozen
abbrev pub seal_act : ℕ → Act
seal_act o = does (Restricted o false)

abbrev pub freeze_act : ℕ → Act
freeze_act o = does (Restricted o true)
