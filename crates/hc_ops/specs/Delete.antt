-- What deleting a property does (ECMA-262, 10.1.10.1, OrdinaryDelete).
use Rattle.std.specs.Prelude.{ℕ, true, false, Option, Some, None, if◌then◌else◌}
use Rattle.hc_table.specs.Attributes.{is_dont_delete}
use Rattle.hc_table.specs.Changes.{Removed}
use Rattle.hc_table.specs.World.{World, props_at}
use Rattle.hc_ops.specs.declared.walk.Found.{Found}
use Rattle.hc_ops.specs.Act.{Act, answers, does}
use Rattle.hc_ops.specs.Found.{found_in}

-- an absent name is deleted already (step 2), a configurable property is removed (step 3), another stays (step 4)
abbrev pub delete_found : ℕ → Option Found → Act
delete_found o None = answers true
delete_found o (Some found) = if is_dont_delete found.property.attrs then answers false else does (Removed o found.place)

abbrev pub delete_act : World → ℕ → ℕ → Act
delete_act w o name = delete_found o (found_in (props_at w o) name)
