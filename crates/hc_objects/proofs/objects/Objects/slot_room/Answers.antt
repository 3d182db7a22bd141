use Rattle.std.proofs.Common.{arith, ◌≤◌}
use Rattle.hc_layout.specs.declared.shape.Region.TheVariants.{Slots}
use Rattle.hc_objects.proofs.objects.Objects.slot_room.Goals as goal

pub overflow_sub-result : goal.overflow_sub-result
overflow_sub-result g c =
    let most : c.args.self.now.heap.view.used.slots ≤ c.args.self.now.heap.view.shape.slots = c.stands.ensures.sound.heap.most Slots in
    grind (arith, most, c.used.ensures, c.requires.shape)
