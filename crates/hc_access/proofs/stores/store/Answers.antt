use Rattle.hc_ops.specs.Set.{set_act}
use Rattle.hc_objects.specs.Came.{world_of}
use Rattle.hc_access.specs.Entries.{AreGood}
use Rattle.hc_access.proofs.Before.{result-good}
use Rattle.hc_access.proofs.stores.store.Goals as goal

pub returns-clause-good : goal.returns-clause-good
returns-clause-good g c =
    result-good g.P.Pace.went c.args.objects.now c.store_noted-done.new.objects (set_act (world_of c.args.objects.now) c.args.o c.args.name c.args.value).did (AreGood c.store_noted-done.new.objects c.store_noted-done.new.sites) c.store_noted-done.result
    (λ did came. c.entries_stay_good.ensures.law c.args.objects.now c.store_noted-done.new.objects did c.store_noted-done.new.sites c.stands.ensures.sound c.stands-2.ensures.sound c.stands.ensures.cells came c.store_noted-done.ensures.good)
    c.store_noted-done.ensures.came c.store_noted-done.ensures.moved
