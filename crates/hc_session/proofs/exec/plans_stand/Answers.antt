use Rattle.std.proofs.Common.{refl}
use Rattle.hc_heap.specs.Frames.{goes-still}
use Rattle.hc_session.proofs.exec.plans_stand.Goals as goal

pub returns : goal.returns
returns g c =
    let a = c.args.objects.now in
    record {
      unbroken = c.quiet_breaks_no_plan.ensures.law a.heap.view.trail a.heap.view a.heap.desk c.args.sites.now c.stands.ensures.sound.heap c.stands.ensures.desk (goes-still a.heap.view.shape c.stands.ensures.sound.heap.lawful) refl c.requires.agree.installed;
    }
