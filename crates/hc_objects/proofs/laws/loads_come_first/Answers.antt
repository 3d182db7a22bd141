use Rattle.hc_objects.specs.Laws.{came-before, live-before}
use Rattle.hc_objects.proofs.laws.loads_come_first.Goals as goal

pub returns : goal.returns
returns g c =
    let went = g.P.Pace.went in
    record {
      live = λ a s b o still made. live-before went a s b o still made;
      came = λ a s b did still came. came-before went a s b did still came;
    }
