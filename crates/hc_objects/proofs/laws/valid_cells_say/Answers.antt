use Rattle.hc_modes.specs.State.{IsObjects, ObjectsState}
use Rattle.hc_objects.proofs.Saying.{says-still}
use Rattle.hc_objects.proofs.Told.{Told}
use Rattle.hc_objects.proofs.laws.valid_cells_say.Goals as goal

pub returns : goal.returns
returns g c =
    let tell = λ (s : ObjectsState g.row.P.Denot) (sound : IsObjects s.heap.view s.kept s.of_null). let t : Told s = record { proto = λ q. c.chains_are_told.ensures.protos s q sound; ends = c.chains_are_told.ensures.ends s sound } in t in
    record { law = λ a b did k was sound came e. says-still g.P.Pace.went tell a b did k was sound came e }
