use Rattle.hc_objects.proofs.Going.{gone-came, gone-cells, gone-live, gone-on, gone-once, gone-still}
use Rattle.hc_objects.proofs.laws.operations_go_on.Goals as goal

pub returns : goal.returns
returns g c =
    let constants = c.constants_stay_on.ensures.law in
    let went = g.P.Pace.went in
    record {
      law = λ a b did lawful came. gone-came went constants a b did came lawful;
      live = λ a b o lawful made. gone-live went constants a b o made lawful;
      moves = λ a b lawful once. gone-once went constants a b once lawful;
      cells = λ a b only. gone-cells went a b only;
      still = λ a b lawful still. gone-still a b still lawful;
      onward = λ a b c x y. gone-on constants a b c x y;
    }
