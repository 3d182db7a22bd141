use Rattle.std.proofs.Common.{◌≡◌, Some, is_some, length, map, take, ◌++◌, drop, sym, ap, subst, ◌∙◌, arith, rules}
use Rattle.std.proofs.lemmas.List.{length-map, take_at}
use Rattle.std.proofs.lemmas.Fn.{filter_same}
use Rattle.hc_dict.specs.Dict.{seated, AreCounted, FullCounts}
use Rattle.hc_dict.proofs.Row.{filter-seated, counted-full, seated-few}
use Rattle.hc_dict.proofs.seats.Seats.close.Goals as goal

row_is : (c : goal.After-self-2-1) → c.retain.new.self.items ≡ map Some (seated c.self.inside.row.items)
row_is c = filter_same _ is_some _ (λ x b g k. search rules) _ _ c.retain.ensures.filtered ∙ filter-seated c.self.inside.row.items

pub returns : goal.returns
returns c = row_is c ∙ ap (λ v. map Some (seated v)) c.self.view_is

pub invariant_of-self : goal.invariant_of-self
invariant_of-self c =
    let props = seated c.self.inside.row.items in
    let row = row_is c in
    let as_many : c.len.result ≡ length props = (let e = ap length row in let f = length-map props Some in omega arith) in
    let counts = take_at c.count_full.new.counts (drop (length c.count_full.new.counts) c.self.inside.counts.items) c.self.inside.counts.len (omega arith) in
    let few = seated-few c.self.inside.row.items in
    let covered = c.self.invariant.covered in
    let full = subst (λ n. FullCounts c.count_full.new.counts n) as_many c.count_full.ensures in
    let counted = counted-full props c.count_full.new.counts full (omega arith) in
    subst (λ r. AreCounted r (take c.self.inside.counts.len (c.count_full.new.counts ++ drop (length c.count_full.new.counts) c.self.inside.counts.items)) 0) (sym row)
    (subst (λ n. AreCounted (map Some props) n 0) (sym counts) counted)
