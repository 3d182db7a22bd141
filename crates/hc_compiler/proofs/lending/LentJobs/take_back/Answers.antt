use Rattle.std.proofs.Common.{◌≡◌, ◌<◌, List, false, IfSome, get_or, length, map, take, slice_get, vec_capacity, vec_len, refl, sym, ap, ◌∙◌, subst, arith}
use Rattle.hc_compiler.specs.Jobs.{is_lent}
use Rattle.hc_compiler.specs.Lending.{given_to}
use Rattle.hc_compiler.specs.declared.lending.Lent.{Lent}
use Rattle.hc_compiler.proofs.Handing.{fewer-lending, is-within, site-found, takes-back}
use Rattle.hc_compiler.proofs.lending.LentJobs.take_back.Goals as goal

others : (c : goal.After-remove) → is_lent (map given_to (take c.place_of-place.result c.self.inside.jobs.items)) c.args.number ≡ false
others c = subst (λ (xs : List Lent). is_lent (map given_to (take c.place_of-place.result xs)) c.args.number ≡ false) c.as_slice.ensures.value c.place_of-place.ensures.others

first : (c : goal.After-remove) → IfSome (slice_get c.self.inside.jobs.items c.place_of-place.result) (λ x. x.job ≡ c.args.number)
first c = subst (λ (xs : List Lent). IfSome (slice_get xs c.place_of-place.result) (λ x. x.job ≡ c.args.number)) c.as_slice.ensures.value c.place_of-place.ensures.first

pub invariant_of-self : goal.invariant_of-self
invariant_of-self c =
    fewer-lending c.args.number c.args.self.now c.self.inside.jobs.items c.remove.new.self.items c.place_of-place.result c.self.view_is c.self.invariant.apart (others c) (first c) c.requires.there c.remove.ensures.items
    (vec_capacity c.self.inside.jobs) (vec_capacity c.remove.new.self) c.self.invariant c.remove.ensures.capacity

pub returns-clause-site : goal.returns-clause-site
returns-clause-site c =
    site-found c.args.number c.args.self.now c.self.inside.jobs.items c.remove.new.self.items c.place_of-place.result c.self.view_is c.self.invariant.apart (others c) (first c) c.requires.there c.remove.ensures.items
    c.remove.result c.remove.ensures.value

pub returns-clause-taken : goal.returns-clause-taken
returns-clause-taken c =
    takes-back c.args.number c.args.self.now c.self.inside.jobs.items c.remove.new.self.items c.place_of-place.result c.self.view_is c.self.invariant.apart (others c) (first c) c.requires.there c.remove.ensures.items
