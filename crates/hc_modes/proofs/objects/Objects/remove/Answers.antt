use Rattle.std.proofs.Common.{◌≡◌, ◌+◌, false, None, length, sym, subst}
use Rattle.hc_heap.specs.Readings.{root_in}
use Rattle.hc_table.specs.Changes.{Removed}
use Rattle.hc_table.specs.World.{props_at}
use Rattle.hc_modes.specs.Came.{world_of}
use Rattle.hc_modes.specs.Meaning.{kept_of}
use Rattle.hc_modes.specs.State.{ObjectsState}
use Rattle.hc_modes.proofs.Altering.{fast-made}
use Rattle.hc_modes.proofs.Shrinking.{shrunk-one}
use Rattle.hc_modes.specs.Laws.{made-before}
use Rattle.hc_modes.proofs.objects.Objects.remove.Goals as goal

pub returns-then-is_last-clause-did : goal.returns-then-is_last-clause-did
returns-then-is_last-clause-did g c =
    let a = c.args.self.now in
    let b = c.is_last.new.self in
    let d = c.remove_last.new.self in
    let o = c.args.o in
    let i = c.args.i in
    let still = c.is_last.ensures.still in
    let fast : kept_of b.kept o ≡ None = subst (λ (s : ObjectsState g.row.P.Denot). kept_of s.kept c.args.o ≡ None) (sym still.is) (c.is_slow.ensures.fast c.if-is_slow.false) in
    let shared : (root_in b.heap.view.trail o).is_proto ≡ false = subst (λ (s : ObjectsState g.row.P.Denot). (root_in s.heap.view.trail c.args.o).is_proto ≡ false) (sym still.is) (c.is_last.ensures.shared c.if-is_last.true) in
    let last : length (props_at (world_of b) o) ≡ i + 1 = subst (λ (s : ObjectsState g.row.P.Denot). length (props_at (world_of s) c.args.o) ≡ c.args.i + 1) (sym still.is) (c.is_last.ensures.last c.if-is_last.true) in
    made-before g.P.Pace.went a b d (Removed o i) still
    (fast-made g.P.Pace.went b d (Removed o i) (c.remove_last.ensures.steps i last) c.remove_last.ensures.used c.remove_last.ensures.protos c.remove_last.ensures.marks c.remove_last.ensures.details (shrunk-one b d o i fast c.remove_last.ensures.kept shared last))
