use Rattle.std.proofs.Common.{◌≡◌, map, take}
use Rattle.hc_table.specs.Changes.{Nothing}
use Rattle.hc_table.specs.World.{props_at}
use Rattle.hc_value.specs.declared.prop.Prop.{Prop}
use Rattle.hc_ops.proofs.read.keys.Given as goal

abbrev pub invariant-loop-i : goal.invariant-loop-i
invariant-loop-i g l = record {
  same : g.T.Tables.world l.t ≡ g.T.Tables.world l.fn.t;
  same_limit : g.T.Tables.limit l.t ≡ g.T.Tables.limit l.fn.t;
  still : g.T.Tables.came l.fn.t Nothing l.t;
  names : l.names.items ≡ map (λ (p : Prop). p.name) (take l.i (props_at (g.T.Tables.world l.fn.t) l.fn.o));
}
