use Rattle.std.proofs.Common.{sym, ◌∙◌}
use Rattle.hc_commands.proofs.Fills.{fills_value, fills_writable, fills_getter, fills_setter, fills_enumerable, fills_configurable}
use Rattle.hc_commands.proofs.definition.Definition.fills.Goals as goal
use Rattle.hc_commands.proofs.definition.Definition.fills.Goals.{in-Value, in-Writable, in-Getter, in-Setter, in-Enumerable, in-Configurable}

pub returns-clause-filled : goal.returns-clause-filled
returns-clause-filled c = λ some.
    let given = sym c.gives.ensures ∙ some in
    elim c.match-key.branch [
      | in-Value w ↦ rw (w.in-Value.is, w.self-is) (fills_value c.args.self.now w.written_value-self.result c.args.word.now w.written_value-self.ensures.value w.written_value-self.ensures.word (rw (w.in-Value.is, w.self-is) at given))
      | in-Writable w ↦ rw (w.in-Writable.is, w.self-is) (fills_writable c.args.self.now w.written_boolean-self.result c.args.word.now w.written_boolean-self.ensures.word (rw (w.in-Writable.is, w.self-is) at given))
      | in-Getter w ↦ rw (w.in-Getter.is, w.self-is) (fills_getter c.args.self.now w.written_accessor-self.result c.args.word.now w.written_accessor-self.ensures.accessor w.written_accessor-self.ensures.word (rw (w.in-Getter.is, w.self-is) at given))
      | in-Setter w ↦ rw (w.in-Setter.is, w.self-is) (fills_setter c.args.self.now w.written_accessor-self-in-Setter.result c.args.word.now w.written_accessor-self-in-Setter.ensures.accessor w.written_accessor-self-in-Setter.ensures.word (rw (w.in-Setter.is, w.self-is) at given))
      | in-Enumerable w ↦ rw (w.in-Enumerable.is, w.self-is) (fills_enumerable c.args.self.now w.written_boolean-self-in-Enumerable.result c.args.word.now w.written_boolean-self-in-Enumerable.ensures.word (rw (w.in-Enumerable.is, w.self-is) at given))
      | in-Configurable w ↦ rw (w.in-Configurable.is, w.self-is) (fills_configurable c.args.self.now w.written_boolean-self-in-Configurable.result c.args.word.now w.written_boolean-self-in-Configurable.ensures.word (rw (w.in-Configurable.is, w.self-is) at given))
    ]
