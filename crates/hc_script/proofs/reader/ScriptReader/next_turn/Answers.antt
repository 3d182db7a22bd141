use Rattle.hc_script.specs.ReaderView.{reader_of}
use Rattle.hc_lines.specs.Fetch.{IsFirstLine}
use Rattle.hc_script.proofs.Taking.{takes_turn, fails_turn}
use Rattle.hc_script.proofs.reader.ScriptReader.next_turn.Given.{Over}
use Rattle.hc_script.proofs.reader.ScriptReader.next_turn.Goals as goal

found : (g : Over) (c : goal.After-take_line g) → IsFirstLine c.self.inside.used c.fetch_line.new.buffer (g.S.Source.left c.fetch_line.new.source) c.in-Ok-Line.n
found g c = rw c.in-Ok-Line.field-0-is at c.in-Ok-Line.ensures.fetched

pub returns-in-Ok-Line-clause-turn : goal.returns-in-Ok-Line-clause-turn
returns-in-Ok-Line-clause-turn g c =
    let e = c.take_line.ensures in
    rw (← c.self.view_is, ← c.in-Ok-Line.ensures.same)
    (takes_turn (reader_of c.self.inside).at c.in-Ok-Line.n c.fetch_line.new.buffer c.take_line.new.self.pending (g.S.Source.left c.fetch_line.new.source) c.take_line.result c.take_line.new.self.at (found g c) e.passed e.asked e.taken e.goes_on)

pub returns-in-Ok-Line-clause-fault : goal.returns-in-Ok-Line-clause-fault
returns-in-Ok-Line-clause-fault g c =
    rw (← c.self.view_is, ← c.in-Ok-Line.ensures.same)
    (fails_turn (reader_of c.self.inside).at c.in-Ok-Line.n c.fetch_line.new.buffer (g.S.Source.left c.fetch_line.new.source) c.take_line.result c.take_line.new.self.at _ (found g c) c.take_line.ensures.refused)
