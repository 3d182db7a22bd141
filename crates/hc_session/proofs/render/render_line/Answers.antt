use Rattle.std.proofs.Common.{sym}
use Rattle.hc_session.proofs.Rendered.{line_behind}
use Rattle.hc_session.proofs.render.render_line.Goals as goal

pub returns : goal.returns
returns c = record { ok = line_behind c.args.log.now.lines c.args.i c.in-Some.entry.now c.args.out.now.items c.render_log.new.out.items (sym c.in-Some.ensures) c.in_ok-render_log.ensures.ok }
