use Rattle.hc_lines.proofs.Newline.{found_newline, newline_within, no_newline}
use Rattle.hc_lines.proofs.buffer.first_newline.Goals as goal

pub returns-clause-found : goal.returns-clause-found
returns-clause-found c = found_newline c.args.bytes.now c.memchr.result c.memchr.ensures

pub returns-clause-within : goal.returns-clause-within
returns-clause-within c = newline_within c.args.bytes.now c.memchr.result c.memchr.ensures

pub returns-clause-none : goal.returns-clause-none
returns-clause-none c = no_newline c.args.bytes.now c.memchr.result c.memchr.ensures
