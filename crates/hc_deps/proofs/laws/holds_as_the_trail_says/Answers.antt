use Rattle.hc_deps.proofs.Telling.{holds-in}
use Rattle.hc_deps.proofs.laws.holds_as_the_trail_says.Goals as goal

pub returns : goal.returns
returns c = record {
  law = holds-in (record {
    say = c.words_say.ensures.law;
    are = c.stores_are_writes.ensures.law;
    now = c.now_is_image.ensures.law;
    within = c.writes_are_within.ensures.law;
    unused = c.unused_says_nothing.ensures.law;
  });
}
