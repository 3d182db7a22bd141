use Rattle.std.proofs.Common.{arith}
use Rattle.hc_layout.proofs.Fields.{put_is}
use Rattle.hc_layout.proofs.bits.Bits.put.Goals as goal

pub overflow_add-result : goal.overflow_add-result
overflow_add-result g c =
    omega (arith, (put_is g.row.SHIFT g.row.WIDTH c.args.w c.args.v c.get.result c.get.ensures.value c.requires.ends c.ranges.w.fits c.requires.fits).fits)

pub returns-clause-gives : goal.returns-clause-gives
returns-clause-gives g c =
    (put_is g.row.SHIFT g.row.WIDTH c.args.w c.args.v c.get.result c.get.ensures.value c.requires.ends c.ranges.w.fits c.requires.fits).gives

pub returns-clause-stays : goal.returns-clause-stays
returns-clause-stays g c =
    (put_is g.row.SHIFT g.row.WIDTH c.args.w c.args.v c.get.result c.get.ensures.value c.requires.ends c.ranges.w.fits c.requires.fits).stays

pub returns-clause-exact : goal.returns-clause-exact
returns-clause-exact g c =
    (put_is g.row.SHIFT g.row.WIDTH c.args.w c.args.v c.get.result c.get.ensures.value c.requires.ends c.ranges.w.fits c.requires.fits).exact
