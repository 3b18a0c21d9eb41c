-- `both::sweep_both` meets its contract: what both footprints share, and what each has alone, is the one whole and then the other, by `both_is`. Assumes nothing.
use Rattle.both.proofs.Laws.{shares, both_is}
use Rattle.both.proofs.sweep_both.Goals as goal

pub share_rows-requires-clause-shares : goal.share_rows-requires-clause-shares
share_rows-requires-clause-shares c =
    rw (c.alone-one.ensures, c.alone-two.ensures, c.common-common.ensures, c.footprint-f.ensures, c.footprint-g.ensures) (shares c.args.b.cut.kernel c.args.b.cut.window c.args.m c.args.n c.requires.twins)

pub returns : goal.returns
returns c =
    let b = c.args.b in
    rw (c.sweep_rows-2.ensures, c.sweep_rows.ensures, c.share_rows.ensures, c.alone-one.ensures, c.alone-two.ensures, c.common-common.ensures, c.footprint-f.ensures, c.footprint-g.ensures)
    (both_is b.channels b.cpp.now b.cut.kernel b.cut.window c.args.m c.args.n c.requires.twins c.args.cpe.now c.requires.cpe_len)
