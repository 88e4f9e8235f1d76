use Rattle.lfs_rescue.proofs.telling.lost_line.Goals as goal

pub returns : goal.returns
returns c = record {
  none = c.requires.none c.requires.other;
  fault = c.args.fault;
  is = c.requires.is;
  other = c.requires.other;
  told = c.in_ok-line.ensures;
}
