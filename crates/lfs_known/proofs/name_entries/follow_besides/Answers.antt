use Rattle.lfs_known.proofs.EntryLemmas.{placed_besides}
use Rattle.lfs_known.proofs.name_entries.follow_besides.Goals as goal

pub returns : goal.returns
returns c t was besides =
    placed_besides c.args.table.now c.enter_name.new.self.spots.items c.enter_name.new.self.whole
    c.follow_sizes.new.whole t _ c.args.dir c.args.name.now c.args.k c.enter_name.ensures.whole c.enter_name.ensures.keeps
    c.enter_name.ensures.entered (c.follow_sizes.ensures.sized t) c.follow_sizes.ensures.fewer was besides
