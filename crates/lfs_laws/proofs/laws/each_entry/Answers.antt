use Rattle.lfs_laws.proofs.EachLemmas.{each_entry, opening_sound}
use Rattle.lfs_laws.proofs.laws.each_entry.Goals as goal

pub returns : goal.returns
returns c = record { each = each_entry; opening = opening_sound }
