use Rattle.lfs_known.proofs.name_table.NameTable.new.Goals as goal

pub returns : goal.returns
returns c dir = c.in_ok-whole.ensures dir
