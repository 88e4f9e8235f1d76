-- The log of a store as its keys see it.
use Rattle.lfs_log.specs.Parts.{record_place}
use Rattle.lfs_log.specs.Parts as log
use Rattle.lfs_bmap.specs.Log.{LogState}
use Rattle.lfs_bmap.specs.Reading.{places}
use Rattle.lfs_parts.specs.declared.parts.Parts.{Parts}
use Rattle.lfs_parts.specs.View.{tree_of}

-- the log that the parts keep: a record's place is the one in the inode map, another block's stands in its file
abbrev pub log_state : Parts → LogState
log_state p = log.log_state p.log (places (record_place p.log.tables) (tree_of p))
