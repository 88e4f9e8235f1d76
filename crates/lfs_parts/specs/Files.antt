-- What a store contains, read off its parts.
use Rattle.std.specs.Prelude.{ℕ, zero, suc, Option, option_map, length}
use Rattle.std.specs.FinMap as map
use Rattle.lfs_types.specs.Tree.{File, Content, content_with, file_of}
use Rattle.lfs_inodes.specs.Attributes.{stat_of}
use Rattle.lfs_inodes.specs.Reading.{Fields}
use Rattle.lfs_bmap.specs.Pieces.{file_bytes}
use Rattle.lfs_bmap.specs.Reading.{Tree, data_block}
use Rattle.lfs_parts.specs.declared.parts.Parts.{Parts}
use Rattle.lfs_parts.specs.View.{record_of, tree_of}

-- the file with a record: its data blocks one behind the other, cut at the size
abbrev pub file_with : Tree → Fields → File
file_with t f = file_of (stat_of f.attributes) (file_bytes (data_block t) f.attributes.size)

-- the file of a number, if the number is in use
unfoldable pub file_at : Parts → ℕ → Option File
file_at p number = option_map (file_with (tree_of p number)) (record_of p number)

-- the files of the numbers below n
unfoldable pub content_below : (ℕ → Option File) → ℕ → Content
content_below files zero = map.empty
content_below files (suc n) = content_with n (files n) (content_below files n)

-- what the parts contain: the file of each number in use
unfoldable pub content_of : Parts → Content
content_of p = content_below (file_at p) (length p.log.tables.rows)
