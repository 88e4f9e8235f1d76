use Rattle.std.proofs.Common.{◌≡◌, ◌++◌, drop}
use Rattle.std.specs.List.{flat_map}
use Rattle.lfs_browse.specs.Spelled.{char_text}
use Rattle.lfs_browse.proofs.spelling.push_chars.Given as goal

abbrev pub invariant-loop-byte : goal.invariant-loop-byte
invariant-loop-byte l =
    l.out.items ++ flat_map char_text (drop l.byte-index l.bytes) ≡ l.fn.out.items ++ flat_map char_text l.bytes
