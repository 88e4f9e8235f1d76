use Rattle.std.proofs.Common.{◌≡◌, take}
use Rattle.std.specs.List.{list_all}
use Rattle.lfs_words.specs.BytesText.{is_hex_digit}
use Rattle.lfs_words.proofs.hex.has_hex_alone.Given as goal

abbrev pub invariant-loop-byte : goal.invariant-loop-byte
invariant-loop-byte l = l.alone ≡ list_all is_hex_digit (take l.byte-index l.bytes)
