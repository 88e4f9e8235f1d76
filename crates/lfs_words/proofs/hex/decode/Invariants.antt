use Rattle.std.proofs.Common.{◌≡◌, ◌*◌, take, length}
use Rattle.lfs_words.specs.BytesText.{hex_text, hex_bytes}
use Rattle.lfs_words.proofs.hex.decode.Given as goal

abbrev pub invariant-loop-place : goal.invariant-loop-place
invariant-loop-place l = record {
  room : 2 * length l.bytes ≡ length l.fn.digits;
  spelled : hex_text (take l.place l.bytes) ≡ take (2 * l.place) l.fn.digits;
  read : hex_bytes (hex_text (take l.place l.bytes)) ≡ take l.place l.bytes;
}
