use Rattle.std.proofs.Common.{◌≡◌, ◌*◌, take, length}
use Rattle.lfs_words.specs.BytesText.{hex_text}
use Rattle.lfs_words.proofs.append.write_hex.Given as goal

abbrev pub invariant-loop-place : goal.invariant-loop-place
invariant-loop-place l = record {
  room : length l.digits ≡ 2 * length l.fn.bytes;
  written : take (2 * l.place) l.digits ≡ hex_text (take l.place l.fn.bytes);
}
