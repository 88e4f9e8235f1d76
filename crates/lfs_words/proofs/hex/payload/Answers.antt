use Rattle.std.proofs.Common.{◌≡◌, ◌≤◌, ◌∙◌, true, false, ap, sym, length, arith}
use Rattle.lfs_words.specs.BytesText.{hex_bytes, is_dash, is_hex}
use Rattle.lfs_words.proofs.HexDigits.{bytes_read, length-hex_text}
use Rattle.lfs_words.proofs.hex.payload.Goals as goal

pub payload_of-requires-2 : goal.payload_of-requires-2
payload_of-requires-2 c = omega (
  arith,
  length-hex_text c.in_ok-bytes.bytes.items,
  ap length c.in_ok-bytes.ensures.spelled,
)

pub returns : goal.returns
returns c =
    let same = c.as_bytes-digits.ensures.value in
    let dash : is_dash c.args.word.now ≡ false = ap is_dash (sym same) ∙ sym c.is_dash.ensures ∙ c.if-is_dash.false in
    let hex : is_hex c.args.word.now ≡ true = ap is_hex (sym same) ∙ sym c.is_hex.ensures ∙ c.if-not-is_hex.false in
    let few : length c.args.word.now ≤ 8192 = omega (arith, ap length same) in
    let read : hex_bytes c.args.word.now ≡ c.in_ok-bytes.bytes.items = ap hex_bytes (sym same)
    ∙ c.in_ok-bytes.ensures.read in
    rw c.payload_of-2.ensures (bytes_read c.args.word.now c.in_ok-bytes.bytes.items dash few hex read)
