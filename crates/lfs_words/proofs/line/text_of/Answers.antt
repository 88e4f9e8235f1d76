use Rattle.std.proofs.Common.{◌≡◌, true}
use Rattle.lfs_words.specs.Lines.{is_printable}
use Rattle.lfs_words.proofs.LineCuts.{printable_utf8}
use Rattle.lfs_words.proofs.line.text_of.Goals as goal

pub from_utf8_unchecked-requires : goal.from_utf8_unchecked-requires
from_utf8_unchecked-requires c =
    let printable : is_printable c.args.line.now ≡ true = cc in
    printable_utf8 c.args.line.now printable
