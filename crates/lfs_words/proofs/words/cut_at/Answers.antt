use Rattle.std.proofs.Common.{◌∙◌, sym}
use Rattle.lfs_words.proofs.FirstByte.{first_place_of}
use Rattle.lfs_words.proofs.PieceCuts.{behind_separator, pieces_none, pieces_some}
use Rattle.lfs_words.proofs.words.cut_at.Goals as goal

pub range_from-requires : goal.range_from-requires
range_from-requires c = λ pos.
    behind_separator c.args.separator c.args.text.now c.in-Some.at c.utf8.text c.requires
    (sym (first_place_of c.args.separator c.args.text.now c.as_bytes.result.now c.memchr.result c.as_bytes.ensures.value
    c.memchr.ensures) ∙ c.in-Some.is)

pub returns-in-Some-clause-pieces : goal.returns-in-Some-clause-pieces
returns-in-Some-clause-pieces c =
    pieces_some c.args.separator c.args.text.now c.range.result.now c.range_from.result.now c.in-Some.at
    (sym (first_place_of c.args.separator c.args.text.now c.as_bytes.result.now c.memchr.result c.as_bytes.ensures.value
    c.memchr.ensures) ∙ c.in-Some.is)
    c.range.ensures.value c.range_from.ensures.value

pub returns-in-None-clause-pieces : goal.returns-in-None-clause-pieces
returns-in-None-clause-pieces c =
    pieces_none c.args.separator c.args.text.now
    (sym (first_place_of c.args.separator c.args.text.now c.as_bytes.result.now c.memchr.result c.as_bytes.ensures.value
    c.memchr.ensures) ∙ c.in-None.is)
