use Rattle.std.proofs.Common.{Ok, ap, sym, ◌∙◌}
use Rattle.lfs_journal_lines.proofs.ReadingLemmas.{text_there}
use Rattle.lfs_journal_lines.proofs.escapes.escaped_path.Goals as goal

pub returns : goal.returns
returns c =
    text_there c.args.text.now c.as_slice.result.now c.path_of.result
    (c.in_ok-bytes.ensures ∙ ap Ok (sym c.as_slice.ensures.value)) c.path_of.ensures
