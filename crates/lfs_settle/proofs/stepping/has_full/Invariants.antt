use Rattle.std.proofs.Common.{◌≡◌, drop}
use Rattle.std.specs.List.{list_any}
use Rattle.lfs_settle.specs.Interleaving.{is_journal_full}
use Rattle.lfs_settle.proofs.stepping.has_full.Given as goal

abbrev pub invariant-loop-answer : goal.invariant-loop-answer
invariant-loop-answer l =
    list_any is_journal_full (drop l.answer-index l.answers) ≡ list_any is_journal_full l.answers
