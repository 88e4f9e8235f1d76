use Rattle.std.proofs.Common.{◌≡◌, ◌++◌, map, take}
use Rattle.lfs_journal_lines.specs.Asked.{plain_word}
use Rattle.lfs_words.specs.Wording.{spaced}
use Rattle.lfs_journal_lines.proofs.asked.plain_line.Given as goal

abbrev pub invariant-loop-word : goal.invariant-loop-word
invariant-loop-word l = l.text.items ≡ l.fn.verb
    ++ spaced (map plain_word (map (λ x. x.now) (take l.word-index l.operands)))
