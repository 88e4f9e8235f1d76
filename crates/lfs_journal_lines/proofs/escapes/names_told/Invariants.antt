use Rattle.std.proofs.Common.{◌≡◌, ◌++◌, drop, map, Ok}
use Rattle.lfs_journal_lines.specs.Escapes.{names_told}
use Rattle.lfs_words.specs.Faults.{◌>>=◌}
use Rattle.lfs_journal_lines.proofs.escapes.names_told.Given as goal

abbrev pub invariant-loop-word : goal.invariant-loop-word
invariant-loop-word l = names_told (map (λ x. x.now) l.words)
    ≡ (names_told (drop l.word-index (map (λ x. x.now) l.words)) >>= (λ rest. Ok (l.names.items ++ rest)))
