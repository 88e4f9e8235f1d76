use Rattle.std.proofs.Common.{◌≡◌, ◌++◌, drop, length, map, Ok}
use Rattle.lfs_words.specs.Infos.{infos_of}
use Rattle.lfs_words.specs.Faults.{◌>>=◌}
use Rattle.lfs_words.proofs.info.infos.Given as goal

abbrev pub invariant-loop-word : goal.invariant-loop-word
invariant-loop-word g l = record {
  counted : length l.infos ≡ l.word-index;
  so_far : infos_of (map (λ x. x.now) l.words)
      ≡ (infos_of (drop l.word-index (map (λ x. x.now) l.words)) >>= (λ rest. Ok (l.infos ++ rest)));
}
