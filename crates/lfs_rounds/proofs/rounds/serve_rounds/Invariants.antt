use Rattle.lfs_rounds.specs.Rounds.{keeping_of}
use Rattle.lfs_rounds.proofs.RoundLemmas.{LedTo}
use Rattle.lfs_rounds.proofs.rounds.serve_rounds.Given as goal

abbrev pub invariant-loop : goal.invariant-loop
invariant-loop g l = LedTo g.F.FileStore.state (keeping_of g.K.Rounds.asks g.K.Rounds.keeps) l.fn.volume l.volume
    l.fn.rounds l.rounds
