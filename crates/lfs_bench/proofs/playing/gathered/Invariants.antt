use Rattle.std.proofs.Common.{◌≡◌, ◌++◌}
use Rattle.std.specs.Global.{Vec}
use Rattle.std.specs.List.{flat_map}
use Rattle.lfs_types.specs.declared.answer.Answer.{Answer}
use Rattle.lfs_bench.proofs.playing.gathered.Given as goal

abbrev pub invariant-loop-transcript : goal.invariant-loop-transcript
invariant-loop-transcript l =
    (l.answers.items ≡ flat_map (λ (transcript : Vec Answer). transcript.items) l.yielded)
    × (l.yielded ++ l.transcript-iterator.rest.items ≡ l.fn.transcripts.items)
