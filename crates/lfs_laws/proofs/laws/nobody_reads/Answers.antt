use Rattle.lfs_laws.proofs.LawReads.{answers_alike}
use Rattle.lfs_laws.proofs.UnreadRuns.{nobody_reads_in_run}
use Rattle.lfs_laws.proofs.laws.nobody_reads.Goals as goal

pub returns : goal.returns
returns c = record {
  call = λ numbers caller w v request answer tree differ is. answers_alike caller w v tree differ numbers request answer
      is;
  run = nobody_reads_in_run;
}
