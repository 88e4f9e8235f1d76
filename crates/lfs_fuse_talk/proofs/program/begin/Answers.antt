use Rattle.std.proofs.lemmas.Result.{err_from_is_err_and}
use Rattle.lfs_fuse_talk.proofs.CourseLemmas.{begun_file, first_of}
use Rattle.lfs_fuse_talk.proofs.program.begin.Goals as goal

pub returns-clause-begun : goal.returns-clause-begun
returns-clause-begun g c = (
  first_of g.S.File.Write.contents c.in_ok-file.file,
  record {
    volume = rw c.new-served.ensures.mount c.in_ok-mount.ensures.begun;
    file = rw c.new-served.ensures.ledger (begun_file g.S.File.Write.contents c.args.options.now.journal_out
        c.in_ok-file.file c.new-ledger.result.keeping c.in_ok-file.ensures.opened c.new-ledger.ensures.asked
        c.new-ledger.ensures.first);
  },
)

pub returns-in_err-file-clause-fault : goal.returns-in_err-file-clause-fault
returns-in_err-file-clause-fault g c =
    let exit = err_from_is_err_and c.from_residual-in_err-file.result c.from_residual-in_err-file.ensures.1 in
    rw (exit.1, exit.2) c.in_err-file.ensures.asked
