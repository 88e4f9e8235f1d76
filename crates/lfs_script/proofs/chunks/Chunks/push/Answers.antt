use Rattle.std.proofs.Common.{◌≡◌, ◌-◌, suc, length, rules}
use Rattle.std.proofs.lemmas.Result.{err_from_is_err_and}
use Rattle.lfs_script.proofs.ChunkLemmas.{push_last, push_none}
use Rattle.lfs_script.proofs.chunks.Chunks.push.Goals as goal

pub returns-in_ok-push-clause-pushed : goal.returns-in_ok-push-clause-pushed
returns-in_ok-push-clause-pushed g c =
    let last : suc (c.len-last.result - 1) ≡ length c.self.inside.chunks.items = search rules in
    rw (← c.self.view_is)
    (push_last c.self.inside.chunks.items (c.len-last.result - 1) c.index_mut.result.now c.push.new.self
    c.args.item last c.index_mut.ensures.value c.in_ok-push.ensures.items)

pub returns-in_err-push-clause-failed : goal.returns-in_err-push-clause-failed
returns-in_err-push-clause-failed g c =
    let exit = err_from_is_err_and c.from_residual.result c.from_residual.ensures.1 in
    rw (exit.1, ← c.self.view_is)
    (push_none c.self.inside.chunks.items (c.len-last.result - 1) c.index_mut.result.now c.push.new.self
    c.index_mut.ensures.value c.in_err-push.ensures.items)
