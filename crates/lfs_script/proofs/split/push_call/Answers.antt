use Rattle.std.proofs.Common.{◌<◌, length, rules}
use Rattle.lfs_script.proofs.SplitLemmas.{with_call-push}
use Rattle.lfs_script.proofs.split.push_call.Goals as goal

pub returns-in_ok-push : goal.returns-in_ok-push
returns-in_ok-push c =
    let lt : c.args.session < length c.args.lists.now.items = search rules in
    with_call-push c.args.lists.now.items c.args.session _ c.push.new.self c.args.call lt c.index_mut.ensures.value
    c.in_ok-push.ensures.items
