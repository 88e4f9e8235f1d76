use Rattle.std.proofs.Common.{length, length-append, map, take, ap, sym, ◌∙◌, arith}
use Rattle.std.specs.List.{filter}
use Rattle.std.proofs.lemmas.Bool.{eq-eqb}
use Rattle.std.proofs.lemmas.List.{length-map}
use Rattle.lfs_segwrite.specs.Collecting.{entry_of, is_of}
use Rattle.lfs_segwrite.proofs.CollectingLemmas.{turn_room}
use Rattle.lfs_segwrite.proofs.collecting.push_keys.Goals as goal

pub push-requires : goal.push-requires
push-requires c =
    let before = filter (is_of c.args.turn) (take c.loop-key.key-index c.args.keys.now) in
    let room = turn_room c.args.turn c.args.keys.now c.loop-key.key-index _ c.loop-key-test.true
    (eq-eqb _ c.args.turn (sym c.rank.ensures ∙ c.if-rank-turn.true)) in
    let so_far = ap length c.loop-key.invariant in
    let whole = length-append c.args.list.now.items (map entry_of before) in
    let mapped = length-map before entry_of in
    let may = c.requires.room in
    omega arith
