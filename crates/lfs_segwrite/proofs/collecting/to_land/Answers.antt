use Rattle.std.proofs.Common.{All, ◌≡◌, length, map, sym, ap, ◌∙◌, subst, arith}
use Rattle.std.proofs.lemmas.List.{length-map}
use Rattle.lfs_cache.specs.declared.key.Key.{Key}
use Rattle.lfs_cache.specs.Contents.{AreApart}
use Rattle.lfs_segments.specs.Entry.{IsEntry}
use Rattle.lfs_parts.specs.Store.{IsBlockCode}
use Rattle.lfs_segwrite.specs.Collecting.{entry_of, in_turns}
use Rattle.lfs_segwrite.proofs.CollectingLemmas.{all_entries, collected, collected_more, collected_none, collected_room}
use Rattle.lfs_segwrite.proofs.CollectingLemmas.{entries_of-length, in_order-length}
use Rattle.lfs_segwrite.proofs.OrderLemmas.{in_order-locked, listed_waits}
use Rattle.lfs_segwrite.proofs.collecting.to_land.Goals as goal

pub loop-turn-init : goal.loop-turn-init
loop-turn-init c = c.new-list.ensures ∙ sym (collected_none c.locked-keys.result.now)

pub push_keys-requires-clause-coded : goal.push_keys-requires-clause-coded
push_keys-requires-clause-coded c =
    subst (All (λ (key : Key). IsBlockCode key.lbn.0)) (sym c.locked-keys.ensures.keys)
    (λ k d low. c.requires.files.coded _ (listed_waits c.args.parts.now.cache k d low))

pub push_keys-requires-clause-room : goal.push_keys-requires-clause-room
push_keys-requires-clause-room c =
    let keys = ap length c.locked-keys.ensures.keys in
    let locked = length-map c.args.parts.now.cache.locked (λ e. e.0) in
    let limit = c.requires.files.cache.limit in
    collected_room c.loop-turn.list.items c.loop-turn.turn c.locked-keys.result.now c.loop-turn.invariant
    c.loop-turn-test.true (omega arith)

pub loop-turn-preserved : goal.loop-turn-preserved
loop-turn-preserved c = collected_more c.loop-turn.list.items c.push_keys.new.list.items c.loop-turn.turn
    c.locked-keys.result.now c.loop-turn.invariant c.push_keys.ensures

-- all turns are done
whole : (c : goal.After-push_inodes) → c.loop-turn.list.items ≡ map entry_of (in_turns 3 c.locked-keys.result.now)
whole c =
    let end : c.loop-turn.turn ≡ 3 = omega (arith, c.loop-turn-test.false, c.loop-turn.auto.turn-end) in
    subst (λ n. c.loop-turn.list.items ≡ map entry_of (in_turns n c.locked-keys.result.now)) end c.loop-turn.invariant

pub push_inodes-requires : goal.push_inodes-requires
push_inodes-requires c =
    let end : c.loop-turn.turn ≡ 3 = omega (arith, c.loop-turn-test.false, c.loop-turn.auto.turn-end) in
    let all = subst (λ n. c.loop-turn.list.items
    ≡ map entry_of (in_turns n c.locked-keys.result.now)) end c.loop-turn.invariant in
    let many = ap length all in
    let mapped = length-map (in_turns 3 c.locked-keys.result.now) entry_of in
    let whole = in_order-length c.locked-keys.result.now in
    let keys = ap length c.locked-keys.ensures.keys in
    let locked = length-map c.args.parts.now.cache.locked (λ e. e.0) in
    let limit = c.requires.files.cache.limit in
    let few = c.requires.few in
    omega (arith, c.inode_blocks.ensures, c.len.ensures)

pub returns-clause-entries : goal.returns-clause-entries
returns-clause-entries c =
    collected c.args.parts.now c.loop-turn.list.items c.push_inodes.new.list.items c.locked-keys.result.now
    c.inode_blocks.result (whole c) c.push_inodes.ensures
    c.locked-keys.ensures.keys (omega (arith, c.inode_blocks.ensures, c.len.ensures))

pub returns-clause-valid : goal.returns-clause-valid
returns-clause-valid c = subst (All IsEntry) (sym (returns-clause-entries c))
    (all_entries c.args.parts.now c.requires.files)

pub returns-clause-fits : goal.returns-clause-fits
returns-clause-fits c =
    let same = ap length (returns-clause-entries c) in
    let whole = entries_of-length c.args.parts.now in
    let limit = c.requires.files.cache.limit in
    let few = c.requires.few in
    omega arith

pub returns-clause-blocks : goal.returns-clause-blocks
returns-clause-blocks c = in_order-locked c.args.parts.now.cache
    (subst AreApart c.locked-keys.ensures.keys c.locked-keys.ensures.once)
