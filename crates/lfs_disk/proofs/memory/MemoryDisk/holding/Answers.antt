use Rattle.std.proofs.Common.{◌≡◌, ◌≤◌, List, [], length, sym, subst, ◌∙◌, ap, arith}
use Rattle.std.proofs.lemmas.List.{take_all}
use Rattle.lfs_disk.specs.declared.calls.Call.{Call}
use Rattle.lfs_disk.specs.Calls.{left_after, left_from, seen_after}
use Rattle.lfs_disk.proofs.memory.MemoryDisk.holding.Goals as goal

pub returns-clause-seen : goal.returns-clause-seen
unfolding seen_after
returns-clause-seen c =
    let blocks = c.args.memory.now.blocks in
    let laid = c.segments-count.ensures.laid_out in
    let all : length blocks ≤ c.loop-address.address = omega (arith, laid.whole, c.segments-count.ensures.segments) in
    ap (λ (calls : List Call). seen_after c.loop-address.first.items calls) c.new.ensures.items
    ∙ c.loop-address.invariant ∙ take_all c.loop-address.address blocks all

pub returns-clause-synced : goal.returns-clause-synced
unfolding left_after seen_after
returns-clause-synced c l left =
    let first = c.loop-address.first.items in
    let none : c.new.result.items ≡ [] = c.new.ensures.items in
    let at : l ≡ first = subst (λ (calls : List Call). left_from first calls l) none left in
    at ∙ sym (ap (λ (calls : List Call). seen_after first calls) none)
