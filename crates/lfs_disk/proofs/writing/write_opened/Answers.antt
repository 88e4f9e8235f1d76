use Rattle.std.proofs.Common.{◌≡◌, ◌+◌, ◌*◌, ◌<◌, ℕ, List, [], ap, get_or, length, sym, ◌∙◌, arith}
use Rattle.std.proofs.lemmas.List.{get_or-set_same}
use Rattle.lfs_types.specs.Blocks.{zero_block}
use Rattle.lfs_segments.specs.Log.{first_of}
use Rattle.lfs_segments.specs.Memory.{log_start}
use Rattle.lfs_segments.proofs.MemoryLemmas.{log_start-le}
use Rattle.lfs_disk.specs.Writing.{IsOnTheWay}
use Rattle.lfs_disk.proofs.BlockLemmas.{way_at}
use Rattle.lfs_disk.proofs.MomentLemmas.{widened}
use Rattle.lfs_disk.proofs.WayLemmas.{opened_way, zeros_way}
use Rattle.lfs_disk.proofs.writing.write_opened.Goals as goal

-- the addresses of a segment's log, as the segment is known
abbrev Begins : ℕ → ℕ → ℕ → ℕ → Type 0
Begins active result start size = (result * 64 + start ≡ first_of active) × (result * 64 + 64 ≡ active * 64 + 64)
    × (result * 64 + start < size) × (result * 64 + start < result * 64 + 64)

begins : (active result start segments size : ℕ) → result ≡ active → start ≡ log_start result → active < segments
    → size ≡ segments * 64 → Begins active result start size
begins active result start segments size same is below long =
    let least = log_start-le active in
    let at : start ≡ log_start active = is ∙ ap log_start same in
    (omega arith, omega arith, omega arith, omega arith)

pub returns-in_err-put_block-clause-crash : goal.returns-in_err-put_block-clause-crash
unfolding zero_block
returns-in_err-put_block-clause-crash g c =
    let d = g.D.BlockDisk in
    let disk = c.args.disk.now in
    let old = d.seen disk in
    let new = c.args.memory.now.blocks in
    let active = c.args.memory.now.active in
    let result = c.active-active.result in
    let start = c.log_start.result in
    let laid = c.active-active.ensures.laid_out in
    let at = begins active result start c.args.memory.now.segments (length old) c.active-active.ensures.active
    c.log_start.ensures laid.active (sym c.requires.same.long ∙ laid.whole) in
    let first = result * 64 + start in
    let end = result * 64 + 64 in
    widened d.time d.left_since disk c.put_block.new.disk (IsOnTheWay (first_of active) (active * 64 + 64) old new)
    (IsOnTheWay first end old new)
    (zeros_way d.time d.left_since disk c.put_block.new.disk c.put_block.new.disk old new first end at.2 at.3
    c.put_block.ensures.crash)
    (λ l way. way_at first (first_of active) end (active * 64 + 64) old new l at.0 at.1 way)

pub put_log-requires-clause-zeros : goal.put_log-requires-clause-zeros
unfolding zero_block
put_log-requires-clause-zeros g c =
    let old = g.D.BlockDisk.seen c.args.disk.now in
    let result = c.active-active.result in
    let start = c.log_start.result in
    let laid = c.active-active.ensures.laid_out in
    let at = begins c.args.memory.now.active result start c.args.memory.now.segments (length old)
    c.active-active.ensures.active c.log_start.ensures laid.active (sym c.requires.same.long ∙ laid.whole) in
    let first = result * 64 + start in
    ap (λ (l : List (List ℕ)). get_or l first []) c.in_ok-put_block.ensures.written
    ∙ get_or-set_same old first zero_block [] at.2

pub returns-in_err-put_log-clause-crash : goal.returns-in_err-put_log-clause-crash
unfolding zero_block
returns-in_err-put_log-clause-crash g c =
    let d = g.D.BlockDisk in
    let disk = c.args.disk.now in
    let old = d.seen disk in
    let mid = d.seen c.put_block.new.disk in
    let new = c.args.memory.now.blocks in
    let active = c.args.memory.now.active in
    let result = c.active-active.result in
    let start = c.log_start.result in
    let laid = c.active-active.ensures.laid_out in
    let at = begins active result start c.args.memory.now.segments (length old) c.active-active.ensures.active
    c.log_start.ensures laid.active (sym c.requires.same.long ∙ laid.whole) in
    let first = result * 64 + start in
    let end = result * 64 + 64 in
    widened d.time d.left_since disk c.put_log.new.disk (IsOnTheWay (first_of active) (active * 64 + 64) old new)
    (IsOnTheWay first end old new)
    (opened_way d.time d.left_since disk c.put_block.new.disk c.put_log.new.disk old new first end at.2 mid at.3
    c.in_ok-put_block.ensures.written c.put_block.ensures.crash c.put_log.ensures.crash)
    (λ l way. way_at first (first_of active) end (active * 64 + 64) old new l at.0 at.1 way)

pub returns-clause-crash : goal.returns-clause-crash
unfolding zero_block
returns-clause-crash g c =
    let d = g.D.BlockDisk in
    let disk = c.args.disk.now in
    let old = d.seen disk in
    let mid = d.seen c.put_block.new.disk in
    let new = c.args.memory.now.blocks in
    let active = c.args.memory.now.active in
    let result = c.active-active.result in
    let start = c.log_start.result in
    let laid = c.active-active.ensures.laid_out in
    let at = begins active result start c.args.memory.now.segments (length old) c.active-active.ensures.active
    c.log_start.ensures laid.active (sym c.requires.same.long ∙ laid.whole) in
    let first = result * 64 + start in
    let end = result * 64 + 64 in
    widened d.time d.left_since disk c.put_log.new.disk (IsOnTheWay (first_of active) (active * 64 + 64) old new)
    (IsOnTheWay first end old new)
    (opened_way d.time d.left_since disk c.put_block.new.disk c.put_log.new.disk old new first end at.2 mid at.3
    c.in_ok-put_block.ensures.written c.put_block.ensures.crash c.put_log.ensures.crash)
    (λ l way. way_at first (first_of active) end (active * 64 + 64) old new l at.0 at.1 way)
