use Rattle.std.proofs.Common.{◌≡◌, ◌∷◌, Some, ◌∙◌, subst, arith}
use Rattle.std.specs.Prelude.{false}
use Rattle.lfs_cache.specs.Contents.{IsLocked}
use Rattle.lfs_cache.specs.Keys.{same_key}
use Rattle.lfs_segments.specs.declared.entry.SummaryEntry.{SummaryEntry}
use Rattle.lfs_segments.specs.Log.{Expects}
use Rattle.lfs_bmap.specs.Blocks.{code_of}
use Rattle.lfs_segwrite.specs.Landing.{ExpectsBlock}
use Rattle.lfs_staging.specs.Addressing.{IsWaiting}
use Rattle.lfs_parts.specs.View.{key_of, version_of, waiting_in}
use Rattle.lfs_segwrite.proofs.LandedKeyLemmas.{LandsKey, entry_here, found_waiting, key_here, landed_advances}
use Rattle.lfs_segwrite.proofs.LandedKeyLemmas.{landed_count, landed_gone, landed_staged, may_land}
use Rattle.lfs_parts.proofs.FrameLemmas.{waiting_number}
use Rattle.lfs_segwrite.proofs.flushing.land_waiting.Goals as goal

pub record_in_use-inode-requires-clause-in_use : goal.record_in_use-inode-requires-clause-in_use
record_in_use-inode-requires-clause-in_use c = (c.requires.staged.whole.frames _ c.requires.waits).in_use

pub land_block-requires-clause-may_land : goal.land_block-requires-clause-may_land
land_block-requires-clause-may_land c =
    let v = c.record_in_use-inode.result in
    let found : waiting_in c.args.parts.now.waiting c.args.number
    ≡ Some v = c.record_in_use-inode.ensures.waits (c.requires.staged.parents.records _ c.requires.waits) in
    let is = found_waiting c.args.parts.now c.args.number v c.requires.staged.whole found in
    let e = waiting_number c.args.parts.now.waiting c.args.number v found in
    let key = key_here c.args.parts.now c.args.number (code_of c.args.block) v is e in
    may_land c.args.parts.now v c.args.block c.requires.staged is c.requires.block c.requires.other
    (subst (λ k. IsLocked k c.args.parts.now.cache) key c.requires.waits)

pub land_block-requires-clause-expected : goal.land_block-requires-clause-expected
land_block-requires-clause-expected c =
    let v = c.record_in_use-inode.result in
    let found : waiting_in c.args.parts.now.waiting c.args.number
    ≡ Some v = c.record_in_use-inode.ensures.waits (c.requires.staged.parents.records _ c.requires.waits) in
    let is = found_waiting c.args.parts.now c.args.number v c.requires.staged.whole found in
    let e = waiting_number c.args.parts.now.waiting c.args.number v found in
    subst (ExpectsBlock c.args.parts.now.log.memory)
    (entry_here c.args.parts.now c.args.number c.args.block v is e) c.requires.expected

-- the record that waits is the number's
own : (c : goal.After-land_block) → c.record_in_use-inode.result.number ≡ c.args.number
own c = waiting_number c.args.parts.now.waiting c.args.number c.record_in_use-inode.result
    (c.record_in_use-inode.ensures.waits (c.requires.staged.parents.records _ c.requires.waits))

is_waiting : (c : goal.After-land_block) → IsWaiting c.args.parts.now c.record_in_use-inode.result
is_waiting c = found_waiting c.args.parts.now c.args.number c.record_in_use-inode.result c.requires.staged.whole
    (c.record_in_use-inode.ensures.waits (c.requires.staged.parents.records _ c.requires.waits))

key_same : (c : goal.After-land_block) → key_of c.args.number (version_of c.args.parts.now c.args.number)
    (code_of c.args.block)
    ≡ key_of c.record_in_use-inode.result.number c.record_in_use-inode.result.version (code_of c.args.block)
key_same c = key_here c.args.parts.now c.args.number (code_of c.args.block) c.record_in_use-inode.result (is_waiting c)
    (own c)

-- and its block landed
lands : (c : goal.After-land_block) → LandsKey c.args.parts.now c.land_block.new.parts c.record_in_use-inode.result
    c.args.block c.land_block.result
lands c =
    let expected = c.requires.expected.expects.fit in
    record {
      staged = c.requires.staged;
      is = is_waiting c;
      can = c.requires.block;
      other = c.requires.other;
      waits = subst (λ k. IsLocked k c.args.parts.now.cache) (key_same c) c.requires.waits;
      free = λ key locked number. c.requires.free key locked (number ∙ own c);
      room = omega arith;
      landed = c.land_block.ensures.landed;
      place = c.land_block.ensures.place;
      log = c.land_block.ensures.log;
      stays = c.land_block.ensures.waiting;
      files = c.land_block.ensures.files;
      content = c.land_block.ensures.content;
      frames = c.land_block.ensures.frames;
      only = c.land_block.ensures.only;
    }

pub returns-clause-staged : goal.returns-clause-staged
returns-clause-staged c = landed_staged c.args.parts.now c.land_block.new.parts c.record_in_use-inode.result
    c.args.block c.land_block.result (lands c)

pub returns-clause-advances : goal.returns-clause-advances
returns-clause-advances c = landed_advances c.args.parts.now c.land_block.new.parts c.record_in_use-inode.result
    c.args.block c.land_block.result (lands c)

pub returns-clause-expects : goal.returns-clause-expects
returns-clause-expects c =
    λ rest expects. c.land_block.ensures.expects rest
    (subst (λ (x : SummaryEntry). Expects c.args.parts.now.log.memory (x ∷ rest))
    (entry_here c.args.parts.now c.args.number c.args.block c.record_in_use-inode.result (is_waiting c) (own c))
    expects)

pub returns-clause-gone : goal.returns-clause-gone
returns-clause-gone c =
    λ locked. landed_gone c.args.parts.now c.land_block.new.parts c.record_in_use-inode.result c.args.block
    c.land_block.result (lands c)
    (subst (λ k. IsLocked k c.land_block.new.parts.cache) (key_same c) locked)

pub returns-clause-others : goal.returns-clause-others
returns-clause-others c =
    λ other apart locked. c.land_block.ensures.frames other
    (subst (λ k. same_key k other ≡ false) (key_same c) apart) locked

pub returns-clause-waiting : goal.returns-clause-waiting
returns-clause-waiting c = landed_count c.args.parts.now c.land_block.new.parts c.record_in_use-inode.result
    c.args.block c.land_block.result (lands c)

pub returns-clause-next : goal.returns-clause-next
returns-clause-next c = c.land_block.ensures.place.next
