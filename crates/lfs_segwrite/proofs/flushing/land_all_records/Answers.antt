use Rattle.std.proofs.Common.{◌<◌, ◌-◌, length, refl, replicate, subst, ◌≡◌, sym, ◌∙◌, arith}
use Rattle.lfs_segments.specs.Log.{Expects}
use Rattle.lfs_segwrite.specs.Collecting.{inode_blocks}
use Rattle.lfs_parts.specs.Opening.{inodes_entry}
use Rattle.lfs_segwrite.proofs.FlushLemmas.{one_block, remains_fewer, some_left}
use Rattle.lfs_segwrite.proofs.flushing.land_all_records.Goals as goal
use Rattle.std.proofs.lemmas.Bool.{eqb-true}
use Rattle.lfs_segwrite.proofs.AdvanceLemmas.{Advances-refl}

pub land_records-requires-clause-expected : goal.land_records-requires-clause-expected
land_records-requires-clause-expected c =
    let some : 0 < length c.loop-parts.parts.waiting =
    some_left (length c.loop-parts.parts.waiting) _ refl c.is_empty.ensures c.loop-parts-test.true in
    record {
      rest = replicate (inode_blocks (length c.loop-parts.parts.waiting - 4)) inodes_entry;
      expects = subst (Expects c.loop-parts.parts.log.memory)
          (one_block (length c.loop-parts.parts.waiting) some) c.loop-parts.invariant.expected;
    }

pub loop-parts-preserved : goal.loop-parts-preserved
loop-parts-preserved c =
    let some : 0 < length c.loop-parts.parts.waiting =
    some_left (length c.loop-parts.parts.waiting) _ refl c.is_empty.ensures c.loop-parts-test.true in
    remains_fewer c.args.parts.now c.loop-parts.parts c.land_records.new.parts c.loop-parts.invariant some
    c.land_records.ensures.staged c.land_records.ensures.advances
    c.land_records.ensures.waiting c.land_records.ensures.cache c.land_records.ensures.expects
    c.land_records.ensures.next c.land_records.ensures.first c.land_records.ensures.noted

pub loop-parts-init : goal.loop-parts-init
loop-parts-init c = record {
  staged = c.requires.staged;
  no_frame = c.requires.no_frame;
  expected = c.requires.expected;
  advances = λ from low. Advances-refl from c.args.parts.now;
  next = refl;
  last = λ less. absurd (omega arith);
  noted = record { each = λ a slot f low high in_block is. absurd (omega arith) };
}

pub returns-clause-last : goal.returns-clause-last
returns-clause-last c = λ some.
    let none : length c.loop-parts.parts.waiting ≡ 0 =
    eqb-true _ _ (sym c.is_empty.ensures ∙ c.loop-parts-test.false) in
    c.loop-parts.invariant.last (omega arith)
