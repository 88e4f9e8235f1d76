use Rattle.std.proofs.Common.{rules, ◌++◌, ◌∷◌, [], List, take, append_assoc, sym, ap, ◌∙◌, arith}
use Rattle.std.specs.List.{filter_map}
use Rattle.lfs_inodes.specs.Slots.{slot_of, slots}
use Rattle.lfs_types.specs.declared.cleaner.BlockInfo.{BlockInfo}
use Rattle.lfs_log.specs.Infos.{slot_info}
use Rattle.lfs_log.proofs.ScanLemmas.{slots_more}
use Rattle.lfs_log.proofs.infos.push_inode_infos.Goals as goal

pub loop-index-preserved : goal.loop-index-preserved
loop-index-preserved c =
    let old = c.args.infos.now in
    let k = c.loop-index.index in
    let before : List BlockInfo = filter_map (slot_info c.args.address) (take k (slots c.args.block.now)) in
    let here : List BlockInfo = filter_map (slot_info c.args.address) (slot_of c.args.block.now k ∷ []) in
    record {
      so_far =
          c.push_slot_info.ensures.added ∙ ap (λ (xs : List BlockInfo). xs ++ here) c.loop-index.invariant.so_far
          ∙ append_assoc old before here ∙ ap (λ (xs : List BlockInfo). old ++ xs)
          (sym (slots_more c.args.address c.args.block.now k c.loop-index-test.true));
      few = let few = c.push_slot_info.ensures.few in let before = c.loop-index.invariant.few in omega arith;
    }

pub returns : goal.returns
returns c = search rules
