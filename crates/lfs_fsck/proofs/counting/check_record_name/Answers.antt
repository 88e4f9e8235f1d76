use Rattle.std.proofs.Common.{◌≡◌, ◌+◌, ◌*◌, Some, sym, ap, ◌∙◌}
use Rattle.std.specs.Prelude.{option_map}
use Rattle.std.proofs.lemmas.Bool.{false≢true}
use Rattle.lfs_log.specs.Names.{named_at, record_in, record_key}
use Rattle.lfs_segments.specs.Log.{entry_at}
use Rattle.lfs_segments.specs.Memory.{block_at}
use Rattle.lfs_fsck.specs.Names.{name_in}
use Rattle.lfs_fsck.proofs.KeyLemmas.{record_at, record_placed, slot_low}
use Rattle.lfs_fsck.proofs.NameLemmas.{name_record, named_record, owner}
use Rattle.lfs_fsck.proofs.FlushedLemmas.{flushed_record}
use Rattle.lfs_fsck.proofs.counting.check_record_name.Goals as goal

pub returns-then-is_of_records-clause-ok : goal.returns-then-is_of_records-clause-ok
unfolding record_in
returns-then-is_of_records-clause-ok c =
    let l = c.args.log.now in
    let m = l.memory in
    let v = c.args.inode.now in
    let place = c.args.place in
    let low = slot_low l v.number place c.requires.parts c.requires.own.below c.requires.here in
    let is : name_in c.args.names.now place.addr
    ≡ entry_at m place.addr = c.requires.names.each place.addr c.requires.inside in
    let found : record_in (block_at m place.addr) place.slot ≡ Some (v.number, v.version)
    = ap (option_map record_key) (sym (flushed_record l v.number place c.requires.here) ∙ c.requires.own.is) in
    ap (named_at m) (record_at l v.number place c.requires.here c.requires.some)
    ∙ name_record m place.addr place.slot v.number v.version (name_in c.args.names.now place.addr) is low.0
    (c.is_of_records.ensures.0 c.if-is_of_records.true) found
    ∙ ap (λ k. Some (owner v.number k 0)) c.requires.own.at_version

pub returns-else-is_of_records-clause-fault : goal.returns-else-is_of_records-clause-fault
returns-else-is_of_records-clause-fault c =
    let l = c.args.log.now in
    let m = l.memory in
    let v = c.args.inode.now in
    let place = c.args.place in
    let low = slot_low l v.number place c.requires.parts c.requires.own.below c.requires.here in
    let is : name_in c.args.names.now place.addr
    ≡ entry_at m place.addr = c.requires.names.each place.addr c.requires.inside in (
      record_placed l v.number place c.requires.own.below c.requires.here c.requires.some,
      λ owned.
          let named : named_at m (4 * place.addr + place.slot) ≡ Some (owner v.number v.version 0)
          = ap (named_at m) (sym (record_at l v.number place c.requires.here c.requires.some)) ∙ owned
          ∙ ap (λ k. Some (owner v.number k 0)) (sym c.requires.own.at_version) in
          false≢true (sym c.if-is_of_records.false
          ∙ c.is_of_records.ensures.1 (named_record m place.addr place.slot v.number v.version
          (name_in c.args.names.now place.addr) is low.0 named)),
    )
