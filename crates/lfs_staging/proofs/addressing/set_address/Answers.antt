use Rattle.std.proofs.Common.{◌<◌, ◌∷◌, [], IsSome, refl, sym, ap, ◌∙◌, subst}
use Rattle.lfs_cache.specs.declared.key.Key.{Key}
use Rattle.lfs_cache.specs.Contents.{block_in}
use Rattle.lfs_bmap.specs.declared.blocks.TheConstants.{FIRST_DATA_CODE}
use Rattle.lfs_bmap.specs.Blocks.{way_to, code_of}
use Rattle.lfs_bmap.proofs.HolderLemmas.{table_of-code}
use Rattle.lfs_parts.specs.declared.parts.Parts.{Parts}
use Rattle.lfs_staging.specs.Addressing.{Sets, SetsEntry}
use Rattle.lfs_parts.specs.View.{key_of}
use Rattle.lfs_staging.proofs.HeldFrames.{KeepsFrames-refl}
use Rattle.lfs_parts.proofs.KeyLemmas.{code-other, within_root, cell_inside}
use Rattle.lfs_staging.proofs.SettingLemmas.{at_way, holder_locked, sets_entry, sets_record, some_there, stays_entry}
use Rattle.lfs_staging.proofs.SettingLemmas.{stays_record}
use Rattle.lfs_parts.proofs.ViewLemmas.{code_at-way_to, way_to-some}
use Rattle.lfs_staging.proofs.addressing.set_address.Goals as goal

pub with_root-requires-clause-within : goal.with_root-requires-clause-within
with_root-requires-clause-within c = within_root c.args.block c.args.inode.now.size c.in-Some.field-0.index
    c.requires.block
    (c.in-Some.ensures.way ∙ ap (λ b. c.in-Some.field-0.index ∷ way_to b) c.in-Record.is) c.requires.within

pub returns-in-Record-clause-set : goal.returns-in-Record-clause-set
returns-in-Record-clause-set c =
    let q : Parts = record { log = c.args.parts.now.log; cache = c.args.parts.now.cache; waiting = c.replace.new.self } in
    at_way (λ i up. Sets c.args.parts.now q c.args.inode.now i up c.args.address)
    (way_to c.args.block) c.in-Some.field-0.index []
    (c.in-Some.ensures.way ∙ ap (λ b. c.in-Some.field-0.index ∷ way_to b) c.in-Record.is)
    (sets_record c.args.parts.now q c.args.inode.now c.with_root.result c.requires.record refl
    c.with_root.ensures.attributes c.replace.ensures.record
    c.in-Some.field-0.index c.args.address refl c.with_root.ensures.addresses)

pub returns-in-Record-clause-waiting : goal.returns-in-Record-clause-waiting
returns-in-Record-clause-waiting c =
    let q : Parts = record { log = c.args.parts.now.log; cache = c.args.parts.now.cache; waiting = c.replace.new.self } in
    stays_record c.args.parts.now q c.args.inode.now c.with_root.result c.requires.record refl
    c.with_root.ensures.attributes c.replace.ensures.record
    refl c.requires.cache c.requires.present c.replace.ensures.items

pub returns-in-Record-clause-held : goal.returns-in-Record-clause-held
returns-in-Record-clause-held c = KeepsFrames-refl c.args.parts.now.cache

pub set_entry-requires : goal.set_entry-requires
set_entry-requires c =
    let p = c.args.parts.now in let v = c.args.inode.now in let t = c.in-Some.field-0.table in
    let some = way_to-some t (code-other t c.in-Single.is) in
    let locked = holder_locked p.cache v.number v.version (way_to t) some
    (c.requires.parent c.in-Some.field-0.index (way_to t) c.in-Some.ensures.way) in
    record {
      inside = cell_inside t c.in-Some.field-0.index c.in-Some.ensures.inside;
      table = subst (λ n. n < FIRST_DATA_CODE) (sym (ap (λ (k : Key). k.lbn.0) c.key_of-key.ensures
          ∙ ap code_of c.in-Some.ensures.table)) (table_of-code c.args.block c.requires.block);
      waits = subst (λ k. IsSome (block_in k p.cache.locked)) (ap (key_of v.number v.version) (code_at-way_to t)
          ∙ sym c.key_of-key.ensures) locked;
    }

pub returns-in-Single : goal.returns-in-Single
returns-in-Single c =
    let p = c.args.parts.now in let v = c.args.inode.now in let t = c.in-Some.field-0.table in
    let q : Parts = record {
      log = c.args.parts.now.log;
      cache = c.set_entry.new.cache;
      waiting = c.args.parts.now.waiting;
    } in
    let some = way_to-some t (code-other t c.in-Single.is) in
    let locked = holder_locked p.cache v.number v.version (way_to t) some
    (c.requires.parent c.in-Some.field-0.index (way_to t) c.in-Some.ensures.way) in
    let here = some_there (block_in (key_of v.number v.version (code_of t)) p.cache.locked)
    (subst (λ k. IsSome (block_in (key_of v.number v.version k) p.cache.locked)) (code_at-way_to t) locked) in
    let set = subst (λ k. SetsEntry p.cache q.cache k c.in-Some.field-0.index c.args.address here.0)
    c.key_of-key.ensures
    (c.set_entry.ensures.set here.0 (ap (λ k. block_in k p.cache.locked) c.key_of-key.ensures ∙ here.1)) in
    record {
      set = at_way (λ i up. Sets p q v i up c.args.address) (way_to c.args.block) c.in-Some.field-0.index
          (way_to t) c.in-Some.ensures.way
          (sets_entry p q v t c.in-Some.field-0.index c.args.address here.0 some c.requires.record refl refl here.1
          set);
      waiting = stays_entry p q v t c.in-Some.field-0.index c.args.address here.0 some c.requires.record refl refl
          here.1 set c.requires.present;
      held = c.set_entry.ensures.held;
    }
