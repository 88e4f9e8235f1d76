use Rattle.std.proofs.Common.{rules, ◌≡◌, ◌≤◌, ◌+◌, ◌*◌, ◌/◌, ◌∷◌, ℕ, List, length, None, Some, false, is_some, refl, sym, ap}
use Rattle.std.proofs.Common.{◌∙◌, subst, arith}
use Rattle.lfs_inodes.specs.declared.inode.Inode.{Inode}
use Rattle.lfs_inodes.specs.Reading.{fields_of}
use Rattle.lfs_ifile.specs.Tables.{Tables}
use Rattle.lfs_segments.specs.Log.{Expects}
use Rattle.lfs_segments.specs.Memory.{SegmentMemory, has_serials, next_address}
use Rattle.lfs_segments.specs.Rising.{IsRising}
use Rattle.lfs_cache.specs.Contents.{Contents, IsLocked, block_in, block_of, or_else}
use Rattle.lfs_cache.specs.Keys.{same_key}
use Rattle.lfs_log.specs.Parts.{LogParts, live_of}
use Rattle.lfs_log.specs.Parts as log
use Rattle.lfs_bmap.specs.declared.blocks.FileBlock.{FileBlock}
use Rattle.lfs_bmap.specs.Blocks.{code_of, way_to}
use Rattle.lfs_bmap.specs.Counting.{placed, units}
use Rattle.lfs_bmap.specs.Log.{Assigns}
use Rattle.lfs_bmap.specs.Reading.{address, read}
use Rattle.lfs_bmap.specs.Ways.{way_of}
use Rattle.lfs_bmap.proofs.BlockLemmas.{code_of-below}
use Rattle.lfs_bmap.proofs.WayLemmas.{way_of-code_of}
use Rattle.lfs_parts.specs.declared.parts.Parts.{Parts}
use Rattle.lfs_parts.specs.Keys.{log_state}
use Rattle.lfs_segwrite.specs.Landing.{AppendsBlock, MayLand, entry_of}
use Rattle.lfs_parts.specs.View.{LiesIn, blocks_of, key_of, tree_of}
use Rattle.lfs_parts.proofs.FileLemmas.{tree_from-of}
use Rattle.lfs_staging.proofs.HeldFrames.{KeepsFrames-same, KeepsFrames-trans, flushed_frames}
use Rattle.lfs_parts.proofs.HeldLemmas.{clean_was, keeps_gains, flushed_own}
use Rattle.lfs_parts.proofs.KeyLemmas.{lies_in, place-block}
use Rattle.lfs_segwrite.proofs.KeepingLemmas.{content_kept, files_kept, frames_kept, frames_only}
use Rattle.lfs_staging.proofs.ForgettingLemmas.{live_had, stays_landed, waited_parent, way_some}
use Rattle.lfs_parts.proofs.SameLogLemmas.{used_low}
use Rattle.lfs_segwrite.proofs.LandedLemmas.{Steps, block_other, data_same, lands, live_fits, log_after, others_same}
use Rattle.lfs_segwrite.proofs.LandedLemmas.{parent_kept, place_after, record_other, waits_read, waits_set}
use Rattle.lfs_staging.proofs.SettingLemmas.{some_there, waiting_record}
use Rattle.lfs_segwrite.proofs.landing.land_block.Goals as goal

pub address_of-from-requires-clause-inside : goal.address_of-from-requires-clause-inside
address_of-from-requires-clause-inside c =
    let p = c.args.parts.now in let v = c.args.inode.now in let may = c.requires.may_land in
    let has = waiting_record p v may.is in
    let same = tree_from-of p v.number v has (c.requires.files.files v.number (fields_of v) has) in
    subst (LiesIn (blocks_of p)) (sym same) (lies_in p v.number 0
    (used_low p v.number may.is.in_use) c.requires.files.parts.laid_out c.requires.log)

-- the block was put with the bytes that wait, which are those that it reads as
put_read : (p r : Parts) (v : Inode) (b : FileBlock) (a code i : ℕ) (up : List ℕ) → MayLand p v b → code ≡ code_of b
    → way_to b ≡ i ∷ up
    → ((bytes : List ℕ) → block_in (key_of v.number v.version code) p.cache.locked ≡ Some bytes
    → AppendsBlock p r a bytes)
    → AppendsBlock p r a (read (tree_of p v.number) (i ∷ up))
put_read p r v b a code i up may is way put =
    let waits = some_there (block_in (key_of v.number v.version (code_of b)) p.cache.locked) may.waits in
    subst (AppendsBlock p r a) (waits_read p v b i up waits.0 may.is way waits.1)
    (put waits.0 (ap (λ k. block_in (key_of v.number v.version k) p.cache.locked) is ∙ waits.1))

pub append_waiting-to-requires-clause-waits : goal.append_waiting-to-requires-clause-waits
append_waiting-to-requires-clause-waits c =
    let v = c.args.inode.now in
    subst (λ k. IsLocked (key_of v.number v.version k) c.args.parts.now.cache) (sym c.code.ensures)
    c.requires.may_land.waits

pub set_address-requires-clause-parent : goal.set_address-requires-clause-parent
set_address-requires-clause-parent c = λ i up way.
    let p = c.args.parts.now in let v = c.args.inode.now in let may = c.requires.may_land in
    let put = put_read p c.append_waiting-to.new.parts v c.args.block c.append_waiting-to.result c.code.result i up may
    c.code.ensures way c.append_waiting-to.ensures.put in
    parent_kept p c.append_waiting-to.new.parts v up put.cache (may.parent i up way)

pub move_live-requires : goal.move_live-requires
move_live-requires c = record {
  from_inside = (let p = c.args.parts.now in let v = c.args.inode.now in let may = c.requires.may_land in
      let has = waiting_record p v may.is in
      let same = tree_from-of p v.number v has (c.requires.files.files v.number (fields_of v) has) in
      let lies = lies_in p v.number 0 (used_low p v.number may.is.in_use) c.requires.files.parts.laid_out c.requires.log
      in
      let inside = lies.each c.args.block may.can in
      let from = c.address_of-from.ensures ∙ ap (λ t. address t (way_to c.args.block)) same in
      let w = way_some c.args.block may.can may.other in
      let set = (c.set_address.ensures.set w.0 w.1 w.2).log in
      let many = ap (λ (l : LogParts). l.memory.segments) set ∙ c.append_waiting-to.ensures.extends.segments in
      omega (arith, inside, from, many));
  to_inside = (let p = c.args.parts.now in let v = c.args.inode.now in let may = c.requires.may_land in
      let w = way_some c.args.block may.can may.other in
      let put = put_read p c.append_waiting-to.new.parts v c.args.block c.append_waiting-to.result c.code.result w.0 w.1
      may c.code.ensures w.2 c.append_waiting-to.ensures.put in
      let set = (c.set_address.ensures.set w.0 w.1 w.2).log in
      let many = ap (λ (l : LogParts). l.memory.segments) set ∙ c.append_waiting-to.ensures.extends.segments in
      let below = put.inside in
      let active = c.requires.files.parts.laid_out.active in
      omega (arith, many, below, active));
  had = (λ some.
      let p = c.args.parts.now in let v = c.args.inode.now in let may = c.requires.may_land in
      let has = waiting_record p v may.is in
      let same = tree_from-of p v.number v has (c.requires.files.files v.number (fields_of v) has) in
      let is : address (tree_of p v.number) (way_of (code_of c.args.block)) ≡ c.address_of-from.result =
      ap (address (tree_of p v.number)) (way_of-code_of c.args.block may.can)
      ∙ sym (c.address_of-from.ensures ∙ ap (λ t. address t (way_to c.args.block)) same) in
      let w = way_some c.args.block may.can may.other in
      let put = put_read p c.append_waiting-to.new.parts v c.args.block c.append_waiting-to.result c.code.result w.0 w.1
      may c.code.ensures w.2 c.append_waiting-to.ensures.put in
      let tables = ap (λ (l : LogParts). l.tables) (c.set_address.ensures.set w.0 w.1 w.2).log ∙ put.tables in
      subst (λ (t : Tables). 128 * units (code_of c.args.block) ≤ live_of t (c.address_of-from.result / 64))
      (sym tables)
      (live_had p v.number (code_of c.args.block) c.address_of-from.result c.requires.log
      (used_low p v.number may.is.in_use) (code_of-below c.args.block may.can) may.other is some));
  fits = (λ some.
      let p = c.args.parts.now in let v = c.args.inode.now in let may = c.requires.may_land in
      let w = way_some c.args.block may.can may.other in
      let put = put_read p c.append_waiting-to.new.parts v c.args.block c.append_waiting-to.result c.code.result w.0 w.1
      may c.code.ensures w.2 c.append_waiting-to.ensures.put in
      let tables = ap (λ (l : LogParts). l.tables) (c.set_address.ensures.set w.0 w.1 w.2).log ∙ put.tables in
      subst (λ (t : Tables). live_of t (c.append_waiting-to.result / 64) + 128 * units (code_of c.args.block) ≤ 32768)
      (sym tables)
      (live_fits p c.append_waiting-to.result (code_of c.args.block) c.requires.log put.end put.inside));
}

after : goal.After-settle → Parts
after c = record { log = c.move_live.new.self; cache = c.settle.new.self; waiting = c.set_address.new.parts.waiting }

steps : (c : goal.After-settle) (i : ℕ) (up : List ℕ) → way_to c.args.block ≡ i ∷ up
    → Steps c.args.parts.now c.append_waiting-to.new.parts c.set_address.new.parts
    (after c) c.args.inode.now c.args.block c.append_waiting-to.result i up
unfolding after
steps c i up way =
    let p = c.args.parts.now in let v = c.args.inode.now in let may = c.requires.may_land in
    let has = waiting_record p v may.is in
    let same = tree_from-of p v.number v has (c.requires.files.files v.number (fields_of v) has) in
    let set = c.set_address.ensures.set i up way in
    let put = put_read p c.append_waiting-to.new.parts v c.args.block c.append_waiting-to.result c.code.result i up may
    c.code.ensures way c.append_waiting-to.ensures.put in
    record {
      log = c.requires.log;
      is = may.is;
      low = used_low p v.number may.is.in_use;
      can = may.can;
      other = may.other;
      way = way;
      put = put;
      set = set;
      memory = c.move_live.ensures.memory ∙ ap (λ (l : LogParts). l.memory) set.log;
      rows = c.move_live.ensures.others.rows ∙ ap (λ (l : LogParts). l.tables.rows) set.log;
      waiting = refl;
      gone = subst (λ k. block_in (key_of v.number v.version k) c.settle.new.self.locked
          ≡ None) c.code.ensures c.settle.ensures.clean;
      kept = λ key apart. c.settle.ensures.others.dirty key
          (subst (λ k. same_key (key_of v.number v.version k) key ≡ false) (sym c.code.ensures) apart);
      clean = λ key bytes apart. clean_was c.set_address.new.parts.cache c.settle.new.self
          (key_of v.number v.version c.code.result) key bytes c.settle.ensures.formed
          (keeps_gains c.set_address.new.parts.cache c.settle.new.self
          (key_of v.number v.version c.code.result) c.settle.ensures.others)
          (subst (λ k. same_key (key_of v.number v.version k) key ≡ false) (sym c.code.ensures) apart);
      own = λ bytes there.
          let k = key_of v.number v.version (code_of c.args.block) in
          let waits = some_there (block_in k p.cache.locked) may.waits in
          let set_waits = waits_set p c.append_waiting-to.new.parts c.set_address.new.parts v c.args.block
          c.append_waiting-to.result i up (read (tree_of p v.number) (i ∷ up)) may.can way put set in
          let held = subst (λ n. block_of (key_of v.number v.version n) c.settle.new.self
          ≡ block_of (key_of v.number v.version n) c.set_address.new.parts.cache) c.code.ensures
          c.settle.ensures.kept in
          flushed_own c.set_address.new.parts.cache c.settle.new.self k waits.0 bytes c.settle.ensures.formed held
          (set_waits ∙ waits.1) there
          ∙ waits_read p v c.args.block i up waits.0 may.is way waits.1;
    }

-- the block's own frame stays, and is clean now
own_clean : (c : goal.After-settle) (i : ℕ) (up : List ℕ) → way_to c.args.block ≡ i ∷ up
    → block_in (key_of c.args.inode.now.number c.args.inode.now.version (code_of c.args.block)) (after c).cache.lru
    ≡ block_in (key_of c.args.inode.now.number c.args.inode.now.version (code_of c.args.block))
    c.args.parts.now.cache.locked
unfolding after
own_clean c i up way =
    let p = c.args.parts.now in let v = c.args.inode.now in let may = c.requires.may_land in
    let s = c.set_address.new.parts.cache in let q = c.settle.new.self in
    let k = key_of v.number v.version (code_of c.args.block) in
    let waits = some_there (block_in k p.cache.locked) may.waits in
    let set_waits = waits_set p c.append_waiting-to.new.parts c.set_address.new.parts v c.args.block
    c.append_waiting-to.result i up (read (tree_of p v.number) (i ∷ up)) may.can way (steps c i up way).put
    (c.set_address.ensures.set i up way) in
    let held = subst (λ n. block_of (key_of v.number v.version n) q
    ≡ block_of (key_of v.number v.version n) s) c.code.ensures c.settle.ensures.kept in
    sym (ap (λ o. or_else o (block_in k q.lru)) (steps c i up way).gone) ∙ held
    ∙ ap (λ o. or_else o (block_in k s.lru)) (set_waits ∙ waits.1) ∙ sym waits.1

pub returns-clause-landed : goal.returns-clause-landed
unfolding after
returns-clause-landed c =
    let p = c.args.parts.now in let v = c.args.inode.now in let may = c.requires.may_land in let b = c.args.block in
    let r = c.append_waiting-to.new.parts in let s = c.set_address.new.parts in let q = after c in let a =
    c.append_waiting-to.result in
    let w = way_some b may.can may.other in
    let st = steps c w.0 w.1 w.2 in
    record {
      lands = λ i up way. lands p r s q v b a i up (steps c i up way)
          (waited_parent p v may.is up (may.parent i up way));
      records = λ number other. record_other p r s q v b a w.0 w.1 st number other;
      readings = λ number low other. others_same p r s q v b a w.0 w.1 st number low other;
      file_data = λ number n low. data_same p r s q v b a w.0 w.1 st
          (waited_parent p v may.is w.1 (may.parent w.0 w.1 w.2)) number n low;
      rows = st.rows ∙ ap (λ (t : Tables). t.rows) st.put.tables;
      flushed = st.gone;
      cached = own_clean c w.0 w.1 w.2;
      held = KeepsFrames-trans p.cache s.cache q.cache
          (KeepsFrames-trans p.cache r.cache s.cache (KeepsFrames-same p.cache r.cache st.put.cache)
          c.set_address.ensures.held)
          (flushed_frames s.cache q.cache (key_of v.number v.version c.code.result) c.settle.ensures.kept
          c.settle.ensures.others);
    }

pub returns-clause-log : goal.returns-clause-log
unfolding after
returns-clause-log c =
    let p = c.args.parts.now in let v = c.args.inode.now in let may = c.requires.may_land in let b = c.args.block in
    let r = c.append_waiting-to.new.parts in let s = c.set_address.new.parts in let q = after c in let a =
    c.append_waiting-to.result in
    let has = waiting_record p v may.is in
    let same = tree_from-of p v.number v has (c.requires.files.files v.number (fields_of v) has) in
    let is : address (tree_of p v.number) (way_of (code_of b)) ≡ c.address_of-from.result =
    ap (address (tree_of p v.number)) (way_of-code_of b may.can)
    ∙ sym (c.address_of-from.ensures ∙ ap (λ t. address t (way_to b)) same) in
    let w = way_some b may.can may.other in
    let st = steps c w.0 w.1 w.2 in
    let taken = c.move_live.ensures.step (log_state p).at v.number (place-block p v.number (code_of b) may.other
    ∙ ap (λ n. 4 * n) is) in
    log_after p r s q v b a w.0 w.1 st (waited_parent p v may.is w.1 (may.parent w.0 w.1 w.2))
    (c.append_waiting-to.ensures.named (entry_of v b) c.requires.expected.rest c.requires.expected.expects)
    (subst (λ (l : LogParts). Assigns (log.log_state l (log_state p).at)
    (log.log_state c.move_live.new.self (placed (log_state p).at v.number (code_of b) (4 * a))) v.number (code_of b)
    (4 * a)) st.set.log taken)

pub returns-clause-expects : goal.returns-clause-expects
returns-clause-expects c = λ rest h.
    let may = c.requires.may_land in
    let w = way_some c.args.block may.can may.other in
    let st = steps c w.0 w.1 w.2 in
    subst (λ m. Expects m rest) (sym (c.move_live.ensures.memory ∙ ap (λ (l : LogParts). l.memory) st.set.log))
    (c.append_waiting-to.ensures.expects (entry_of c.args.inode.now c.args.block) rest h)

pub returns-clause-waiting : goal.returns-clause-waiting
unfolding after
returns-clause-waiting c =
    let p = c.args.parts.now in let v = c.args.inode.now in
    let r = c.append_waiting-to.new.parts in let s = c.set_address.new.parts in
    let may = c.requires.may_land in
    let w = way_some c.args.block may.can may.other in
    let stays = c.set_address.ensures.waiting in
    stays_landed p r s (after c) v stays (steps c w.0 w.1 w.2).put.waiting refl c.move_live.ensures.others.rows
    c.settle.ensures.formed

pub returns-clause-files : goal.returns-clause-files
unfolding after
returns-clause-files c =
    let p = c.args.parts.now in let v = c.args.inode.now in let may = c.requires.may_land in let b = c.args.block in
    let r = c.append_waiting-to.new.parts in let s = c.set_address.new.parts in let q = after c in let a =
    c.append_waiting-to.result in
    let w = way_some b may.can may.other in
    let stays = stays_landed p r s q v c.set_address.ensures.waiting (steps c w.0 w.1 w.2).put.waiting refl
    c.move_live.ensures.others.rows c.settle.ensures.formed in
    files_kept p r s q v b a w.0 w.1 (steps c w.0 w.1 w.2)
    (waited_parent p v may.is w.1 (may.parent w.0 w.1 w.2)) c.requires.files stays may.within
    c.move_live.ensures.kept

pub returns-clause-content : goal.returns-clause-content
unfolding after
returns-clause-content c =
    let p = c.args.parts.now in let v = c.args.inode.now in let may = c.requires.may_land in let b = c.args.block in
    let r = c.append_waiting-to.new.parts in let s = c.set_address.new.parts in let q = after c in let a =
    c.append_waiting-to.result in
    let w = way_some b may.can may.other in
    let stays = stays_landed p r s q v c.set_address.ensures.waiting (steps c w.0 w.1 w.2).put.waiting refl
    c.move_live.ensures.others.rows c.settle.ensures.formed in
    content_kept p r s q v b a w.0 w.1 (steps c w.0 w.1 w.2)
    (waited_parent p v may.is w.1 (may.parent w.0 w.1 w.2)) c.requires.files stays may.within
    c.move_live.ensures.kept

pub returns-clause-frames : goal.returns-clause-frames
unfolding after
returns-clause-frames c =
    let p = c.args.parts.now in let v = c.args.inode.now in let may = c.requires.may_land in let b = c.args.block in
    let r = c.append_waiting-to.new.parts in let s = c.set_address.new.parts in let q = after c in let a =
    c.append_waiting-to.result in
    let w = way_some b may.can may.other in
    let stays = stays_landed p r s q v c.set_address.ensures.waiting (steps c w.0 w.1 w.2).put.waiting refl
    c.move_live.ensures.others.rows c.settle.ensures.formed in
    frames_kept p r s q v b a w.0 w.1 (steps c w.0 w.1 w.2)
    (waited_parent p v may.is w.1 (may.parent w.0 w.1 w.2)) c.requires.files stays may.within
    c.move_live.ensures.kept

pub returns-clause-only : goal.returns-clause-only
unfolding after
returns-clause-only c =
    let p = c.args.parts.now in let v = c.args.inode.now in let may = c.requires.may_land in let b = c.args.block in
    let r = c.append_waiting-to.new.parts in let s = c.set_address.new.parts in let q = after c in let a =
    c.append_waiting-to.result in
    let w = way_some b may.can may.other in
    let stays = stays_landed p r s q v c.set_address.ensures.waiting (steps c w.0 w.1 w.2).put.waiting refl
    c.move_live.ensures.others.rows c.settle.ensures.formed in
    frames_only p r s q v b a w.0 w.1 (steps c w.0 w.1 w.2)
    (waited_parent p v may.is w.1 (may.parent w.0 w.1 w.2)) c.requires.files stays may.within
    c.move_live.ensures.kept (may.parent w.0 w.1 w.2)

pub returns-clause-place : goal.returns-clause-place
unfolding after
returns-clause-place c =
    let p = c.args.parts.now in let v = c.args.inode.now in let may = c.requires.may_land in let b = c.args.block in
    let r = c.append_waiting-to.new.parts in let s = c.set_address.new.parts in let q = after c in let a =
    c.append_waiting-to.result in
    let w = way_some b may.can may.other in
    let st = steps c w.0 w.1 w.2 in
    let put = c.append_waiting-to.ensures in
    record {
      end = st.put.end;
      next = ap next_address st.memory ∙ put.next;
      segments = ap (λ (m : SegmentMemory). m.segments) st.memory ∙ put.extends.segments;
      serials = ap has_serials st.memory ∙ put.extends.serials;
      rising = λ r. subst IsRising (sym st.memory) (st.put.rising r);
      active = ap (λ (m : SegmentMemory). m.active) st.memory ∙ put.extends.active;
      states = c.move_live.ensures.others.states ∙ ap (λ (l : LogParts). l.tables.states) st.set.log
          ∙ ap (λ (t : Tables). t.states) st.put.tables;
      clean = c.move_live.ensures.clean ∙ ap (λ (l : LogParts). l.clean) st.set.log ∙ st.put.step.used.clean;
      places = place_after p r s q v b a w.0 w.1 st (waited_parent p v may.is w.1 (may.parent w.0 w.1 w.2));
      blocks = block_other p r s q v b a w.0 w.1 st;
    }

pub returns-clause-fewer : goal.returns-clause-fewer
returns-clause-fewer c =
    let may = c.requires.may_land in
    let w = way_some c.args.block may.can may.other in
    let st = steps c w.0 w.1 w.2 in
    let same : length c.set_address.new.parts.cache.locked ≡ length c.args.parts.now.cache.locked = st.set.many
    ∙ ap (λ (s : Contents). length s.locked) st.put.cache in
    let one = c.settle.ensures.one_less in
    omega arith

pub settle-requires : goal.settle-requires
settle-requires c =
    let p = c.args.parts.now in let v = c.args.inode.now in let may = c.requires.may_land in
    let w = way_some c.args.block may.can may.other in
    let set = c.set_address.ensures.set w.0 w.1 w.2 in
    let put = put_read p c.append_waiting-to.new.parts v c.args.block c.append_waiting-to.result c.code.result w.0 w.1
    may c.code.ensures w.2 c.append_waiting-to.ensures.put in
    let waits = waits_set p c.append_waiting-to.new.parts c.set_address.new.parts v c.args.block
    c.append_waiting-to.result w.0 w.1 (read (tree_of p v.number) (w.0 ∷ w.1)) may.can w.2 put set in
    subst (λ k. IsLocked (key_of v.number v.version k) c.set_address.new.parts.cache) (sym c.code.ensures)
    (ap is_some waits ∙ may.waits)

pub set_address-requires-clause-in_volume : goal.set_address-requires-clause-in_volume
set_address-requires-clause-in_volume c = search rules
