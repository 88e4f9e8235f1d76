use Rattle.std.proofs.Common.{◌≡◌, ◌++◌, ◌∷◌, [], refl}
use Rattle.lfs_parts.specs.declared.parts.Parts.{Parts}
use Rattle.lfs_segwrite.proofs.NotedLemmas.{Flushes, last_low, last_move, last_present, flushed_advances}
use Rattle.lfs_segwrite.proofs.NotedLemmas.{flushed_staged}
use Rattle.lfs_segwrite.proofs.records.note_landed.Goals as goal

pub place_record-requires-clause-in_range : goal.place_record-requires-clause-in_range
place_record-requires-clause-in_range c =
    let items : c.args.parts.now.waiting ≡ c.pop-inode.new.self ++ c.pop-inode.result ∷ [] = c.pop-inode.ensures in
    last_low c.args.parts.now c.pop-inode.result c.pop-inode.new.self c.args.address c.args.slot 0 c.requires.staged
    items (c.requires.stands _ _ items)

pub place_record-requires-clause-used : goal.place_record-requires-clause-used
place_record-requires-clause-used c =
    let items : c.args.parts.now.waiting ≡ c.pop-inode.new.self ++ c.pop-inode.result ∷ [] = c.pop-inode.ensures in
    (last_present c.args.parts.now c.pop-inode.result c.pop-inode.new.self c.args.address c.args.slot 0
    c.requires.staged items (c.requires.stands _ _ items)).in_use

pub place_record-requires-clause-moves : goal.place_record-requires-clause-moves
place_record-requires-clause-moves c =
    let items : c.args.parts.now.waiting ≡ c.pop-inode.new.self ++ c.pop-inode.result ∷ [] = c.pop-inode.ensures in
    last_move c.args.parts.now c.pop-inode.result c.pop-inode.new.self c.args.address c.args.slot 0 c.requires.staged
    items (c.requires.stands _ _ items)

pub returns-clause-staged : goal.returns-clause-staged
returns-clause-staged c =
    let items : c.args.parts.now.waiting ≡ c.pop-inode.new.self ++ c.pop-inode.result ∷ [] = c.pop-inode.ensures in
    let q : Parts = record {
      log = c.place_record.new.self;
      cache = c.args.parts.now.cache;
      waiting = c.pop-inode.new.self;
    } in
    let h : Flushes c.args.parts.now q c.pop-inode.result c.pop-inode.new.self c.args.address c.args.slot = record {
      staged = c.requires.staged;
      no_frame = c.requires.no_frame;
      items = items;
      stands = c.requires.stands _ _ items;
      left = refl;
      cache = refl;
      memory = c.place_record.ensures.memory;
      row = c.place_record.ensures.row;
      rows = c.place_record.ensures.rows;
      inodes = c.place_record.ensures.inodes;
      states = c.place_record.ensures.states;
      clean = c.place_record.ensures.clean;
      kept = c.place_record.ensures.kept;
      step = c.place_record.ensures.step;
    } in
    flushed_staged c.args.parts.now q c.pop-inode.result c.pop-inode.new.self c.args.address c.args.slot h

pub returns-clause-advances : goal.returns-clause-advances
returns-clause-advances c =
    let items : c.args.parts.now.waiting ≡ c.pop-inode.new.self ++ c.pop-inode.result ∷ [] = c.pop-inode.ensures in
    let q : Parts = record {
      log = c.place_record.new.self;
      cache = c.args.parts.now.cache;
      waiting = c.pop-inode.new.self;
    } in
    let h : Flushes c.args.parts.now q c.pop-inode.result c.pop-inode.new.self c.args.address c.args.slot = record {
      staged = c.requires.staged;
      no_frame = c.requires.no_frame;
      items = items;
      stands = c.requires.stands _ _ items;
      left = refl;
      cache = refl;
      memory = c.place_record.ensures.memory;
      row = c.place_record.ensures.row;
      rows = c.place_record.ensures.rows;
      inodes = c.place_record.ensures.inodes;
      states = c.place_record.ensures.states;
      clean = c.place_record.ensures.clean;
      kept = c.place_record.ensures.kept;
      step = c.place_record.ensures.step;
    } in
    flushed_advances c.args.parts.now q c.pop-inode.result c.pop-inode.new.self c.args.address c.args.slot h
