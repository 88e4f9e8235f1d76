use Rattle.std.proofs.Common.{◌≡◌, ◌+◌, ◌-◌, ◌/◌, ◌++◌, length, take, drop, option_map, ap, subst, sym, ◌∙◌, arith}
use Rattle.std.proofs.lemmas.List.{length-take}
use Rattle.lfs_types.specs.declared.block.TheConstants.{BLOCK_SIZE}
use Rattle.lfs_types.specs.Stored.{Reads, bytes_of, slice_of}
use Rattle.lfs_inodes.specs.Reading.{fields_of}
use Rattle.lfs_bmap.specs.Pieces.{file_bytes}
use Rattle.lfs_bmap.specs.Reading.{data_block}
use Rattle.lfs_bmap.proofs.PieceLemmas.{file_bytes-length}
use Rattle.lfs_parts.specs.Files.{content_of}
use Rattle.lfs_parts.specs.Filling.{IsCached}
use Rattle.lfs_parts.specs.Store.{IsPresent}
use Rattle.lfs_parts.specs.View.{LiesIn, blocks_of, record_of, tree_of, version_of}
use Rattle.lfs_parts.proofs.FileLemmas.{bytes_of-none, bytes_of-record, given_record, record_of-past, record_used}
use Rattle.lfs_parts.proofs.KeyLemmas.{lies_in}
use Rattle.lfs_parts.proofs.ReadLemmas.{read_front, read_past}
use Rattle.lfs_cache.proofs.Named.{none_of}
use Rattle.lfs_parts.proofs.parts.Parts.read.Goals as goal

pub returns-then-ino-inodes-clause-reads : goal.returns-then-ino-inodes-clause-reads
returns-then-ino-inodes-clause-reads c =
    let p = c.args.self.now in
    let none = bytes_of-none p c.args.ino (record_of-past p c.args.ino (omega arith)) in
    read_past (bytes_of (content_of p) c.args.ino) c.args.off c.args.into.now (omega (arith, ap length none))

pub returns-in_default-clause-reads : goal.returns-in_default-clause-reads
returns-in_default-clause-reads c =
    let p = c.args.self.now in
    let none = sym c.record.ensures.shown ∙ ap (option_map fields_of) (none_of c.record.result c.in_default.not-Some) in
    let empty = bytes_of-none p c.args.ino none in
    read_past (bytes_of (content_of p) c.args.ino) c.args.off c.args.into.now (omega (arith, ap length empty))

pub returns-then-off-inode-clause-reads : goal.returns-then-off-inode-clause-reads
returns-then-off-inode-clause-reads c =
    let p = c.args.self.now in
    let v = c.in-Some.inode in
    let has = given_record p c.args.ino c.record.result v c.record.ensures.shown c.in-Some.is in
    let file = c.requires.whole.files c.args.ino (fields_of v) has in
    let long = file_bytes-length (data_block (tree_of p c.args.ino)) file.padded.whole v.size in
    let all = ap length (bytes_of-record p c.args.ino (fields_of v) has) in
    read_past (bytes_of (content_of p) c.args.ino) c.args.off c.args.into.now (omega (arith, all, long))

pub read_blocks-requires-clause-present : goal.read_blocks-requires-clause-present
read_blocks-requires-clause-present c =
    let p = c.args.self.now in
    let v = c.in-Some.inode in
    let has = given_record p c.args.ino c.record.result v c.record.ensures.shown c.in-Some.is in
    let file = c.requires.whole.files c.args.ino (fields_of v) has in
    subst (λ n. IsPresent p n v.version) (sym file.own_number)
    (record { in_use = record_used p c.args.ino (fields_of v) has; at_version = file.own_version })

pub read_blocks-requires-clause-here : goal.read_blocks-requires-clause-here
read_blocks-requires-clause-here c =
    let p = c.args.self.now in
    let v = c.in-Some.inode in
    let has = given_record p c.args.ino c.record.result v c.record.ensures.shown c.in-Some.is in
    ap (record_of p) (c.requires.whole.files c.args.ino (fields_of v) has).own_number ∙ has

pub read_blocks-requires-clause-inside : goal.read_blocks-requires-clause-inside
read_blocks-requires-clause-inside c =
    let p = c.args.self.now in
    let v = c.in-Some.inode in
    let has = given_record p c.args.ino c.record.result v c.record.ensures.shown c.in-Some.is in
    let own = (c.requires.whole.files c.args.ino (fields_of v) has).own_number in
    subst (λ n. LiesIn (blocks_of p) (tree_of p n)) (sym own)
    (lies_in p c.args.ino 0 (omega arith) c.requires.whole.parts.laid_out c.requires.log)

pub read_blocks-requires-clause-below : goal.read_blocks-requires-clause-below
read_blocks-requires-clause-below c = omega (arith, length-take c.min-count.result c.args.into.now)

pub returns-clause-reads : goal.returns-clause-reads
returns-clause-reads c =
    let p = c.args.self.now in
    let v = c.in-Some.inode in
    let has = given_record p c.args.ino c.record.result v c.record.ensures.shown c.in-Some.is in
    let file = c.requires.whole.files c.args.ino (fields_of v) has in
    let bytes = file_bytes (data_block (tree_of p c.args.ino)) v.size in
    let long : length bytes ≡ v.size = file_bytes-length (data_block (tree_of p c.args.ino)) file.padded.whole v.size in
    let front = c.read_blocks.ensures.filled
    ∙ ap (λ n. slice_of (file_bytes (data_block (tree_of p n)) v.size) c.args.off
    (length (take c.min-count.result c.args.into.now))) file.own_number in
    subst (λ xs. Reads (slice_of xs c.args.off (length c.args.into.now)) c.min-count.result c.args.into.now
    (c.read_blocks.new.into ++ drop c.min-count.result c.args.into.now))
    (sym (bytes_of-record p c.args.ino (fields_of v) has))
    (read_front bytes c.args.off c.min-count.result c.args.into.now c.read_blocks.new.into (omega arith) front)

pub returns-clause-cached : goal.returns-clause-cached
returns-clause-cached c = λ some.
    let p = c.args.self.now in
    let q = c.read_blocks.new.self in
    let v = c.in-Some.inode in
    let has = given_record p c.args.ino c.record.result v c.record.ensures.shown c.in-Some.is in
    let file = c.requires.whole.files c.args.ino (fields_of v) has in
    let last = (c.args.off + c.min-count.result - 1) / BLOCK_SIZE in
    let long = length-take c.min-count.result c.args.into.now in
    let read : IsCached v.number v.version last q =
    subst (λ k. IsCached v.number v.version ((c.args.off + k - 1) / BLOCK_SIZE) q) (omega (arith, long))
    (c.read_blocks.ensures.cached (omega (arith, long))) in
    subst (λ n. IsCached n (version_of p c.args.ino) last q) file.own_number
    (subst (λ version. IsCached v.number version last q) file.own_version read)
