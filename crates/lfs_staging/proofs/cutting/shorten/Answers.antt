use Rattle.std.proofs.Common.{◌≡◌, ◌<◌, length, Some, sym, ap, ◌∙◌, subst, arith}
use Rattle.lfs_ifile.specs.Tables.{row_of}
use Rattle.lfs_inodes.specs.Addresses.{addresses}
use Rattle.lfs_inodes.specs.Attributes.{Attributes}
use Rattle.lfs_inodes.specs.Facts.{block_count}
use Rattle.lfs_inodes.specs.Reading.{fields_of}
use Rattle.lfs_staging.specs.Cutting.{MayShorten, Shortens}
use Rattle.lfs_parts.specs.View.{record_of}
use Rattle.lfs_parts.specs.Waiting.{without}
use Rattle.lfs_parts.proofs.FrameLemmas.{waiting_number}
use Rattle.lfs_staging.proofs.ShorterLemmas.{cut_addresses, shortened}
use Rattle.lfs_parts.proofs.WaitingLemmas.{length-less}
use Rattle.lfs_staging.proofs.cutting.shorten.Goals as goal

pub cut-requires-clause-less : goal.cut-requires-clause-less
cut-requires-clause-less c = c.requires.less (fields_of c.record_in_use-inode.result) c.record_in_use-inode.ensures.here

pub cut-requires-clause-sized : goal.cut-requires-clause-sized
cut-requires-clause-sized c = c.requires.sized
    (fields_of c.record_in_use-inode.result) c.record_in_use-inode.ensures.here

pub stage_record-requires-clause-in_use : goal.stage_record-requires-clause-in_use
stage_record-requires-clause-in_use c =
    let p = c.args.parts.now in
    let same = waiting_number p.waiting c.args.ino c.record_in_use-inode.result
    (c.record_in_use-inode.ensures.waits c.requires.waits) in
    ap (λ n. (row_of p.log.tables n).used) (ap (λ (a : Attributes). a.number) c.cut.ensures.attributes ∙ same)
    ∙ c.requires.in_use

pub stage_record-requires-clause-room : goal.stage_record-requires-clause-room
stage_record-requires-clause-room c =
    let p = c.args.parts.now in
    let same = waiting_number p.waiting c.args.ino c.record_in_use-inode.result
    (c.record_in_use-inode.ensures.waits c.requires.waits) in
    let less = length-less p.waiting c.args.ino c.requires.waits in
    let few = c.requires.staged.few in
    let own : c.cut.result.number ≡ c.args.ino = ap (λ (a : Attributes). a.number) c.cut.ensures.attributes ∙ same in
    subst (λ n. length (without n p.waiting) < 64) (sym own) (omega arith)

pub returns : goal.returns
returns c =
    let p = c.args.parts.now in
    let v = c.record_in_use-inode.result in
    let waits = c.record_in_use-inode.ensures.waits c.requires.waits in
    let same = waiting_number p.waiting c.args.ino v waits in
    let may = subst (λ n. MayShorten p n c.args.len) (sym same) c.requires in
    let has : record_of p v.number ≡ Some (fields_of v) = ap (record_of p) same ∙ c.record_in_use-inode.ensures.here in
    let roots : addresses c.cut.result ≡ addresses v = c.cut.ensures.addresses
    ∙ cut_addresses p v (block_count c.args.len) has may.gone in
    subst (λ n. Shortens n c.args.len p c.stage_record.new.parts) same
    (shortened p c.stage_record.new.parts v c.cut.result c.args.len may has c.stage_record.ensures
    c.cut.ensures.attributes roots)
