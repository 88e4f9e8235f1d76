use Rattle.std.proofs.Common.{◌≡◌, List, ℕ, ap, subst, sym, ◌∙◌}
use Rattle.std.proofs.lemmas.Result.{on_ok_weaker}
use Rattle.lfs_disk.proofs.CallLemmas.{seen-write}
use Rattle.lfs_disk.specs.Calls.{left_from, seen_after}
use Rattle.lfs_disk.specs.Disk.{LandsOrNot}
use Rattle.lfs_file_disk.specs.File.{calls_of, first_blocks}
use Rattle.lfs_file_disk.proofs.ToldLemmas.{wrote_left}
use Rattle.lfs_file_disk.proofs.disk.FileDiskBlockDisk.write.Goals as goal

pub returns-clause-written : goal.returns-clause-written
returns-clause-written g c =
    let disk = c.args.self.now in
    let same : first_blocks c.put.new.self ≡ first_blocks disk = ap (λ s. s.value.items) c.put.ensures.first in
    on_ok_weaker c.put.result
    (λ well. ap (λ first. seen_after first (calls_of c.put.new.self)) same
    ∙ (ap (seen_after (first_blocks disk)) (c.put.ensures.told well)
    ∙ seen-write (first_blocks disk) (calls_of disk) c.args.address c.args.block.now))
    c.put.ensures.well

pub returns-clause-crash : goal.returns-clause-crash
returns-clause-crash g c =
    let disk = c.args.self.now in
    let same : first_blocks c.put.new.self ≡ first_blocks disk = ap (λ s. s.value.items) c.put.ensures.first in
    subst (λ (first : List (List ℕ)). LandsOrNot c.args.address c.args.block.now
    (left_from (first_blocks disk) (calls_of disk)) (left_from first (calls_of c.put.new.self)))
    (sym same)
    (wrote_left (first_blocks disk) (calls_of disk) (calls_of c.put.new.self) c.args.address c.args.block.now
    disk.host.has_failed c.put.ensures.told c.put.ensures.still)
