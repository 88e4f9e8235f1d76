use Rattle.std.proofs.Common.{◌≡◌, List, ℕ, ap, subst, ◌∙◌}
use Rattle.std.proofs.lemmas.Result.{on_ok_weaker}
use Rattle.lfs_disk.proofs.CallLemmas.{left-sync, seen-sync}
use Rattle.lfs_disk.specs.declared.calls.Call.{Call}
use Rattle.lfs_disk.specs.Calls.{left_from, seen_after}
use Rattle.lfs_file_disk.specs.File.{calls_of, first_blocks}
use Rattle.lfs_file_disk.proofs.ToldLemmas.{synced_left}
use Rattle.lfs_file_disk.proofs.disk.FileDiskBlockDisk.sync.Goals as goal

pub returns-clause-synced : goal.returns-clause-synced
returns-clause-synced g c =
    let disk = c.args.self.now in
    let same : first_blocks c.settle.new.self ≡ first_blocks disk = ap (λ s. s.value.items) c.settle.ensures.first in
    on_ok_weaker c.settle.result
    (λ told l left. left-sync (λ d. d ≡ first_blocks disk) (first_blocks disk) (calls_of disk) l
    (subst (λ (calls : List Call). left_from (first_blocks disk) calls l) told
    (subst (λ (first : List (List ℕ)). left_from first (calls_of c.settle.new.self) l) same left)))
    c.settle.ensures.told

pub returns-clause-seen : goal.returns-clause-seen
returns-clause-seen g c =
    let disk = c.args.self.now in
    let same : first_blocks c.settle.new.self ≡ first_blocks disk = ap (λ s. s.value.items) c.settle.ensures.first in
    on_ok_weaker c.settle.result
    (λ told. ap (λ first. seen_after first (calls_of c.settle.new.self)) same
    ∙ (ap (seen_after (first_blocks disk)) told ∙ seen-sync (first_blocks disk) (calls_of disk)))
    c.settle.ensures.told

pub returns-clause-crash : goal.returns-clause-crash
returns-clause-crash g c l left =
    let disk = c.args.self.now in
    let same : first_blocks c.settle.new.self ≡ first_blocks disk = ap (λ s. s.value.items) c.settle.ensures.first in
    synced_left (first_blocks disk) (calls_of disk) (calls_of c.settle.new.self) c.settle.result
    c.settle.ensures.told c.settle.ensures.still l
    (subst (λ (first : List (List ℕ)). left_from first (calls_of c.settle.new.self) l) same left)
