use Rattle.std.proofs.Common.{◌≡◌, ℕ, ◌==◌, IfErr, List, Option, ap, subst}
use Rattle.lfs_audit.specs.declared.fault.RunFault.TheVariants.{Read}
use Rattle.lfs_volume.specs.Cleanings.{cleaner_of}
use Rattle.lfs_live.specs.Talkers.{texts_of}
use Rattle.lfs_programs.specs.Talks.{HasTalkedSoFar}
use Rattle.lfs_programs.specs.Volumes.{kind_of}
use Rattle.lfs_programs.proofs.VolumeLemmas.{pieces_left}
use Rattle.lfs_programs.proofs.shell.run.Goals as goal

pub returns-in-Ok-clause-so_far : goal.returns-in-Ok-clause-so_far
returns-in-Ok-clause-so_far g c =
    let kind = kind_of g.F.File.Write.contents
    (cleaner_of g.S.FileStore.state g.S.FileStore.is_flushed g.S.FileStore.made g.S.CleanedStore.cleaner)
    (texts_of g.S.ShowsLog.map_text g.S.ShowsLog.segment_text g.S.ShowsLog.space_text) g.S.ChecksLog.checked
    g.S.OnLog.stand in
    subst (λ (known : Option (List ℕ)). IfErr c.hear.result (λ fault. fault ≡ Read
    → HasTalkedSoFar g.F.File.Write.contents kind c.args.means.now.options known (g.W.Write.contents c.args.stdout.now)
    (g.W.Write.contents c.hear.new.writer)))
    (pieces_left (λ b. g.R.Read.remaining b.now) c.in-Ok.pieces _ c.in-Ok.ensures.inner c.in-Ok.ensures.empty
    (ap (λ (n : ℕ). n == 0) c.in-Ok.ensures.capacity)) c.hear.ensures.so_far
