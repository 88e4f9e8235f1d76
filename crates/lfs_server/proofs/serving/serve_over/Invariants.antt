use Rattle.std.proofs.Common.{◌≡◌}
use Rattle.lfs_server.proofs.serving.serve_over.Given as goal

abbrev pub ghosts-run_kept : goal.ghosts-run_kept
ghosts-run_kept g a = record {
  shape = (g.F.FileStore.state a.volume.store).shape;
  limit = a.volume.limit;
  since = λ store. store ≡ a.volume.since;
  since_level = a.volume.since_level;
}
