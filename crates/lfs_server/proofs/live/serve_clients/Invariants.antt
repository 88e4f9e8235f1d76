use Rattle.std.proofs.Common.{◌≡◌}
use Rattle.lfs_server.proofs.live.serve_clients.Given as goal

abbrev pub ghosts-serve_kept : goal.ghosts-serve_kept
ghosts-serve_kept g a = record {
  shape = (g.F.FileStore.state a.volume.store).shape;
  limit = a.volume.limit;
  since = λ store. store ≡ a.volume.since;
  since_level = a.volume.since_level;
}
