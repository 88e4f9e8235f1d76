use Rattle.std.specs.Vec.{vec_len}
use Rattle.lfs_trace.proofs.StandingLemmas.{in_places, never_lacks}
use Rattle.lfs_trace.proofs.checker.is_plain.Goals as goal

pub returns : goal.returns
returns c = record {
  few = c.args.store.now.bounded;
  within = λ n used. rw c.args.store.now.places.ok.0 (in_places c.args.store.now.places.items n used);
  roomy = never_lacks (vec_len c.args.store.now.places) c.args.store.now.places.items;
}
