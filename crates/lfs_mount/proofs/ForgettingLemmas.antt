-- Nodes that are forgotten: `forgotten_none` and `forgotten_more` for the loop over a batch, and `plain_forgets` for a
-- message that has nothing forgotten.
use Rattle.std.proofs.Common.{◌≡◌, ℕ, suc, ◌+◌, List, refl, subst, arith}
use Rattle.lfs_nodes.specs.declared.parts.Parts.{Parts}
use Rattle.lfs_fuse_wire.specs.Forgetting.{node_forgotten_at}
use Rattle.lfs_fuse_wire.specs.Said.{Said, init, destroy, lookup, forget, batch_forget, interrupt, getattr}
use Rattle.lfs_fuse_wire.specs.Said.{setattr, access, mknod, mkdir, create, unlink, rmdir, rename, opening, read}
use Rattle.lfs_fuse_wire.specs.Said.{write, flush, release, fsync, opendir, readdir, readdirplus, releasedir}
use Rattle.lfs_fuse_wire.specs.Said.{fsyncdir, statfs, ioctl, unserved, unknown}
use Rattle.lfs_mount.specs.Forgetting.{AreForgotten, ForgetsNothing, IsForgetting, IsOneForgotten}

pub forgotten_none : (bytes : List ℕ) (nodes : Parts) → AreForgotten bytes 0 nodes nodes
unfolding AreForgotten
forgotten_none bytes nodes = refl

pub forgotten_more : (bytes : List ℕ) (n : ℕ) (before between after : Parts) → AreForgotten bytes n before between
    → IsOneForgotten (node_forgotten_at n bytes) between after → AreForgotten bytes (n + 1) before after
unfolding AreForgotten
forgotten_more bytes n before between after are one =
    let next : suc n ≡ n + 1 = omega arith in
    subst (λ k. AreForgotten bytes k before after) next (between, are, one)

pub plain_forgets : (message : Said) (node : ℕ) (before after : Parts) → ForgetsNothing message
    → IsForgetting message node before after
plain_forgets (init fields) node before after plain = tt
plain_forgets destroy node before after plain = tt
plain_forgets (lookup name) node before after plain = tt
plain_forgets (forget fields) node before after plain = absurd plain
plain_forgets (batch_forget bytes) node before after plain = absurd plain
plain_forgets (interrupt number) node before after plain = tt
plain_forgets (getattr fields) node before after plain = tt
plain_forgets (setattr fields) node before after plain = tt
plain_forgets (access fields) node before after plain = tt
plain_forgets (mknod fields name) node before after plain = tt
plain_forgets (mkdir fields name) node before after plain = tt
plain_forgets (create fields name) node before after plain = tt
plain_forgets (unlink name) node before after plain = tt
plain_forgets (rmdir name) node before after plain = tt
plain_forgets (rename fields name new_name) node before after plain = tt
plain_forgets (opening fields) node before after plain = tt
plain_forgets (read fields) node before after plain = tt
plain_forgets (write fields bytes) node before after plain = tt
plain_forgets (flush fields) node before after plain = tt
plain_forgets (release fields) node before after plain = tt
plain_forgets (fsync fields) node before after plain = tt
plain_forgets (opendir fields) node before after plain = tt
plain_forgets (readdir fields) node before after plain = tt
plain_forgets (readdirplus fields) node before after plain = tt
plain_forgets (releasedir fields) node before after plain = tt
plain_forgets (fsyncdir fields) node before after plain = tt
plain_forgets statfs node before after plain = tt
plain_forgets (ioctl fields) node before after plain = tt
plain_forgets (unserved kind) node before after plain = tt
plain_forgets (unknown number) node before after plain = tt
