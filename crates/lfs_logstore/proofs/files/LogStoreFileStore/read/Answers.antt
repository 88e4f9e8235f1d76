use Rattle.std.proofs.Common.{◌+◌, ◌-◌, ◌/◌, ◌<◌, rules, ap, ◌∙◌, subst}
use Rattle.lfs_types.specs.declared.block.TheConstants.{BLOCK_SIZE}
use Rattle.lfs_logstore.specs.States.{state_of}
use Rattle.lfs_logstore.proofs.RoomLemmas.{same_room, same_state}
use Rattle.lfs_parts.specs.declared.parts.Parts.{Parts}
use Rattle.lfs_parts.specs.Filling.{IsCached}
use Rattle.lfs_parts.specs.View.{version_of}
use Rattle.lfs_parts.proofs.FilledLemmas.{same_store}
use Rattle.lfs_logstore.proofs.files.LogStoreFileStore.read.Goals as goal

pub returns-clause-reads : goal.returns-clause-reads
returns-clause-reads c = search rules

pub returns-clause-state : goal.returns-clause-state
returns-clause-state c = same_state c.self.inside.parts c.read.new.self c.read.ensures.kept ∙ ap state_of c.self.view_is

pub returns-clause-cached : goal.returns-clause-cached
returns-clause-cached c = subst
    (λ (p : Parts). 0 < c.read.result → IsCached c.args.ino (version_of p c.args.ino)
    ((c.args.off + c.read.result - 1) / BLOCK_SIZE) c.read.new.self) c.self.view_is c.read.ensures.cached

pub invariant_of-self : goal.invariant_of-self
invariant_of-self c = (
  same_store c.self.inside.parts c.read.new.self c.read.ensures.kept c.self.invariant.0,
  same_room c.self.inside.parts c.read.new.self c.read.ensures.kept c.self.invariant.1,
)
