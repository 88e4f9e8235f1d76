-- A look at a volume changes nothing that it shows: what holds in the tree that it leads to holds behind the look, and
-- held before it.
use Rattle.std.proofs.Common.{[], ◌∙◌, sym, ap, subst, append-nil}
use Rattle.lfs_types.specs.StoreStates.{StoreState}
use Rattle.lfs_types.specs.Tree.{World}
use Rattle.lfs_model.specs.Steps.{world_after}
use Rattle.lfs_volume.specs.Journals.{AtPresent, IsJournal}
use Rattle.lfs_volume.specs.Seen.{Seen}
use Rattle.lfs_nodes.specs.declared.parts.Parts.{Parts}
use Rattle.lfs_nodes.specs.Nodes.{AreNodes, known}
use Rattle.lfs_mount.specs.Leaving.{IsLooked}
use Rattle.lfs_mount.specs.Runs.{GoesOn, IsRun}
use Rattle.lfs_mount.specs.Trees.{StayTrue}

module _ {F : Type 0} (state : F → StoreState) where
  pub looked_again : (old between new : Seen F) → IsLooked state old between → IsLooked state between new
      → IsLooked state old new
  looked_again old between new first second = record {
    unchanged = second.unchanged ∙ first.unchanged;
    others = second.others ∙ ap (λ (v : Seen F). record v { store = new.store }) first.others;
  }

  pub behind_look : (P : World → Type 0) (old new : Seen F) → IsLooked state old new → AtPresent state old P
      → AtPresent state new P
  behind_look P old new looked holds = subst (λ (v : Seen F). AtPresent state v P) (sym looked.others)
      (λ from begins. subst (λ (s : StoreState). P (world_after s.shape.numbers old.journal from))
      (sym looked.unchanged) (holds from begins))

  pub before_look : (P : World → Type 0) (old new : Seen F) → IsLooked state old new → AtPresent state new P
      → AtPresent state old P
  before_look P old new looked holds =
      let here : AtPresent state (record old { store = new.store }) P =
      subst (λ (v : Seen F). AtPresent state v P) looked.others holds in
      λ from begins. subst (λ (s : StoreState). P (world_after s.shape.numbers old.journal from))
      looked.unchanged (here from begins)

  looked_run : (old new : Seen F) → IsLooked state old new → IsRun state old → IsRun state new
  looked_run old new looked run = subst (λ (v : Seen F). IsRun state v) (sym looked.others)
      (λ from begins. subst (λ (s : StoreState). IsJournal from s old.level old.journal old.limit)
      (sym looked.unchanged) (run from begins))

  pub look_goes : (old new : Seen F) → IsLooked state old new → GoesOn state old new
  look_goes old new looked = record {
    more = [];
    entered = ap (λ (v : Seen F). v.journal) looked.others ∙ sym (append-nil old.journal);
    since = ap (λ (v : Seen F). v.since) looked.others;
    since_level = ap (λ (v : Seen F). v.since_level) looked.others;
    limit = ap (λ (v : Seen F). v.limit) looked.others;
    shape = ap (λ (s : StoreState). s.shape) looked.unchanged;
    legal = looked_run old new looked;
  }

  pub look_stays : (nodes : Parts) (old new : Seen F) → IsLooked state old new
      → StayTrue state old nodes new nodes
  look_stays nodes old new looked = behind_look (λ w. AreNodes w.rows (known nodes)) old new looked

  pub look_then_stays : (nodes after : Parts) (old between new : Seen F) → IsLooked state old between
      → StayTrue state between nodes new after → StayTrue state old nodes new after
  look_then_stays nodes after old between new looked stays = λ are.
      stays (look_stays nodes old between looked are)
