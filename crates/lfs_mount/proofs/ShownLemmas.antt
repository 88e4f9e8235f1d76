-- Nodes that are true of a tree of some content are true of each tree of that content: `shown_on`, `gone_on` and
-- `went`, for the law `stay_true`. Which row hangs under a name is told by the bytes of the directory's file, and these
-- are the content's; so two trees that are shown of one content have the same names with the same numbers
-- (`shown_child`), and nodes are about nothing else. A volume that looked, let entries go or went on without a change
-- has the content that it had.
use Rattle.std.proofs.Common.{◌≡◌, ℕ, List, Option, None, Some, refl, sym, ap, subst, ◌∙◌}
use Rattle.std.specs.Prelude.{option_map}
use Rattle.std.specs.FinMap as map
use Rattle.lfs_types.specs.StoreStates.{StoreState}
use Rattle.lfs_types.specs.Tree.{Content, File, Row, World}
use Rattle.lfs_types.specs.declared.attrs.Kind.TheVariants.{Directory}
use Rattle.lfs_types.specs.declared.level.Level.{Level}
use Rattle.lfs_types.proofs.Somewhere.{some_and}
use Rattle.lfs_model.specs.World.{IsChild}
use Rattle.lfs_model.proofs.Children.{child-answer, child-is}
use Rattle.lfs_calls.specs.Content.{visible}
use Rattle.lfs_calls.specs.Volumes.{IsVolume}
use Rattle.lfs_volume.specs.Journals.{AtPresent, Begins, HasBegun}
use Rattle.lfs_volume.specs.Seen.{Seen}
use Rattle.lfs_nodes.specs.declared.node.Node.{Node}
use Rattle.lfs_nodes.specs.declared.parts.Parts.{Parts}
use Rattle.lfs_nodes.specs.Nodes.{AreNodes, known}
use Rattle.lfs_nodes.proofs.LawLemmas.{nodes_kept}
use Rattle.lfs_mount.specs.Runs.{GoesOn, IsRun}
use Rattle.lfs_mount.specs.Tending.{let_go}
use Rattle.lfs_mount.specs.Trees.{StayTrue}

-- a directory's file
record DirectoryFile (o : Option File) : Type 0 where
  file : File
  is : o ≡ Some file
  kind : file.kind ≡ Directory

directory_file : (o : Option File) (r : Row) → option_map visible o ≡ Some r.file → r.file.kind ≡ Directory
    → DirectoryFile o
directory_file None r e kind = absurd (cc)
directory_file (Some f) r e kind =
    let same : visible f ≡ r.file = cc in
    record { file = f; is = refl; kind = ap (λ (x : File). x.kind) same ∙ kind }

-- what hangs in a tree hangs in each of the same content
shown_child : (s t : StoreState) (w v : World) → IsVolume s w → IsVolume t v → t.content ≡ s.content
    → (p : ℕ) (name : List ℕ) (n : ℕ) → IsChild w.rows p name n → IsChild v.rows p name n
shown_child s t w v shown after same p name n c =
    let up = some_and (map.get w.rows c.row.parent) _ (shown.tree.parents n c.row c.there) in
    let there : map.get w.rows p ≡ Some up.value = ap (map.get w.rows) (sym c.hangs) ∙ up.is in
    let dir = directory_file (map.get s.content p) up.value
    (shown.shows.files p ∙ ap (option_map (λ (r : Row). r.file)) there) up.holds in
    let before = shown.shows.listings p dir.file dir.is dir.kind in
    let now = after.shows.listings p dir.file (ap (λ (x : Content). map.get x p) same ∙ dir.is) dir.kind in
    child-is v.rows p name n
    (sym (now.names name) ∙ before.names name ∙ child-answer w.rows shown.tree.unique p name (Some n) c)

shown_true : (s t : StoreState) (w v : World) (K : ℕ → Option Node) → IsVolume s w → IsVolume t v
    → t.content ≡ s.content → AreNodes w.rows K → AreNodes v.rows K
shown_true s t w v K shown after same are = nodes_kept w.rows v.rows K (shown_child s t w v shown after same) are

-- the tree that a journal led to is shown still
pub shown_on : {F : Type 0} (state : F → StoreState) (old new : Seen F) (nodes : Parts)
    → AtPresent state old (Begins (state new.store) new.level) → IsRun state new
    → HasBegun (state old.since) old.since_level → StayTrue state old nodes new nodes
shown_on state old new nodes shows run begun = λ are from begins.
    shown_true (state new.store) (state new.store) _ _ (known nodes) (shows begun.0 begun.1).shown
    (run from begins).shown refl (are begun.0 begun.1)

module _ {F : Type 0} (state : F → StoreState) (old : Seen F) (nodes : Parts) (run : IsRun state old) where
  -- a journal went on, and no content changed
  pub gone_on : (new : Seen F) → IsRun state new → (state new.store).content ≡ (state old.store).content
      → GoesOn state old new → StayTrue state old nodes new nodes
  gone_on new later content goes = λ are from begins.
      let here : Begins (state old.since) old.since_level from =
      subst (λ (s : F). Begins (state s) old.since_level from) goes.since
      (subst (λ (l : Level). Begins (state new.since) l from) goes.since_level begins) in
      shown_true (state old.store) (state new.store) _ _ (known nodes) (run from here).shown (later from begins).shown
      content (are from here)

  -- entries were let go
  pub went : HasBegun (state old.since) old.since_level → StayTrue state old nodes (let_go old) nodes
  went begun = λ are from begins.
      shown_true (state old.store) (state old.store) _ _ (known nodes) (run begun.0 begun.1).shown begins.shown refl
      (are begun.0 begun.1)
