use Rattle.std.proofs.Common.{ℕ, List, ◌++◌, ap, ◌∙◌}
use Rattle.std.proofs.lemmas.Result.{on_ok_weaker}
use Rattle.lfs_volume.specs.Cleanings.{cleaner_of}
use Rattle.lfs_browse.specs.Trees.{rest_text}
use Rattle.lfs_browse.specs.declared.visit.Visit.{Visit}
use Rattle.lfs_browse.proofs.WalkLemmas.{tree_told}
use Rattle.lfs_browse.proofs.walk.tell_tree.Goals as goal

pub returns : goal.returns
returns g c =
    on_ok_weaker c.push_rest.result
    (λ printed. tree_told (cleaner_of g.F.FileStore.state g.F.FileStore.is_flushed g.F.FileStore.made g.F.CleanedStore.cleaner)
    c.args.volume.now c.go.new.volume c.args.asker.now c.args.path.now c.in_ok-walk.walk c.go.new.self
    c.args.text.now.items c.extend_from_slice.new.self.items c.push_rest.new.out.items c.in_ok-walk.ensures.root
    c.in_ok-walk.ensures.pending c.in_ok-walk.ensures.text c.in_ok-go.ensures
    (c.in_ok-extend_from_slice.ensures.items
    ∙ ap (λ (l : List ℕ). c.args.text.now.items ++ l) c.as_slice.ensures.value)
    (printed ∙ ap (λ (l : List Visit). c.extend_from_slice.new.self.items ++ rest_text l) c.as_slice-2.ensures.value))
    c.push_rest.ensures
