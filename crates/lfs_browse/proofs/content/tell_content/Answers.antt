use Rattle.std.proofs.Common.{◌≡◌, ◌++◌, List, ℕ, subst}
use Rattle.std.proofs.lemmas.Result.{on_ok_weaker}
use Rattle.lfs_volume.specs.Cleanings.{cleaner_of}
use Rattle.lfs_browse.specs.Content.{end_text}
use Rattle.lfs_browse.specs.Spelled.{spelled}
use Rattle.lfs_browse.proofs.ContentLemmas.{content_told}
use Rattle.lfs_browse.proofs.content.tell_content.Goals as goal

pub returns : goal.returns
returns g c =
    let asker = c.args.asker.now in
    let before = c.args.text.now.items in
    let after = c.push_content-told.new.out.items in
    on_ok_weaker c.push_content-told.result
    (λ printed. content_told (cleaner_of g.F.FileStore.state g.F.FileStore.is_flushed g.F.FileStore.made g.F.CleanedStore.cleaner)
    c.args.volume.now c.read_pieces.new.volume asker c.args.path.now c.in_ok-last.last c.new-bytes.result.items
    c.read_pieces.new.bytes.items before after c.new-bytes.ensures.items c.in_ok-last.ensures
    (subst (λ (l : List ℕ). after ≡ (before ++ spelled l) ++ end_text asker.session c.in_ok-last.last)
    c.as_slice.ensures.value printed))
    c.push_content-told.ensures
