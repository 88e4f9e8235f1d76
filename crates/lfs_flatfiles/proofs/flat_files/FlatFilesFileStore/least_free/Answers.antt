use Rattle.std.proofs.Common.{is_some, ap, ◌∙◌, arith}
use Rattle.lfs_flatfiles.proofs.FlatFilesContent.{get-content_of}
use Rattle.lfs_types.proofs.Somewhere.{not_some}
use Rattle.lfs_flatfiles.proofs.flat_files.FlatFilesFileStore.least_free.Goals as goal

pub returns-then-self-len : goal.returns-then-self-len
returns-then-self-len c =
    let store = c.args.self.now in
    let places = store.places.items in (
      store.reserved,
      omega arith,
      get-content_of places store.least_free ∙ not_some _ (store.free (omega arith)),
      λ ino low high. ap is_some (get-content_of places ino) ∙ store.used ino low high,
    )

pub returns-else-self-len : goal.returns-else-self-len
returns-else-self-len c = λ ino low high. ap is_some (get-content_of c.args.self.now.places.items ino)
    ∙ c.args.self.now.used ino low (omega arith)
