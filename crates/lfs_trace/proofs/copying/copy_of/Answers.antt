use Rattle.lfs_flatfiles.specs.FlatFiles.{content_of}
use Rattle.lfs_trace.proofs.CopyLemmas.{all_copied}
use Rattle.lfs_trace.proofs.copying.copy_of.Goals as goal

pub returns-clause-content : goal.returns-clause-content
returns-clause-content g c =
    all_copied c.args.numbers (g.F.FileStore.state c.args.store.now).content
    (content_of c.loop-number.files.places.items) c.requires c.loop-number.number c.loop-number-test.false
    c.loop-number.auto.number-end c.loop-number.invariant.copied
