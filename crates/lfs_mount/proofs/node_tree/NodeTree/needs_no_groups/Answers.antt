use Rattle.std.proofs.Common.{sym, subst, arith}
use Rattle.lfs_fuse_wire.specs.Views.{view}
use Rattle.lfs_mount.specs.Groups.{NeedsNoGroups}
use Rattle.lfs_mount.proofs.AlikeLemmas.{emptying, moving, reading, unlinking, writing}
use Rattle.lfs_mount.proofs.node_tree.NodeTree.needs_no_groups.Goals as goal

pub returns-in-Read : goal.returns-in-Read
returns-in-Read g c is =
    let state = g.F.FileStore.state in
    let tree = c.args.self.now in
    let header = c.args.header.now in
    subst (λ m. NeedsNoGroups state tree.volume tree.nodes header (view m)) (sym c.in-Read.is)
    (reading state tree.volume tree.nodes header c.in-Read.field-0 (c.reaches_alike.ensures is))

pub returns-else-bytes-gt-PIECE : goal.returns-else-bytes-gt-PIECE
returns-else-bytes-gt-PIECE g c is =
    let state = g.F.FileStore.state in
    let tree = c.args.self.now in
    let header = c.args.header.now in
    let few = c.if-bytes-gt-PIECE.false in
    subst (λ m. NeedsNoGroups state tree.volume tree.nodes header (view m)) (sym c.in-Write.is)
    (writing state tree.volume tree.nodes header c.in-Write.field-0 c.in-Write.bytes.now (omega (arith, few))
    (c.reaches_alike-in-Write.ensures is))

pub returns-in-Unlink : goal.returns-in-Unlink
returns-in-Unlink g c is =
    let state = g.F.FileStore.state in
    let tree = c.args.self.now in
    let header = c.args.header.now in
    subst (λ m. NeedsNoGroups state tree.volume tree.nodes header (view m)) (sym c.in-Unlink.is)
    (unlinking state tree.volume tree.nodes header c.in-Unlink.field-0.now (c.reaches_alike-in-Unlink.ensures is))

pub returns-in-Rmdir : goal.returns-in-Rmdir
returns-in-Rmdir g c is =
    let state = g.F.FileStore.state in
    let tree = c.args.self.now in
    let header = c.args.header.now in
    subst (λ m. NeedsNoGroups state tree.volume tree.nodes header (view m)) (sym c.in-Rmdir.is)
    (emptying state tree.volume tree.nodes header c.in-Rmdir.field-0.now (c.reaches_alike-in-Rmdir.ensures is))

pub returns-else-fields-header : goal.returns-else-fields-header
returns-else-fields-header g c is =
    let state = g.F.FileStore.state in
    let tree = c.args.self.now in
    let header = c.args.header.now in
    let same = c.if-fields-header.false in
    subst (λ m. NeedsNoGroups state tree.volume tree.nodes header (view m)) (sym c.in-Rename.is)
    (moving state tree.volume tree.nodes header c.in-Rename.fields c.in-Rename.field-1.now c.in-Rename.field-2.now
    (omega (arith, same)) (c.reaches_alike-in-Rename.ensures is))
