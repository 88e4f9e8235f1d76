use Rattle.std.proofs.Common.{◌≡◌, None, Some, length, refl, rules, tests, sym, subst, arith}
use Rattle.std.specs.Prelude.{IsSomeAnd}
use Rattle.lfs_nodes.specs.declared.node.Hang.TheVariants.{Gone}
use Rattle.lfs_nodes.specs.Nodes.{known}
use Rattle.lfs_nodes.specs.Reads.{hang_in}
use Rattle.lfs_fuse_wire.specs.Said.{write}
use Rattle.lfs_fuse_wire.specs.Views.{view}
use Rattle.lfs_fuse_calls.specs.Asked.{writes}
use Rattle.lfs_mount.specs.Answered.{IsToldKept}
use Rattle.lfs_opens.specs.Opens.{file_at_slot, kept_to, slot_of}
use Rattle.lfs_mount.specs.Leaving.{OnKept, kept_for}
use Rattle.lfs_opens.specs.Rewritten.{LacksRoom, TellsWritten, end_of, part_of}
use Rattle.lfs_mount.proofs.KeptLemmas.{write_kept}
use Rattle.lfs_mount.proofs.mount.Mount.kept_told.Goals as goal

pub returns-in_ok-kept-in-Write-clause-told : goal.returns-in_ok-kept-in-Write-clause-told
returns-in_ok-kept-in-Write-clause-told g c =
    let was = c.args.self.now in
    let nodes = was.tree.nodes in
    let files = was.beside.opens.files.items in
    let node = c.args.head.now.node in
    let who = c.args.head.now.cred in
    let fields = c.in-Write.fields in
    let bytes = c.in-Write.bytes.now in
    let kept = c.in_ok-kept-in-Write.kept.now in
    let reply = c.write.result in
    let after = record was.beside { opens = c.write.new.self } in
    let gone : hang_in (known nodes node) ≡ Some Gone = search (rules, tests) in
    let is : kept_to writes (file_at_slot files (slot_of fields.handle)) node who ≡ Some kept = search (rules, tests) in
    let size : c.len-size.result ≡ length kept.bytes.items =
    omega (arith, c.len-size.ensures, kept.bytes.ok.0) in
    let tells : TellsWritten (LacksRoom (write fields bytes) node (length kept.bytes.items) files)
    (length (part_of bytes)) (end_of (write fields bytes) (length kept.bytes.items)) reply =
    subst (λ n. TellsWritten (LacksRoom (write fields bytes) node n files)
    (length (part_of bytes)) (end_of (write fields bytes) n) reply) size c.write.ensures.tells in
    subst (λ m. OnKept (kept_for nodes (view m) files node who) (λ k. IsSomeAnd (Some reply)
    (λ t. IsToldKept c.args.head.now.time who node (view m) t was.tree.volume was.tree.volume was.beside after k))
    (Some reply ≡ None)) (sym c.in-Write.is)
    (write_kept c.args.head.now.time who nodes node fields bytes kept reply was.tree.volume was.beside after gone is tells
    c.write.ensures.files refl refl refl)
