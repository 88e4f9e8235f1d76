use Rattle.std.proofs.Common.{◌≡◌, ◌*◌, Some, sym, ap, ◌∙◌}
use Rattle.std.proofs.lemmas.Bool.{false≢true}
use Rattle.lfs_log.specs.Names.{named_at}
use Rattle.lfs_segments.specs.Log.{entry_at}
use Rattle.lfs_fsck.specs.Names.{name_in}
use Rattle.lfs_fsck.proofs.NameLemmas.{name_block, named_block, owner}
use Rattle.lfs_fsck.proofs.counting.check_name.Goals as goal

pub returns-then-is_name_of-clause-ok : goal.returns-then-is_name_of-clause-ok
returns-then-is_name_of-clause-ok c =
    let m = c.args.log.now.memory in
    let v = c.args.inode.now in
    let name = name_in c.args.names.now c.args.address in
    let is : name ≡ entry_at m c.args.address = c.requires.names.each c.args.address c.requires.inside in
    let named = name_block m c.args.address v.number v.version c.args.code name is c.requires.other
    (c.is_name_of.ensures.0 c.if-is_name_of.true) in
    ap (named_at m) c.requires.here ∙ named
    ∙ ap (λ k. Some (owner v.number k c.args.code)) c.requires.own.at_version

pub returns-else-is_name_of-clause-fault : goal.returns-else-is_name_of-clause-fault
returns-else-is_name_of-clause-fault c =
    let m = c.args.log.now.memory in
    let v = c.args.inode.now in
    let name = name_in c.args.names.now c.args.address in
    let is : name ≡ entry_at m c.args.address = c.requires.names.each c.args.address c.requires.inside in (
      c.requires.key,
      λ owned.
          let named : named_at m (4 * c.args.address) ≡ Some (owner v.number v.version c.args.code)
          = ap (named_at m) (sym c.requires.here) ∙ owned
          ∙ ap (λ k. Some (owner v.number k c.args.code)) (sym c.requires.own.at_version) in
          false≢true (sym c.if-is_name_of.false ∙ c.is_name_of.ensures.1
          (named_block m c.args.address v.number v.version c.args.code name is c.requires.other named)),
    )
