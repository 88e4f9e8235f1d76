use Rattle.std.proofs.Common.{◌≡◌, ◌∙◌, None, Some, ap, subst, sym}
use Rattle.std.proofs.lemmas.Bool.{true≢false}
use Rattle.lfs_segments.specs.Memory.{block_at}
use Rattle.lfs_bmap.specs.Pieces.{IsGot}
use Rattle.lfs_bmap.specs.Reading.{data_block}
use Rattle.lfs_cache.specs.Contents.{block_in}
use Rattle.lfs_parts.specs.View.{tree_of}
use Rattle.lfs_parts.proofs.FilledLemmas.{held_clean, same_trees}
use Rattle.lfs_parts.proofs.ReadingBlockLemmas.{address_inside, at_tree, data_logged, data_via, logged, mirrored}
use Rattle.lfs_parts.proofs.parts.Parts.read_block.Goals as goal

pub read_logged-requires-clause-mirrors : goal.read_logged-requires-clause-mirrors
read_logged-requires-clause-mirrors c =
    mirrored c.args.self.now c.args.inode.now c.args.index c.address_of-address.result c.key_of-key.result
    c.requires.files c.requires.here c.requires.block
    c.address_of-address.ensures c.key_of-key.ensures

pub read_logged-requires-clause-inside : goal.read_logged-requires-clause-inside
read_logged-requires-clause-inside c =
    address_inside c.args.self.now c.args.inode.now c.args.index c.address_of-address.result c.key_of-key.result
    c.requires.files c.requires.here c.requires.block
    c.address_of-address.ensures c.key_of-key.ensures c.requires.inside

pub bytes_via-requires-clause-inside : goal.bytes_via-requires-clause-inside
bytes_via-requires-clause-inside c =
    address_inside c.args.self.now c.args.inode.now c.args.index c.address_of-address.result c.key_of-key.result
    c.requires.files c.requires.here c.requires.block
    c.address_of-address.ensures c.key_of-key.ensures c.requires.inside

pub returns-then-is_logged-clause-got : goal.returns-then-is_logged-clause-got
returns-then-is_logged-clause-got c =
    let is = c.is_logged.ensures.0 c.if-is_logged.true in
    subst (λ block. IsGot c.args.index c.args.off block c.args.into.now c.read_logged.new.into)
    (data_logged c.args.self.now c.args.inode.now c.args.index c.address_of-address.result c.key_of-key.result
    c.requires.files c.requires.here c.requires.block
    c.address_of-address.ensures c.key_of-key.ensures is.0 is.1) c.read_logged.ensures.got

pub returns-then-is_logged-clause-kept : goal.returns-then-is_logged-clause-kept
returns-then-is_logged-clause-kept c =
    let p = c.args.self.now in
    let is = c.is_logged.ensures.0 c.if-is_logged.true in
    held_clean p c.read_logged.new.self c.key_of-key.result
    (block_at p.log.memory c.address_of-address.result) c.requires.files.mirrors c.read_logged.ensures.held
    (logged p c.args.inode.now c.args.index c.address_of-address.result c.key_of-key.result c.requires.files
    c.requires.here c.requires.block
    c.address_of-address.ensures c.key_of-key.ensures c.requires.present is.0)

pub returns-else-is_logged-clause-got : goal.returns-else-is_logged-clause-got
returns-else-is_logged-clause-got c =
    subst (λ block. IsGot c.args.index c.args.off block c.args.into.now c.get_piece.new.buffer)
    (c.bytes_via.ensures ∙ data_via c.args.self.now c.args.inode.now c.args.index c.address_of-address.result
    c.key_of-key.result c.requires.files c.requires.here
    c.requires.block c.address_of-address.ensures c.key_of-key.ensures) c.get_piece.ensures

pub returns-then-is_logged-clause-cached : goal.returns-then-is_logged-clause-cached
returns-then-is_logged-clause-cached c =
    let p = c.args.self.now in
    let q = c.read_logged.new.self in
    let v = c.args.inode.now in
    let index = c.args.index in
    let is = c.is_logged.ensures.0 c.if-is_logged.true in
    let logged = data_logged p v index c.address_of-address.result c.key_of-key.result c.requires.files
    c.requires.here c.requires.block c.address_of-address.ensures c.key_of-key.ensures is.0 is.1 in
    λ some free. subst (λ key. block_in key q.cache.lru ≡ Some (data_block (tree_of q v.number) index))
    c.key_of-key.ensures
    (c.read_logged.ensures.taken ∙ ap Some (logged ∙ sym (ap (λ t. data_block t index)
    (same_trees p q (returns-then-is_logged-clause-kept c) v.number))))

pub returns-else-is_logged-clause-cached : goal.returns-else-is_logged-clause-cached
returns-else-is_logged-clause-cached c =
    let p = c.args.self.now in
    let v = c.args.inode.now in
    let at = at_tree p v c.args.index c.address_of-address.result c.key_of-key.result c.requires.files
    c.requires.here c.requires.block c.address_of-address.ensures c.key_of-key.ensures in
    λ some free. absurd (true≢false (sym (c.is_logged.ensures.1 (
      (λ none. some (sym at ∙ none)),
      subst (λ key. block_in key p.cache.locked ≡ None) (sym c.key_of-key.ensures) free,
    )) ∙ c.if-is_logged.false))
