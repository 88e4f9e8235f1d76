use Rattle.std.proofs.Common.{◌≢◌, ℕ, ◌*◌, ◌/◌, refl, sym, ap, subst, ◌∙◌, arith}
use Rattle.std.proofs.lemmas.Option.{same_Some}
use Rattle.lfs_inodes.specs.Reading.{Fields, fields_of}
use Rattle.lfs_bmap.specs.Blocks.{block_with, code_of}
use Rattle.lfs_bmap.proofs.BlockLemmas.{block_with-code_of, code_of-below}
use Rattle.lfs_parts.specs.Store.{IsWithin}
use Rattle.lfs_fsck.specs.Checks.{IsKey, IsLaid, IsOwned}
use Rattle.lfs_fsck.specs.Stored.{keys_of}
use Rattle.lfs_fsck.proofs.KeyLemmas.{count_none, count_one, counts_small, key_at, key_placed, lie_below, same_units}
use Rattle.lfs_fsck.proofs.counting.count_block.Goals as goal

pub address_of-address-requires-clause-inside : goal.address_of-address-requires-clause-inside
address_of-address-requires-clause-inside c =
    let least = c.requires.parts.laid_out.at_least in
    lie_below c.args.log.now c.args.inode.now.number (code_of c.args.block) c.requires.so_far.here (omega arith)

pub returns-then-address-eq0-clause-ok : goal.returns-then-address-eq0-clause-ok
returns-then-address-eq0-clause-ok c =
    let l = c.args.log.now in
    let number = c.args.inode.now.number in
    let at = key_at l number c.args.block (code_of c.args.block) c.address_of-address.result c.requires.can
    c.requires.other refl c.address_of-address.ensures in
    count_none l number (code_of c.args.block) c.args.counts.now.items c.requires.so_far (at
    ∙ ap (λ a. 4 * a) c.if-address-eq0.true)

pub check_size-requires-clause-some : goal.check_size-requires-clause-some
check_size-requires-clause-some c = λ none. c.if-address-eq0.false (c.address_of-address.ensures ∙ none)

pub check_place-requires-clause-key : goal.check_place-requires-clause-key
check_place-requires-clause-key c =
    key_placed c.args.log.now c.args.inode.now.number c.args.block c.code-code.result c.address_of-address.result
    c.requires.can c.requires.other c.code-code.ensures
    c.address_of-address.ensures c.requires.own.below c.if-address-eq0.false

pub check_place-requires-clause-here : goal.check_place-requires-clause-here
check_place-requires-clause-here c =
    let at = key_at c.args.log.now c.args.inode.now.number c.args.block c.code-code.result c.address_of-address.result
    c.requires.can c.requires.other c.code-code.ensures c.address_of-address.ensures in
    omega (arith, at)

pub check_name-requires-clause-inside : goal.check_name-requires-clause-inside
check_name-requires-clause-inside c =
    let at = key_at c.args.log.now c.args.inode.now.number c.args.block c.code-code.result c.address_of-address.result
    c.requires.can c.requires.other c.code-code.ensures c.address_of-address.ensures in
    let laid = c.in_ok-check_place.ensures.ok in
    omega (arith, at, laid.in_volume)

pub check_name-requires-clause-other : goal.check_name-requires-clause-other
check_name-requires-clause-other c = λ none. c.requires.other (sym c.code-code.ensures ∙ none)

pub check_name-requires-clause-key : goal.check_name-requires-clause-key
check_name-requires-clause-key c =
    key_placed c.args.log.now c.args.inode.now.number c.args.block c.code-code.result c.address_of-address.result
    c.requires.can c.requires.other c.code-code.ensures
    c.address_of-address.ensures c.requires.own.below c.if-address-eq0.false

pub check_name-requires-clause-here : goal.check_name-requires-clause-here
check_name-requires-clause-here c =
    key_at c.args.log.now c.args.inode.now.number c.args.block c.code-code.result c.address_of-address.result
    c.requires.can c.requires.other c.code-code.ensures c.address_of-address.ensures

pub count-requires-clause-inside : goal.count-requires-clause-inside
count-requires-clause-inside c =
    let at = key_at c.args.log.now c.args.inode.now.number c.args.block c.code-code.result c.address_of-address.result
    c.requires.can c.requires.other c.code-code.ensures c.address_of-address.ensures in
    let laid = c.in_ok-check_place.ensures.ok in
    let long = c.requires.so_far.long in
    omega (arith, at, laid.in_volume)

pub count-requires-clause-fits : goal.count-requires-clause-fits
count-requires-clause-fits c =
    let below = c.requires.own.below in
    let most = c.requires.parts.formed.inodes_most in
    let code = code_of-below c.args.block c.requires.can in
    let small = counts_small c.args.log.now c.args.inode.now.number (code_of c.args.block) c.args.counts.now.items
    (c.address_of-address.result / 64) c.requires.so_far (omega arith) (omega arith) in
    omega arith

pub returns-clause-ok : goal.returns-clause-ok
returns-clause-ok c =
    let l = c.args.log.now in
    let number = c.args.inode.now.number in
    let code : ℕ = code_of c.args.block in
    let at = key_at l number c.args.block code c.address_of-address.result c.requires.can c.requires.other refl
    c.address_of-address.ensures in
    let laid : IsLaid (keys_of l) ((keys_of l).at number code)
    = subst (λ k. IsLaid (keys_of l) ((keys_of l).at number k)) c.code-code.ensures c.in_ok-check_place.ensures.ok in
    let owned : IsOwned (keys_of l) number code =
    subst (λ k. IsOwned (keys_of l) number k) c.code-code.ensures c.in_ok-check_name.ensures.ok in
    let within : IsWithin (block_with code) c.args.inode.now.size
    = subst (λ b. IsWithin b c.args.inode.now.size)
    (sym (block_with-code_of c.args.block c.requires.can)) c.in_ok-check_size.ensures.ok in
    let key : IsKey l number code = record {
      place = record { in_volume = laid.in_volume; owned = owned; not_clean = laid.not_clean; written = laid.written };
      within = λ f is other. subst (λ (g : Fields). IsWithin (block_with code) g.attributes.size)
          (same_Some (fields_of c.args.inode.now) f (sym c.requires.own.is ∙ is)) within;
    } in
    let somewhere : (keys_of l).at number code ≢ 0 = λ none. c.if-address-eq0.false (omega (arith, at, none)) in
    count_one l number code c.args.counts.now.items c.count.new.counts.items
    (c.address_of-address.result / 64) 512 c.requires.so_far
    somewhere key (omega (arith, at)) (same_units code c.requires.other) c.count.ensures
