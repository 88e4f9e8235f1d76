use Rattle.std.proofs.Common.{rules, refl, sym, ap, ◌∙◌, subst}
use Rattle.lfs_inodes.specs.Reading.{fields_of}
use Rattle.lfs_log.specs.Parts.{LogParts, MayMoveLive}
use Rattle.lfs_bmap.specs.Blocks.{code_of, way_to}
use Rattle.lfs_bmap.specs.Reading.{address}
use Rattle.lfs_parts.specs.declared.parts.Parts.{Parts}
use Rattle.lfs_parts.specs.View.{key_of}
use Rattle.lfs_staging.proofs.GivenBackLemmas.{given_back, gives_forgotten, may_lose, waiting_inside, waiting_tree}
use Rattle.lfs_staging.proofs.GivingLemmas.{parent_of}
use Rattle.lfs_staging.proofs.ForgettingLemmas.{way_some}
use Rattle.lfs_staging.proofs.SettingLemmas.{waiting_record}
use Rattle.lfs_staging.proofs.cutting.clear.Goals as goal

pub address_of-from-requires-clause-inside : goal.address_of-from-requires-clause-inside
address_of-from-requires-clause-inside c =
    waiting_inside c.args.parts.now c.args.inode.now c.requires.may.staged c.requires.is

pub set_address-requires-clause-within : goal.set_address-requires-clause-within
set_address-requires-clause-within c =
    let p = c.args.parts.now in let v = c.args.inode.now in
    c.requires.may.within (fields_of v) (waiting_record p v c.requires.is)

pub set_address-requires-clause-parent : goal.set_address-requires-clause-parent
set_address-requires-clause-parent c = parent_of c.args.parts.now c.args.inode.now c.args.block c.requires.may
    c.requires.is.at_version

pub move_live-requires : goal.move_live-requires
move_live-requires c =
    let p = c.args.parts.now in let v = c.args.inode.now in let b = c.args.block in
    let w = way_some b c.requires.may.can c.requires.may.other in
    let there = sym (c.address_of-from.ensures
    ∙ ap (λ t. address t (way_to b)) (waiting_tree p v c.requires.may.staged c.requires.is)) in
    subst (λ (l : LogParts). MayMoveLive l (code_of b) c.address_of-from.result 0)
    (sym (c.set_address.ensures.set w.0 w.1 w.2).log)
    (may_lose p v.number b c.address_of-from.result c.requires.may.staged c.requires.is.in_use c.requires.may.can
    c.requires.may.other there)

pub returns : goal.returns
returns c =
    let p = c.args.parts.now in let v = c.args.inode.now in let b = c.args.block in
    let s = c.set_address.new.parts in
    let q : Parts = record { log = c.move_live.new.self; cache = c.forget.new.self; waiting = s.waiting } in
    let w = way_some b c.requires.may.can c.requires.may.other in
    let there = sym (c.address_of-from.ensures
    ∙ ap (λ t. address t (way_to b)) (waiting_tree p v c.requires.may.staged c.requires.is)) in
    let gives = gives_forgotten s q v (code_of b) c.address_of-from.result (key_of v.number v.version c.code.result)
    (ap (key_of v.number v.version) c.code.ensures) c.move_live.ensures.memory c.move_live.ensures.others
    c.move_live.ensures.clean c.move_live.ensures.kept
    (λ at is. c.move_live.ensures.step at v.number is) refl c.forget.ensures.formed c.forget.ensures.unlocked
    c.forget.ensures.gone c.forget.ensures.others in
    given_back p s q v b w.0 w.1 c.address_of-from.result c.requires.is c.requires.may w.2
    (c.set_address.ensures.set w.0 w.1 w.2) c.set_address.ensures.waiting there gives

pub set_address-requires-clause-in_volume : goal.set_address-requires-clause-in_volume
set_address-requires-clause-in_volume c = search rules
