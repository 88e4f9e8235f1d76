use Rattle.std.proofs.Common.{◌≡◌, true, is_some, get_or, sym, ap, subst, ◌∙◌, arith}
use Rattle.std.proofs.lemmas.List.{get_or_read_under}
use Rattle.lfs_known.specs.Says.{says}
use Rattle.lfs_known.specs.Spots.{Allows, hash_of}
use Rattle.lfs_known.specs.declared.spot.Spot.TheVariants.{Anywhere}
use Rattle.lfs_known.proofs.SpotLemmas.{absent}
use Rattle.lfs_known.proofs.name_table.NameTable.next_block.Goals as goal

pub returns-clause-absent : goal.returns-clause-absent
returns-clause-absent c t placed k from before =
    let table = c.args.self.now in
    let sized = table.sized in
    let low = c.hash-slot.ensures.within in
    let known : is_some (says table.whole c.args.dir) ≡ true = sym c.knows.ensures ∙ c.if-not-knows.false in
    let read : c.index-spot.result.now ≡ get_or table.spots.items (hash_of c.args.dir c.args.name.now) Anywhere =
    get_or_read_under table.spots.items c.hash-slot.result table.spots.len c.index-spot.result.now Anywhere
    c.index-spot.ensures (omega arith) table.spots.ok.0
    ∙ ap (λ h. get_or table.spots.items h Anywhere) (c.hash-slot.ensures.value
    ∙ ap (hash_of c.args.dir) c.as_bytes.ensures.value) in
    absent table t c.args.dir c.args.name.now k known placed
    (λ may. c.first_from.ensures.none k from before (subst (λ s. Allows s k) (sym read) may))
