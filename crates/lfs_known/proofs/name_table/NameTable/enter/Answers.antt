use Rattle.std.proofs.Common.{◌≡◌, get_or, sym, subst, arith}
use Rattle.std.proofs.lemmas.List.{get_or_read_under}
use Rattle.lfs_known.specs.Spots.{Allows}
use Rattle.lfs_known.specs.declared.spot.Spot.TheVariants.{Anywhere}
use Rattle.lfs_known.proofs.SpotLemmas.{put_here, put_keeps}
use Rattle.lfs_known.proofs.name_table.NameTable.enter.Goals as goal

pub returns-clause-entered : goal.returns-clause-entered
returns-clause-entered c =
    let spots = c.args.self.now.spots in
    let sized = c.args.self.now.sized in
    let low = c.hash-slot.ensures.within in
    let long = spots.ok.0 in
    put_here spots.items c.hash-slot.result c.with.result (omega arith) c.args.dir c.args.name.now c.args.k
    c.hash-slot.ensures.value c.with.ensures.more

pub returns-clause-keeps : goal.returns-clause-keeps
returns-clause-keeps c =
    let spots = c.args.self.now.spots in
    let sized = c.args.self.now.sized in
    let low = c.hash-slot.ensures.within in
    let long = spots.ok.0 in
    let read : c.index-spot.result.now ≡ get_or spots.items c.hash-slot.result Anywhere =
    get_or_read_under spots.items c.hash-slot.result spots.len c.index-spot.result.now Anywhere c.index-spot.ensures
    (omega arith) spots.ok.0 in
    put_keeps spots.items c.hash-slot.result c.with.result (omega arith)
    (λ j may. c.with.ensures.keeps j (subst (λ s. Allows s j) (sym read) may))
