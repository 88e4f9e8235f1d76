use Rattle.std.proofs.Common.{refl}
use Rattle.lfs_calls.proofs.AskedLemmas.{asks_list}
use Rattle.std.proofs.lemmas.Result.{IfOk-weaker}
use Rattle.lfs_calls.proofs.MakeLemmas.{makes_file, can_make, grown_length}
use Rattle.lfs_types.proofs.Somewhere.{some_and}
use Rattle.lfs_calls.proofs.making.put_new.Goals as goal

pub apply_naming-requires : goal.apply_naming-requires
apply_naming-requires g c =
    let d = some_and _ _ c.requires.can.block.directory in
    let room = c.args.room.now in
    let before = (g.F.FileStore.state c.args.store.now).content in
    let finds = c.requires.finds _ (makes_file before c.args.row.number c.args.row.attrs c.args.dir room.off room.block
    d.value
    c.requires.can.unused d.is _ refl) in
    record {
      can = can_make before c.args.row.number c.args.row.attrs c.args.dir room.off room.block d.value
          c.requires.can.unused d.is
          (g.F.FileStore.state c.args.store.now).shape.numbers _ refl c.requires.can.above c.requires.can.within
          c.requires.can.block.size
          (grown_length d.value.kind d.value.bytes room.off room.block d.holds.0 d.holds.1 d.holds.3
          c.requires.can.block.aligned c.requires.can.block.fits c.requires.can.block.size d.holds.2);
      finds = finds;
    }

pub returns-clause-changes : goal.returns-clause-changes
returns-clause-changes g c =
    let d = some_and _ _ c.requires.can.block.directory in
    record {
      ok = IfOk-weaker c.apply_naming.result _ _
          (λ _ h. makes_file (g.F.FileStore.state c.args.store.now).content c.args.row.number c.args.row.attrs
          c.args.dir
          c.args.room.now.off c.args.room.now.block d.value c.requires.can.unused d.is
          (g.F.FileStore.state c.apply_naming.new.self).content h) c.apply_naming.ensures.applies.ok;
      err = c.apply_naming.ensures.applies.err;
      refused = c.apply_naming.ensures.applies.refused;
      follows = c.apply_naming.ensures.applies.follows;
    }

pub returns-clause-asked : goal.returns-clause-asked
returns-clause-asked g c =
    let d = some_and _ _ c.requires.can.block.directory in
    let room = c.args.room.now in
    asks_list g.F.FileStore.state g.F.FileStore.made refl refl c.apply_naming.ensures.made
    c.apply_naming.ensures.applies.base
    (makes_file (g.F.FileStore.state c.args.store.now).content c.args.row.number c.args.row.attrs c.args.dir room.off
    room.block
    d.value c.requires.can.unused d.is _ refl)
