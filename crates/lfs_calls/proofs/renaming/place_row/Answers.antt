use Rattle.std.proofs.Common.{subst}
use Rattle.lfs_calls.specs.Renames.{GoesWith}
use Rattle.lfs_calls.proofs.renaming.place_row.Goals as goal

pub move_row-requires : goal.move_row-requires
move_row-requires g c =
    let t = c.requires.goes in
    record {
      goes = (
        t.0,
        (
          t.1.0,
          subst (GoesWith (g.F.FileStore.state c.args.store.now).content t.0.rows c.args.planned.now
              c.args.names.old.now c.args.names.new.now) c.in-Free.is t.1.1,
        ),
      );
    }

pub move_row-requires-in-Taken : goal.move_row-requires-in-Taken
move_row-requires-in-Taken g c =
    let t = c.requires.goes in
    record {
      goes = (
        t.0,
        (
          t.1.0,
          subst (GoesWith (g.F.FileStore.state c.args.store.now).content t.0.rows c.args.planned.now
              c.args.names.old.now c.args.names.new.now) c.in-Taken.is t.1.1,
        ),
      );
    }
