use Rattle.std.proofs.Common.{◌≡◌, ◌<◌, length, sym, ap, ◌∙◌}
use Rattle.std.proofs.slice.Lists.{any-default}
use Rattle.std.proofs.lemmas.List.{get_or-set_same}
use Rattle.lfs_ifile.specs.declared.inode.InodeRow.{InodeRow}
use Rattle.lfs_ifile.specs.Inode.{fresh_row, placed_row}
use Rattle.lfs_ifile.specs.Tables.{Tables, row_at, row_of, with_row}
use Rattle.lfs_ifile.proofs.tables.Ifile.set_place.Goals as goal

pub returns-clause-after : goal.returns-clause-after
returns-clause-after c =
    let rows = c.self.inside.rows.items in let ino = c.args.ino in let addr = c.args.addr in let slot = c.args.slot in
    let old : Tables = record { live = c.self.inside.live.items; states = c.self.inside.states.items; rows = rows } in
    let inside : ino < length rows = rw (← c.self.view_is) at c.requires.in_range in
    let was : c.index.result.now ≡ row_at rows ino = c.index.ensures
    ∙ sym (any-default rows ino fresh_row c.index.result.now inside) in
    ap (λ (row : InodeRow). with_row old ino (placed_row addr slot row)) was
    ∙ ap (λ (t : Tables). with_row t ino (placed_row addr slot (row_of t ino))) c.self.view_is

pub returns-clause-row : goal.returns-clause-row
returns-clause-row c =
    let rows = c.args.self.now.rows in let ino = c.args.ino in
    ap (λ (t : Tables). row_of t ino) (returns-clause-after c)
    ∙ get_or-set_same rows ino (placed_row c.args.addr c.args.slot (row_at rows ino)) fresh_row c.requires.in_range
