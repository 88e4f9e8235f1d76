use Rattle.std.proofs.Common.{◌≡◌, ◌+◌, ◌<◌, ℕ, length, slice_index, sym, ap, ◌∙◌}
use Rattle.std.proofs.slice.Lists.{any-default}
use Rattle.std.proofs.lemmas.List.{get_or-set_same}
use Rattle.lfs_ifile.specs.Tables.{Tables, with_live}
use Rattle.lfs_ifile.proofs.tables.Ifile.add_live.Goals as goal

pub returns-clause-after : goal.returns-clause-after
returns-clause-after c =
    let live = c.self.inside.live.items in let seg = c.args.seg in let n = c.args.n in
    let old : Tables = record { live = live; states = c.self.inside.states.items; rows = c.self.inside.rows.items } in
    let inside : seg < length live = rw (← c.self.view_is) at c.requires.in_range in
    let was : c.index_mut.result.now ≡ slice_index live seg = c.index_mut.ensures.value
    ∙ sym (any-default live seg 0 c.index_mut.result.now inside) in
    ap (λ (k : ℕ). with_live old seg (k + n)) was
    ∙ ap (λ (t : Tables). with_live t seg (slice_index t.live seg + n)) c.self.view_is

pub returns-clause-live : goal.returns-clause-live
returns-clause-live c =
    let live = c.args.self.now.live in let seg = c.args.seg in
    ap (λ (t : Tables). slice_index t.live seg) (returns-clause-after c)
    ∙ get_or-set_same live seg (slice_index live seg + c.args.n) 0 c.requires.in_range
