use Rattle.std.proofs.Common.{IsSome, is_some, sym, ap, ◌∙◌, arith}
use Rattle.lfs_parts.specs.Waiting.{waiting_in}
use Rattle.lfs_parts.proofs.RecordsLemmas.{low_told, removed_kept, without-untold}
use Rattle.lfs_parts.proofs.records.Records.remove.Goals as goal

pub index_mut-requires : goal.index_mut-requires
index_mut-requires c =
    let some : IsSome (waiting_in c.self.inside.records.items c.args.number)
    = ap (λ vs. is_some (waiting_in vs c.args.number)) c.self.view_is ∙ sym c.has.ensures ∙ c.if-has.true in
    let low = low_told _ _ _ c.self.invariant c.args.number some in
    let sized = c.self.invariant.sized in
    let long = c.self.inside.waits.ok.0 in
    omega arith

pub invariant_of-self : goal.invariant_of-self
invariant_of-self c =
    let some : IsSome (waiting_in c.self.inside.records.items c.args.number)
    = ap (λ vs. is_some (waiting_in vs c.args.number)) c.self.view_is ∙ sym c.has.ensures ∙ c.if-has.true in
    removed_kept _ _ _ c.self.invariant c.args.number c.drop_record.new.records.items _ some c.drop_record.ensures.items
    c.drop_record.ensures.capacity

pub returns-else-has : goal.returns-else-has
returns-else-has c = sym (without-untold c.args.self.now c.args.number (sym c.has.ensures ∙ c.if-has.false))
