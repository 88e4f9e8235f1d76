use Rattle.std.proofs.Common.{◌≡◌, refl, sym, ap, ◌∙◌}
use Rattle.std.specs.Vec.{vec_len}
use Rattle.lfs_flatfiles.specs.FlatFiles.{content_of}
use Rattle.lfs_flatfiles.specs.declared.flat_files.FlatFiles.{FlatFiles}
use Rattle.lfs_trace.proofs.OverLemmas.{can_copy, over_stands, relevelled}
use Rattle.lfs_trace.proofs.checker.Checker.over.Goals as goal

pub copy_of-requires : goal.copy_of-requires
copy_of-requires g c =
    let w = c.requires.world.0 in
    let v = c.requires.world.1 in
    can_copy (g.F.FileStore.state c.args.store.now).content w v.shows v.tree c.args.numbers c.requires.within

pub invariant_of-result : goal.invariant_of-result
invariant_of-result g c =
    let w = c.requires.world.0 in
    let v = c.requires.world.1 in
    let from = (g.F.FileStore.state c.args.store.now).content in
    let same : content_of c.in_ok-cached.cached.places.items ≡ from =
    ap (λ (s : FlatFiles). content_of s.places.items) c.in_ok-cached.ensures ∙ c.in_ok-files.ensures.content in (
      sym (ap (λ (s : FlatFiles). vec_len s.places) c.in_ok-cached.ensures ∙ c.in_ok-files.ensures.numbers),
      record { level = c.args.level; rows = w.rows },
      over_stands c.in_ok-cached.cached from c.args.level c.args.segments (record { level = c.args.level; rows = w.rows })
          same (relevelled from w v.shows v.tree c.args.level) v.tree refl,
    )

pub returns-clause-stands : goal.returns-clause-stands
returns-clause-stands g c w v at =
    let from = (g.F.FileStore.state c.args.store.now).content in
    over_stands c.in_ok-cached.cached from c.args.level c.args.segments w
    (ap (λ (s : FlatFiles). content_of s.places.items) c.in_ok-cached.ensures ∙ c.in_ok-files.ensures.content)
    v.shows v.tree at
