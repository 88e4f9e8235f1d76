use Rattle.std.proofs.Common.{◌≡◌, ◌<◌, length, ap, sym, subst, ◌∙◌}
use Rattle.std.specs.Prelude.{IfOk}
use Rattle.std.proofs.lemmas.Result.{IfOk-weaker}
use Rattle.lfs_types.specs.Tree.{opening_world}
use Rattle.lfs_parts.specs.declared.parts.Parts.{Parts}
use Rattle.lfs_logstore.specs.States.{state_of}
use Rattle.lfs_trace.specs.Checking.{numbers_of}
use Rattle.lfs_auditing.proofs.BeginLemmas.{within}
use Rattle.lfs_auditing.proofs.PlaceLemmas.{place_is}
use Rattle.lfs_auditing.proofs.placing.place_buffered.Goals as goal

pub find_place-requires-clause-within : goal.find_place-requires-clause-within
find_place-requires-clause-within g c n used =
    subst (λ k. n < k)
    (sym (c.in_ok-audit.ensures.numbers ∙ c.inodes-numbers.ensures.inodes
    ∙ ap (λ (p : Parts). length p.log.tables.rows) c.parts.ensures.parts))
    (within c.args.store.now n used)

pub returns-clause-placed : goal.returns-clause-placed
returns-clause-placed g c =
    let known = g.R.Read.remaining c.args.reader.now in
    let same = c.find_place.ensures.same in
    IfOk-weaker c.told_place.result _ _
    (λ place told. place_is known (g.R.Read.remaining c.find_place.new.reader) (state_of c.args.store.now)
    c.find_place.new.self c.in_ok-placed.placed place
    (c.in_ok-placed.ensures.placed opening_world c.in_ok-audit.ensures.fresh)
    (same.numbers ∙ c.in_ok-audit.ensures.numbers ∙ c.inodes-numbers.ensures.inodes
    ∙ ap (λ (p : Parts). length p.log.tables.rows) c.parts.ensures.parts)
    (same.segments ∙ c.in_ok-audit.ensures.segments ∙ c.segments-segments.ensures.segments
    ∙ ap (λ (p : Parts). p.log.memory.segments) c.parts-2.ensures.parts)
    (same.denials ∙ c.in_ok-audit.ensures.denials) told)
    c.told_place.ensures
