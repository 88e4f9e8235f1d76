use Rattle.std.proofs.Common.{rules, arith, ◌≡◌, ◌<◌, ℕ, Option, Some, None, IfNone, ap, sym, subst, ◌∙◌}
use Rattle.lfs_ifile.specs.declared.segment.SegState.TheVariants.{Clean}
use Rattle.lfs_segments.specs.Memory.{block_at}
use Rattle.lfs_segments.proofs.WritingLemmas.{block_at-opened_apart}
use Rattle.lfs_bmap.specs.Log.{Opens}
use Rattle.lfs_log.specs.Parts.{LogParts, log_state, state_of}
use Rattle.lfs_log.proofs.PartsLemmas.{clean_count-none}
use Rattle.lfs_log.proofs.NameLemmas.{Opens-opened}
use Rattle.lfs_log.proofs.log.Log.open.Goals as goal

if_none : (o : Option ℕ) (P : Type 0) → P → IfNone o P
if_none None P p = p
if_none (Some x) P p = tt

pub returns-in_err-segment-clause-none : goal.returns-in_err-segment-clause-none
returns-in_err-segment-clause-none c =
    let h = c.self.invariant in
    let view = c.self.view_is in
    if_none _ _ (sym (ap (λ (p : LogParts). p.clean) view) ∙ h.counted
    ∙ clean_count-none c.self.inside.ifile c.self.inside.segments.segments
    (λ s below. c.in_err-segment.ensures.none s (omega arith) (subst (λ (n : ℕ). s < n) (sym h.agree) below)))

inside : (c : goal.After-activate) → c.in_ok-segment.segment < c.args.self.now.memory.segments
inside c =
    let found = c.in_ok-segment.ensures.some in
    subst (λ (p : LogParts). c.in_ok-segment.segment < p.memory.segments) c.self.view_is
    (subst (λ (n : ℕ). c.in_ok-segment.segment < n) c.self.invariant.agree found.in_range)

was_clean : (c : goal.After-activate) → state_of c.args.self.now.tables c.in_ok-segment.segment ≡ Clean
was_clean c =
    let found = c.in_ok-segment.ensures.some in
    subst (λ (p : LogParts). state_of p.tables c.in_ok-segment.segment ≡ Clean) c.self.view_is found.clean

pub returns-clause-blocks : goal.returns-clause-blocks
returns-clause-blocks c = λ a apart.
    ap (λ (p : LogParts). block_at p.memory a) c.activate.ensures.opened
    ∙ block_at-opened_apart c.args.self.now.memory c.in_ok-segment.segment c.activate.ensures.was_kept.laid_out
    (inside c) a apart

pub returns-clause-step : goal.returns-clause-step
returns-clause-step c = λ at.
    subst (λ (q : LogParts). Opens (log_state c.args.self.now at) (log_state q at) c.in_ok-segment.segment)
    (sym c.activate.ensures.opened)
    (Opens-opened c.args.self.now c.in_ok-segment.segment at c.activate.ensures.was_kept (inside c) (was_clean c))

pub activate-requires-clause-clean : goal.activate-requires-clause-clean
activate-requires-clause-clean c = search rules

pub returns-clause-was_clean : goal.returns-clause-was_clean
returns-clause-was_clean c = search rules
