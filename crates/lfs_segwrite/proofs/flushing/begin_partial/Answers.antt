use Rattle.std.proofs.Common.{ℕ, refl, subst, arith}
use Rattle.lfs_segments.specs.Memory.{block_at}
use Rattle.lfs_segments.specs.Serial.{IsSummaryWith}
use Rattle.lfs_parts.specs.declared.parts.Parts.{Parts}
use Rattle.lfs_parts.specs.Keys.{log_state}
use Rattle.lfs_segwrite.proofs.AppendedLemmas.{appended_advances, appended_staged, fewer_spare, summary_put}
use Rattle.lfs_segwrite.proofs.flushing.begin_partial.Goals as goal

pub returns-clause-staged : goal.returns-clause-staged
returns-clause-staged c =
    let p = c.args.parts.now in
    let q : Parts = record {
      log = c.begin.new.self;
      cache = c.args.parts.now.cache;
      waiting = c.args.parts.now.waiting;
    } in
    let put = summary_put p q c.begin.result c.args.entries.now c.requires.staged c.requires.ready
    c.begin.ensures.expects (let fit = c.requires.fit in omega arith)
    c.begin.ensures.address c.begin.ensures.next c.begin.ensures.extends c.begin.ensures.rising c.begin.ensures.tables refl
    refl
    (c.begin.ensures.step (log_state p).at) in
    fewer_spare q 512 0 (omega arith) (appended_staged p q c.begin.result _ put c.begin.ensures.kept c.requires.staged)

pub returns-clause-advances : goal.returns-clause-advances
returns-clause-advances c =
    let p = c.args.parts.now in
    let q : Parts = record {
      log = c.begin.new.self;
      cache = c.args.parts.now.cache;
      waiting = c.args.parts.now.waiting;
    } in
    let put = summary_put p q c.begin.result c.args.entries.now c.requires.staged c.requires.ready
    c.begin.ensures.expects (let fit = c.requires.fit in omega arith)
    c.begin.ensures.address c.begin.ensures.next c.begin.ensures.extends c.begin.ensures.rising c.begin.ensures.tables refl
    refl
    (c.begin.ensures.step (log_state p).at) in
    appended_advances p q c.begin.result _ put

pub returns-clause-summary : goal.returns-clause-summary
returns-clause-summary c =
    let p = c.args.parts.now.log.memory in
    let m = c.begin.new.self.memory in
    subst (λ (a : ℕ). IsSummaryWith p.serial (block_at m a) p.active p.fill c.args.entries.now) c.begin.ensures.address
    c.begin.ensures.summary
