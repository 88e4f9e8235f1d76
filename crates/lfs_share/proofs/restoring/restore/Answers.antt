use Rattle.std.proofs.Common.{ap, ◌∙◌, refl, arith}
use Rattle.lfs_types.specs.StoreStates.{Shape}
use Rattle.lfs_logstore.specs.States.{shape_of}
use Rattle.lfs_share.proofs.ShareLemmas.{gained_more, kept_gained, kept_flushed, kept_written, never, past, still_idle}
use Rattle.lfs_share.proofs.restoring.restore.Goals as goal

pub loop-store-init : goal.loop-store-init
loop-store-init c =
    let written = c.flush.ensures in
    record {
      flushed = written.flushed;
      content = written.content;
      shape = λ i. shape_of (written.log.numbers i) (written.log.segments i);
      kept = λ kept. kept_written c.args.store.now c.flush.new.store written kept;
      idle = record { written = c.flush.new.store; writes = written; idle = λ _. refl };
    }

pub loop-store-preserved : goal.loop-store-preserved
loop-store-preserved c =
    let before = c.loop-store.invariant in
    record {
      flushed = c.in-Ok.ensures.flushed;
      content = c.in-Ok.ensures.content ∙ before.content;
      shape = c.in-Ok.ensures.shape ∙ before.shape;
      kept = λ kept. kept_gained c.loop-store.store c.gain.new.self before.flushed c.in-Ok.ensures.gained
          (before.kept kept);
      idle = still_idle _ _ c.gain.new.self before.idle
          (omega (arith, c.loop-store-test.true, c.clean_segments.ensures));
    }

pub loop-store-smaller : goal.loop-store-smaller
loop-store-smaller c = gained_more c.loop-store.store c.gain.new.self c.loop-store.invariant.flushed
    c.in-Ok.ensures.gained (ap (λ (s : Shape). s.segments) c.in-Ok.ensures.shape)

pub returns-in-Err-clause-few : goal.returns-in-Err-clause-few
returns-in-Err-clause-few c =
    omega (arith, c.in-Err.ensures.written.log.clean, c.loop-store-test.true, c.clean_segments.ensures)

pub returns-in-Err-clause-idle : goal.returns-in-Err-clause-idle
returns-in-Err-clause-idle c =
    still_idle _ _ c.gain.new.self c.loop-store.invariant.idle
    (omega (arith, c.loop-store-test.true, c.clean_segments.ensures))

pub returns-in-Err-clause-past : goal.returns-in-Err-clause-past
returns-in-Err-clause-past c =
    let written = c.in-Err.ensures.written in
    past c.gain.new.self written.store
    (omega (arith, written.log.clean, c.loop-store-test.true, c.clean_segments.ensures)) c.in-Err.ensures.full

pub returns-in-Err-clause-always : goal.returns-in-Err-clause-always
returns-in-Err-clause-always c within kept =
    let written = c.in-Err.ensures.written in
    let old = c.loop-store.store in
    let flushed = c.loop-store.invariant.flushed in
    never c.args.store.now c.gain.new.self written.store (c.in-Err.ensures.content ∙ c.loop-store.invariant.content)
    (c.in-Err.ensures.shape ∙ c.loop-store.invariant.shape) within
    (kept_written old c.gain.new.self written (kept_flushed old flushed (c.loop-store.invariant.kept kept)))
    (past c.gain.new.self written.store
    (omega (arith, written.log.clean, c.loop-store-test.true, c.clean_segments.ensures)) c.in-Err.ensures.full)
