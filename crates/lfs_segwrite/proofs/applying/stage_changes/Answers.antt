use Rattle.std.proofs.Common.{◌+◌, drop, refl, sym, ap, ◌∙◌, subst, inl, inr, arith}
use Rattle.std.specs.List.{Contains}
use Rattle.std.proofs.lemmas.List.{drop_all, length-drop}
use Rattle.std.proofs.lemmas.List.Elements.{Contains-get_or}
use Rattle.lfs_types.specs.Changes.{applied}
use Rattle.lfs_staging.specs.Changing.{frames_of, records_of}
use Rattle.lfs_parts.specs.Files.{content_of}
use Rattle.lfs_segwrite.specs.Applying.{versions_after}
use Rattle.lfs_parts.specs.View.{version_of}
use Rattle.lfs_segwrite.proofs.BoundLemmas.{record_most}
use Rattle.lfs_segwrite.proofs.StepLemmas.{next_applied, next_can, next_peak, next_sum, next_versions, rest_can}
use Rattle.lfs_staging.proofs.StagedLemmas.{stays-refl, stays-trans}
use Rattle.lfs_segwrite.proofs.applying.stage_changes.Goals as goal

pub loop-change-init : goal.loop-change-init
loop-change-init c = record {
  staged = c.requires.staged;
  content = refl;
  versions = λ n. refl;
  can = c.requires.can;
  log = stays-refl c.args.parts.now;
  frames = omega arith;
  peak = omega arith;
  records = omega arith;
  blocks = λ key locked. inr locked;
  numbers = λ number none. refl;
  left = omega arith;
}

pub stage_change-requires-clause-can : goal.stage_change-requires-clause-can
stage_change-requires-clause-can c =
    (next_can c.args.changes.now c.loop-change.change-index c.change-item.result c.loop-change-test.true
    c.change-item.is _ _ c.loop-change.invariant.can).0

pub stage_change-requires-clause-frames : goal.stage_change-requires-clause-frames
stage_change-requires-clause-frames c =
    let peak = next_peak c.args.changes.now c.loop-change.change-index c.change-item.result c.loop-change-test.true
    c.change-item.is in
    omega (arith, c.loop-change.invariant.peak, c.requires.frames)

pub stage_change-requires-clause-records : goal.stage_change-requires-clause-records
stage_change-requires-clause-records c =
    let long = length-drop c.loop-change.change-index c.args.changes.now in
    let low = c.loop-change-test.true in
    omega (arith, c.loop-change.invariant.left, c.requires.records)

pub loop-change-preserved : goal.loop-change-preserved
loop-change-preserved c =
    let xs = c.args.changes.now in
    let i = c.loop-change.change-index in
    let d = c.change-item.result in
    let old = c.loop-change.parts in
    let new = c.stage_change.new.parts in
    let low = c.loop-change-test.true in
    let frames = next_sum xs i d low c.change-item.is frames_of in
    let records = next_sum xs i d low c.change-item.is records_of in
    let peak = next_peak xs i d low c.change-item.is in
    let one = record_most c.change-item.result in
    let long = length-drop i xs in
    let longer = length-drop (i + 1) xs in
    let made = c.stage_change.ensures.content_is in
    let among = subst (Contains xs) (sym c.change-item.is) (Contains-get_or xs i d low) in
    record {
      staged = c.stage_change.ensures.staged;
      content = next_applied xs i d low c.change-item.is (content_of old) (content_of new) made
          ∙ c.loop-change.invariant.content;
      versions = λ n. ap (versions_after (drop (i + 1) xs) n) (c.stage_change.ensures.versions_are n)
          ∙ next_versions xs i d low c.change-item.is n (version_of old n) ∙ c.loop-change.invariant.versions n;
      can = rest_can xs i d low c.change-item.is _ _ (content_of old)
          (content_of new) c.loop-change.invariant.can c.stage_change.ensures.log.numbers made;
      log = stays-trans c.args.parts.now old new c.loop-change.invariant.log c.stage_change.ensures.log;
      frames = omega (arith, c.loop-change.invariant.frames, c.stage_change.ensures.frames_more);
      peak = omega (arith, c.loop-change.invariant.peak, c.stage_change.ensures.frames_more);
      left = omega (arith, c.loop-change.invariant.left, c.stage_change.ensures.records_more);
      records = omega (arith, c.loop-change.invariant.records, c.stage_change.ensures.records_more);
      blocks = λ key locked. elim (c.stage_change.ensures.frames_only key locked) [
        | inl one ↦ inl (record { change = d; among = among; its = one.0; may = one.1 })
        | inr was ↦ c.loop-change.invariant.blocks key was
      ];
      numbers = λ number none.
          c.stage_change.ensures.records_only number
          (λ own. none (record { change = d; among = among; its = own }))
          ∙ c.loop-change.invariant.numbers number none;
    }

pub returns : goal.returns
returns c =
    let none = drop_all c.loop-change.change-index c.args.changes.now c.loop-change-test.false in
    record {
      staged = c.loop-change.invariant.staged;
      content_is = sym (ap (λ ys. applied ys (content_of c.loop-change.parts)) none) ∙ c.loop-change.invariant.content;
      versions_are = λ n. sym (ap (λ ys. versions_after ys n (version_of c.loop-change.parts n)) none)
          ∙ c.loop-change.invariant.versions n;
      log = c.loop-change.invariant.log;
      frames_more = omega (arith, c.loop-change.invariant.frames);
      records_more = omega (arith, c.loop-change.invariant.records);
      frames_only = c.loop-change.invariant.blocks;
      records_only = c.loop-change.invariant.numbers;
    }
