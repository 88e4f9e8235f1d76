use Rattle.std.proofs.Common.{◌≡◌, ◌+◌, All, List, sym, ap, subst, ◌∙◌, arith}
use Rattle.lfs_recovery.specs.declared.places.PartialSegment.{PartialSegment}
use Rattle.lfs_recovery.specs.Course.{begun, course, end_of, entered, partials, step}
use Rattle.lfs_recovery.specs.Whole.{IsWhole}
use Rattle.lfs_recovery.proofs.CourseLemmas.{course-next, course-start, partials-next, whole-partials}
use Rattle.lfs_recovery.proofs.LogLemmas.{partials-logs}
use Rattle.lfs_recovery.proofs.partials.partial_segments.Goals as goal

pub loop-address-init : goal.loop-address-init
unfolding partials
loop-address-init c = record {
  found = c.new-list.ensures.items;
  reached = ap (entered 0) c.idle-reader.ensures ∙ course-start c.args.memory.now;
}

pub loop-address-preserved : goal.loop-address-preserved
loop-address-preserved c =
    let l = c.loop-address in
    let m = c.args.memory.now in
    let here : c.enter.new.self ≡ course m l.address = c.enter.ensures ∙ l.invariant.reached in
    record {
      found = c.in_ok-keep.ensures ∙ partials-next m l.address _ _ l.invariant.found
          (c.step.ensures.begun ∙ ap (begun m l.address) here);
      reached = ap (entered (l.address + 1)) (c.step.ensures.passed ∙ ap (step m l.address) here) ∙ course-next m l.address;
    }

pub returns-clause-whole : goal.returns-clause-whole
returns-clause-whole c =
    let l = c.loop-address in
    subst (λ (list : List PartialSegment). All (IsWhole c.args.memory.now) list) (sym l.invariant.found)
    (whole-partials c.args.memory.now l.address)

pub returns-clause-logs : goal.returns-clause-logs
returns-clause-logs c =
    let l = c.loop-address in
    let m = c.args.memory.now in
    let all : l.address ≡ end_of m = omega arith in
    partials-logs m l.list.items (l.invariant.found ∙ ap (partials m) all)
