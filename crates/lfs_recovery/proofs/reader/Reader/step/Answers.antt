use Rattle.std.proofs.Common.{ℕ, Bool, Option, Some, None, sym, ap, ◌∙◌}
use Rattle.lfs_segments.specs.Reading.{named_by}
use Rattle.lfs_segments.specs.Serial.{told_by}
use Rattle.lfs_recovery.specs.declared.places.PartialSegment.{PartialSegment}
use Rattle.lfs_recovery.specs.Course.{Course, begun, step}
use Rattle.lfs_recovery.proofs.CourseLemmas.{held, held-begins, held-passes, met-ended}
use Rattle.lfs_recovery.proofs.WholeLemmas.{length-named}
use Rattle.lfs_recovery.proofs.reader.Reader.step.Goals as goal

pub returns-then-self-clause-begun : goal.returns-then-self-clause-begun
returns-then-self-clause-begun c =
    let i = c.self.inside in
    let m = c.args.memory.now in
    let a = c.args.address in
    sym (met-ended m a (held i.serial i.entries i.count i.passed i.ended) c.if-self.true).0 ∙ ap (begun m a) c.self.view_is

pub returns-then-self-clause-passed : goal.returns-then-self-clause-passed
returns-then-self-clause-passed c =
    let i = c.self.inside in
    let m = c.args.memory.now in
    let a = c.args.address in
    sym c.self.view_is ∙ sym (met-ended m a (held i.serial i.entries i.count i.passed i.ended) c.if-self.true).1
    ∙ ap (step m a) c.self.view_is

pub returns-then-self-2-clause-begun : goal.returns-then-self-2-clause-begun
returns-then-self-2-clause-begun c =
    let i = c.self.inside in
    let m = c.args.memory.now in
    let a = c.args.address in
    sym (held-passes m a i.serial i.entries i.count i.passed i.ended c.if-self.false c.self.invariant.0 c.self.invariant.1.0
    c.if-self-2.true).0 ∙ ap (begun m a) c.self.view_is

pub returns-then-self-2-clause-passed : goal.returns-then-self-2-clause-passed
returns-then-self-2-clause-passed c =
    let i = c.self.inside in
    let m = c.args.memory.now in
    let a = c.args.address in
    sym (held-passes m a i.serial i.entries i.count i.passed i.ended c.if-self.false c.self.invariant.0 c.self.invariant.1.0
    c.if-self-2.true).1 ∙ ap (step m a) c.self.view_is

pub returns-in-Some-clause-begun : goal.returns-in-Some-clause-begun
returns-in-Some-clause-begun c =
    let i = c.self.inside in
    let m = c.args.memory.now in
    let a = c.args.address in
    let t = c.in-Some.told in
    let of : ℕ → Option PartialSegment = λ n. Some (record { serial = t.serial; address = a; count = n }) in
    ap of (sym (length-named t.summary))
    ∙ sym (held-begins m a i.serial i.entries i.count i.passed i.ended (Some (told_by t)) c.if-self.false c.self.invariant.0 c.self.invariant.1.0
    c.if-self-2.false c.in-Some.ensures).0
    ∙ ap (begun m a) c.self.view_is

pub returns-in-Some-clause-passed : goal.returns-in-Some-clause-passed
returns-in-Some-clause-passed c =
    let i = c.self.inside in
    let m = c.args.memory.now in
    let a = c.args.address in
    let t = c.in-Some.told in
    let of : Bool → Course = λ b. record {
      serial = t.serial;
      entries = named_by t.summary;
      passed = 0;
      ended = b;
    } in
    ap of c.if-self.false
    ∙ sym (held-begins m a i.serial i.entries i.count i.passed i.ended (Some (told_by t)) c.if-self.false c.self.invariant.0 c.self.invariant.1.0
    c.if-self-2.false c.in-Some.ensures).1
    ∙ ap (step m a) c.self.view_is

pub returns-in-None-clause-begun : goal.returns-in-None-clause-begun
returns-in-None-clause-begun c =
    let i = c.self.inside in
    let m = c.args.memory.now in
    let a = c.args.address in
    sym (held-begins m a i.serial i.entries i.count i.passed i.ended None c.if-self.false c.self.invariant.0 c.self.invariant.1.0
    c.if-self-2.false c.in-None.ensures).0
    ∙ ap (begun m a) c.self.view_is

pub returns-in-None-clause-passed : goal.returns-in-None-clause-passed
returns-in-None-clause-passed c =
    let i = c.self.inside in
    let m = c.args.memory.now in
    let a = c.args.address in
    sym (held-begins m a i.serial i.entries i.count i.passed i.ended None c.if-self.false c.self.invariant.0 c.self.invariant.1.0
    c.if-self-2.false c.in-None.ensures).1
    ∙ ap (step m a) c.self.view_is
