use Rattle.std.proofs.Common.{◌≡◌, ◌≢◌, ℕ, ◌<◌, length, refl, sym, ap, ◌∙◌, subst, inl, inr, arith}
use Rattle.std.proofs.lemmas.Bool.{cond-false, eqb-false, eqb-true}
use Rattle.lfs_types.proofs.Somewhere.{some_from}
use Rattle.lfs_cache.specs.declared.key.Key.{Key}
use Rattle.lfs_staging.specs.Putting.{LeadsToPut, frames_of_put}
use Rattle.lfs_parts.specs.View.{key_of, version_of}
use Rattle.lfs_parts.specs.Files.{content_of}
use Rattle.lfs_segwrite.proofs.AskedLemmas.{may_change, put_nothing, put_sized, shown_used}
use Rattle.lfs_parts.proofs.SameLogLemmas.{version-same}
use Rattle.lfs_staging.proofs.StagedLemmas.{stays-refl, stays_same}
use Rattle.lfs_segwrite.proofs.applying.put_some.Goals as goal

-- a key of one of the blocks is of the number
its : (number version start count code : ℕ) (key : Key) → LeadsToPut start count code
    → key ≡ key_of number version code → (key.ino ≡ number) × LeadsToPut start count key.lbn.0
its number version start count code key leads is =
    (ap (λ (k : Key). k.ino) is, subst (LeadsToPut start count) (sym (ap (λ (k : Key). k.lbn.0) is)) leads)

pub put-requires-clause-may : goal.put-requires-clause-may
put-requires-clause-may c =
    may_change c.args.parts.now c.args.ino c.requires.staged
    (shown_used c.args.parts.now c.args.ino (some_from _ _ c.requires.can)) (omega (arith, c.requires.records))

pub put-requires-clause-fits : goal.put-requires-clause-fits
put-requires-clause-fits c =
    let ne : length c.args.bytes.now ≢ 0 = eqb-false _ _ (sym c.is_empty.ensures ∙ c.if-not-is_empty.true) in
    let some : 0 < length c.args.bytes.now = omega arith in
    record {
      some = some;
      bounded = c.requires.reach.1 some;
      sized = put_sized c.args.parts.now c.args.ino c.args.off c.args.bytes.now c.requires.staged.whole c.requires.can
          some;
    }

pub put-requires-clause-room : goal.put-requires-clause-room
put-requires-clause-room c =
    let here = sym c.is_empty.ensures ∙ c.if-not-is_empty.true in
    omega (arith, cond-false {A = ℕ} _ 0 (frames_of_put c.args.off (length c.args.bytes.now)) here, c.requires.frames)

pub returns-then-not-is_empty : goal.returns-then-not-is_empty
returns-then-not-is_empty c =
    let here = sym c.is_empty.ensures ∙ c.if-not-is_empty.true in
    record {
      staged = c.put.ensures.kept 0 c.requires.staged;
      content_is = c.put.ensures.content;
      versions_are = λ n. version-same c.args.parts.now c.put.new.parts n c.put.ensures.log;
      log = stays_same c.args.parts.now c.put.new.parts c.put.ensures.log c.put.ensures.addresses;
      frames_more = omega (
        arith,
        cond-false {A = ℕ} _ 0 (frames_of_put c.args.off (length c.args.bytes.now)) here,
        c.put.ensures.frames,
      );
      records_more = omega (arith, cond-false {A = ℕ} _ 0 1 here, c.put.ensures.waiting);
      frames_only = λ key locked. elim (c.put.ensures.only key locked) [
        | inl one ↦ inl (its c.args.ino (version_of c.args.parts.now c.args.ino) c.args.off
            (length c.args.bytes.now) one.0 key one.1 one.2)
        | inr was ↦ inr was
      ];
      records_only = c.put.ensures.others;
    }

pub returns-else-not-is_empty : goal.returns-else-not-is_empty
returns-else-not-is_empty c =
    let none : length c.args.bytes.now ≡ 0 = eqb-true _ _ (sym c.is_empty.ensures ∙ c.if-not-is_empty.false) in
    record {
      staged = c.requires.staged;
      content_is = sym (put_nothing (content_of c.args.parts.now) c.args.ino c.args.off c.args.bytes.now none);
      versions_are = λ n. refl;
      log = stays-refl c.args.parts.now;
      frames_more = omega arith;
      records_more = omega arith;
      frames_only = λ key locked. inr locked;
      records_only = λ number other. refl;
    }
