use Rattle.std.proofs.Common.{◌≡◌, ℕ, List, Result, Ok, Err, IfOk, OnErr, inl, inr, sym, subst, arith}
use Rattle.lfs_types.specs.declared.cleaner.BlockInfo.{BlockInfo}
use Rattle.lfs_found.specs.Written.{IsRecoverable}
use Rattle.lfs_parts.specs.declared.parts.Parts.{Parts}
use Rattle.lfs_segwrite.specs.Applying.{WritesWaiting}
use Rattle.lfs_segwrite.specs.Finishing.{LacksRoomFor}
use Rattle.lfs_segwrite.specs.Marking.{MarksFlushed}
use Rattle.lfs_segwrite.specs.Ordered.{IsOrdered}
use Rattle.lfs_segwrite.proofs.MarkedLemmas.{marks_after}
use Rattle.lfs_segwrite.proofs.marking.mark.Goals as goal

if_ok : {E : Type 0} (r : Result ℕ E) (P Q R : ℕ → Type 0) → ((n : ℕ) → P n → R n → Q n) → IfOk r P → IfOk r R
    → IfOk r Q
if_ok (Ok n) P Q R f p s = f n p s
if_ok (Err e) P Q R f p s = tt

on_err : {T E : Type 0} (r : Result T E) (P Q R : Type 0) → (P → Q → R) → OnErr r P → OnErr r Q → OnErr r R
on_err (Ok n) P Q R f p q = tt
on_err (Err e) P Q R f p q = f p q

pub returns-clause-marked : goal.returns-clause-marked
returns-clause-marked c =
    if_ok c.mark_flushed.result _ _ _ (λ count again last.
    marks_after c.args.marks.now count c.args.parts.now c.write_waiting.new.parts c.mark_flushed.new.parts
    c.requires.store c.write_waiting.ensures.store
    c.mark_flushed.ensures.store c.write_waiting.ensures again
    (λ few some. last (c.has_few_clean-careful.ensures.1 few) some)) c.mark_flushed.ensures.marked
    c.mark_flushed.ensures.last

pub returns-clause-lacking : goal.returns-clause-lacking
returns-clause-lacking c =
    on_err c.mark_flushed.result _ _ _ (λ same lacks. subst (LacksRoomFor c.args.marks.now) (sym same) lacks)
    c.mark_flushed.ensures.refused
    c.mark_flushed.ensures.lacking

pub returns-clause-reserved : goal.returns-clause-reserved
returns-clause-reserved c =
    on_err c.mark_flushed.result _ _ _ (λ same why. elim why [
      | inl careful ↦ c.has_few_clean-careful.ensures.0 careful
      | inr none ↦ elim c.write_waiting.ensures.left [
        | inl here ↦ let clean = here.2 in omega arith
        | inr opened ↦ let clean = opened.1 in omega arith
      ]
    ]) c.mark_flushed.ensures.refused c.mark_flushed.ensures.reserved

-- what was found is found where blocks were written again, and where none was
whole_after : {E : Type 0} (r : Result ℕ E) (marks : List BlockInfo) (old between new : Parts) → WritesWaiting old between
    → IfOk r (λ count. MarksFlushed marks count between new) → OnErr r (new ≡ between)
    → IsRecoverable old.log.memory → IsRecoverable new.log.memory
whole_after (Ok count) marks old between new written again same was = again.log.whole (written.log.whole was)
whole_after (Err e) marks old between new written again same was =
    subst (λ (p : Parts). IsRecoverable p.log.memory) (sym same) (written.log.whole was)

pub returns-clause-whole : goal.returns-clause-whole
returns-clause-whole c =
    whole_after c.mark_flushed.result c.args.marks.now c.args.parts.now c.write_waiting.new.parts c.mark_flushed.new.parts
    c.write_waiting.ensures c.mark_flushed.ensures.marked c.mark_flushed.ensures.refused

-- and each number's latest record stands where the inode map has it
ordered_after : {E : Type 0} (r : Result ℕ E) (marks : List BlockInfo) (old between new : Parts) → WritesWaiting old between
    → IfOk r (λ count. MarksFlushed marks count between new) → OnErr r (new ≡ between) → IsRecoverable old.log.memory
    → IsOrdered old.log → IsOrdered new.log
ordered_after (Ok count) marks old between new written again same was order =
    again.log.ordered (written.log.whole was) (written.log.ordered was order)
ordered_after (Err e) marks old between new written again same was order =
    subst (λ (p : Parts). IsOrdered p.log) (sym same) (written.log.ordered was order)

pub returns-clause-ordered : goal.returns-clause-ordered
returns-clause-ordered c =
    ordered_after c.mark_flushed.result c.args.marks.now c.args.parts.now c.write_waiting.new.parts
    c.mark_flushed.new.parts c.write_waiting.ensures c.mark_flushed.ensures.marked c.mark_flushed.ensures.refused
