use Rattle.std.proofs.Common.{Result, Ok, Err, OnErr, ◌≡◌, ◌≢◌, ◌+◌, ◌<◌, ◌≤◌, length, sym, ap, ◌∙◌, subst, inl, inr}
use Rattle.std.proofs.Common.{arith}
use Rattle.std.proofs.lemmas.Bool.{cases_lt, eqb-false}
use Rattle.lfs_segments.specs.Memory.{room_of}
use Rattle.lfs_parts.specs.declared.parts.Parts.{Parts}
use Rattle.lfs_parts.specs.Keys.{log_state}
use Rattle.lfs_segwrite.specs.Finishing.{LacksRoomToMark, SomeIsFinishable}
use Rattle.lfs_segwrite.specs.Marking.{AreNamed}
use Rattle.lfs_staging.proofs.KeptLemmas.{store_staged}
use Rattle.lfs_segwrite.proofs.MarkedLemmas.{marked_content, marks_again, flushed_still, staged_fits}
use Rattle.lfs_segwrite.proofs.NamedLemmas.{named_kept}
use Rattle.lfs_segwrite.proofs.marking.mark_flushed.Goals as goal

are_named : (c : goal.After-stage_named-arg-1)
    → AreNamed (log_state c.args.parts.now) c.args.marks.now c.items-infos.result.now
are_named c = subst (AreNamed (log_state c.args.parts.now) c.args.marks.now)
    (sym c.items-infos.ensures.items) c.named-named.ensures.named

pub stage_named-requires-clause-flushed : goal.stage_named-requires-clause-flushed
stage_named-requires-clause-flushed c = flushed_still c.args.parts.now c.make_room_to_mark.new.parts
    c.in_ok-make_room_to_mark.ensures.files c.requires.flushed

pub stage_named-requires-clause-staged : goal.stage_named-requires-clause-staged
stage_named-requires-clause-staged c =
    store_staged c.make_room_to_mark.new.parts c.in_ok-make_room_to_mark.ensures.store

pub stage_named-requires-clause-named : goal.stage_named-requires-clause-named
stage_named-requires-clause-named c k d low =
    named_kept (log_state c.args.parts.now) (log_state c.make_room_to_mark.new.parts) _
    c.in_ok-make_room_to_mark.ensures.files.keys ((are_named c).only k d low)

pub flush-requires-clause-room : goal.flush-requires-clause-room
flush-requires-clause-room c =
    staged_fits c.make_room_to_mark.new.parts c.stage_named.new.parts c.items-infos.result.now c.stage_named.ensures
    (subst (λ n. n ≤ room_of c.make_room_to_mark.new.parts.log.memory) c.blocks_to_mark.ensures.blocks
    c.in_ok-make_room_to_mark.ensures.room)

fewer : (c : goal.After-flush) → c.make_room_to_mark.new.parts.log.clean ≤ c.args.parts.now.log.clean
fewer c = elim (cases_lt (room_of c.args.parts.now.log.memory) c.blocks_to_mark.result) [
  | inl short ↦ let opened = (c.in_ok-make_room_to_mark.ensures.opened short).0 in omega arith
  | inr room ↦ let same : c.make_room_to_mark.new.parts.log.clean
      ≡ c.args.parts.now.log.clean = ap (λ (p : Parts). p.log.clean) (c.in_ok-make_room_to_mark.ensures.enough room) in
      omega arith
]

are_last : (c : goal.After-flush) → AreNamed (log_state c.args.parts.now) c.args.marks.now c.items-infos.result.now
are_last c = subst (AreNamed (log_state c.args.parts.now) c.args.marks.now)
    (sym c.items-infos.ensures.items) c.named-named.ensures.named

some_named : (c : goal.After-flush) → 0 < length c.items-infos.result.now
some_named c =
    let some : length c.items-infos.result.now ≢ 0 = eqb-false _ _ (sym c.is_empty.ensures ∙ c.if-is_empty.false) in
    omega arith

pub returns-clause-content : goal.returns-clause-content
returns-clause-content c =
    marked_content c.args.parts.now c.make_room_to_mark.new.parts c.stage_named.new.parts c.flush.new.parts
    c.args.marks.now c.items-infos.result.now
    c.in_ok-make_room_to_mark.ensures.files c.stage_named.ensures c.flush.ensures (are_last c) (fewer c)

pub returns-clause-marked : goal.returns-clause-marked
returns-clause-marked c =
    let old = c.args.parts.now in
    let mid = c.make_room_to_mark.new.parts in
    let room = c.in_ok-make_room_to_mark.ensures in
    marks_again old mid c.stage_named.new.parts c.flush.new.parts c.args.marks.now c.items-infos.result.now
    room.files c.stage_named.ensures c.flush.ensures (are_last c) (fewer c) (some_named c)
    (subst (λ n. n ≤ room_of old.log.memory → mid ≡ old) c.blocks_to_mark.ensures.blocks room.enough)
    (subst (λ n. room_of old.log.memory < n → mid.log.clean + 1 ≡ old.log.clean) c.blocks_to_mark.ensures.blocks
    (λ short. (room.opened short).0))
    (subst (λ n. room_of old.log.memory < n → 64 ≤ room_of mid.log.memory
    + 1) c.blocks_to_mark.ensures.blocks room.fresh)

pub returns-clause-last : goal.returns-clause-last
returns-clause-last c = λ care some.
    record {
      named = c.items-infos.result.now;
      are_named = are_last c;
      leaves =
          subst (λ n. SomeIsFinishable c.items-infos.result.now n c.args.parts.now) c.blocks_to_mark.ensures.blocks
          (c.in_ok-make_room_to_mark.ensures.last care);
    }

on_err : {T E : Type 0} (r : Result T E) (P : Type 0) → P → OnErr r P
on_err (Ok x) P p = tt
on_err (Err e) P p = p

pub returns-in_err-make_room_to_mark-clause-reserved : goal.returns-in_err-make_room_to_mark-clause-reserved
returns-in_err-make_room_to_mark-clause-reserved c =
    on_err c.from_residual.result _ c.in_err-make_room_to_mark.ensures.reserved

pub returns-in_err-make_room_to_mark-clause-lacking : goal.returns-in_err-make_room_to_mark-clause-lacking
returns-in_err-make_room_to_mark-clause-lacking c =
    on_err c.from_residual.result _ (record {
      named = c.items-infos.result.now;
      are_named = subst (AreNamed (log_state c.args.parts.now) c.args.marks.now)
          (sym c.items-infos.ensures.items) c.named-named.ensures.named;
      lacks =
          subst (λ n. LacksRoomToMark c.items-infos.result.now n c.args.parts.now) c.blocks_to_mark.ensures.blocks
          c.in_err-make_room_to_mark.ensures.lacking;
    })
