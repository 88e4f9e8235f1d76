use Rattle.std.proofs.Common.{◌≡◌, ◌++◌, ◌∷◌, List, [], ap, ◌∙◌, sym, subst, arith}
use Rattle.lfs_dirs.specs.Directory.{Entry, IsDirectoryBlock, renumbered, used_of}
use Rattle.lfs_dirs.specs.Reading.{entries_of}
use Rattle.lfs_dirs.proofs.Laws.{entries_of-zeros, used_of-append, zero_block_listed}
use Rattle.lfs_dirs.proofs.Removing.{written_next}
use Rattle.lfs_dirs.proofs.Renumbering.{all_renumbered, given_next, may_be_next}
use Rattle.lfs_dirs.proofs.writing.replaced.Goals as goal

pub loop-old-init : goal.loop-old-init
loop-old-init c =
    let wanted = c.as_bytes-wanted.result.now in
    let same : c.into_iter-old-iterator.result ≡ entries_of c.args.block.now = cc in
    record {
      can_next = tt;
      is_finite = tt;
      directory = zero_block_listed;
      at_end = sym (ap used_of (entries_of-zeros 512));
      kept = ap (λ xs. xs ++ renumbered wanted c.args.number c.into_iter-old-iterator.result) (entries_of-zeros 512)
          ∙ ap (renumbered wanted c.args.number) same;
    }

pub push_entry-end-requires-clause-room : goal.push_entry-end-requires-clause-room
push_entry-end-requires-clause-room c =
    let kept = given_next _ _ _ _ _ _ _ _ _ c.loop-old.invariant.kept c.in-Some.ensures.steps c.number_for-given.ensures
    in
    let follows = may_be_next _ _ _ _ _ _ _ c.requires.above
    (omega (arith, c.ranges.number.fits)) c.requires.directory kept in
    omega (arith, follows.room, c.loop-old.invariant.at_end)

pub push_entry-end-requires-clause-entry : goal.push_entry-end-requires-clause-entry
push_entry-end-requires-clause-entry c =
    let kept = given_next _ _ _ _ _ _ _ _ _ c.loop-old.invariant.kept c.in-Some.ensures.steps c.number_for-given.ensures
    in
    (may_be_next _ _ _ _ _ _ _ c.requires.above (omega (arith, c.ranges.number.fits)) c.requires.directory kept).entry

pub push_entry-end-requires-clause-new_name : goal.push_entry-end-requires-clause-new_name
push_entry-end-requires-clause-new_name c =
    let kept = given_next _ _ _ _ _ _ _ _ _ c.loop-old.invariant.kept c.in-Some.ensures.steps c.number_for-given.ensures
    in
    (may_be_next _ _ _ _ _ _ _ c.requires.above (omega (arith, c.ranges.number.fits)) c.requires.directory kept).absent

pub loop-old-preserved : goal.loop-old-preserved
loop-old-preserved c =
    let now = c.push_entry-end.new.block in
    let listed = c.push_entry-end.ensures.listed in
    let kept = given_next _ _ _ _ _ _ _ _ _ c.loop-old.invariant.kept c.in-Some.ensures.steps c.number_for-given.ensures
    in
    let P : List Entry → Type 0 = λ es. IsDirectoryBlock now es in
    record {
      can_next = tt;
      is_finite = tt;
      directory = subst P (sym listed) c.push_entry-end.ensures.block;
      at_end = omega (
        arith,
        ap used_of listed,
        used_of-append (entries_of c.loop-old.other) ((c.number_for-given.result, c.in-Some.name.now) ∷ []),
        c.push_entry-end.ensures.end,
        c.loop-old.invariant.at_end,
      );
      kept = written_next _ _ _ _ _ listed kept;
    }

pub returns-clause-listed : goal.returns-clause-listed
returns-clause-listed c =
    all_renumbered _ _ _ _ _ _ c.loop-old.invariant.kept c.in-None.ensures.steps.0 c.as_bytes-wanted.ensures.value

pub returns-clause-block : goal.returns-clause-block
returns-clause-block c =
    let P : List Entry → Type 0 = λ es. IsDirectoryBlock c.loop-old.other es in
    subst P (returns-clause-listed c) c.loop-old.invariant.directory
