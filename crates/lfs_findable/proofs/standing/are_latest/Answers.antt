use Rattle.std.proofs.Common.{◌≡◌, ◌<◌, ℕ, None, Option, get_or, length, refl, sym, subst, ◌∙◌, arith}
use Rattle.std.proofs.lemmas.Bool.{false≢true}
use Rattle.std.proofs.lemmas.List.{get_or_default}
use Rattle.lfs_ifile.specs.declared.inode.InodePlace.{InodePlace}
use Rattle.lfs_ifile.specs.Inode.{fresh_row}
use Rattle.lfs_ifile.specs.Tables.{blocks_of, place_of}
use Rattle.lfs_segments.specs.Memory.{SegmentMemory}
use Rattle.lfs_recovery.specs.declared.places.RecordPlace.{RecordPlace}
use Rattle.lfs_recovery.specs.Newest.{IsNewest}
use Rattle.lfs_findable.specs.Judging.{StandsAt}
use Rattle.lfs_findable.proofs.StandingLemmas.{latest_there, stands_there}
use Rattle.lfs_findable.proofs.standing.are_latest.Goals as goal

pub returns-then-not-stands_at : goal.returns-then-not-stands_at
returns-then-not-stands_at c = (
  λ e. absurd (false≢true e),
  λ latest.
      let l = c.args.log.now in
      let n : ℕ = c.loop-number.number in
      let newest = c.in_ok-newest.newest.items in
      let formed = c.inodes-number-end.ensures.kept.formed in
      let most = formed.inodes_most in
      let below : n < length l.tables.rows =
      omega (arith, c.inodes-number-end.ensures.inodes, c.loop-number-test.true) in
      let low : n < 4096 = omega arith in
      let is : IsNewest l.memory n (get_or newest n None) =
      subst (λ (m : SegmentMemory). IsNewest m n (get_or newest n None)) c.memory.ensures
      (c.in_ok-newest.ensures.newest n low) in
      let read : c.index.result.now ≡ get_or newest n None =
      c.index.ensures ∙ get_or_default newest n c.index.result.now None (omega (arith, c.in_ok-newest.ensures.long)) in
      let stands = stands_there l c.requires.0 n c.requires.1 (blocks_of l.tables) (get_or newest n None)
      (formed.each_row n fresh_row below) is (latest n below) in
      absurd (false≢true (sym c.if-not-stands_at.true ∙ c.stands_at.ensures.1
      (subst (λ (p : Option InodePlace). StandsAt p c.index.result.now) (sym c.place.ensures.place)
      (subst (λ (o : Option RecordPlace). StandsAt (place_of l.tables n) o) (sym read) stands)))),
)

pub returns : goal.returns
returns c = (
  λ _ n below place.
      let l = c.args.log.now in
      let newest = c.in_ok-newest.newest.items in
      let formed = c.inodes-number-end.ensures.kept.formed in
      let most = formed.inodes_most in
      let low : n < 4096 = omega arith in
      let is : IsNewest l.memory n (get_or newest n None) =
      subst (λ (m : SegmentMemory). IsNewest m n (get_or newest n None)) c.memory.ensures
      (c.in_ok-newest.ensures.newest n low) in
      let met : n < c.loop-number.number =
      omega (arith, c.inodes-number-end.ensures.inodes, c.loop-number-test.false) in
      latest_there l c.requires.0 n c.requires.1 (blocks_of l.tables) (get_or newest n None)
      (formed.each_row n fresh_row below) is (c.loop-number.invariant n met) place,
  λ _. refl,
)
