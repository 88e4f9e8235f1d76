use Rattle.std.proofs.Common.{refl}
use Rattle.lfs_live.proofs.TalkLemmas.{if_ok, last_quits, last_told, next_told}
use Rattle.lfs_live.proofs.talk.Standing.hear_next.Goals as goal

pub returns-then-piece-clause-next : goal.returns-then-piece-clause-next
returns-then-piece-clause-next g c =
    if_ok _ _ c.hear_line.result c.hear_line.ensures.told
    (λ goes_on told whole. next_told _ _ _ _ _ _ _ _ _ _ c.in_ok-piece.piece.is_ended c.in_ok-piece.piece.bytes.items
    c.as_slice.result.now
    c.in_ok-piece.ensures.read c.if-piece.true c.as_slice.ensures.value (told whole))

pub returns-then-piece-clause-last : goal.returns-then-piece-clause-last
returns-then-piece-clause-last g c =
    if_ok _ _ c.hear_line.result c.hear_line.ensures.quits
    (λ goes_on quits ends. (
      (quits ends).0,
      last_quits _ _ _ _ _ _ c.in_ok-piece.piece.is_ended c.in_ok-piece.piece.bytes.items c.as_slice.result.now
          c.in_ok-piece.ensures.read c.if-piece.true c.as_slice.ensures.value (quits ends).1
          (quits ends).2 (quits ends).3,
    ))

pub returns-clause-last : goal.returns-clause-last
returns-clause-last g c = λ _. (
  refl,
  last_told _ _ _ _ _ _ c.in_ok-piece.piece.is_ended c.in_ok-piece.piece.bytes.items c.as_slice-2.result.now
      c.in_ok-piece.ensures.read c.if-piece.false c.as_slice-2.ensures.value c.in_ok-hear_cut.ensures.told
      c.in_ok-hear_cut.ensures.faulty,
)
