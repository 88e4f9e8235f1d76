use Rattle.std.proofs.Common.{arith}
use Rattle.std.proofs.lemmas.Bool.{le-leb, leb-true}
use Rattle.lfs_durable_store.proofs.fitting.fits_with.Goals as goal

pub returns : goal.returns
returns c =
    let held = c.locked_count.ensures.count in
    let most = c.frames_of_all_at_most.ensures.frames in
    let waiting = c.len.ensures in
    let left = c.room.ensures.room in
    let quarter = c.div_ceil.ensures in (
      λ fit. record {
        frames = omega (arith, held, most, c.if-frames-gt-LOCKED_LIMIT.false);
        records = omega (arith, waiting, c.if-records-gt-WAITING_LIMIT.false);
        fits = let blocks = leb-true _ _ fit in omega (arith, held, most, waiting, quarter, left, blocks);
      },
      λ fit. let blocks = fit.fits in le-leb _ _ (omega (arith, held, most, waiting, quarter, left, blocks)),
    )
