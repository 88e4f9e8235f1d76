use Rattle.std.proofs.lemmas.Slice.Zip.{either_empty_from_Zip}
use Rattle.lfs_cleaner.proofs.PassLemmas.{unchanged_ended}
use Rattle.lfs_cleaner.proofs.pass.unchanged.Goals as goal

pub returns : goal.returns
returns c =
    let none = either_empty_from_Zip c.loop-info.info-iterator c.next.new.self c.next.result c.in-None.is
    c.next.ensures.steps in
    unchanged_ended _ _ _ _ none c.loop-info.invariant.known
