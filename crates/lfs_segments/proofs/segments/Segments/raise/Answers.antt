use Rattle.lfs_segments.proofs.WritingLemmas.{next_told}
use Rattle.lfs_segments.proofs.segments.Segments.raise.Goals as goal

pub invariant_of-self : goal.invariant_of-self
invariant_of-self c =
    let old = c.self.inside in
    let laid = c.self.invariant in
    rw c.next_serial-self-inside.ensures (record {
      at_least = laid.at_least;
      at_most = laid.at_most;
      whole = laid.whole;
      each = laid.each;
      active = laid.active;
      begun = laid.begun;
      within = laid.within;
      told = next_told old.serial laid.told;
    })
