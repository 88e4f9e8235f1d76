use Rattle.std.proofs.Common.{rules, ◌≡◌, ◌+◌, true, ap, length, arith}
use Rattle.std.proofs.lemmas.Grind.{common_steps}
use Rattle.std.proofs.lemmas.List.Elements.{All-take}
use Rattle.lfs_dirs.specs.Reading.{entries_of}
use Rattle.lfs_dirs.proofs.Adding.{zeros_at_tail}
use Rattle.lfs_dirs.proofs.writing.add.Goals as goal

-- Bytes at the end that are not all zeros leave no room.
pub returns-then-not-are_zeros-clause-fits : goal.returns-then-not-are_zeros-clause-fits
returns-then-not-are_zeros-clause-fits c = (
  λ h. absurd (cc),
  λ fits.
      let block = c.args.block.now in
      let size = 5 + length c.as_bytes-name.result.now in
      let zeros = zeros_at_tail block (entries_of block) size c.requires.directory
      (omega (arith, fits, ap length c.as_bytes-name.ensures.value)) in
      let all : c.are_zeros.result ≡ true = c.are_zeros.ensures.1 (All-take (λ b. b ≡ 0) _ _ zeros) in
      let some = c.if-not-are_zeros.true in
      cc,
)

pub returns-then-end-size-clause-fits : goal.returns-then-end-size-clause-fits
returns-then-end-size-clause-fits c = grind (arith, common_steps)

pub push_entry-requires-clause-entry : goal.push_entry-requires-clause-entry
push_entry-requires-clause-entry c = search rules

pub returns-clause-block : goal.returns-clause-block
returns-clause-block c = search rules

pub returns-clause-listed : goal.returns-clause-listed
returns-clause-listed c = search rules
