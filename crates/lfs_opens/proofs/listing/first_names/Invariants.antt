use Rattle.std.proofs.Common.{◌≡◌}
use Rattle.lfs_opens.specs.Listing.{names_in}
use Rattle.lfs_opens.proofs.listing.first_names.Given as goal

abbrev pub invariant-loop-answer : goal.invariant-loop-answer
invariant-loop-answer l = record {
  rest : names_in l.answer-iterator.rest.items ≡ names_in l.fn.answers.items;
}
