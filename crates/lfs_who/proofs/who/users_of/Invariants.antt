use Rattle.std.proofs.Common.{◌≡◌, ℕ, ◌||◌, drop}
use Rattle.lfs_who.specs.Who.{has_part_in, is_among}
use Rattle.lfs_who.proofs.who.users_of.Given as goal

-- the users so far, and those who have a part in the rest
abbrev pub invariant-loop-question : goal.invariant-loop-question
invariant-loop-question l =
    (u : ℕ) → (is_among u l.users.items || has_part_in u (drop l.question-index l.questions))
    ≡ has_part_in u l.questions
