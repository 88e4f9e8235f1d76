use Rattle.std.proofs.Common.{◌^◌, ◌<◌, ◌≤◌, length, subst, arith}
use Rattle.lfs_words.specs.CallerText.{AreShort}
use Rattle.lfs_journal_lines.proofs.law.walk_caller.Goals as goal

pub returns : goal.returns
returns c =
    let user = c.uid-uid.result in
    let low : user < 2 ^ 32 = omega arith in
    record {
      user = subst (λ n. n < 2 ^ 32) c.uid-uid.ensures low;
      groups = subst AreShort c.groups.ensures.value c.walk_groups.ensures;
      some = subst (λ xs. 1 ≤ length xs) c.groups.ensures.value c.groups.ensures.some;
      few = subst (λ xs. length xs ≤ 16) c.groups.ensures.value c.groups.ensures.few;
      root = c.groups.ensures.init;
    }
