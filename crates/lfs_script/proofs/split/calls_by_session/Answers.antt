use Rattle.std.proofs.Common.{◌≡◌, ◌∙◌, ◌++◌, ◌∷◌, [], length, ap, sym, arith}
use Rattle.std.proofs.lemmas.Grind.{common_steps}
use Rattle.std.proofs.lemmas.List.{length-map}
use Rattle.lfs_script.proofs.SplitLemmas.{all_sorted, length-with_call, one_more, sorted_push, sorted_skip}
use Rattle.lfs_script.proofs.split.calls_by_session.Goals as goal

pub loop-step-init : goal.loop-step-init
loop-step-init c = record {
  counted = grind (arith, common_steps);
  done = [];
  whole = sym c.into_iter-step-iterator.ensures.into_iter_gives;
  sorted = λ session lt. grind (arith, common_steps);
}

pub returns : goal.returns
returns c = (
  c.loop-step.lists.ok.0 ∙ sym (length-map c.loop-step.lists.items _) ∙ c.loop-step.invariant.counted,
  all_sorted c.args.steps c.loop-step.invariant.done c.loop-step.step-iterator c.args.count _
      c.loop-step.invariant.whole c.in-None.ensures.steps.0 c.loop-step.invariant.sorted,
)

pub loop-step-preserved-in-Continue-branch-2 : goal.loop-step-preserved-in-Continue-branch-2
loop-step-preserved-in-Continue-branch-2 c =
    let session : c.from-session.result ≡ c.in-Some.step.session = cc in
    record {
      counted = ap length c.in_ok-push_call.ensures ∙ length-with_call _ _ _ ∙ c.loop-step.invariant.counted;
      done = c.loop-step.invariant.done ++ c.in-Some.step ∷ [];
      whole =
          one_more c.args.steps c.loop-step.invariant.done c.loop-step.step-iterator c.next.new.self
          c.in-Some.step c.loop-step.invariant.whole c.in-Some.ensures.steps;
      sorted =
          sorted_push _ _ c.loop-step.invariant.done c.in-Some.step c.from-session.result c.user_call.result
          c.in-Some-user_call.call c.args.count session c.user_call.ensures c.in-Some-user_call.is
          c.loop-step.invariant.counted c.in_ok-push_call.ensures c.loop-step.invariant.sorted;
    }

pub loop-step-preserved : goal.loop-step-preserved
loop-step-preserved c =
    record {
      counted = c.loop-step.invariant.counted;
      done = c.loop-step.invariant.done ++ c.in-Some.step ∷ [];
      whole =
          one_more c.args.steps c.loop-step.invariant.done c.loop-step.step-iterator c.next.new.self
          c.in-Some.step c.loop-step.invariant.whole c.in-Some.ensures.steps;
      sorted =
          sorted_skip _ c.loop-step.invariant.done c.in-Some.step c.user_call.result c.args.count c.user_call.ensures
          c.in_default.not-Some c.loop-step.invariant.sorted;
    }
