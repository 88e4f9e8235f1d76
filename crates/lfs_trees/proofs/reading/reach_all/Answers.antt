use Rattle.std.proofs.Common.{◌++◌, ◌∷◌, [], refl, sym, ap, subst, ◌∙◌}
use Rattle.lfs_types.specs.Tree.{Content, root}
use Rattle.lfs_calls.proofs.StateLemmas.{same_content}
use Rattle.lfs_trees.specs.Files.{AreFiles}
use Rattle.lfs_trees.specs.Walks.{Stands}
use Rattle.lfs_trees.proofs.Stepping.{all_read, stands_first}
use Rattle.lfs_trees.proofs.reading.reach_all.Goals as goal

pub loop-number-init : goal.loop-number-init
loop-number-init g c = record {
  stands = stands_first (g.F.FileStore.state c.args.store.now).content c.push.new.self c.requires.root
      (c.in_ok-push.ensures.order ∙ ap (λ ns. ns ++ root ∷ []) c.in_ok-walk.ensures.none)
      (c.in_ok-push.ensures.done ∙ c.in_ok-walk.ensures.done);
  numbers = c.in_ok-push.ensures.numbers ∙ c.in_ok-walk.ensures.numbers;
  state = refl;
}

pub read_number-requires-clause-files : goal.read_number-requires-clause-files
read_number-requires-clause-files g c = subst AreFiles
    (sym (same_content c.loop-number.invariant.state)) c.requires.files

pub read_number-requires-clause-stands : goal.read_number-requires-clause-stands
read_number-requires-clause-stands g c =
    subst (λ (x : Content). Stands x c.loop-number.walk)
    (sym (same_content c.loop-number.invariant.state)) c.loop-number.invariant.stands

pub loop-number-preserved : goal.loop-number-preserved
loop-number-preserved g c =
    let steps = c.in_ok-read_number.ensures.steps in
    record {
      stands = subst (λ (x : Content). Stands x c.read_number.new.walk)
          (same_content c.loop-number.invariant.state) steps.stands;
      numbers = steps.numbers ∙ c.loop-number.invariant.numbers;
      state = c.in_ok-read_number.ensures.state ∙ c.loop-number.invariant.state;
    }

pub returns-clause-read : goal.returns-clause-read
returns-clause-read g c =
    all_read (g.F.FileStore.state c.args.store.now).content c.loop-number.walk (sym c.next.ensures.next
    ∙ c.in_default.is)
    c.loop-number.invariant.stands
