use Rattle.std.proofs.Common.{◌≢◌, ℕ, List, [], sym, subst}
use Rattle.std.proofs.lemmas.List.Elements.{All-nil}
use Rattle.lfs_words.specs.Lines.{HasNoLineFeed}
use Rattle.lfs_script.specs.Taking.{IsTaken}
use Rattle.lfs_script.proofs.parser.ScriptParser.new.Goals as goal

pub returns-clause-taken : goal.returns-clause-taken
returns-clause-taken c =
    record {
      taken = subst (λ (l : List ℕ). IsTaken [] l c.new.result) (sym c.new-2.ensures.items) (c.new.ensures.taken []);
      unended = subst HasNoLineFeed (sym c.new-2.ensures.items) (All-nil (λ (b : ℕ). b ≢ 10));
    }
