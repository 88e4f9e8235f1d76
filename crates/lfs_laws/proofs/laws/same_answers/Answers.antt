use Rattle.lfs_laws.proofs.AnswerLemmas.{same_answers_law}
use Rattle.lfs_laws.proofs.laws.same_answers.Goals as goal

pub returns : goal.returns
returns c = same_answers_law
