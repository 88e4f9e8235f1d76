-- What is told whatever the words are is told of words that are no text: `whatever`, for `options_of` and
-- `shell_options_of` where a journal of few entries is refused. The refusal stands, so nothing more is asked.
use Rattle.std.specs.Prelude.{IfErr, Result, Ok, Err}

pub whatever : {A E : Type 0} {P : Type 0} (words : Result A E) → P → IfErr words (λ _. P)
whatever (Ok texts) told = tt
whatever (Err why) told = told
