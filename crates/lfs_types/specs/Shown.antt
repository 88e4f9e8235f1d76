-- Answers that show a list of bytes or of names, which alone take memory.
use Rattle.lfs_types.specs.declared.answer.Answer.{Answer}
use Rattle.lfs_types.specs.declared.answer.Answer.TheVariants as answers
use Rattle.lfs_types.specs.declared.answer.Served.{Served}
use Rattle.lfs_types.specs.declared.answer.Served.TheVariants.{Stat, Bytes, Names, Done}

-- what is shown is a list
abbrev pub IsList : Served → Type 0
IsList (Stat number attrs) = ⊥
IsList (Bytes bytes) = Unit {0}
IsList (Names names) = Unit {0}
IsList Done = ⊥

-- an answer that shows a list
abbrev pub ServesList : Answer → Type 0
ServesList (answers.Served shown) = IsList shown
ServesList (answers.Denied denial) = ⊥
ServesList (answers.Refused resource) = ⊥
