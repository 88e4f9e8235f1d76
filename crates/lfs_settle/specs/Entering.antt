-- Which answers leave an entry.
use Rattle.std.specs.Prelude.{Bool, true, false}
use Rattle.lfs_types.specs.declared.answer.Answer.{Answer}
use Rattle.lfs_types.specs.declared.answer.Answer.TheVariants.{Refused}
use Rattle.lfs_types.specs.declared.answer.Resource.TheVariants.{NoMemory, JournalFull}

-- whether a call answered so makes an entry
abbrev pub makes_entry : Answer → Bool
makes_entry (Refused NoMemory) = false
makes_entry (Refused JournalFull) = false
makes_entry answer = true
