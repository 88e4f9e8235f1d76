-- Answers that tell of want of memory.
use Rattle.std.specs.Prelude.{Bool, true, false}
use Rattle.lfs_types.specs.declared.answer.Answer.{Answer}
use Rattle.lfs_types.specs.declared.answer.Answer.TheVariants.{Served, Denied, Refused}
use Rattle.lfs_types.specs.declared.answer.Resource.TheVariants.{NoMemory, NoSpace, NoInodes, DirectoryFull}
use Rattle.lfs_types.specs.declared.answer.Resource.TheVariants.{JournalFull}

-- whether an answer tells that memory was wanting
abbrev pub is_lack_of_memory : Answer → Bool
is_lack_of_memory (Served shown) = false
is_lack_of_memory (Denied denial) = false
is_lack_of_memory (Refused NoMemory) = true
is_lack_of_memory (Refused NoSpace) = false
is_lack_of_memory (Refused NoInodes) = false
is_lack_of_memory (Refused DirectoryFull) = false
is_lack_of_memory (Refused JournalFull) = false
