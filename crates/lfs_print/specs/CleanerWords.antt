-- The words of the cleaner's calls.
use Rattle.std.specs.Prelude.{ℕ, List, codes}
use Rattle.lfs_model.specs.declared.journal.CleanerKind.{CleanerKind}
use Rattle.lfs_model.specs.declared.journal.CleanerKind.TheVariants.{Ifile, Infos, Bmapv, Markv, Segclean, Gain}

-- the word of a call of the cleaner
abbrev pub cleaner_word : CleanerKind → List ℕ
cleaner_word Ifile = codes "ifile"
cleaner_word Infos = codes "infos"
cleaner_word Bmapv = codes "bmapv"
cleaner_word Markv = codes "markv"
cleaner_word Segclean = codes "segclean"
cleaner_word Gain = codes "gain"
