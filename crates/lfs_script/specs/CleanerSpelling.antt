-- Calls of the cleaner as lines of a script.
use Rattle.std.specs.Prelude.{◌≡◌, ℕ, true, List, [], ◌∷◌, ◌++◌, decimal, map, Ok}
use Rattle.std.specs.List.{list_all}
use Rattle.lfs_types.specs.declared.cleaner.CleanerCall.{CleanerCall}
use Rattle.lfs_types.specs.declared.cleaner.CleanerCall.TheVariants as calls
use Rattle.lfs_model.specs.declared.asking.CleanerAct.{CleanerAct}
use Rattle.lfs_model.specs.declared.asking.CleanerAct.TheVariants.{Ifile, Infos, Bmapv, Markv, Segclean, Gain}
use Rattle.lfs_model.specs.Cleaning.{kind_of}
use Rattle.lfs_print.specs.CleanerWords.{cleaner_word}
use Rattle.lfs_words.specs.Infos.{info_text}
use Rattle.lfs_words.specs.Wording.{is_word, spaced}
use Rattle.lfs_script.specs.CleanerCalls.{cleaner_said}

-- the words behind the name of a call
abbrev pub handed_in : CleanerAct → List (List ℕ)
handed_in Ifile = []
handed_in (Infos segment) = decimal segment ∷ []
handed_in (Bmapv infos) = map info_text infos
handed_in (Markv marks) = map info_text marks
handed_in (Segclean segment) = decimal segment ∷ []
handed_in Gain = []

-- the line of a call, without a line feed
abbrev pub act_line : CleanerAct → List ℕ
act_line act = cleaner_word (kind_of act) ++ spaced (handed_in act)

-- the call that asks this
abbrev pub call_of : CleanerAct → CleanerCall
call_of Ifile = calls.Ifile
call_of (Infos segment) = calls.Infos segment
call_of (Bmapv infos) = calls.Bmapv infos
call_of (Markv marks) = calls.Markv marks
call_of (Segclean segment) = calls.Segclean segment
call_of Gain = calls.Gain

-- the words behind the name of a call may stand in a line, and ask it
pub record IsActSaid (act : CleanerAct) : Type 0 where
  pub words : list_all is_word (handed_in act) ≡ true
  pub said : cleaner_said (kind_of act) (handed_in act) ≡ Ok (call_of act)
