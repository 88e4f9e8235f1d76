-- A line of a call of the cleaner says this call: `act_back` for `push_act`, and `segment_listed`, `segment_cleaned`,
-- `infos_located` and `infos_marked` for `push_handed_in`. What is handed in is read back word by word, numerals and
-- infos, and there are no more infos than the call takes (`within`). The six names of calls are words, are found as
-- verbs of the cleaner and begin no comment (`is_cleaner_verb`), so the line's words are read as this call.
use Rattle.std.proofs.Common.{◌≡◌, ℕ, ◌≤◌, true, false, List, ◌∷◌, ◌++◌, length, map, Some, Ok, refl, ◌∙◌}
use Rattle.std.specs.Prelude.{decimal}
use Rattle.std.proofs.lemmas.Bool.{le-ltb}
use Rattle.std.proofs.lemmas.List.{length-map}
use Rattle.lfs_types.specs.declared.cleaner.BlockInfo.{BlockInfo}
use Rattle.lfs_types.specs.declared.cleaner.CleanerCall.{CleanerCall}
use Rattle.lfs_model.specs.declared.asking.CleanerAct.{CleanerAct}
use Rattle.lfs_model.specs.declared.asking.CleanerAct.TheVariants as acts
use Rattle.lfs_model.specs.declared.journal.CleanerKind.{CleanerKind}
use Rattle.lfs_model.specs.declared.journal.CleanerKind.TheVariants.{Ifile, Infos, Bmapv, Markv, Segclean, Gain}
use Rattle.lfs_model.specs.Cleaning.{kind_of}
use Rattle.lfs_print.specs.CleanerWords.{cleaner_word}
use Rattle.lfs_script.proofs.SpellingLemmas.{line_of_words}
use Rattle.lfs_script.specs.CleanerCalls.{cleaner_said}
use Rattle.lfs_script.specs.CleanerSpelling.{IsActSaid, act_line, call_of, handed_in}
use Rattle.lfs_script.specs.Plans.{line_said, words_said}
use Rattle.lfs_script.specs.Verbs.{verb_of}
use Rattle.lfs_script.specs.declared.plan.Act.TheVariants.{Cleaner}
use Rattle.lfs_script.specs.declared.plan.Line.TheVariants.{Act}
use Rattle.lfs_script.specs.declared.verb.Verb.TheVariants as verb
use Rattle.lfs_words.specs.Infos.{AreReadBack, info_text, infos_of, infos_within}
use Rattle.lfs_words.specs.Lines.{is_skipped}
use Rattle.lfs_words.specs.Numbers.{short_of}
use Rattle.lfs_words.specs.Spelling.{ReadsBack}
use Rattle.lfs_words.specs.Wording.{is_word, spaced}

-- ---- what is handed in

-- the segment of an Infos or a Segclean
pub segment_listed : (segment : ℕ) → ReadsBack short_of (decimal segment) segment → IsActSaid (acts.Infos segment)
segment_listed segment back = record { words = rw back.word refl; said = rw back.back refl }

pub segment_cleaned : (segment : ℕ) → ReadsBack short_of (decimal segment) segment → IsActSaid (acts.Segclean segment)
segment_cleaned segment back = record { words = rw back.word refl; said = rw back.back refl }

-- no more infos than a call takes
within : (most : ℕ) (infos : List BlockInfo) → length infos ≤ most → infos_of (map info_text infos) ≡ Ok infos
    → infos_within most (map info_text infos) ≡ Ok infos
within most infos few back =
    let long = length-map infos info_text in
    rw (long, le-ltb most (length infos) few) back

-- the infos of a Bmapv or a Markv
pub infos_located : (infos : List BlockInfo) → length infos ≤ 248 → AreReadBack infos → IsActSaid (acts.Bmapv infos)
infos_located infos few read = record { words = read.words; said = rw (within 248 infos few read.back) refl }

pub infos_marked : (marks : List BlockInfo) → length marks ≤ 8 → AreReadBack marks → IsActSaid (acts.Markv marks)
infos_marked marks few read = record { words = read.words; said = rw (within 8 marks few read.back) refl }

-- ---- lines

-- the name of a call is a word, is no comment, and is found
pub record IsCleanerVerb (asked : CleanerKind) : Type 0 where
  pub word : is_word (cleaner_word asked) ≡ true
  pub found : verb_of (cleaner_word asked) ≡ Some (verb.Cleaner asked)
  pub says : (more : List ℕ) → is_skipped (cleaner_word asked ++ more) ≡ false

pub is_cleaner_verb : (asked : CleanerKind) → IsCleanerVerb asked
is_cleaner_verb Ifile = record { word = refl; found = refl; says = λ more. refl }
is_cleaner_verb Infos = record { word = refl; found = refl; says = λ more. refl }
is_cleaner_verb Bmapv = record { word = refl; found = refl; says = λ more. refl }
is_cleaner_verb Markv = record { word = refl; found = refl; says = λ more. refl }
is_cleaner_verb Segclean = record { word = refl; found = refl; says = λ more. refl }
is_cleaner_verb Gain = record { word = refl; found = refl; says = λ more. refl }

words_asked : (asked : CleanerKind) (words : List (List ℕ)) (call : CleanerCall) → cleaner_said asked words ≡ Ok call
    → words_said (cleaner_word asked ∷ words) ≡ Ok (Act (Cleaner call))
words_asked asked words call said =
    let found : verb_of (cleaner_word asked) ≡ Some (verb.Cleaner asked) = (is_cleaner_verb asked).found in
    rw (found, said) refl

-- what is said is what the line says
pub act_back : (act : CleanerAct) → IsActSaid act → line_said (act_line act) ≡ Ok (Act (Cleaner (call_of act)))
act_back act said =
    let word = is_cleaner_verb (kind_of act) in
    line_of_words (cleaner_word (kind_of act)) (handed_in act) word.word said.words (word.says (spaced (handed_in act)))
    ∙ words_asked (kind_of act) (handed_in act) (call_of act) said.said
