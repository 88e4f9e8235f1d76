-- What the cleaner asked is read back: `tells_act`, for BackLine. An entry's line has this as a field of words, so
-- first each operand has to be a word without bar or percent sign: segments and infos are, as their bytes are digits
-- and colons (`act_operands`). So none is escaped, the field is the line of a script, and lfs_script reads that back as
-- the call, kind by kind (`said`); a call of an act is that act (`same_act`).
use Rattle.std.proofs.Common.{◌≡◌, ℕ, ◌^◌, ◌<◌, false, List, [], ◌∷◌, ◌++◌, length, map, Ok, refl, ap, arith}
use Rattle.std.specs.Prelude.{decimal}
use Rattle.std.specs.List.{All}
use Rattle.std.specs.Str.Parse.{AllDigits}
use Rattle.std.proofs.lemmas.Fmt.{decimal_is_IsNumeral}
use Rattle.lfs_types.specs.declared.cleaner.BlockInfo.{BlockInfo}
use Rattle.lfs_model.specs.declared.asking.CleanerAct.{CleanerAct}
use Rattle.lfs_model.specs.declared.asking.CleanerAct.TheVariants.{Ifile, Infos, Bmapv, Markv, Segclean, Gain}
use Rattle.lfs_model.specs.declared.journal.CleanerKind.{CleanerKind}
use Rattle.lfs_model.specs.declared.journal.CleanerKind.TheVariants as kind
use Rattle.lfs_model.specs.Cleaning.{kind_of}
use Rattle.lfs_model.specs.Runs.{act_of}
use Rattle.lfs_print.specs.CleanerWords.{cleaner_word}
use Rattle.lfs_script.proofs.CleanerBack.{act_back, infos_located, infos_marked, is_cleaner_verb, segment_cleaned}
use Rattle.lfs_script.proofs.CleanerBack.{segment_listed}
use Rattle.lfs_script.specs.CleanerSpelling.{IsActSaid, call_of, handed_in}
use Rattle.lfs_script.specs.Plans.{line_said}
use Rattle.lfs_script.specs.declared.plan.Act.TheVariants as acts
use Rattle.lfs_script.specs.declared.plan.Line.TheVariants as says
use Rattle.lfs_words.proofs.InfoBack.{coloned, first_info, info_back, info_word, infos_back, more_infos}
use Rattle.lfs_words.proofs.ReadBack.{short_read}
use Rattle.lfs_words.proofs.WordBytes.{decimal_word}
use Rattle.lfs_words.specs.Infos.{IsShortInfo, info_of, info_text}
use Rattle.lfs_words.specs.Numbers.{short_of}
use Rattle.lfs_words.specs.Spelling.{ReadsBack}
use Rattle.lfs_words.specs.Wording.{spaced}
use Rattle.lfs_journal_lines.proofs.BackCalls.{AreOperands, as_they_are, field_of}
use Rattle.lfs_journal_lines.proofs.BackWords.{AreField, IsOperand, field_more, no_bar, no_percent, short_operand}
use Rattle.lfs_journal_lines.specs.Asked.{asked_by, is_escaped, plain_word}
use Rattle.lfs_journal_lines.specs.Ranges.{IsAct}
use Rattle.lfs_journal_lines.specs.Reading.{is_bar}
use Rattle.lfs_journal_lines.specs.declared.asked.Asked.TheVariants.{Cleaner}

-- ---- operands

first_plain : (cs rest : List ℕ) → 0 < length cs → AllDigits 10 cs → is_escaped (cs ++ rest) ≡ false
first_plain [] rest some digits = absurd (omega arith)
first_plain (c ∷ cs) rest some digits = no_percent c (omega (arith, digits.0))

info_operand : (info : BlockInfo) → IsShortInfo info → IsOperand (info_text info)
info_operand info is =
    let numeral = decimal_is_IsNumeral info.ino (omega (arith, is.ino)) in
    record {
      word_is = info_word info is;
      bar = no_bar info_of (info_text info) info _ (info_back info is) refl;
      plain = first_plain (decimal info.ino) (58 ∷ coloned (info.version ∷ info.lbn ∷ info.addr ∷ []))
          numeral.0.0 numeral.0.1;
    }

infos_operands : (infos : List BlockInfo) → All IsShortInfo infos → AreOperands (map info_text infos)
infos_operands [] all = tt
infos_operands (info ∷ infos) all =
    (info_operand info (first_info info infos all), infos_operands infos (more_infos info infos all))

act_operands : (act : CleanerAct) → IsAct act → AreOperands (handed_in act)
act_operands Ifile is = tt
act_operands (Infos segment) is = (short_operand segment is, tt)
act_operands (Bmapv infos) is = infos_operands infos is.0
act_operands (Markv marks) is = infos_operands marks is.0
act_operands (Segclean segment) is = (short_operand segment is, tt)
act_operands Gain is = tt

-- ---- the call

segment_read : (segment : ℕ) → segment < 2 ^ 32 → ReadsBack short_of (decimal segment) segment
segment_read segment lt =
    record { word = decimal_word segment (omega (arith, lt)); back = short_read segment lt }

said : (act : CleanerAct) → IsAct act → IsActSaid act
said Ifile is = record { words = refl; said = refl }
said (Infos segment) is = segment_listed segment (segment_read segment is)
said (Bmapv infos) is = infos_located infos is.1 (infos_back infos is.0)
said (Markv marks) is = infos_marked marks is.1 (infos_back marks is.0)
said (Segclean segment) is = segment_cleaned segment (segment_read segment is)
said Gain is = record { words = refl; said = refl }

same_act : (act : CleanerAct) → act_of (call_of act) ≡ act
same_act Ifile = refl
same_act (Infos segment) = refl
same_act (Bmapv infos) = refl
same_act (Markv marks) = refl
same_act (Segclean segment) = refl
same_act Gain = refl

cleaner_bar : (asked : CleanerKind) → is_bar (cleaner_word asked) ≡ false
cleaner_bar kind.Ifile = refl
cleaner_bar kind.Infos = refl
cleaner_bar kind.Bmapv = refl
cleaner_bar kind.Markv = refl
cleaner_bar kind.Segclean = refl
cleaner_bar kind.Gain = refl

-- the words of a call are those of a field, and are read as the call
pub record TellsAct (act : CleanerAct) : Type 0 where
  pub words : AreField (cleaner_word (kind_of act) ∷ handed_in act)
  pub back : asked_by (cleaner_word (kind_of act)) (handed_in act) ≡ Ok (Cleaner act)

pub tells_act : (act : CleanerAct) → IsAct act → TellsAct act
tells_act act is =
    let operands = act_operands act is in
    let plain : map plain_word (handed_in act) ≡ handed_in act = as_they_are (handed_in act) operands in
    let line : line_said (cleaner_word (kind_of act) ++ spaced (map plain_word (handed_in act)))
    ≡ Ok (says.Act (acts.Cleaner (call_of act))) =
    rw plain (act_back act (said act is)) in
    record {
      words = field_more (cleaner_word (kind_of act)) (handed_in act)
          (is_cleaner_verb (kind_of act)).word (cleaner_bar (kind_of act)) (field_of (handed_in act) operands);
      back = rw line (ap (λ asked. Ok (Cleaner asked)) (same_act act));
    }
