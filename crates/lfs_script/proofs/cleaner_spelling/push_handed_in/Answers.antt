use Rattle.std.proofs.Common.{sym, subst}
use Rattle.std.specs.Prelude.{OnOk}
use Rattle.std.proofs.lemmas.Result.{on_ok_weaker}
use Rattle.lfs_script.proofs.CleanerBack.{infos_located, infos_marked, segment_cleaned, segment_listed}
use Rattle.lfs_script.specs.CleanerSpelling.{IsActSaid}
use Rattle.lfs_words.specs.Infos.{AreReadBack}
use Rattle.lfs_script.proofs.cleaner_spelling.push_handed_in.Goals as goal

pub returns-in-Infos-clause-back : goal.returns-in-Infos-clause-back
returns-in-Infos-clause-back c =
    subst (λ act. OnOk c.spell_short.result (IsActSaid act)) (sym c.in-Infos.is)
    (on_ok_weaker c.spell_short.result (λ spelled. segment_listed c.in-Infos.segment c.spell_short.ensures.back)
    c.spell_short.ensures.spelled)

pub returns-in-Segclean-clause-back : goal.returns-in-Segclean-clause-back
returns-in-Segclean-clause-back c =
    subst (λ act. OnOk c.spell_short-in-Segclean.result (IsActSaid act)) (sym c.in-Segclean.is)
    (on_ok_weaker c.spell_short-in-Segclean.result (λ spelled. segment_cleaned c.in-Segclean.segment c.spell_short-in-Segclean.ensures.back)
    c.spell_short-in-Segclean.ensures.spelled)

pub returns-in-Bmapv-clause-back : goal.returns-in-Bmapv-clause-back
returns-in-Bmapv-clause-back c =
    subst (λ act. OnOk c.spell_infos.result (IsActSaid act)) (sym c.in-Bmapv.is)
    (on_ok_weaker c.spell_infos.result
    (λ read. infos_located c.in-Bmapv.infos c.items.ensures.fits (subst AreReadBack c.items.ensures.items read))
    c.spell_infos.ensures.back)

pub returns-in-Markv-clause-back : goal.returns-in-Markv-clause-back
returns-in-Markv-clause-back c =
    subst (λ act. OnOk c.spell_infos-in-Markv.result (IsActSaid act)) (sym c.in-Markv.is)
    (on_ok_weaker c.spell_infos-in-Markv.result
    (λ read. infos_marked c.in-Markv.marks c.items-in-Markv.ensures.fits (subst AreReadBack c.items-in-Markv.ensures.items read))
    c.spell_infos-in-Markv.ensures.back)
