use Rattle.std.proofs.Common.{◌≡◌, ◌++◌, map, take}
use Rattle.std.specs.List.{All}
use Rattle.lfs_words.specs.Infos.{IsShortInfo, info_text}
use Rattle.lfs_words.specs.Wording.{spaced}
use Rattle.lfs_words.proofs.info.spell_infos.Given as goal

abbrev pub invariant-loop-info : goal.invariant-loop-info
invariant-loop-info l = record {
  spelled : l.out.items ≡ l.fn.out.items ++ spaced (map info_text (take l.info-index l.infos));
  short : All IsShortInfo (take l.info-index l.infos);
}
