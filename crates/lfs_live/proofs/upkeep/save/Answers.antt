use Rattle.std.proofs.Common.{inl, refl}
use Rattle.lfs_live.proofs.TalkLemmas.{if_ok}
use Rattle.lfs_live.proofs.upkeep.save.Goals as goal

pub returns-then-not-has_file : goal.returns-then-not-has_file
returns-then-not-has_file g c = if_ok _ _ c.tell_unsaved.result c.tell_unsaved.ensures (λ text told. inl (refl, told))
