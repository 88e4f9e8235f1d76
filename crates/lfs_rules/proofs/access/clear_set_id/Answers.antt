use Rattle.std.proofs.Common.{◌∙◌, ap, sym, subst}
use Rattle.bitflags.specs.Sets.{without}
use Rattle.lfs_rules.specs.SetId.{HasLostSetIds}
use Rattle.lfs_rules.proofs.SetIdBits.{lost_set_ids, without_set_id}
use Rattle.lfs_rules.proofs.access.clear_set_id.Goals as goal

pub returns : goal.returns
returns c =
    let cleared = c.without.ensures.value ∙ ap (λ bits. without 16 c.args.mode bits) (c.union.ensures tt)
    ∙ without_set_id c.args.mode c.without.ensures.bounded in
    record { cleared = cleared; bits = subst (HasLostSetIds c.args.mode) (sym cleared) (lost_set_ids c.args.mode) }
