use Rattle.std.proofs.Common.{ap, sym, ◌∙◌}
use Rattle.lfs_segwrite.specs.Applying.{are_fewer, unlocks}
use Rattle.lfs_parts.specs.Files.{content_of}
use Rattle.lfs_segwrite.proofs.applying.unlocks.Goals as goal

pub returns-in-Some : goal.returns-in-Some
returns-in-Some c =
    c.is_part_of.ensures ∙ sym (ap (unlocks (content_of c.args.parts.now)) c.in-SetAttrs.is
    ∙ ap (are_fewer c.in-SetAttrs.attrs.flags) (sym c.attrs.ensures ∙ c.in-Some.is))

pub returns-in-None : goal.returns-in-None
returns-in-None c =
    sym (ap (unlocks (content_of c.args.parts.now)) c.in-SetAttrs.is
    ∙ ap (are_fewer c.in-SetAttrs.attrs.flags) (sym c.attrs.ensures ∙ c.in-None.is))
