use Rattle.std.proofs.Common.{ap, ◌∙◌, ◌∷◌}
use Rattle.lfs_parts.proofs.RecordsLemmas.{put_kept}
use Rattle.lfs_parts.proofs.records.Records.put.Goals as goal

pub invariant_of-self : goal.invariant_of-self
invariant_of-self c =
    put_kept _ _ _ c.self.invariant c.args.inode c.push_front_reserved.new.self.items _ c.requires.numbered
    (c.push_front_reserved.ensures.items ∙ ap (λ vs. c.args.inode ∷ vs) c.drop_known.ensures.items)
    (c.push_front_reserved.ensures.capacity ∙ c.drop_known.ensures.capacity)
