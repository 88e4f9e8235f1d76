use Rattle.lfs_types.specs.Tree.{attrs_of, fresh_root}
use Rattle.lfs_parts.proofs.format.root_attrs.Goals as goal

pub returns : goal.returns
returns c = λ i. record (attrs_of fresh_root) { mode = c.in-Some.ensures.1 i; flags = c.none.ensures i }
