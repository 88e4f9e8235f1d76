use Rattle.std.proofs.Common.{◌≡◌, ◌≢◌, ◌%◌, sym, ◌∙◌}
use Rattle.std.proofs.lemmas.Bool.{false≢true}
use Rattle.lfs_staging.proofs.CutFileLemmas.{last_index}
use Rattle.lfs_staging.proofs.CutLemmas.{last_cut, last_whole}
use Rattle.lfs_staging.proofs.cutting.cut_last.Goals as goal

pub returns-then-not-is_multiple_of : goal.returns-then-not-is_multiple_of
returns-then-not-is_multiple_of c =
    let some : c.args.len % 512 ≢ 0 = λ e. false≢true (sym c.if-not-is_multiple_of.true ∙ c.is_multiple_of.ensures.1 e)
    in
    last_cut c.args.parts.now c.cut_block.new.parts c.args.inode.now c.args.len c.requires.may some
    (last_index c.args.inode.now c.args.parts.now c.args.len c.requires.may c.requires.less) c.cut_block.ensures

pub returns-else-not-is_multiple_of : goal.returns-else-not-is_multiple_of
returns-else-not-is_multiple_of c =
    let none : c.args.len % 512 ≡ 0 = c.is_multiple_of.ensures.0 c.if-not-is_multiple_of.false in
    last_whole c.args.parts.now c.args.inode.now c.args.len c.requires.may c.requires.staged none
