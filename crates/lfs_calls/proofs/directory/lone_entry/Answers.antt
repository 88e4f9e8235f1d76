use Rattle.std.proofs.Common.{◌≡◌, ◌≤◌, ◌+◌, [], ◌∷◌, ◌++◌, true, length, ap, subst, sym, ◌∙◌, arith}
use Rattle.lfs_dirs.proofs.Changes.{number_in-nil}
use Rattle.lfs_dirs.specs.Directory.{IsDirectoryBlock, number_in, used_of}
use Rattle.lfs_dirs.proofs.Laws.{entries_of-zeros, zero_block_listed}
use Rattle.lfs_calls.proofs.directory.lone_entry.Goals as goal
use Rattle.lfs_calls.proofs.directory.lone_entry.Goals.{After-add}

pub add-requires-clause-directory : goal.add-requires-clause-directory
add-requires-clause-directory c = zero_block_listed

pub add-requires-clause-new_name : goal.add-requires-clause-new_name
add-requires-clause-new_name c = ap (number_in c.args.name.now) (entries_of-zeros 512) ∙ number_in-nil c.args.name.now

-- a name fits an empty block
fits : (c : After-add) → c.add.result ≡ true
fits c = c.add.ensures.fits.1 (subst (λ es. used_of es + 5 + length c.args.name.now ≤ 512) (sym (entries_of-zeros 512))
    (omega (arith, c.as_bytes.ensures.bounded)))

pub returns-clause-block : goal.returns-clause-block
returns-clause-block c = subst (λ es. IsDirectoryBlock c.add.new.block (es ++ (c.args.number, c.args.name.now) ∷ []))
    (entries_of-zeros 512) (c.add.ensures.block (fits c))

pub returns-clause-listed : goal.returns-clause-listed
returns-clause-listed c = c.add.ensures.listed (fits c)
    ∙ ap (λ es. es ++ (c.args.number, c.args.name.now) ∷ []) (entries_of-zeros 512)
