use Rattle.std.proofs.Common.{◌≡◌, ◌-◌, ◌++◌, length, take, replicate, subst, sym, ap, ◌∙◌, arith}
use Rattle.std.specs.Prelude.{IsSome}
use Rattle.lfs_dirs.specs.Directory.{IsDirectoryBlock, number_in, without}
use Rattle.lfs_dirs.specs.Reading.{entries_of}
use Rattle.lfs_dirs.proofs.Changes.{without-absent}
use Rattle.lfs_dirs.proofs.Laws.{bytes_of, entries_of-block}
use Rattle.lfs_dirs.proofs.Removing.{closed_up, last_is, listed_there, place}
use Rattle.lfs_dirs.proofs.writing.remove.Goals as goal

pub returns-clause-found : goal.returns-clause-found
returns-clause-found c =
    sym (subst (λ n. IsSome (number_in n (entries_of c.args.block.now))) c.as_bytes-unwanted.ensures.value
    (listed_there c.args.block.now c.as_bytes-unwanted.result.now c.in-Some.rest.now c.requires c.in-Some.ensures))

pub returns-clause-block : goal.returns-clause-block
returns-clause-block c =
    let block = c.args.block.now in
    let name = c.as_bytes-unwanted.result.now in
    let rest = c.in-Some.rest.now in
    let behind = c.in-Some.ensures in
    let at = 512 - length rest - 5 - length name in
    let whole = place block name rest c.requires behind in
    let is_at : at ≡ length (bytes_of behind.before) = omega (arith, whole) in
    subst (λ n. IsDirectoryBlock c.close_up.new.block (without n (entries_of block))) c.as_bytes-unwanted.ensures.value
    (closed_up block name rest c.requires behind c.close_up.new.block at (512 - at - length rest) is_at
    (c.close_up.ensures ∙ ap (λ bs. take at block ++ (bs ++ replicate (512 - at - length rest) 0))
    (last_is block name rest c.requires behind)) (omega (arith, whole, is_at)))

pub returns-clause-listed : goal.returns-clause-listed
returns-clause-listed c = entries_of-block _ _ (returns-clause-block c)

-- A block that doesn't list the name stays, and so does its list.
pub returns-in_default-clause-listed : goal.returns-in_default-clause-listed
returns-in_default-clause-listed c =
    let absent = ap (λ n. number_in n (entries_of c.args.block.now)) (sym c.as_bytes-unwanted.ensures.value)
    ∙ c.in_default.ensures in
    sym (without-absent c.args.name.now (entries_of c.args.block.now) absent)

pub returns-in_default-clause-block : goal.returns-in_default-clause-block
returns-in_default-clause-block c =
    subst (IsDirectoryBlock c.args.block.now) (returns-in_default-clause-listed c) c.requires
