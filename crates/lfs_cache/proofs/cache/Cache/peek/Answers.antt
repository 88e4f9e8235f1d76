use Rattle.std.proofs.Common.{◌≡◌, Some, None, sym, ap, ◌∙◌}
use Rattle.std.specs.Prelude.{vec_capacity, option_copied}
use Rattle.lfs_cache.specs.Contents.{block_of}
use Rattle.lfs_cache.proofs.Steps.{block_held_is, none_block}
use Rattle.lfs_cache.proofs.FormedLemmas.{formed_as}
use Rattle.lfs_cache.proofs.cache.Cache.peek.Goals as goal

pub returns-in_err-number-clause-value : goal.returns-in_err-number-clause-value
returns-in_err-number-clause-value c =
    let l = c.self.inside.frames in let keys = c.self.inside.index in let v = c.self.inside.locked in let k =
    c.args.key in
    let none : block_of k c.args.self.now ≡ None = sym (ap (block_of k) c.self.view_is)
    ∙ none_block l keys v.items (vec_capacity v) k c.self.invariant c.in_err-number.ensures in
    ap option_copied c.from_residual.ensures ∙ sym none

pub returns-in_err-number-clause-formed : goal.returns-in_err-number-clause-formed
returns-in_err-number-clause-formed c =
    let v = c.self.inside.locked in formed_as c.self.inside.frames c.self.inside.index v.items
    (vec_capacity v) c.args.self.now c.self.view_is c.self.invariant

pub returns-clause-value : goal.returns-clause-value
returns-clause-value c =
    let l = c.self.inside.frames in let keys = c.self.inside.index in let v = c.self.inside.locked in let k =
    c.args.key in
    ap Some c.bytes.ensures
    ∙ (sym (block_held_is l keys v.items (vec_capacity v) c.in_ok-number.number k c.self.invariant
    c.in_ok-number.ensures.1) ∙ ap (block_of k) c.self.view_is)

pub returns-clause-formed : goal.returns-clause-formed
returns-clause-formed c =
    let v = c.self.inside.locked in formed_as c.self.inside.frames c.self.inside.index v.items
    (vec_capacity v) c.args.self.now c.self.view_is c.self.invariant
