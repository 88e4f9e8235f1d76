use Rattle.std.proofs.Common.{sym, subst}
use Rattle.std.specs.Prelude.{vec_capacity}
use Rattle.lfs_cache.specs.Contents.{IsLocked}
use Rattle.lfs_cache.proofs.FormedLemmas.{contents_formed}
use Rattle.lfs_cache.proofs.OverwrittenLemmas.{over_told}
use Rattle.lfs_cache.proofs.Steps.{not_locked}
use Rattle.lfs_cache.proofs.cache.Cache.overwrite.Goals as goal

pub invariant_of-self : goal.invariant_of-self
invariant_of-self c =
    let l = c.self.inside.frames in let keys = c.self.inside.index in let v = c.self.inside.locked in
    (over_told l c.overwrite.new.frames keys v.items (vec_capacity v) c.in-Some.frame c.args.key c.self.invariant
    c.in-Some.ensures.1 c.args.start c.args.bytes.now c.requires.inside c.overwrite.ensures c.args.self.now
    c.self.view_is c.requires.locked).0

pub returns-in-Some-clause-overwrites : goal.returns-in-Some-clause-overwrites
returns-in-Some-clause-overwrites c =
    let l = c.self.inside.frames in let keys = c.self.inside.index in let v = c.self.inside.locked in
    (over_told l c.overwrite.new.frames keys v.items (vec_capacity v) c.in-Some.frame c.args.key c.self.invariant
    c.in-Some.ensures.1 c.args.start c.args.bytes.now c.requires.inside c.overwrite.ensures c.args.self.now
    c.self.view_is c.requires.locked).1

pub returns-in-Some-clause-formed : goal.returns-in-Some-clause-formed
returns-in-Some-clause-formed c =
    let v = c.self.inside.locked in
    contents_formed c.overwrite.new.frames c.self.inside.index v.items (vec_capacity v) (invariant_of-self c)

pub returns-in_default : goal.returns-in_default
returns-in_default c =
    let v = c.self.inside.locked in
    absurd (not_locked c.self.inside.frames c.self.inside.index v.items (vec_capacity v) c.args.key c.self.invariant
    c.in_default.ensures (subst (IsLocked c.args.key) (sym c.self.view_is) c.requires.locked))
