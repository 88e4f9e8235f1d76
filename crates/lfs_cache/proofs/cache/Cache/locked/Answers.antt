use Rattle.std.proofs.Common.{◌++◌, sym, ap, subst, ◌∙◌}
use Rattle.lfs_cache.specs.Contents.{Contents, keys_of, AreApart}
use Rattle.lfs_cache.proofs.Apart.{locked_apart, all_apart}
use Rattle.lfs_cache.proofs.Steps.{keys_are}
use Rattle.lfs_cache.proofs.cache.Cache.locked.Goals as goal

pub returns-clause-keys : goal.returns-clause-keys
returns-clause-keys c =
    let l = c.self.inside.frames in
    c.deref.ensures.value ∙ (c.self.invariant.are.named
    ∙ (keys_are c.self.inside.index l.blocks l.locked ∙ ap (λ (s : Contents). keys_of s.locked) c.self.view_is))

pub returns-clause-once : goal.returns-clause-once
returns-clause-once c =
    subst AreApart (sym (c.deref.ensures.value ∙ c.self.invariant.are.named))
    (locked_apart c.self.inside.frames c.self.inside.index c.self.inside.locked.items c.self.invariant.are)

pub returns-clause-one_queue : goal.returns-clause-one_queue
returns-clause-one_queue c =
    subst (λ (s : Contents). AreApart (keys_of (s.locked ++ s.lru))) c.self.view_is
    (all_apart c.self.inside.frames c.self.inside.index c.self.inside.locked.items c.self.invariant.are)
