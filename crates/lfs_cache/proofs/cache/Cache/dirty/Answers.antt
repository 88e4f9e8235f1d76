use Rattle.std.proofs.Common.{◌≡◌, ◌≢◌, ◌⊎◌, Some, None, sym, ap, ◌∙◌, inl, inr}
use Rattle.lfs_recency.specs.declared.queue.Queue.{Queue}
use Rattle.lfs_recency.specs.declared.queue.Queue.TheVariants.{Locked, Lru, Age, Empty}
use Rattle.std.specs.Prelude.{vec_capacity, option_copied}
use Rattle.lfs_cache.specs.Contents.{Contents, block_in}
use Rattle.lfs_cache.proofs.Steps.{clean_held, dirty_held, none_locked}
use Rattle.lfs_cache.proofs.FormedLemmas.{formed_as}
use Rattle.lfs_cache.proofs.cache.Cache.dirty.Goals as goal

other_queue : (q : Queue) → (q ≡ Lru) ⊎ ((q ≡ Age) ⊎ (q ≡ Empty)) → q ≢ Locked
other_queue Locked is = elim is [ inl a ↦ absurd (cc) | inr b ↦ elim b [ inl a ↦ absurd (cc) | inr a ↦ absurd (cc) ] ]
other_queue Lru is = λ e. absurd (cc)
other_queue Age is = λ e. absurd (cc)
other_queue Empty is = λ e. absurd (cc)

pub returns-in_err-frame-clause-value : goal.returns-in_err-frame-clause-value
returns-in_err-frame-clause-value c =
    let l = c.self.inside.frames in let keys = c.self.inside.index in let v = c.self.inside.locked in let k =
    c.args.key in
    let none : block_in k c.args.self.now.locked
    ≡ None = sym (ap (λ (s : Contents). block_in k s.locked) c.self.view_is)
    ∙ none_locked l keys v.items (vec_capacity v) k c.self.invariant c.in_err-frame.ensures in
    ap option_copied c.from_residual.ensures ∙ sym none

pub returns-in_err-frame-clause-formed : goal.returns-in_err-frame-clause-formed
returns-in_err-frame-clause-formed c =
    let v = c.self.inside.locked in formed_as c.self.inside.frames c.self.inside.index v.items
    (vec_capacity v) c.args.self.now c.self.view_is c.self.invariant

pub returns-in-Locked-clause-value : goal.returns-in-Locked-clause-value
returns-in-Locked-clause-value c =
    let l = c.self.inside.frames in let keys = c.self.inside.index in let v = c.self.inside.locked in let k =
    c.args.key in
    ap Some c.bytes.ensures
    ∙ (sym (dirty_held l keys v.items (vec_capacity v) c.in_ok-frame.frame k c.self.invariant c.in_ok-frame.ensures.1
    c.queue.result c.queue.ensures c.in-Locked.is)
    ∙ ap (λ (s : Contents). block_in k s.locked) c.self.view_is)

pub returns-in-Locked-clause-formed : goal.returns-in-Locked-clause-formed
returns-in-Locked-clause-formed c =
    let v = c.self.inside.locked in formed_as c.self.inside.frames c.self.inside.index v.items
    (vec_capacity v) c.args.self.now c.self.view_is c.self.invariant

pub returns-in-Lru : goal.returns-in-Lru
returns-in-Lru c =
    let l = c.self.inside.frames in let keys = c.self.inside.index in let v = c.self.inside.locked in let k =
    c.args.key in
    record {
      value = sym (sym (ap (λ (s : Contents). block_in k s.locked) c.self.view_is)
          ∙ clean_held l keys v.items (vec_capacity v) c.in_ok-frame.frame k c.self.invariant c.in_ok-frame.ensures.1
          c.queue.result c.queue.ensures (other_queue c.queue.result c.in-Lru.is));
      formed = formed_as l keys v.items (vec_capacity v) c.args.self.now c.self.view_is c.self.invariant;
    }
