use Rattle.std.proofs.Common.{rules, refl, ◌-◌, ◌^◌, ◌<◌, length, subst, arith}
use Rattle.lfs_calls.proofs.AskedLemmas.{on_change}
use Rattle.lfs_calls.proofs.BaseLemmas.{same_base}
use Rattle.lfs_calls.proofs.CallLemmas.{looks_same}
use Rattle.lfs_volume.proofs.volume.Volume.call.Goals as goal

-- the limit fits 32 bits
few : (g : _) (c : goal.After-answer_and_enter-arg-1 g) → length c.self.inside.journal.items < 2 ^ 32 - 1
few g c = search rules

pub answer_and_enter-requires : goal.answer_and_enter-requires
answer_and_enter-requires g c = record {
  room = subst (λ v. length v.journal < v.limit) c.self.view_is
      (omega (arith, c.if-len-self.false, c.len.ensures, c.self.inside.journal.ok.0));
  few = subst (λ v. length v.journal < 2 ^ 32 - 1) c.self.view_is (few g c);
}

pub returns-then-len-self-clause-full : goal.returns-then-len-self-clause-full
returns-then-len-self-clause-full g c = search rules

pub returns-then-len-self-clause-at_limit : goal.returns-then-len-self-clause-at_limit
returns-then-len-self-clause-at_limit g c = search rules

pub returns-then-len-self-clause-shown : goal.returns-then-len-self-clause-shown
returns-then-len-self-clause-shown g c = search rules

pub returns-then-len-self-clause-outcome : goal.returns-then-len-self-clause-outcome
returns-then-len-self-clause-outcome g c = search rules

pub returns-then-len-self-clause-entered : goal.returns-then-len-self-clause-entered
returns-then-len-self-clause-entered g c = search rules

pub returns-then-len-self-clause-legal : goal.returns-then-len-self-clause-legal
returns-then-len-self-clause-legal g c = search rules

pub returns-then-len-self-clause-entries : goal.returns-then-len-self-clause-entries
returns-then-len-self-clause-entries g c = search rules

pub returns-then-len-self-clause-unserved : goal.returns-then-len-self-clause-unserved
returns-then-len-self-clause-unserved g c = search rules

pub returns-then-len-self-clause-looks : goal.returns-then-len-self-clause-looks
returns-then-len-self-clause-looks g c = looks_same c.args.request refl

pub returns-then-len-self-clause-unasked : goal.returns-then-len-self-clause-unasked
returns-then-len-self-clause-unasked g c = refl

pub returns-then-len-self-clause-synced : goal.returns-then-len-self-clause-synced
returns-then-len-self-clause-synced g c = search rules

pub returns-then-len-self-clause-limit : goal.returns-then-len-self-clause-limit
returns-then-len-self-clause-limit g c = search rules

pub returns-then-len-self-clause-follows : goal.returns-then-len-self-clause-follows
returns-then-len-self-clause-follows g c = search rules

pub returns-clause-full : goal.returns-clause-full
returns-clause-full g c = search rules

pub returns-clause-at_limit : goal.returns-clause-at_limit
returns-clause-at_limit g c = search rules

pub returns-clause-shown : goal.returns-clause-shown
returns-clause-shown g c = search rules

pub returns-clause-outcome : goal.returns-clause-outcome
returns-clause-outcome g c = search rules

pub returns-clause-entered : goal.returns-clause-entered
returns-clause-entered g c = search rules

pub returns-clause-legal : goal.returns-clause-legal
returns-clause-legal g c = search rules

pub returns-clause-entries : goal.returns-clause-entries
returns-clause-entries g c = search rules

pub returns-clause-unserved : goal.returns-clause-unserved
returns-clause-unserved g c = search rules

pub returns-clause-looks : goal.returns-clause-looks
returns-clause-looks g c = search rules

pub returns-clause-unasked : goal.returns-clause-unasked
returns-clause-unasked g c = search rules

pub returns-clause-synced : goal.returns-clause-synced
returns-clause-synced g c = search rules

pub returns-clause-limit : goal.returns-clause-limit
returns-clause-limit g c = search rules

pub returns-clause-follows : goal.returns-clause-follows
returns-clause-follows g c = search rules

pub returns-then-len-self-clause-asked : goal.returns-then-len-self-clause-asked
returns-then-len-self-clause-asked g c = on_change c.args.request tt

pub returns-clause-asked : goal.returns-clause-asked
returns-clause-asked g c = search rules

pub returns-then-len-self-clause-base : goal.returns-then-len-self-clause-base
returns-then-len-self-clause-base g c =
    let state = g.F.FileStore.state c.args.self.now.store in same_base state state refl
