use Rattle.std.proofs.Common.{ap, subst, ◌∙◌}
use Rattle.lfs_volume.proofs.CallLemmas.{call_made}
use Rattle.lfs_durable_store.specs.declared.mark.Mark.{Mark}
use Rattle.lfs_durable_store.specs.Keeping.{IsSettled, durable_state}
use Rattle.lfs_logged.specs.Calls.{IsLoggedCall}
use Rattle.lfs_logged.specs.Keeping.{KeepsCount, LoggedVolume}
use Rattle.lfs_logged.proofs.CountLemmas.{counted_so, whole_kept}
use Rattle.lfs_logged.proofs.logged.Logged.call.Goals as goal

pub invariant_of-self : goal.invariant_of-self
invariant_of-self c =
    let e = c.call-answer.ensures in
    let seen = c.at-before.ensures in
    let sees = c.at.ensures in
    (counted_so c.self.inside.volume c.call-answer.new.self _ e.entered e.follows.shape e.since e.since_level
    c.self.inside.kept c.self.invariant sees.store sees.all c.kept_behind-self-inside.result _ _ _ _ e.base seen.mark
    sees.mark seen.entries sees.entries c.kept_behind-self-inside.ensures).0

pub returns-clause-counted : goal.returns-clause-counted
returns-clause-counted c =
    let e = c.call-answer.ensures in
    let seen = c.at-before.ensures in
    let sees = c.at.ensures in
    let new : LoggedVolume = record { volume = c.call-answer.new.self; kept = c.kept_behind-self-inside.result } in
    subst (λ (l : LoggedVolume). KeepsCount l new) c.self.view_is
    (counted_so c.self.inside.volume c.call-answer.new.self _ e.entered e.follows.shape e.since e.since_level
    c.self.inside.kept c.self.invariant sees.store sees.all c.kept_behind-self-inside.result _ _ _ _ e.base seen.mark
    sees.mark seen.entries sees.entries c.kept_behind-self-inside.ensures).1

pub returns-clause-synced : goal.returns-clause-synced
returns-clause-synced c = λ sync done.
    let sees = c.at.ensures in
    let settled = c.call-answer.ensures.synced sync done in
    whole_kept c.kept_behind-self-inside.result c.at-before.result.mark c.at.result.mark c.at-before.result.entries
    c.at.result.entries c.self.inside.kept (ap (λ (m : Mark). m.is_whole) sees.mark ∙ settled.whole)
    c.kept_behind-self-inside.ensures ∙ sees.entries

pub returns-clause-call : goal.returns-clause-call
returns-clause-call c =
    let old = c.self.inside.volume in
    let new = c.call-answer.new.self in
    let e = c.call-answer.ensures in
    subst (λ (l : LoggedVolume). IsLoggedCall l.volume c.args.cred.now c.args.request c.call-answer.result new)
    c.self.view_is (λ from begins. record {
      made = call_made durable_state IsSettled from old new c.args.cred.now c.args.request c.call-answer.result
          e.full e.at_limit (e.shown from begins) (λ room. e.outcome room from begins) (e.entries from begins) e.unserved
          e.looks e.unasked e.synced e.follows e.base;
      asked = e.asked;
    })
