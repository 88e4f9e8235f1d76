use Rattle.std.proofs.Common.{◌≡◌, ap, sym, ◌∙◌}
use Rattle.lfs_script.proofs.LayoutLemmas.{draft_kept, draft_more, drafted_more}
use Rattle.lfs_script.specs.Layout.{Known}
use Rattle.lfs_script.proofs.plan.Draft.push.Goals as goal

pub invariant_of-self : goal.invariant_of-self
invariant_of-self c =
    draft_kept c.self.inside.askers c.number.new.self c.self.inside.acts c.self.inside.sessions c.number.ensures.grown
    c.self.invariant

pub invariant_of-self-in_err-push : goal.invariant_of-self-in_err-push
invariant_of-self-in_err-push c =
    rw c.in_err-push.ensures.failed
    (draft_kept c.self.inside.askers c.number.new.self c.self.inside.acts c.self.inside.sessions
    c.number.ensures.grown c.self.invariant)

pub invariant_of-self-2 : goal.invariant_of-self-2
invariant_of-self-2 c =
    let same : c.number.new.self.present ≡ c.self.inside.askers.present =
    ap (λ (k : Known). k.present) c.number.ensures.grown.1 in
    draft_more c.number.new.self c.self.inside.acts c.push.new.self
    (record { act = c.args.act; asker = c.in_ok-asker.asker }) c.self.inside.sessions c.in_ok-push.ensures.pushed
    c.in_ok-asker.ensures.known.0 (c.in_ok-asker.ensures.known.1 ∙ sym same)
    (draft_kept c.self.inside.askers c.number.new.self c.self.inside.acts c.self.inside.sessions
    c.number.ensures.grown c.self.invariant)

pub returns : goal.returns
returns c =
    rw (← c.self.view_is)
    (drafted_more c.self.inside.askers c.number.new.self c.self.inside.acts c.push.new.self
    (record { act = c.args.act; asker = c.in_ok-asker.asker }) c.self.inside.sessions c.number.ensures.grown
    c.self.invariant.0 c.in_ok-push.ensures.pushed c.in_ok-asker.ensures.known.1)
