use Rattle.std.proofs.Common.{sym, ap, ◌∙◌}
use Rattle.std.proofs.lemmas.Bool.{true≢false}
use Rattle.lfs_model.specs.declared.journal.Event.TheVariants.{User}
use Rattle.lfs_model.proofs.EqualityLemmas.{answers_same, callers_same, requests_same, same_answer, same_request}
use Rattle.lfs_model.proofs.journal.Entry.is_call.Goals as goal

pub returns-then-eq : goal.returns-then-eq
returns-then-eq c =
    let entry = c.args.self.now in
    let caller = callers_same entry.cred c.args.cred.now c.if-ne.ensures in
    let request = requests_same c.in-User.asked c.args.request.now (sym c.eq.ensures ∙ c.if-eq.true) in (
      λ h. let answer = answers_same c.in-User.answered c.args.answer.now (sym c.eq-then-eq.ensures ∙ h) in
          let event = c.in-User.is ∙ ap (λ r. User r c.in-User.answered) request
          ∙ ap (User c.args.request.now) answer in
          λ i. record { session = c.if-self-session.false i; cred = caller i; event = event i },
      λ h. c.eq-then-eq.ensures
          ∙ same_answer c.in-User.asked c.args.request.now c.in-User.answered c.args.answer.now (sym c.in-User.is
          ∙ ap (λ e. e.event) h),
    )

pub returns-else-eq : goal.returns-else-eq
returns-else-eq c = (
  λ h. absurd (true≢false (sym h ∙ c.if-eq.false)),
  λ h. c.eq.ensures
      ∙ same_request c.in-User.asked c.args.request.now c.in-User.answered c.args.answer.now (sym c.in-User.is
      ∙ ap (λ e. e.event) h),
)
