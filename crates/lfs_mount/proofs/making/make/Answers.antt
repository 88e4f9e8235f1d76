use Rattle.std.proofs.Common.{rules, ◌≡◌, ◌∷◌, [], ◌++◌, true, false, sym, ap, subst, ◌∙◌, arith, length-append}
use Rattle.std.proofs.Common.{append_assoc, append-nil}
use Rattle.std.proofs.lemmas.Grind.{common_steps}
use Rattle.lfs_model.specs.Runs.{kept}
use Rattle.lfs_volume.specs.CallRuns.{AreAnswers}
use Rattle.lfs_volume.specs.Journals.{Since}
use Rattle.lfs_volume.proofs.CallLemmas.{call_made}
use Rattle.lfs_fuse_calls.specs.Shown.{is_full, wanted_by}
use Rattle.lfs_mount.specs.Making.{GoUpTo, calls_as}
use Rattle.lfs_mount.proofs.MakingLemmas.{AllFull, AllFull-append, are_made, entered_more, none_made, one_more}
use Rattle.lfs_mount.proofs.MakingLemmas.{up_to_all, up_to_one, within_limit}
use Rattle.lfs_mount.proofs.making.make.Goals as goal

pub loop-request-init : goal.loop-request-init
loop-request-init g c = search (rules, none_made)

pub loop-request-preserved : goal.loop-request-preserved
loop-request-preserved g c =
    let i = c.loop-request.invariant in
    let made = c.call-answer.ensures in
    let answer = c.call-answer.result in
    let request = c.in-Some.request in
    let caller = c.args.cred.now in
    let done = c.loop-request.yielded in
    let answers = c.loop-request.answers.items in
    let before = c.loop-request.volume in
    let next = c.call-answer.new.self in
    let old = c.args.volume.now in
    let state = g.F.FileStore.state in
    let flushed = g.F.FileStore.is_flushed in
    let pushed : c.push_within.new.items.items ≡ answers ++ answer ∷ [] = c.push_within.ensures.pushed in
    let stepped : c.loop-request.request-iterator.rest.items ≡ request
    ∷ c.next.new.self.rest.items = c.in-Some.ensures.steps.0 in
    let full : is_full (wanted_by request) answer ≡ true = grind (arith, common_steps) in
    record {
      each = subst (λ l. Since (state old.since) old.since_level
          (λ from. AreAnswers state flushed old.limit from old.journal old.store
          (calls_as caller (done ++ request ∷ [])) l next.store)) (sym pushed)
          (one_more state flushed caller old before next done answers request answer i.each i.entered i.since
          i.since_level i.limit
          (λ from here. call_made state flushed from before next caller request answer made.full made.at_limit
          (made.shown from here) (λ room. made.outcome room from here)
          (made.entries from here) made.unserved made.looks made.unasked made.synced made.follows made.base));
      entered = subst (λ l. next.journal ≡ old.journal ++ kept (calls_as caller (done ++ request ∷ [])) l) (sym pushed)
          (entered_more caller old.journal before.journal next.journal done answers request answer i.count i.entered
          made.entered);
      within = within_limit state old next c.push_within.new.items.items made.legal (made.since ∙ i.since)
          (made.since_level ∙ i.since_level);
      full = subst (λ l. AllFull (done ++ request ∷ []) l) (sym pushed)
          (AllFull-append done answers request answer i.full full);
      all = append_assoc done (request ∷ []) c.next.new.self.rest.items ∙ ap (λ l. done ++ l) (sym stepped) ∙ i.all;
      count = simp (pushed, length-append) (omega (arith, i.count));
      room = omega (arith, i.room, c.push_within.ensures.room);
      since = made.since ∙ i.since;
      since_level = made.since_level ∙ i.since_level;
      limit = made.limit ∙ i.limit;
      shape = made.follows.shape ∙ i.shape;
      legal = λ _. made.legal;
    }

pub push_within-requires : goal.push_within-requires
push_within-requires g c = grind (arith, common_steps)

pub returns-then-not-goes_on-clause-made : goal.returns-then-not-goes_on-clause-made
returns-then-not-goes_on-clause-made g c =
    let i = c.loop-request.invariant in
    let made = c.call-answer.ensures in
    let answer = c.call-answer.result in
    let request = c.in-Some.request in
    let caller = c.args.cred.now in
    let done = c.loop-request.yielded in
    let answers = c.loop-request.answers.items in
    let before = c.loop-request.volume in
    let next = c.call-answer.new.self in
    let old = c.args.volume.now in
    let rest = c.next.new.self.rest.items in
    let state = g.F.FileStore.state in
    let flushed = g.F.FileStore.is_flushed in
    let pushed : c.push_within.new.items.items ≡ answers ++ answer ∷ [] = c.push_within.ensures.pushed in
    let stepped : c.loop-request.request-iterator.rest.items ≡ request ∷ rest = c.in-Some.ensures.steps.0 in
    let halts : is_full (wanted_by request) answer ≡ false = grind (arith, common_steps) in
    let whole : done ++ request ∷ rest ≡ c.args.requests.items = ap (λ l. done ++ l) (sym stepped) ∙ i.all in
    are_made state flushed caller c.args.requests.items (done ++ request
    ∷ []) rest c.push_within.new.items.items old next
    (append_assoc done (request ∷ []) rest ∙ whole)
    (simp (pushed, length-append) (omega (arith, i.count)))
    (subst (λ l. Since (state old.since) old.since_level
    (λ from. AreAnswers state flushed old.limit from old.journal old.store
    (calls_as caller (done ++ request ∷ [])) l next.store)) (sym pushed)
    (one_more state flushed caller old before next done answers request answer i.each i.entered i.since i.since_level
    i.limit
    (λ from here. call_made state flushed from before next caller request answer made.full made.at_limit
    (made.shown from here) (λ room. made.outcome room from here)
    (made.entries from here) made.unserved made.looks made.unasked made.synced made.follows made.base)))
    (subst (λ l. next.journal ≡ old.journal ++ kept (calls_as caller (done ++ request ∷ [])) l) (sym pushed)
    (entered_more caller old.journal before.journal next.journal done answers request answer i.count i.entered
    made.entered))
    (within_limit state old next c.push_within.new.items.items made.legal (made.since ∙ i.since)
    (made.since_level ∙ i.since_level))
    (subst (λ l. GoUpTo l c.push_within.new.items.items) whole
    (subst (λ l. GoUpTo (done ++ request ∷ rest) l) (sym pushed)
    (up_to_one done rest answers request answer i.full halts)))
    (made.since ∙ i.since)
    (made.since_level ∙ i.since_level)
    (made.limit ∙ i.limit)
    (made.follows.shape ∙ i.shape)
    (λ _. made.legal)

pub returns-clause-made : goal.returns-clause-made
returns-clause-made g c =
    let i = c.loop-request.invariant in
    let done = c.loop-request.yielded in
    let ended : c.loop-request.request-iterator.rest.items ≡ [] = grind (arith, common_steps) in
    let all : done ++ [] ≡ c.args.requests.items = ap (λ l. done ++ l) (sym ended) ∙ i.all in
    are_made g.F.FileStore.state g.F.FileStore.is_flushed c.args.cred.now c.args.requests.items done []
    c.loop-request.answers.items c.args.volume.now c.loop-request.volume
    all i.count i.each i.entered i.within
    (subst (λ l. GoUpTo l c.loop-request.answers.items) (sym (append-nil done) ∙ all)
    (up_to_all done c.loop-request.answers.items i.full))
    i.since i.since_level i.limit i.shape i.legal
