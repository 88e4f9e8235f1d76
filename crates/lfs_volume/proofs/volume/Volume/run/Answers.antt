use Rattle.std.proofs.Common.{rules, ◌≡◌, false, ◌∷◌, [], ◌++◌, sym, ap, subst, ◌∙◌, arith, length-append, append_assoc}
use Rattle.std.proofs.lemmas.Grind.{common_steps}
use Rattle.lfs_types.specs.StoreStates.{Shape}
use Rattle.lfs_model.specs.Runs.{kept, kept_entry}
use Rattle.lfs_model.proofs.RunLemmas.{kept-append}
use Rattle.lfs_volume.specs.CallRuns.{AreCallsAsked, IsCallAsked}
use Rattle.lfs_volume.specs.Journals.{Begins, Since}
use Rattle.lfs_volume.proofs.CallLemmas.{AreMadeSo-append, call_made}
use Rattle.lfs_volume.proofs.volume.Volume.run.Goals as goal

pub loop-session-init : goal.loop-session-init
loop-session-init g c = search rules

pub loop-session-preserved : goal.loop-session-preserved
loop-session-preserved g c =
    let i = c.loop-session.invariant in
    let call = c.call-answer in
    let made = call.ensures in
    let answer = call.result in
    let one = c.in-Some.field-0 in
    let before = c.loop-session.self in
    let next = call.new.self in
    let state = g.F.FileStore.state in
    let flushed = g.F.FileStore.is_flushed in
    let said = g.F.FileStore.made in
    let opening = c.args.self.now in
    let journal = opening.journal ++ kept c.loop-session.yielded c.loop-session.answers.items in
    let pushed : c.push_within.new.items.items ≡ c.loop-session.answers.items ++ answer
    ∷ [] = c.push_within.ensures.pushed in
    let still : Since (state opening.since) opening.since_level (Begins (state before.since) before.since_level) =
    λ from begins. subst (λ l. Begins (state before.since) l from) (sym i.since_level)
    (subst (λ s. Begins (state s) opening.since_level from) (sym i.since) begins) in
    let stepped : c.loop-session.session-iterator.rest.items ≡ one
    ∷ c.next.new.self.rest.items = c.in-Some.ensures.steps.0 in
    record {
      each = λ from begins. let here = still from begins in
          subst (λ answers. AreCallsAsked state flushed said opening.limit from opening.journal opening.store
          (c.loop-session.yielded ++ one ∷ []) answers next.store) (sym pushed)
          (AreMadeSo-append (λ j this call told left.
          IsCallAsked state flushed said opening.limit from j this call.cred call.request told left)
          opening.journal opening.store before.store next.store
          c.loop-session.yielded c.loop-session.answers.items one answer (i.each from begins)
          (subst (λ n. IsCallAsked state flushed said n from journal before.store one.cred one.request answer next.store)
          i.limit
          (subst (λ j. IsCallAsked state flushed said before.limit from j before.store one.cred one.request answer
          next.store) i.entered
          (record {
            made = call_made state flushed from before next one.cred one.request answer made.full made.at_limit
                (made.shown from here) (λ room. made.outcome room from here)
                (made.entries from here) made.unserved made.looks made.unasked made.synced made.follows made.base;
            asked = made.asked;
          }))));
      entered = made.entered
          ∙ ap (λ j. j ++ kept_entry one.session one.cred one.request answer) i.entered
          ∙ append_assoc opening.journal (kept c.loop-session.yielded c.loop-session.answers.items)
          (kept_entry one.session one.cred one.request answer)
          ∙ ap (λ l. opening.journal ++ l)
          (sym (kept-append c.loop-session.yielded c.loop-session.answers.items one answer i.count)
          ∙ ap (kept (c.loop-session.yielded ++ one ∷ [])) (sym pushed));
      legal = made.legal;
      all = append_assoc c.loop-session.yielded (one ∷ []) c.next.new.self.rest.items
          ∙ ap (λ l. c.loop-session.yielded ++ l) (sym stepped) ∙ i.all;
      count = simp (pushed, length-append) (omega (arith, i.count));
      room = omega (arith, i.room, c.push_within.ensures.room);
      since = made.since ∙ i.since;
      since_level = made.since_level ∙ i.since_level;
      limit = made.limit ∙ i.limit;
      follows = record {
        clean = λ none.
            let before = i.follows.clean none in
            let behind = made.follows.clean (subst (λ (s : Shape). s.has_share ≡ false) (sym i.follows.shape) none) in
            omega (arith, before, behind);
        shape = made.follows.shape
            ∙ i.follows.shape;
      };
    }

pub returns-clause-each : goal.returns-clause-each
returns-clause-each g c = grind (arith, common_steps)

pub returns-clause-entered : goal.returns-clause-entered
returns-clause-entered g c = grind (arith, common_steps)

pub returns-in_default-clause-legal : goal.returns-in_default-clause-legal
returns-in_default-clause-legal g c = search rules

pub returns-in_default-clause-refused : goal.returns-in_default-clause-refused
returns-in_default-clause-refused g c = search rules

pub returns-in_default-clause-limit : goal.returns-in_default-clause-limit
returns-in_default-clause-limit g c = search rules

pub push_within-requires : goal.push_within-requires
push_within-requires g c = grind (arith, common_steps)
