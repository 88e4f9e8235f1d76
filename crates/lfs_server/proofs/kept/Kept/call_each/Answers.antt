use Rattle.std.proofs.Common.{ℕ, refl, subst, sym, ap}
use Rattle.lfs_server.specs.Telling.{AreMade}
use Rattle.lfs_server.specs.declared.batch.Batch.{Batch}
use Rattle.lfs_server.proofs.MakingLemmas.{more_made, same_made}
use Rattle.lfs_server.proofs.kept.Kept.call_each.Goals as goal
use Rattle.lfs_server.proofs.kept.Kept.call_each.Goals.{then-wants_cleaner-via-then-wants_cleaner}
use Rattle.lfs_server.proofs.kept.Kept.call_each.Goals.{then-wants_cleaner-via-else-wants_cleaner+then-not-goes_on}

pub returns-then-wants_cleaner-clause-made : goal.returns-then-wants_cleaner-clause-made
returns-then-wants_cleaner-clause-made g c =
    let now = c.loop-cred.batch in
    let journal = c.loop-cred.self.journal in
    let answer = c.call-answer.result.0 in
    let same = ap (λ (turn : ℕ × ℕ). turn.0) c.next-session.ensures in
    let popped : Batch = record now { calls = c.pop_front.new.self; answers = c.push.new.self } in
    let made : AreMade c.args.self.now.journal c.call-answer.new.self.journal c.args.batch.now popped =
    more_made c.args.self.now.journal journal c.call-answer.new.self.journal c.args.batch.now now popped _ answer c.next-session.result.0
    c.loop-cred.invariant c.in-Some.ensures.items c.in_ok-push.ensures.items refl same c.call-answer.ensures.entered in
    elim c.then-wants_cleaner.branch [
      | then-wants_cleaner-via-then-wants_cleaner w ↦
          subst (AreMade c.args.self.now.journal c.call-answer.new.self.journal c.args.batch.now) (sym w.batch-is) made
      | then-wants_cleaner-via-else-wants_cleaner+then-not-goes_on w ↦
          subst (AreMade c.args.self.now.journal c.call-answer.new.self.journal c.args.batch.now) (sym w.batch-is)
          (same_made c.args.self.now.journal c.call-answer.new.self.journal c.args.batch.now popped
          w.goes_on.new.self made w.goes_on.ensures.calls w.goes_on.ensures.answers w.goes_on.ensures.session)
    ]

pub loop-cred-preserved : goal.loop-cred-preserved
loop-cred-preserved g c =
    let now = c.loop-cred.batch in
    let journal = c.loop-cred.self.journal in
    let answer = c.call-answer.result.0 in
    let same = ap (λ (turn : ℕ × ℕ). turn.0) c.next-session.ensures in
    let popped : Batch = record now { calls = c.pop_front.new.self; answers = c.push.new.self } in
    same_made c.args.self.now.journal c.call-answer.new.self.journal c.args.batch.now popped c.goes_on.new.self
    (more_made c.args.self.now.journal journal c.call-answer.new.self.journal c.args.batch.now now popped _ answer c.next-session.result.0
    c.loop-cred.invariant c.in-Some.ensures.items c.in_ok-push.ensures.items refl same c.call-answer.ensures.entered)
    c.goes_on.ensures.calls c.goes_on.ensures.answers c.goes_on.ensures.session
