use Rattle.std.proofs.Common.{◌≡◌, subst}
use Rattle.std.proofs.lemmas.Result.{IfOk-weaker}
use Rattle.lfs_types.specs.declared.request.Request.{Request}
use Rattle.lfs_calls.specs.Volumes.{InWorld}
use Rattle.lfs_who.specs.Who.{IsWho, IsWhoCalls}
use Rattle.lfs_who.specs.declared.who.Who.{Who}
use Rattle.lfs_who.proofs.ActLemmas.{calls_are}
use Rattle.lfs_who.proofs.who.who_could.Goals as goal

pub returns : goal.returns
returns g c = record {
  who = IfOk-weaker c.who_calls.result
      (λ (who : Who). InWorld (g.F.FileStore.state c.args.store.now) (λ w. w.level ≡ c.args.level
      → IsWhoCalls w c.in_ok-request.request who))
      (λ (who : Who). InWorld (g.F.FileStore.state c.args.store.now) (λ w. w.level ≡ c.args.level
      → IsWho w c.args.act c.args.path.now who))
      (λ who is w v at. calls_are w c.args.path.now who c.args.act c.in_default.not-Search c.in_default.not-Move
      (subst (λ (r : Request). IsWhoCalls w r who) c.in_ok-request.ensures (is w v at)))
      c.who_calls.ensures.who;
  state = c.who_calls.ensures.state;
}
