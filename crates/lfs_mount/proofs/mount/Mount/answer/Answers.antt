use Rattle.std.proofs.Common.{◌≡◌, Some, IfSome, sym, subst, ◌∙◌}
use Rattle.lfs_types.specs.Caller.{Caller}
use Rattle.lfs_fuse_wire.specs.Header.{header_in}
use Rattle.lfs_fuse_wire.specs.Said.{said}
use Rattle.lfs_mount.specs.Answered.{IsAnsweredOf, IsHeard}
use Rattle.lfs_mount.specs.Keeping.{AreStillKept}
use Rattle.lfs_mount.specs.Moving.{NodesBehindIn}
use Rattle.lfs_mount.proofs.KeepingLemmas.{heard_keeps}
use Rattle.lfs_mount.proofs.mount.Mount.answer.Goals as goal

pub returns-clause-answered : goal.returns-clause-answered
returns-clause-answered g c =
    let state = g.F.FileStore.state in
    let flushed = g.F.FileStore.is_flushed in
    let sizes = c.args.self.now.sizes in
    let now = c.args.now in
    let nodes = c.args.self.now.tree.nodes in
    let nodes_after = c.heard-told.new.self.tree.nodes in
    let others = c.args.others.now in
    let bytes = c.args.bytes.now in
    let header = c.in-Some.header in
    let heard = c.heard-told.result in
    let old = c.args.self.now.tree.volume in
    let new = c.heard-told.new.self.tree.volume in
    let before = c.args.self.now.beside in
    let after = c.heard-told.new.self.beside in
    let who = c.caller-cred.result in
    let found : header_in bytes ≡ Some header = sym c.decode.ensures ∙ c.in-Some.is in
    subst (λ h. IsAnsweredOf state flushed sizes now nodes nodes_after others h
    (said bytes) c.args.out.now.items c.append_if.new.out.items old new before after) (sym found) (record {
      reply = heard.0;
      wanted = heard.1;
      heard = subst (λ (who : Caller). IsHeard state flushed sizes now who nodes nodes_after header.node
          (said bytes) heard.0 heard.1 old new before after) c.caller-cred.ensures c.heard-told.ensures.heard;
      keeps = subst (λ (w : Caller). IfSome (said bytes) (λ m. AreStillKept now w nodes header.node m heard.0
          before.opens.files.items after.opens.files.items)) c.caller-cred.ensures
          (heard_keeps state flushed sizes now who nodes nodes_after header.node heard.0 old new before after (said bytes) heard.1
          c.heard-told.ensures.heard);
      behind = c.heard-told.ensures.behind;
      written = c.in_ok-append_if.ensures;
    })

pub returns-clause-behind : goal.returns-clause-behind
returns-clause-behind g c =
    let header = c.in-Some.header in
    let found : header_in c.args.bytes.now ≡ Some header = sym c.decode.ensures ∙ c.in-Some.is in
    subst (λ h. NodesBehindIn h (said c.args.bytes.now) c.args.self.now.tree.nodes c.heard-told.new.self.tree.nodes)
    (sym found) (c.heard-told.result.0, c.heard-told.ensures.behind)
