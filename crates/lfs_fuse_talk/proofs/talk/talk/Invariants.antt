use Rattle.std.proofs.Common.{◌≡◌, true}
use Rattle.lfs_fuse_talk.specs.Inboxes.{IsInbox}
use Rattle.lfs_fuse_talk.specs.Talking.{answering_of}
use Rattle.lfs_fuse_talk.proofs.TalkLemmas.{TalkedSoFar}
use Rattle.lfs_fuse_talk.proofs.talk.talk.Given as goal

abbrev pub invariant-loop : goal.invariant-loop
invariant-loop g l = record {
  talked : TalkedSoFar (answering_of g.M.Answerer.answers g.M.Answerer.rests) l.fn.answerer l.answerer
      l.inbox.pending.items l.is_whole (g.R.Read.remaining l.fn.reader) (g.R.Read.remaining l.reader)
      (g.W.Write.contents l.fn.writer) (g.W.Write.contents l.writer);
  silent : g.M.Answerer.is_well l.answerer ≡ true
      → (g.M.Answerer.is_well l.fn.answerer ≡ true) × (l.teller ≡ l.fn.teller);
  formed : IsInbox l.inbox;
  old : l.inbox.fresh ≡ 0;
}
