use Rattle.std.proofs.Common.{refl, sym}
use Rattle.lfs_volume.proofs.AskedLemmas.{asked_copy, asked_lack}
use Rattle.lfs_volume.proofs.JournalLemmas.{IsAnswered-copy, IsAnswered-lack}
use Rattle.lfs_volume.proofs.volume.answer_twice.Goals as goal

pub returns-then-lacks_memory-clause-answered : goal.returns-then-lacks_memory-clause-answered
returns-then-lacks_memory-clause-answered g c =
    IsAnswered-lack (g.F.FileStore.state c.args.store.now)
    (g.F.FileStore.state c.answer-answer.new.store) c.args.level.now c.answer-answer.new.level
    c.args.cred.now c.args.request.now c.answer-answer.result c.answer-answer.ensures.answered
    (sym c.if-lacks_memory.ensures)

pub returns-in-Err-clause-answered : goal.returns-in-Err-clause-answered
returns-in-Err-clause-answered g c =
    IsAnswered-copy (g.F.FileStore.state c.args.store.now)
    (g.F.FileStore.state c.answer-answer.new.store) c.args.level.now c.answer-answer.new.level
    c.args.cred.now c.args.request.now c.answer-answer.result c.answer-answer.ensures.answered
    (c.in-Err.ensures.memory refl)

pub returns-then-lacks_memory-clause-asked : goal.returns-then-lacks_memory-clause-asked
returns-then-lacks_memory-clause-asked g c =
    asked_lack g.F.FileStore.state g.F.FileStore.made c.args.store.now c.answer-answer.new.store c.args.cred.now
    c.args.request.now c.answer-answer.result
    c.answer-answer.ensures.asked (sym c.if-lacks_memory.ensures)

pub returns-in-Err-clause-asked : goal.returns-in-Err-clause-asked
returns-in-Err-clause-asked g c =
    asked_copy g.F.FileStore.state g.F.FileStore.made c.args.store.now c.answer-answer.new.store c.args.cred.now
    c.args.request.now c.answer-answer.result
    c.args.level.now c.answer-answer.new.level c.requires c.answer-answer.ensures.answered
    (c.in-Err.ensures.memory refl)
