use Rattle.std.proofs.Common.{sym, ◌∙◌}
use Rattle.lfs_live.proofs.TalkLemmas.{cut_faultless, cut_faulty, cut_silent, cut_told}
use Rattle.lfs_live.proofs.talk.Standing.hear_cut.Goals as goal

pub returns-then-is_empty-clause-told : goal.returns-then-is_empty-clause-told
returns-then-is_empty-clause-told g c =
    cut_silent c.args.self.now.setting.framing c.args.self.now.number c.args.bytes.now _
    (sym c.is_empty.ensures ∙ c.if-is_empty.true)

pub returns-then-is_empty-clause-faulty : goal.returns-then-is_empty-clause-faulty
returns-then-is_empty-clause-faulty g c =
    cut_faultless c.args.self.now.number c.args.bytes.now c.args.self.now.has_fault
    (sym c.is_empty.ensures ∙ c.if-is_empty.true)

pub returns-clause-told : goal.returns-clause-told
returns-clause-told g c =
    cut_told c.args.self.now.setting.framing c.args.self.now.number c.args.bytes.now c.as_slice.result.now _ _
    (sym c.is_empty.ensures ∙ c.if-is_empty.false) (c.as_slice.ensures.value ∙ c.in_ok-text.ensures)
    c.in_ok-say.ensures.written

pub returns-clause-faulty : goal.returns-clause-faulty
returns-clause-faulty g c =
    cut_faulty c.args.self.now.number c.args.bytes.now c.args.self.now c.note.new.self
    (sym c.is_empty.ensures ∙ c.if-is_empty.false) c.note.ensures
