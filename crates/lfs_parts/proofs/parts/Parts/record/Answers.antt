use Rattle.std.proofs.Common.{is_some, option_map, sym, ap, ◌∙◌}
use Rattle.std.proofs.lemmas.Bool.{cond-true, false≢true}
use Rattle.std.proofs.lemmas.Option.{none-some}
use Rattle.lfs_cache.proofs.Named.{none_of}
use Rattle.lfs_inodes.specs.Reading.{fields_of, fields_in}
use Rattle.lfs_inodes.specs.Slots.{slot_of}
use Rattle.lfs_parts.proofs.ViewLemmas.{record_of-unused, record_of-waiting, record_of-logged}
use Rattle.lfs_parts.proofs.parts.Parts.record.Goals as goal

pub returns-in_err-place-clause-shown : goal.returns-in_err-place-clause-shown
returns-in_err-place-clause-shown c =
    ap (option_map fields_of) c.from_residual.ensures
    ∙ sym (record_of-unused c.args.self.now c.args.ino (sym c.place.ensures.place ∙ c.in_err-place.was))

pub returns-in_err-place-clause-waits : goal.returns-in_err-place-clause-waits
returns-in_err-place-clause-waits c = λ used waits.
    absurd (none-some _ (sym c.in_err-place.was ∙ c.place.ensures.place ∙ cond-true _ _ _ used))

pub returns-in-Some-clause-shown : goal.returns-in-Some-clause-shown
returns-in-Some-clause-shown c =
    let used = sym c.place.ensures.place ∙ c.in_ok-place.was in
    sym (record_of-waiting c.args.self.now c.args.ino c.in_ok-place.place c.in-Some.inode used (sym c.waiting.ensures
    ∙ c.in-Some.is))

pub returns-in-Some-clause-waits : goal.returns-in-Some-clause-waits
returns-in-Some-clause-waits c = λ used waits. sym c.in-Some.is ∙ c.waiting.ensures

pub returns-clause-shown : goal.returns-clause-shown
returns-clause-shown c =
    let used = sym c.place.ensures.place ∙ c.in_ok-place.was in
    let none = sym c.waiting.ensures ∙ none_of c.waiting.result c.in_default.not-Some in
    c.inode_in.ensures.reading ∙ ap (λ b. fields_in (slot_of b c.in_ok-place.place.slot)) c.block.ensures.block
    ∙ sym (record_of-logged c.args.self.now c.args.ino c.in_ok-place.place used none)

pub returns-clause-waits : goal.returns-clause-waits
returns-clause-waits c = λ used waits.
    let none = sym c.waiting.ensures ∙ none_of c.waiting.result c.in_default.not-Some in
    absurd (false≢true (sym (ap is_some none) ∙ waits))
