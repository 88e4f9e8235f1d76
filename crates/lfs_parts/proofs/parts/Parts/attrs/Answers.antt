use Rattle.std.proofs.Common.{Some, option_map, sym, ap, ◌∙◌, arith}
use Rattle.lfs_inodes.specs.Reading.{fields_of}
use Rattle.lfs_parts.proofs.FileLemmas.{given_record, record_of-past, shown-none, shown-record}
use Rattle.lfs_parts.proofs.parts.Parts.attrs.Goals as goal

pub returns-then-ino-inodes : goal.returns-then-ino-inodes
returns-then-ino-inodes c =
    sym (shown-none c.args.self.now c.args.ino (record_of-past c.args.self.now c.args.ino (omega arith)))

pub returns-in_err-record : goal.returns-in_err-record
returns-in_err-record c =
    let none = sym c.record.ensures.shown ∙ ap (λ o. option_map fields_of o) c.in_err-record.was in
    c.from_residual.ensures ∙ sym (shown-none c.args.self.now c.args.ino none)

pub returns : goal.returns
returns c =
    let p = c.args.self.now in
    let v = c.in_ok-record.field-0 in
    let has = given_record p c.args.ino c.record.result v c.record.ensures.shown c.in_ok-record.was in
    ap Some c.attrs.ensures ∙ sym (shown-record p c.args.ino (fields_of v) has
    (c.requires.whole.files c.args.ino (fields_of v) has))

pub record-requires : goal.record-requires
record-requires c = omega arith
