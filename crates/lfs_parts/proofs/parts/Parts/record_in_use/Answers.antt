use Rattle.std.proofs.Common.{is_some, option_map, sym, ap, ◌∙◌}
use Rattle.std.proofs.lemmas.Bool.{cond-true, false≢true}
use Rattle.lfs_inodes.specs.Reading.{fields_of}
use Rattle.lfs_parts.proofs.FileLemmas.{given_record}
use Rattle.lfs_parts.proofs.SameLogLemmas.{used_low}
use Rattle.lfs_parts.proofs.ViewLemmas.{record_of-waiting}
use Rattle.lfs_parts.proofs.parts.Parts.record_in_use.Goals as goal

pub record-requires : goal.record-requires
record-requires c = record { in_range = used_low c.args.self.now c.args.ino c.requires.in_use }

pub unreachable-requires : goal.unreachable-requires
unreachable-requires c =
    let recorded = c.requires.files.recorded c.args.ino c.requires.in_use in
    false≢true (sym (ap is_some (sym c.record.ensures.shown ∙ ap (option_map fields_of) c.in-None.is)) ∙ recorded)

pub returns-clause-here : goal.returns-clause-here
returns-clause-here c = given_record c.args.self.now c.args.ino c.record.result c.in-Some-record.inode c.record.ensures.shown
    c.in-Some-record.is

pub returns-clause-waits : goal.returns-clause-waits
returns-clause-waits c = λ waits. sym (c.record.ensures.waits c.requires.in_use waits) ∙ c.in-Some-record.is

pub returns-in-Some : goal.returns-in-Some
returns-in-Some c =
    let waits = sym c.find.ensures ∙ c.in-Some.is in
    record {
      here = record_of-waiting c.args.self.now c.args.ino _ c.in-Some.inode (cond-true _ _ _ c.requires.in_use) waits;
      waits = λ some. waits;
    }
