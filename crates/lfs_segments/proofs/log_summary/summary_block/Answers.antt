use Rattle.std.proofs.Common.{ℕ, Some, ap, sym, ◌∙◌}
use Rattle.std.proofs.lemmas.Option.{none-some, same_Some}
use Rattle.lfs_segments.specs.Reading.{named_by}
use Rattle.lfs_segments.proofs.SerialLemmas.{spelled_with, spelled_without}
use Rattle.lfs_segments.proofs.log_summary.summary_block.Goals as goal

pub returns-in-Some-clause-spelled : goal.returns-in-Some-clause-spelled
returns-in-Some-clause-spelled c = spelled_with c.args.serial c.encode.result _ c.in-Some.is c.encode.ensures.spelled

pub returns-in-None-clause-spelled : goal.returns-in-None-clause-spelled
returns-in-None-clause-spelled c =
    spelled_without c.args.serial c.encode-in-None.result c.args.summary.now c.in-None.is
    c.encode-in-None.ensures.spelled

pub returns-in-Some-clause-told : goal.returns-in-Some-clause-told
returns-in-Some-clause-told c = λ known is.
    let same = same_Some c.in-Some.serial known (sym c.in-Some.is ∙ is) in
    c.encode.ensures.told ∙ ap (λ (n : ℕ). Some (record {
      serial = n;
      segment = c.args.summary.now.segment;
      offset = c.args.summary.now.offset;
      entries = named_by c.args.summary.now;
    })) same

pub returns-in-None-clause-told : goal.returns-in-None-clause-told
returns-in-None-clause-told c = λ known is. absurd (none-some known (sym c.in-None.is ∙ is))
