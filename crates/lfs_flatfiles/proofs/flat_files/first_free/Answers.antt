use Rattle.std.proofs.Common.{sym, ap, ◌∙◌, inl, inr, arith}
use Rattle.std.specs.Prelude.{is_some}
use Rattle.std.proofs.lemmas.Bool.{cases_eq}
use Rattle.lfs_flatfiles.proofs.FlatFilesContent.{file_in_read}
use Rattle.lfs_flatfiles.proofs.flat_files.first_free.Goals as goal

pub loop-ino-preserved : goal.loop-ino-preserved
loop-ino-preserved c =
    let here = file_in_read c.args.places.now c.loop-ino.ino c.index-places-ino.result c.loop-ino-test.true
    c.index-places-ino.is in
    record {
      from_start = omega arith;
      within = omega arith;
      used = λ k low high. elim (cases_eq k c.loop-ino.ino) [
        | inl e ↦ rw e (ap is_some here ∙ sym c.is_used.ensures ∙ c.if-is_used.true)
        | inr apart ↦ c.loop-ino.invariant.used k low (omega arith)
      ];
    }

pub returns-else-is_used-clause-free : goal.returns-else-is_used-clause-free
returns-else-is_used-clause-free c = λ h.
    ap is_some (file_in_read c.args.places.now c.loop-ino.ino c.index-places-ino.result c.loop-ino-test.true
    c.index-places-ino.is) ∙ sym c.is_used.ensures ∙ c.if-is_used.false
