use Rattle.std.proofs.Common.{sym, inl, inr, arith}
use Rattle.std.proofs.lemmas.Bool.{cases_lt, leb-true, le-leb}
use Rattle.lfs_fsck.proofs.ReaderLemmas.{nothing, something}
use Rattle.lfs_fsck.proofs.reader.Reader.is_ready.Goals as goal

pub returns-then-not-self : goal.returns-then-not-self
returns-then-not-self c =
    let r = c.self.inside in
    let held = c.self.invariant in (
      λ t. sym (nothing r.entries r.next r.count r.is_ended c.args.self.now c.self.view_is (cc)
          (leb-true r.count r.next t)),
      λ e. elim (cases_lt r.next r.count) [
        | inl below ↦ absurd (something r.entries r.next r.count r.is_ended c.args.self.now c.self.view_is (cc) below
            (omega arith) e)
        | inr past ↦ le-leb r.count r.next past
      ],
    )
