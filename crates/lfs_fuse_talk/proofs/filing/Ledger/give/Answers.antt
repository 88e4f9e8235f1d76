use Rattle.std.proofs.Common.{rules, tests, ◌≡◌, length, inl, inr, refl, sym, ap, ◌∙◌}
use Rattle.std.proofs.lemmas.List.{nil_from_length}
use Rattle.lfs_mount.specs.Tending.{closed}
use Rattle.lfs_fuse_talk.proofs.filing.Ledger.give.Goals as goal

pub returns-then-is_empty-clause-taken : goal.returns-then-is_empty-clause-taken
returns-then-is_empty-clause-taken g c =
    let empty : length c.journal.result.now ≡ 0 = search (rules, tests) in
    λ _. inl (record {
      same = refl;
      volume = refl;
      none = λ _ _. sym c.journal.ensures.entries ∙ nil_from_length c.journal.result.now empty;
    })

pub returns-in-Ok-clause-taken : goal.returns-in-Ok-clause-taken
returns-in-Ok-clause-taken g c =
    λ _. inr (record {
      first = _;
      then = c.pass_on-passed.new.sink;
      was = c.in-File.is;
      is = refl;
      taken = c.in-Ok.ensures.taken;
      volume = c.in-Ok.ensures.let_go;
    })

pub returns-in-Err-clause-lost : goal.returns-in-Err-clause-lost
returns-in-Err-clause-lost g c = λ _. record {
  first = _;
  was = c.in-File.is;
  is = search rules;
  volume = c.close_journal.ensures.closed ∙ ap closed c.in-Err.ensures.failed;
}
