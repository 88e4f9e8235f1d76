use Rattle.std.proofs.Common.{◌≡◌, ◌++◌, ℕ, append-nil, sym, subst, arith}
use Rattle.lfs_recovery.specs.Noted.{IsTable, places_in}
use Rattle.lfs_recovery.proofs.NewestLemmas.{places-next}
use Rattle.lfs_recovery.proofs.newest.note_block.Goals as goal

pub loop-index-init : goal.loop-index-init
unfolding places_in
loop-index-init c = record {
  long = c.requires;
  noted = λ places is. subst (IsTable c.args.table.now.items) (sym (append-nil places)) is;
}

pub loop-index-preserved : goal.loop-index-preserved
loop-index-preserved c =
    let l = c.loop-index in
    record {
      long = c.note.ensures.long;
      noted = λ places is. subst (IsTable c.note.new.table.items)
          (places-next c.args.serial c.args.address c.args.block.now l.index places _ c.place_in.ensures.place)
          (c.note.ensures.noted _ (l.invariant.noted places is));
    }

pub returns-clause-noted : goal.returns-clause-noted
returns-clause-noted c = λ places is.
    let l = c.loop-index in
    let all : l.index ≡ 4 = omega arith in
    subst (λ (n : ℕ). IsTable l.table.items (places ++ places_in c.args.serial c.args.address c.args.block.now n)) all
    (l.invariant.noted places is)
