use Rattle.std.proofs.Common.{List, ℕ, ap, arith, length, refl, subst, ◌∙◌}
use Rattle.std.specs.Prelude.{filter}
use Rattle.std.proofs.lemmas.List.{take_all}
use Rattle.lfs_volume.specs.Cleanings.{cleaner_of}
use Rattle.lfs_browse.specs.Listing.{has_path}
use Rattle.lfs_browse.specs.Steps.{TellsRows}
use Rattle.lfs_browse.proofs.ListingLemmas.{count_more, rows_more, rows_none}
use Rattle.lfs_browse.proofs.listing.tell_rows.Goals as goal

pub loop-name-init : goal.loop-name-init
loop-name-init g c = record {
  told = rows_none (cleaner_of g.F.FileStore.state g.F.FileStore.is_flushed g.F.FileStore.made g.F.CleanedStore.cleaner)
      c.args.volume.now c.args.asker.now c.args.directory.now c.args.text.now.items;
  counted = refl;
  few = omega arith;
}

pub loop-name-preserved : goal.loop-name-preserved
loop-name-preserved g c =
    let told = c.in_ok-rows.ensures in
    record {
      told = rows_more (cleaner_of g.F.FileStore.state g.F.FileStore.is_flushed g.F.FileStore.made g.F.CleanedStore.cleaner)
          c.args.volume.now c.loop-name.volume c.tell_row.new.volume c.args.asker.now c.args.directory.now
          c.args.names.now c.loop-name.name-index c.name-item.result c.args.text.now.items c.loop-name.text.items
          c.tell_row.new.text.items c.loop-name-test.true c.name-item.is c.loop-name.invariant.told told.told;
      counted = count_more (has_path c.args.directory.now) c.args.names.now c.loop-name.name-index c.name-item.result
          c.loop-name.rows _ c.loop-name-test.true c.name-item.is c.loop-name.invariant.counted told.counted;
      few = let one = told.few in let some = c.loop-name.invariant.few in omega (arith, one, some);
    }

pub returns-clause-told : goal.returns-clause-told
returns-clause-told g c =
    subst (λ (l : List (List ℕ)). TellsRows
    (cleaner_of g.F.FileStore.state g.F.FileStore.is_flushed g.F.FileStore.made g.F.CleanedStore.cleaner)
    c.args.volume.now c.loop-name.volume c.args.asker.now c.args.directory.now l c.args.text.now.items
    c.loop-name.text.items) (take_all c.loop-name.name-index c.args.names.now c.loop-name-test.false)
    c.loop-name.invariant.told

pub returns-clause-counted : goal.returns-clause-counted
returns-clause-counted g c = c.loop-name.invariant.counted
    ∙ ap (λ (l : List (List ℕ)). length (filter (has_path c.args.directory.now) l))
    (take_all c.loop-name.name-index c.args.names.now c.loop-name-test.false)
