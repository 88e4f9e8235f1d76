use Rattle.std.proofs.Common.{refl, subst, sym}
use Rattle.lfs_parts.specs.declared.parts.Parts.{Parts}
use Rattle.lfs_parts.specs.Store.{IsFlushed}
use Rattle.lfs_rescue.specs.Placing.{IsFoundBy}
use Rattle.lfs_rescue.proofs.PlacingLemmas.{found_at, found_is}
use Rattle.lfs_rescue.proofs.telling.found.Goals as goal

pub keep-requires : goal.keep-requires
keep-requires g c =
    subst (λ (p : Parts). IsFlushed p) (sym c.requires.flushed) (record { no_record = refl; no_frame = refl })

pub returns-in-None-clause-told : goal.returns-in-None-clause-told
returns-in-None-clause-told g c =
    let options = c.args.options.now in
    subst (λ j. IsFoundBy g.F.File.Write.contents g.F.File.Read.remaining options.save j c.args.bytes.now 0
    c.in_ok-text.text.items) (sym c.in-None.is) (
      refl,
      found_is g.F.File.Write.contents g.F.File.Read.remaining options.save c.args.bytes.now
          c.in_ok-text.text.items c.args.store.now c.requires c.in_ok-text.ensures c.in_ok-keep.ensures.kept,
    )

pub returns-in_ok-with_place-in-Some-clause-told : goal.returns-in_ok-with_place-in-Some-clause-told
returns-in_ok-with_place-in-Some-clause-told g c =
    let options = c.args.options.now in
    let told = c.in_ok-with_place-in-Some.field-0 in
    subst (λ j. IsFoundBy g.F.File.Write.contents g.F.File.Read.remaining options.save j c.args.bytes.now told.status
    told.text.items) (sym c.in-Some.is)
    (found_at g.F.File.Write.contents g.F.File.Read.remaining options.save c.args.bytes.now c.in_ok-text.text.items
    c.args.store.now c.requires c.in_ok-text.ensures c.in_ok-keep.ensures.kept c.in_ok-place-in-Some.place told.status
    told.text.items c.in_ok-place-in-Some.ensures.placed c.in_ok-with_place-in-Some.ensures)
