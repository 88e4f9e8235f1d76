use Rattle.std.proofs.Common.{◌≡◌, length, sym, subst, ◌∙◌, arith}
use Rattle.std.proofs.lemmas.Bool.{false≢true}
use Rattle.lfs_segments.specs.Memory.{IsLaidOut, IsVolume, seen_with}
use Rattle.lfs_segments.proofs.segments.Segments.over_as.Goals as goal

pub invariant_of-result : goal.invariant_of-result
invariant_of-result c =
    let count : c.len.result ≡ length c.args.blocks.items = c.len.ensures ∙ c.args.blocks.ok.0 in
    let volume = subst (λ n. IsVolume n c.args.active c.args.fill) count (c.is_volume.ensures.0 c.if-is_volume.true) in
    let laid : IsLaidOut (seen_with c.args.serial c.args.blocks.items c.args.active c.args.fill) = record {
      at_least = volume.at_least;
      at_most = volume.at_most;
      whole = omega (arith, volume.whole);
      each = c.requires.blocks;
      active = volume.active_inside;
      begun = volume.begun;
      within = volume.within;
      told = c.requires.told;
    } in
    rw c.of.ensures laid

pub returns-else-is_volume-clause-none : goal.returns-else-is_volume-clause-none
returns-else-is_volume-clause-none c = λ laid.
    let count : c.len.result ≡ length c.args.blocks.items = c.len.ensures ∙ c.args.blocks.ok.0 in
    let volume : IsVolume (length c.args.blocks.items) c.args.active c.args.fill = record {
      whole = omega (arith, laid.whole);
      at_least = laid.at_least;
      at_most = laid.at_most;
      active_inside = laid.active;
      begun = laid.begun;
      within = laid.within;
    } in
    false≢true (sym c.if-is_volume.false ∙ c.is_volume.ensures.1
    (subst (λ n. IsVolume n c.args.active c.args.fill) (sym count) volume))
