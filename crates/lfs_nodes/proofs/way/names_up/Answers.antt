use Rattle.std.proofs.Common.{◌≡◌, ℕ, ◌+◌, ◌<◌, ◌++◌, ◌∷◌, [], length, Option, None, Some, Ok, refl, sym, ap, subst}
use Rattle.std.proofs.Common.{◌∙◌, arith}
use Rattle.lfs_types.specs.Paths.{slashed}
use Rattle.lfs_nodes.specs.Borrowed.{result_copied}
use Rattle.lfs_nodes.specs.Maps.{node_at}
use Rattle.lfs_nodes.specs.Places.{place_of}
use Rattle.lfs_nodes.specs.Reads.{hang_in}
use Rattle.lfs_nodes.specs.Ways.{LeadsUp, IsAbove}
use Rattle.lfs_nodes.proofs.WayLemmas.{leads_more, slashed_more}
use Rattle.lfs_nodes.proofs.way.names_up.Goals as goal

pub returns-then-taken-room : goal.returns-then-taken-room
returns-then-taken-room c =
    let H = λ (q : ℕ). hang_in (node_at c.args.table.now q) in
    let place = c.in-Some.place.now in
    let at : place_of (H c.loop-names.at) ≡ Some place =
    subst (λ o. IsAbove (H c.loop-names.at) (result_copied o)) (c.in_ok-place.was
    ∙ ap Ok c.in-Some.is) c.above.ensures in
    let more = slashed_more c.loop-names.names.items place.name in
    let taken = c.loop-names.invariant.taken in
    let over = c.if-taken-room.true in
    let bytes = ap length c.as_bytes.ensures.value in
    record {
      names = c.loop-names.names.items ++ place.name ∷ [];
      top = place.parent;
      up = leads_more H c.args.id c.loop-names.names.items c.loop-names.at place c.loop-names.invariant.up at;
      holding = omega (arith, more, taken, over, bytes);
    }

pub loop-names-preserved : goal.loop-names-preserved
loop-names-preserved c =
    let H = λ (q : ℕ). hang_in (node_at c.args.table.now q) in
    let place = c.in-Some.place.now in
    let at : place_of (H c.loop-names.at) ≡ Some place =
    subst (λ o. IsAbove (H c.loop-names.at) (result_copied o)) (c.in_ok-place.was
    ∙ ap Ok c.in-Some.is) c.above.ensures in
    let more = slashed_more c.loop-names.names.items place.name in
    let taken = c.loop-names.invariant.taken in
    let under = c.if-taken-room.false in
    let bytes = ap length c.as_bytes.ensures.value in
    let all : c.keep.new.names.items ≡ c.loop-names.names.items ++ place.name ∷ [] = c.in_ok-keep.ensures.kept
    ∙ ap (λ n. c.loop-names.names.items ++ n ∷ []) c.in_ok-name.ensures in
    let long = ap (λ ns. length (slashed ns)) all in
    record {
      up = subst (λ ns. LeadsUp H c.args.id ns place.parent) (sym all)
          (leads_more H c.args.id c.loop-names.names.items c.loop-names.at place c.loop-names.invariant.up at);
      taken = omega (arith, more, taken, under, bytes, long);
    }
