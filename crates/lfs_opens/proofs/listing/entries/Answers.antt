use Rattle.std.proofs.Common.{◌≡◌, ◌∙◌, ◌+◌, ◌++◌, ◌∷◌, [], ap, length, sym, arith}
use Rattle.std.specs.Prelude.{drop, replicate}
use Rattle.lfs_fuse_reply.specs.Listings.{dirent_type, missing}
use Rattle.lfs_fuse_reply.specs.Numbers.{longs, words}
use Rattle.lfs_opens.specs.Listing.{all_names, listed_on}
use Rattle.lfs_opens.proofs.ListingLemmas.{listed_end, listed_start, told_full, told_more}
use Rattle.lfs_opens.proofs.listing.entries.Goals as goal

pub loop-place-init : goal.loop-place-init
loop-place-init c =
    let many = rw c.in_ok-end.ensures.ok_part at c.checked_add.ensures in
    let size : c.in_ok-end.end ≡ length c.args.names.now + 2 = omega (arith, many.1, ap length c.as_slice.ensures) in
    let start = c.min-start.result in
    record {
      told = ap (λ l. listed_on c.args.most start (drop start (all_names c.args.names.now)) l) c.new-listing.ensures.items
          ∙ listed_start c.args.most start c.args.offset c.in_ok-end.end c.args.names.now size c.min-start.ensures;
    }

pub loop-place-preserved : goal.loop-place-preserved
loop-place-preserved c =
    let place = c.loop-place.place in
    let name = c.in-Some.name.now in
    let kind = ap (λ k. longs (0xFFFF_FFFF ∷ (place + 1) ∷ []) ++ words (length name ∷ dirent_type k ∷ []) ++ name
    ++ replicate (missing (length name)) 0) c.kind_at.ensures in
    record {
      told = told_more c.args.most place (all_names c.args.names.now) name c.loop-place.listing.items
          (sym c.in-Some.ensures.name) _ _ _ kind c.in_ok-append.ensures.entry c.loop-place.invariant.told
          (sym c.in_ok-append.ensures.fits ∙ c.if-not-branch.false);
    }

pub returns-then-not-branch : goal.returns-then-not-branch
returns-then-not-branch c =
    let place = c.loop-place.place in
    let name = c.in-Some.name.now in
    let kind = ap (λ k. longs (0xFFFF_FFFF ∷ (place + 1) ∷ []) ++ words (length name ∷ dirent_type k ∷ []) ++ name
    ++ replicate (missing (length name)) 0) c.kind_at.ensures in
    told_full c.args.most place (all_names c.args.names.now) name c.loop-place.listing.items
    (sym c.in-Some.ensures.name) _ _ _ kind c.in_ok-append.ensures.entry c.loop-place.invariant.told
    (sym c.in_ok-append.ensures.fits ∙ c.if-not-branch.true)

pub returns : goal.returns
returns c =
    let many = rw c.in_ok-end.ensures.ok_part at c.checked_add.ensures in
    let size : c.in_ok-end.end ≡ length c.args.names.now + 2 = omega (arith, many.1, ap length c.as_slice.ensures) in
    sym (listed_end c.args.most c.loop-place.place c.in_ok-end.end c.args.names.now c.loop-place.listing.items size
    c.loop-place-test.false)
    ∙ c.loop-place.invariant.told
