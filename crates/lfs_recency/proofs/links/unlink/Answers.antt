use Rattle.std.proofs.Common.{◌≡◌, ◌<◌, List, length, subst}
use Rattle.std.proofs.Math.ListN.{set, length-set}
use Rattle.std.specs.Vec.{vec_ptr}
use Rattle.lfs_recency.specs.declared.frame.Frame.{Frame}
use Rattle.lfs_recency.specs.Places.{item_number}
use Rattle.lfs_recency.specs.Links.{frame_size, frame_at}
use Rattle.lfs_recency.proofs.Fields.{frame_is, unlinked_told}
use Rattle.lfs_recency.proofs.links.unlink.Goals as goal

pub returns-clause-items : goal.returns-clause-items
returns-clause-items c =
    let v = c.args.frames.now in let f = c.args.number in let x = c.index.result.now in let y = c.index-2.result.now in
    let z = c.item_at_mut.result.now in
    let long = v.ok.0 in
    let inside : f < length v.items = subst (λ k. f < k) long c.requires.in_range in
    let ex : x ≡ frame_at v.items f = frame_is v.items f x inside c.index.ensures in
    let ey : y ≡ frame_at v.items f = frame_is v.items f y inside c.index-2.ensures in
    let before : item_number frame_size (vec_ptr v) x.prev < length v.items =
    rw ex (subst (λ k. item_number frame_size (vec_ptr v) (frame_at v.items f).prev < k) long c.requires.prev.1) in
    let ez : z ≡ frame_at v.items (item_number frame_size (vec_ptr v) x.prev) =
    frame_is v.items (item_number frame_size (vec_ptr v) x.prev) z before c.item_at_mut.ensures.value in
    let fs1 : List Frame = set v.items (item_number frame_size (vec_ptr v) x.prev) (record z { next = y.next }) in
    let after : item_number frame_size (vec_ptr v) y.next < length fs1 =
    rw (ey, length-set) (subst (λ k. item_number frame_size (vec_ptr v) (frame_at v.items f).next < k) long
    c.requires.next.1) in
    unlinked_told frame_size (vec_ptr v) f v.items x y z c.item_at_mut-2.result.now ex ey ez
    (frame_is fs1 (item_number frame_size (vec_ptr v) y.next) c.item_at_mut-2.result.now after
    c.item_at_mut-2.ensures.value)
