use Rattle.std.proofs.Common.{◌≡◌, ◌<◌, List, length, refl, subst, lit<, rules}
use Rattle.std.proofs.Math.ListN.{set, length-set}
use Rattle.std.specs.Vec.{vec_ptr}
use Rattle.lfs_recency.specs.declared.frame.Frame.{Frame}
use Rattle.lfs_recency.specs.Places.{item_place, item_number}
use Rattle.lfs_recency.specs.Links.{frame_size, frame_at}
use Rattle.lfs_recency.proofs.Fields.{frame_is, number-place, linked_told}
use Rattle.lfs_recency.proofs.links.link_front.Goals as goal

pub returns-clause-items : goal.returns-clause-items
returns-clause-items c =
    let v = c.as_mut_ptr-start.new.self in let head = c.args.head in let f = c.args.number in let x =
    c.index.result.now in let y = c.index_mut-frame.result.now in
    let this = c.offset-this.result in let before = c.offset-before.result in let base = vec_ptr v in
    let next = rw (← c.as_mut_ptr-start.ensures.unchanged) at c.requires.next in
    let in_range = rw (← c.as_mut_ptr-start.ensures.unchanged) at c.requires.in_range in
    let head_in = rw (← c.as_mut_ptr-start.ensures.unchanged) at c.requires.head in
    let inside : f < length v.items = subst (λ k. f < k) v.ok.0 in_range in
    let head_inside : head < length v.items = subst (λ k. head < k) v.ok.0 head_in in
    let et : this ≡ item_place frame_size base f = search rules in
    let eb : before ≡ item_place frame_size base head = search rules in
    let eh : item_number frame_size base before
    ≡ head = rw eb (number-place frame_size base head (lit< tt) c.item_at_mut.ensures.in_block) in
    let ex : x ≡ frame_at v.items head = frame_is v.items head x head_inside c.index.ensures in
    let ey : y ≡ frame_at v.items f = frame_is v.items f y inside c.index_mut-frame.ensures.value in
    let after : item_number frame_size base x.next < length v.items =
    rw ex (subst (λ k. item_number frame_size base (frame_at v.items head).next < k) v.ok.0 next.1) in
    let fs1 : List Frame = set v.items f (record y { prev = before; next = x.next; queue = c.args.queue }) in
    let z = c.item_at_mut.result.now in let w = c.item_at_mut-2.result.now in
    let after1 : item_number frame_size base x.next < length fs1 = rw length-set after in
    let fs2 : List Frame = set fs1 (item_number frame_size base x.next) (record z { prev = this }) in
    let before2 : item_number frame_size base before < length fs2 = rw (eh, length-set, length-set) head_inside in
    rw (← c.as_mut_ptr-start.ensures.unchanged)
    (linked_told frame_size base head f c.args.queue v.items this before x y z w fs1 fs2 et eb eh ex ey refl
    (frame_is fs1 (item_number frame_size base x.next) z after1 c.item_at_mut.ensures.value) refl
    (frame_is fs2 (item_number frame_size base before) w before2 c.item_at_mut-2.ensures.value))
