use Rattle.std.proofs.Common.{◌≡◌, min, sym, ap, subst, ◌∙◌, lit<, arith}
use Rattle.std.specs.Vec.{vec_ptr, vec_len}
use denote.RawPtr.{◌+ₚ◌, InBlock}
use Rattle.lfs_recency.specs.Places.{item_place, IsItemPlace}
use Rattle.lfs_recency.specs.Links.{frame_size}
use Rattle.lfs_recency.proofs.Lone.{AreLone, place_behind, place_next, lone_more}
use Rattle.lfs_recency.proofs.links.lone_frames.Goals as goal
use Rattle.lfs_recency.proofs.links.lone_frames.Goals.{then-place-count, else-place-count}

pub item_at_mut-frame-requires : goal.item_at_mut-frame-requires
item_at_mut-frame-requires c =
    let v = c.loop-place.frames in let v1 = c.push_reserved.new.self in let i = c.loop-place.place in
    let stays = sym c.push_reserved.ensures.in_place in
    let here : c.loop-place.this ≡ item_place frame_size (vec_ptr v1) i = c.loop-place.invariant.here
    ∙ ap (λ b. item_place frame_size b i) stays in
    let long : vec_len v ≡ i = v.ok.0 ∙ c.loop-place.invariant.lone.long in
    subst (IsItemPlace frame_size (vec_ptr v1) (vec_len v1)) (sym here)
    (place_behind frame_size (vec_ptr v1) (vec_len v1) i (lit< tt)
    (λ some. subst InBlock stays (c.loop-place.invariant.inside some))
    (omega (arith, c.push_reserved.ensures.len, long)))

pub loop-place-preserved : goal.loop-place-preserved
loop-place-preserved c =
    let v = c.loop-place.frames in let v1 = c.push_reserved.new.self in let n = c.args.count in let i =
    c.loop-place.place in
    let stays = sym c.push_reserved.ensures.in_place in
    let here : c.loop-place.this ≡ item_place frame_size (vec_ptr v1) i = c.loop-place.invariant.here
    ∙ ap (λ b. item_place frame_size b i) stays in
    let number : c.if-place-count.number ≡ min i n =
    elim c.if-place-count.branch as (λ _. c.if-place-count.number ≡ min i n) [
      | then-place-count w ↦ let low = w.if-place-count.true in let is : i ≡ min i n = omega (arith, low) in w.number-is
          ∙ is
      | else-place-count w ↦ let high = w.if-place-count.false in let is : n
          ≡ min i n = omega (arith, high) in w.number-is ∙ is
    ] in
    record {
      room = omega (arith, c.loop-place.invariant.room, c.push_reserved.ensures.capacity);
      here = c.offset-this.ensures.value ∙ (ap (λ p. p +ₚ frame_size) here ∙ place_next frame_size (vec_ptr v1) i);
      inside = λ _. c.item_at_mut-frame.ensures.in_block;
      lone = lone_more frame_size (vec_ptr v1) n i v.items (lit< tt) c.item_at_mut-frame.ensures.in_block
          (subst (λ b. AreLone frame_size b n i v.items) stays c.loop-place.invariant.lone)
          v1.items _ c.item_at_mut-frame.result.now c.loop-place.this c.push_reserved.ensures.items
          c.item_at_mut-frame.ensures.value here number;
    }
