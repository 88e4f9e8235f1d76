use Rattle.std.proofs.Common.{◌≡◌, ◌-◌, ◌+◌, ◌≤◌, drop, get_or, length, take, sym, ap, ◌∙◌, arith}
use Rattle.std.proofs.lemmas.List.{get_or-drop, get_or-take, length-drop, length-take-le, same_lists}
use Rattle.lfs_parts.proofs.oldest.oldest_of.Goals as goal

pub returns : goal.returns
returns c =
    let xs = c.args.waiting.now.items in
    let records = c.loop-place.records in
    let count = c.min-count.result in
    let first = c.len-2.result - count in
    let long = c.args.waiting.now.ok.0 in
    let least : (count ≤ 4) × (length xs - 4 ≡ first) =
    (omega (arith, c.min-count.ensures), omega (arith, c.min-count.ensures)) in
    let whole = c.loop-place.invariant.long in
    let test = c.loop-place-test.false in
    let taken : length (take count records) ≡ count = length-take-le count records (omega (arith, least.0)) in
    let left = length-drop (length xs - 4) xs in
    same_lists (take count records) (drop (length xs - 4) xs) (omega (arith, least.1, c.min-count.ensures)) (λ k d low.
    get_or-take count records k d (omega arith) ∙ c.loop-place.invariant.copied k d (omega arith)
    ∙ ap (λ n. get_or xs (n + k) d) (sym least.1) ∙ sym (get_or-drop (length xs - 4) xs k d))
