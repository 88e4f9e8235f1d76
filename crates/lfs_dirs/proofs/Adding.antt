-- An entry written behind the others leaves a directory block with the entry last: `block_added` for `push_entry`, and
-- `zeros_at_tail` for `added`, which asks whether there is room. A block is its entries' bytes and zeros up to 512, so
-- the entry's bytes written at the end of the first replace as many zeros (`written`). `added` refuses by the bytes at
-- the end alone, which is right as an entry that fits leaves as many zeros there (`zeros_at_tail`); blocks that kept
-- old bytes behind their entries would make it refuse too much.
use Rattle.std.proofs.Common.{◌≡◌, ℕ, ◌+◌, ◌-◌, ◌≤◌, List, [], ◌∷◌, ◌++◌, length, take, drop, replicate, None, refl}
use Rattle.std.proofs.Common.{sym, ap, ◌∙◌, subst, arith, length-append, append_assoc}
use Rattle.std.specs.Prelude.{All}
use Rattle.std.proofs.Math.Seq.{drop-append-add}
use Rattle.std.proofs.lemmas.Grind.{flat_map-append}
use Rattle.std.proofs.lemmas.List.{append-nil, take_at, drop_at, take_all, drop_all, drop-replicate, length-replicate}
use Rattle.std.proofs.lemmas.List.Elements.{All-drop, All-replicate, All-same}
use Rattle.lfs_dirs.specs.Directory.{Entry, entry_bytes, used_of, number_in, IsEntry, Spells, IsDirectoryBlock}
use Rattle.lfs_dirs.proofs.Laws.{bytes_of, length-bytes_of, Spells-bytes, Spells-from_bytes, zeros_left, used_of-append}
use Rattle.lfs_dirs.proofs.Changes.{AreEntries-added}
use borrow.Rule.Slice.PartMut.{put_mid, mid_of, post_of}

-- the bytes of the block, once the bytes of the entry stand at the front of the zeros
written : (block front : List ℕ) (n end : ℕ) (e : Entry) (out : List ℕ)
    → block ≡ front ++ replicate n 0 → length front ≡ end → end + n ≡ 512 → 5 + length e.1 ≤ n
    → out ≡ entry_bytes e ++ drop (5 + length e.1) (mid_of end (512 - end) block)
    → put_mid end (512 - end) block out ≡ (front ++ entry_bytes e) ++ replicate (n - (5 + length e.1)) 0
written block front n end e out is_block at_end whole room is_out =
    let zeros : List ℕ = replicate n 0 in
    let size : 512 - end ≡ n = omega arith in
    let before : take end block ≡ front = ap (take end) is_block ∙ take_at front zeros end at_end in
    let behind : drop end block ≡ zeros = ap (drop end) is_block ∙ drop_at front zeros end at_end in
    let all : length zeros ≡ n = length-replicate n 0 in
    let mid : mid_of end (512 - end) block ≡ zeros =
    ap (λ xs. take (512 - end) xs) behind ∙ take_all (512 - end) zeros (omega arith) in
    let post : post_of end (512 - end) block ≡ [] =
    ap (λ xs. drop (512 - end) xs) behind ∙ drop_all (512 - end) zeros (omega arith) in
    let parts : out ≡ entry_bytes e ++ replicate (n - (5 + length e.1)) 0 =
    is_out ∙ ap (λ xs. entry_bytes e ++ drop (5 + length e.1) xs) mid
    ∙ ap (λ xs. entry_bytes e ++ xs) (drop-replicate (5 + length e.1) n 0) in
    ap (λ xs. xs ++ (out ++ post_of end (512 - end) block)) before
    ∙ ap (λ xs. front ++ (out ++ xs)) post
    ∙ ap (λ xs. front ++ xs) (append-nil out)
    ∙ ap (λ xs. front ++ xs) parts
    ∙ sym (append_assoc front (entry_bytes e) (replicate (n - (5 + length e.1)) 0))

pub bytes_of-added : (es : List Entry) (e : Entry) → bytes_of es ++ entry_bytes e ≡ bytes_of (es ++ e ∷ [])
bytes_of-added es e =
    ap (λ xs. bytes_of es ++ xs) (sym (append-nil (entry_bytes e))) ∙ sym (flat_map-append entry_bytes es (e ∷ []))

-- where an entry of so many bytes fits, as many bytes at the end are zeros
pub zeros_at_tail : (block : List ℕ) (es : List Entry) (size : ℕ) → IsDirectoryBlock block es → used_of es + size ≤ 512
    → All (λ b. b ≡ 0) (drop (512 - size) block)
zeros_at_tail block es size h room =
    let spelled = Spells-bytes block es h.spelled in
    let n = spelled.0 in
    let left = 512 - size - used_of es in
    let start : 512 - size ≡ length (bytes_of es) + left = omega (arith, length-bytes_of es) in
    let tail : drop (512 - size) block ≡ drop left (replicate n 0) =
    ap (drop (512 - size)) spelled.1
    ∙ ap (λ k. drop k (bytes_of es ++ replicate n 0)) start
    ∙ drop-append-add (bytes_of es) (replicate n 0) left in
    All-same (λ b. b ≡ 0) _ _ tail (All-drop (λ b. b ≡ 0) left (replicate n 0)
    (All-replicate (λ b. b ≡ 0) n 0 (refl {a = 0})))

-- what `push_entry` leaves is a directory block with the entry last
pub block_added : (block : List ℕ) (es : List Entry) (e : Entry) (end : ℕ) (out : List ℕ)
    → IsDirectoryBlock block es → end ≡ used_of es → end + 5 + length e.1 ≤ 512 → IsEntry e → number_in e.1 es ≡ None
    → out ≡ entry_bytes e ++ drop (5 + length e.1) (mid_of end (512 - end) block)
    → IsDirectoryBlock (put_mid end (512 - end) block out) (es ++ e ∷ [])
block_added block es e end out h at_end room entry absent is_out =
    let spelled = Spells-bytes block es h.spelled in
    let left = zeros_left block es h in
    let n = spelled.0 in
    let now = put_mid end (512 - end) block out in
    let rest = n - (5 + length e.1) in
    let bytes : now ≡ bytes_of (es ++ e ∷ []) ++ replicate rest 0 =
    written block (bytes_of es) n end e out spelled.1 (length-bytes_of es ∙ sym at_end) (omega arith)
    (omega arith) is_out
    ∙ ap (λ front. front ++ replicate rest 0) (bytes_of-added es e) in
    let P : List ℕ → Type 0 = λ xs. Spells xs (es ++ e ∷ []) in
    record {
      size = ap length bytes ∙ omega (
        arith,
        length-append (bytes_of (es ++ e ∷ [])) (replicate rest 0),
        length-bytes_of (es ++ e ∷ []),
        used_of-append es (e ∷ []),
        length-replicate {A = ℕ} rest 0,
      );
      entries = AreEntries-added es e h.entries entry absent;
      spelled = subst P (sym bytes) (Spells-from_bytes rest (es ++ e ∷ []));
    }
