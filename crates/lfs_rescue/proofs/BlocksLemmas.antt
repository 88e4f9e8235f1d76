-- Bytes that are whole segments are a memory's blocks (`whole_blocks`); no other memory has other blocks
-- (`same_blocks`). So what is found in the memory of bytes is found in the bytes (`finds_all_in`), and found again there
-- (`findable_in`), and what is found in none of them in no bytes (`none_of`, `none_long`).
use Rattle.std.proofs.Common.{◌≡◌, ◌≤◌, ℕ, suc, ◌+◌, ◌*◌, ◌++◌, ◌∷◌, ◌∙◌, List, [], All, drop, get_or, length, take, refl, sym}
use Rattle.std.proofs.Common.{ap, append-nil, length-append, arith}
use Rattle.std.specs.List.{flat_map}
use Rattle.std.proofs.Math.Seq.{drop-append_seam, take-append_seam}
use Rattle.std.proofs.lemmas.List.{drop_all}
use Rattle.lfs_segments.specs.Memory.{SegmentMemory, block_at}
use Rattle.lfs_recovery.specs.declared.places.PartialSegment.{PartialSegment}
use Rattle.lfs_recovery.specs.Logs.{IsLogged, log_place}
use Rattle.lfs_parts.specs.declared.parts.Parts.{Parts}
use Rattle.lfs_durable.proofs.ChainLemmas.{chain_logged, chain_same}
use Rattle.lfs_durable.proofs.CrashLemmas.{crash_same, crash_spares}
use Rattle.lfs_rescue.specs.declared.fault.RecoverFault.TheVariants.{Length}
use Rattle.lfs_rescue.specs.Blocks.{FindsAllIn, IsBlocksFaultOf, IsFindableIn, IsLeftOfNoneIn, IsMemoryOf}
use Rattle.lfs_rescue.specs.Contents.{EndsInOrder, FindsAllOf, IsFindableAgain, IsLeftOfNone}

pub whole_blocks : (bytes : List ℕ) (blocks : List (List ℕ)) (count : ℕ) → length bytes ≤ 512 * count
    → flat_map (λ block. block) blocks ++ drop (512 * count) bytes ≡ bytes → flat_map (λ block. block) blocks ≡ bytes
whole_blocks bytes blocks count few is =
    sym (append-nil (flat_map (λ block. block) blocks))
    ∙ ap (λ (rest : List ℕ). flat_map (λ block. block) blocks ++ rest) (sym (drop_all (512 * count) bytes few))
    ∙ is

-- ---- the blocks of bytes
front : (x y p q : List ℕ) → length x ≡ length y → x ++ p ≡ y ++ q → x ≡ y
front x y p q long e =
    sym (take-append_seam x p) ∙ ap (λ bs. take (length x) bs) e ∙ ap (λ n. take n (y ++ q)) long ∙ take-append_seam y q

back : (x y p q : List ℕ) → length x ≡ length y → x ++ p ≡ y ++ q → p ≡ q
back x y p q long e =
    sym (drop-append_seam x p) ∙ ap (λ bs. drop (length x) bs) e ∙ ap (λ n. drop n (y ++ q)) long ∙ drop-append_seam y q

abbrev AreBlocks : List (List ℕ) → Type 0
AreBlocks blocks = All (λ block. length block ≡ 512) blocks

rest_of : (x : List ℕ) (xs : List (List ℕ)) → AreBlocks (x ∷ xs) → AreBlocks xs
rest_of x xs are = λ k d low. are (suc k) d (omega arith)

same_blocks : (xs ys : List (List ℕ)) → AreBlocks xs → AreBlocks ys
    → flat_map (λ block. block) xs ≡ flat_map (λ block. block) ys → xs ≡ ys
same_blocks [] [] a b e = refl
same_blocks [] (y ∷ ys) a b e =
    let some = b 0 [] (omega arith) in
    let long : length (y ++ flat_map (λ block. block) ys) ≡ 0 = ap length (sym e) in
    let sum = length-append y (flat_map (λ block. block) ys) in absurd (omega arith)
same_blocks (x ∷ xs) [] a b e =
    let some = a 0 [] (omega arith) in
    let long : length (x ++ flat_map (λ block. block) xs) ≡ 0 = ap length e in
    let sum = length-append x (flat_map (λ block. block) xs) in absurd (omega arith)
same_blocks (x ∷ xs) (y ∷ ys) a b e =
    let sizes : length x ≡ length y = a 0 [] (omega arith) ∙ sym (b 0 [] (omega arith)) in
    let here : x ≡ y = front x y _ _ sizes e in
    let there : xs ≡ ys = same_blocks xs ys (rest_of x xs a) (rest_of y ys b) (back x y _ _ sizes e) in
    λ i. here i ∷ there i

pub finds_all_in : (bytes : List ℕ) (m : SegmentMemory) (q : Parts) → IsMemoryOf bytes m → FindsAllOf m q
    → FindsAllIn bytes q
finds_all_in bytes m q is finds = λ p n d shown other crash.
    let same : m.blocks ≡ n.blocks = same_blocks m.blocks n.blocks is.each other.each (is.spelled ∙ sym other.spelled) in
    let long = ap (λ (bs : List (List ℕ)). length bs) same in
    let whole = is.whole in
    let whole_too = other.whole in
    finds p d shown (crash_spares p m d (crash_same p n m same (omega arith) crash))

-- the blocks alone tell the order
logged_same : (m n : SegmentMemory) (p : PartialSegment) → m.blocks ≡ n.blocks → m.segments ≡ n.segments → IsLogged m p
    → IsLogged n p
logged_same m n p same size l =
    let below = l.below in
    let at_block : (x : ℕ) → block_at n x ≡ block_at m x =
    λ x. ap (λ (bs : List (List ℕ)). get_or bs x []) (sym same) in
    chain_logged n l.segment l.log p (omega arith)
    (chain_same m n l.segment (log_place l.segment) 0 l.log
    (λ q there. (at_block q.address, at_block (q.address + q.count))) l.is.chain) l.there

same_order : (m n : SegmentMemory) → m.blocks ≡ n.blocks → m.segments ≡ n.segments → EndsInOrder n → EndsInOrder m
same_order m n same size order = λ last p q there latest first second other at.
    order last p q (logged_same m n last same size there)
    (λ s l. latest s (logged_same n m s (sym same) (sym size) l)) (logged_same m n p same size first)
    (logged_same m n q same size second) other at

pub findable_in : (bytes : List ℕ) (m : SegmentMemory) (q : Parts) → IsMemoryOf bytes m → IsFindableAgain m q
    → IsFindableIn bytes q
findable_in bytes m q is finds = λ p n d shown other crash order.
    let same : m.blocks ≡ n.blocks = same_blocks m.blocks n.blocks is.each other.each (is.spelled ∙ sym other.spelled) in
    let long = ap (λ (bs : List (List ℕ)). length bs) same in
    let whole = is.whole in
    let whole_too = other.whole in
    let size : m.segments ≡ n.segments = omega arith in
    finds p d shown (crash_same p n m same size crash) (same_order m n same size order)

pub none_of : (bytes : List ℕ) (m : SegmentMemory) → IsMemoryOf bytes m → IsLeftOfNone m → IsLeftOfNoneIn bytes
none_of bytes m is none = λ p n d shown other crash.
    let same : m.blocks ≡ n.blocks = same_blocks m.blocks n.blocks is.each other.each (is.spelled ∙ sym other.spelled) in
    let long = ap (λ (bs : List (List ℕ)). length bs) same in
    let whole = is.whole in
    let whole_too = other.whole in
    none p d shown (crash_same p n m same (omega arith) crash)

-- ---- how long they are
length_blocks : (xs : List (List ℕ)) → AreBlocks xs → length (flat_map (λ block. block) xs) ≡ 512 * length xs
length_blocks [] are = refl
length_blocks (x ∷ xs) are =
    let here = are 0 [] (omega arith) in
    let rest = length_blocks xs (rest_of x xs are) in
    let sum = length-append x (flat_map (λ block. block) xs) in
    omega arith

pub none_long : (bytes : List ℕ) → IsBlocksFaultOf bytes Length → IsLeftOfNoneIn bytes
none_long bytes h = λ p m d shown is crash.
    let laid_out = d.store.whole.parts.laid_out in
    let least = laid_out.at_least in
    let most = laid_out.at_most in
    let same = crash.segments in
    let whole = is.whole in
    let all = length_blocks m.blocks is.each in
    let long : length (flat_map (λ block. block) m.blocks) ≡ length bytes = ap (λ (bs : List ℕ). length bs) is.spelled in
    h m.segments (omega arith) (omega arith) (omega arith)
