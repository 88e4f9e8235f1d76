-- An image from its pieces: `block_more` for the loop of `read_blocks`, `blocks_whole` and `same_body` for `read_log`,
-- `image_of` for `load_parts`. The blocks that were read and the bytes behind them are all the bytes, and the next 512
-- bytes go from the second to the first. So in the end head, blocks and ifile are the bytes in order; each of the three
-- is what the parts would be written as, and an image is these three one behind the other.
use Rattle.std.proofs.Common.{◌≡◌, ℕ, ◌+◌, ◌*◌, List, [], ◌∷◌, ◌++◌, length, take, drop, refl, sym, ap, subst, ◌∙◌}
use Rattle.std.proofs.Common.{◌-◌, Option, arith, append_assoc}
use Rattle.std.specs.List.{flat_map}
use Rattle.std.proofs.lemmas.List.{drop-drop, take-append-drop, take_rest}
use Rattle.std.proofs.lemmas.List.Concat.{flat_map-append}
use Rattle.lfs_types.specs.declared.level.Level.{Level}
use Rattle.lfs_cache.specs.Contents.{nothing_in}
use Rattle.lfs_segments.specs.Memory.{seen_with}
use Rattle.lfs_ifile.specs.Layout.{ifile_bytes}
use Rattle.lfs_ifile.specs.Tables.{Tables}
use Rattle.lfs_log.specs.Parts.{IsParts, LogParts}
use Rattle.lfs_parts.specs.declared.parts.Parts.{Parts}
use Rattle.lfs_fsck.specs.Stored.{stored}
use Rattle.lfs_image.specs.declared.head.Head.{Head}
use Rattle.lfs_image.specs.Image.{IsImageOf, body_bytes, head_bytes, head_of, image_bytes}

-- one more block
again : (f block behind rest bytes : List ℕ) → rest ≡ block ++ behind → f ++ rest ≡ bytes → (f ++ (block ++ []))
    ++ behind ≡ bytes
again f block behind rest bytes split whole =
    rw append_assoc (rw (append_assoc block [] behind) (rw (sym split) whole))

pub block_more : (blocks : List (List ℕ)) (bytes block : List ℕ) (k : ℕ) → block ≡ take 512 (drop (512 * k) bytes)
    → flat_map (λ block. block) blocks ++ drop (512 * k) bytes ≡ bytes
    → flat_map (λ block. block) (blocks ++ block ∷ []) ++ drop (512 * (k + 1)) bytes ≡ bytes
block_more blocks bytes block k is whole =
    let here : 512 * (k + 1) ≡ 512 * k + 512 = omega arith in
    let further : drop 512 (drop (512 * k) bytes) ≡ drop (512 * (k + 1)) bytes = drop-drop 512 (512 * k) bytes
    ∙ ap (λ n. drop n bytes) (sym here) in
    let split : drop (512 * k) bytes ≡ block ++ drop (512 * (k + 1)) bytes =
    rw (is, sym further) (sym (take-append-drop 512 (drop (512 * k) bytes))) in
    rw (flat_map-append (λ block. block) blocks (block ∷ []))
    (again (flat_map (λ block. block) blocks) block (drop (512 * (k + 1)) bytes)
    (drop (512 * k) bytes) bytes split whole)

-- what stands behind the head is the blocks and the ifile
pub same_body : (serial : Option ℕ) (l : LogParts) (tables : Tables) (blocks : List (List ℕ)) (active used : ℕ) (rest body : List ℕ)
    → l.memory ≡ seen_with serial blocks active used → l.tables ≡ tables → ifile_bytes tables ≡ rest
    → flat_map (λ block. block) blocks ++ rest ≡ body → body_bytes l ≡ body
same_body serial l tables blocks active used rest body memory is file whole = rw (memory, is, file) whole

-- blocks and what stands behind them are the bytes behind the head, which are read as some of the bytes
pub blocks_whole : (bytes : List ℕ) (blocks : List (List ℕ)) (count : ℕ)
    → flat_map (λ block. block) blocks ++ drop (512 * count) (take (length bytes - 512) (drop 512 bytes))
    ≡ take (length bytes - 512) (drop 512 bytes)
    → flat_map (λ block. block) blocks ++ drop (512 + 512 * count) bytes ≡ drop 512 bytes
blocks_whole bytes blocks count whole =
    let behind : drop (512 * count) (drop 512 bytes)
    ≡ drop (512 + 512 * count) bytes = drop-drop (512 * count) 512 bytes in
    subst (λ rest. flat_map (λ block. block) blocks ++ rest ≡ drop 512 bytes) behind
    (subst (λ body. flat_map (λ block. block) blocks ++ drop (512 * count) body ≡ body) (take_rest bytes 512) whole)

-- the head and what stands behind it
join : (a b x y bytes : List ℕ) → a ≡ x → b ≡ y → x ++ y ≡ bytes → a ++ b ≡ bytes
join a b x y bytes p q whole = rw (p, q) whole

same_image : (l : LogParts) (level : Level) (h : Head) (bytes : List ℕ) → take 512 bytes ≡ head_bytes h
    → head_of l level ≡ h
    → body_bytes l ≡ drop 512 bytes → image_bytes l level ≡ bytes
same_image l level h bytes told same body =
    join (head_bytes (head_of l level)) (body_bytes l) (take 512 bytes) (drop 512 bytes) bytes
    (ap head_bytes same ∙ sym told) body (take-append-drop 512 bytes)

pub image_of : (l : LogParts) (h : Head) (bytes : List ℕ) → IsParts l → take 512 bytes ≡ head_bytes h
    → head_of l h.level ≡ h
    → body_bytes l ≡ drop 512 bytes → IsImageOf bytes l h.level
image_of l h bytes parts told same body =
    record { parts = parts; spelled = same_image l h.level h bytes told same body }

-- parts by their fields
pub stored_parts : (p : Parts) (l : LogParts) (frames : ℕ) → p.log ≡ l → p.cache ≡ nothing_in frames → p.waiting ≡ []
    → p ≡ stored frames l
stored_parts p l frames log cache waiting = rw (sym log, sym cache, sym waiting) refl
