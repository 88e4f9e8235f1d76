-- Bytes are the image of one log at most (`one_image`), and of none that a store may stand on where a fault was told of
-- them (`no_image`), both for `load` and VolumeLemmas of `lfs_checking`. The head is read off the first block, its
-- numbers fix how many blocks there are and where the ifile begins, and blocks of 512 bytes behind one another are the
-- same if the bytes are (`same_blocks`); the ifile fixes its tables by `one_ifile`. The count of clean segments isn't
-- in the image, so it must follow from the tables; each fault is a case of `no_fault`, and the one that two parts don't
-- fit together rests on `stands_apart`.
use Rattle.std.proofs.Common.{◌≡◌, ℕ, suc, ◌*◌, ◌<◌, ◌≤◌, List, [], ◌∷◌, ◌++◌, length, take, drop, refl, sym, ap, subst}
use Rattle.std.proofs.Common.{◌∙◌, inl, inr, arith, append_assoc, length-append}
use Rattle.std.specs.Prelude.{All}
use Rattle.std.specs.List.{flat_map}
use Rattle.std.proofs.lemmas.List.{length-replicate, drop-drop}
use Rattle.std.proofs.Math.Seq.{drop-append_seam, take-append_seam}
use Rattle.lfs_types.specs.declared.level.Level.{Level}
use Rattle.lfs_types.specs.declared.level.Level.TheVariants.{PermanentlyInsecure, Insecure, Secure, HighlySecure}
use Rattle.lfs_segments.specs.Memory.{IsLaidOut, SegmentMemory, log_start}
use Rattle.lfs_ifile.specs.declared.fault.IfileFault.{IfileFault}
use Rattle.lfs_ifile.specs.declared.fault.IfileFault.TheVariants as ifile_fault
use Rattle.lfs_ifile.specs.Layout.{IsIfileFaultOf, ifile_bytes, number_at}
use Rattle.lfs_ifile.specs.Tables.{IsIfile, Tables}
use Rattle.lfs_ifile.proofs.LayoutLemmas.{length-ifile_bytes, length-u32_bytes}
use Rattle.lfs_ifile.proofs.LoadingLemmas.{no_ifile, one_ifile, tables_told}
use Rattle.lfs_log.specs.Parts.{IsActiveAlone, IsParts, LogParts, clean_count}
use Rattle.lfs_fsck.specs.Stored.{IsStored}
use Rattle.lfs_fsck.proofs.FaultLemmas.{not_stored}
use Rattle.lfs_image.specs.declared.fault.ImageFault.{ImageFault}
use Rattle.lfs_image.specs.declared.fault.ImageFault.TheVariants.{Short, Long, Mark, Form, Segments, Inodes, Active}
use Rattle.lfs_image.specs.declared.fault.ImageFault.TheVariants.{Used, Securelevel, Gap, IfileHead, IfileSegment}
use Rattle.lfs_image.specs.declared.fault.ImageFault.TheVariants.{IfileRow, Apart, Label, Log, Memory}
use Rattle.lfs_image.specs.declared.head.Head.{Head}
use Rattle.lfs_image.specs.Faults.{IsApart, IsImageFaultOf}
use Rattle.lfs_image.specs.Heads.{MayHead, ReadsHead, ifile_place, length_told}
use Rattle.lfs_image.specs.Image.{IsImageOf, IsLabelled, body_bytes, head_bytes, head_of, image_bytes, level_word}
use Rattle.lfs_image.proofs.HeadLemmas.{head_told, same_level, same_serial}

-- ---- blocks behind one another
front : (x y p q : List ℕ) → length x ≡ length y → x ++ p ≡ y ++ q → x ≡ y
front x y p q long e =
    sym (take-append_seam x p) ∙ ap (λ bs. take (length x) bs) e ∙ ap (λ n. take n (y ++ q)) long ∙ take-append_seam y q

back : (x y p q : List ℕ) → length x ≡ length y → x ++ p ≡ y ++ q → p ≡ q
back x y p q long e =
    sym (drop-append_seam x p) ∙ ap (λ bs. drop (length x) bs) e ∙ ap (λ n. drop n (y ++ q)) long ∙ drop-append_seam y q

abbrev AreBlocks : List (List ℕ) → Type 0
AreBlocks blocks = All (λ block. length block ≡ 512) blocks

rest_of : (x : List ℕ) (xs : List (List ℕ)) → AreBlocks (x ∷ xs) → AreBlocks xs
rest_of x xs are = λ k d low. are (suc k) d (omega arith)

same_blocks : (xs ys : List (List ℕ)) (r s : List ℕ) → AreBlocks xs → AreBlocks ys → length xs ≡ length ys
    → flat_map (λ block. block) xs ++ r ≡ flat_map (λ block. block) ys ++ s → xs ≡ ys
same_blocks [] [] r s a b long e = refl
same_blocks [] (y ∷ ys) r s a b long e = absurd (omega arith)
same_blocks (x ∷ xs) [] r s a b long e = absurd (omega arith)
same_blocks (x ∷ xs) (y ∷ ys) r s a b long e =
    let sizes : length x ≡ length y = a 0 [] (omega arith) ∙ sym (b 0 [] (omega arith)) in
    let whole : x ++ (flat_map (λ block. block) xs ++ r) ≡ y ++ (flat_map (λ block. block) ys ++ s) =
    sym (append_assoc x (flat_map (λ block. block) xs) r) ∙ e ∙ append_assoc y (flat_map (λ block. block) ys) s in
    let here : x ≡ y = front x y _ _ sizes whole in
    let there : xs ≡ ys = same_blocks xs ys r s (rest_of x xs a) (rest_of y ys b) (omega arith)
    (back x y _ _ sizes whole) in
    λ i. here i ∷ there i

length-blocks : (xs : List (List ℕ)) → AreBlocks xs → length (flat_map (λ block. block) xs) ≡ 512 * length xs
length-blocks [] are = refl
length-blocks (x ∷ xs) are =
    let here : length x ≡ 512 = are 0 [] (omega arith) in
    let more = length-blocks xs (rest_of x xs are) in
    length-append x (flat_map (λ block. block) xs) ∙ omega (arith, here, more)

-- ---- the image of a log
length-head : (h : Head) → length (head_bytes h) ≡ 512
unfolding head_bytes
length-head h = simp (length-append, length-u32_bytes, length-replicate) (omega arith)

may_head : (l : LogParts) (level : Level) → IsParts l → MayHead (head_of l level)
may_head l level is = record {
  segments_least = is.laid_out.at_least;
  segments_most = is.laid_out.at_most;
  inodes_least = is.formed.inodes_least;
  inodes_most = is.formed.inodes_most;
  active_inside = is.laid_out.active;
  begun = is.laid_out.begun;
  within = is.laid_out.within;
  told = is.laid_out.told;
}

reads_head : (bytes : List ℕ) (l : LogParts) (level : Level) → IsImageOf bytes l level
    → ReadsHead bytes (head_of l level)
reads_head bytes l level is =
    subst (λ bs. ReadsHead bs (head_of l level)) is.spelled
    (head_told (head_of l level) (body_bytes l) (may_head l level is.parts))

body_at : (bytes : List ℕ) (l : LogParts) (level : Level) → IsImageOf bytes l level → body_bytes l ≡ drop 512 bytes
body_at bytes l level is =
    let h = head_bytes (head_of l level) in
    sym (drop-append_seam h (body_bytes l)) ∙ ap (λ n. drop n (h ++ body_bytes l)) (length-head (head_of l level))
    ∙ ap (λ bs. drop 512 bs) is.spelled

head_at : (bytes : List ℕ) (l : LogParts) (level : Level) → IsImageOf bytes l level → take 512 bytes
    ≡ head_bytes (head_of l level)
head_at bytes l level is =
    let h = head_bytes (head_of l level) in
    ap (λ bs. take 512 bs) (sym is.spelled)
    ∙ ap (λ n. take n (h ++ body_bytes l)) (sym (length-head (head_of l level)))
    ∙ take-append_seam h (body_bytes l)

many_blocks : (bytes : List ℕ) (l : LogParts) (level : Level) → IsImageOf bytes l level → length l.memory.blocks
    ≡ number_at bytes 8 * 64
many_blocks bytes l level is = is.parts.laid_out.whole ∙ ap (λ n. n * 64) (sym (reads_head bytes l level is).segments)

ifile_at : (bytes : List ℕ) (l : LogParts) (level : Level) → IsImageOf bytes l level → ifile_bytes l.tables
    ≡ drop (ifile_place bytes) bytes
ifile_at bytes l level is =
    let blocks : List ℕ = flat_map (λ block. block) l.memory.blocks in
    let long : length blocks ≡ 512 * (number_at bytes 8 * 64) =
    length-blocks l.memory.blocks is.parts.laid_out.each ∙ ap (λ n. 512 * n) (many_blocks bytes l level is) in
    sym (drop-append_seam blocks (ifile_bytes l.tables))
    ∙ ap (λ bs. drop (length blocks) bs) (body_at bytes l level is)
    ∙ ap (λ n. drop n (drop 512 bytes)) long
    ∙ drop-drop (512 * (number_at bytes 8 * 64)) 512 bytes

length_is : (bytes : List ℕ) (l : LogParts) (level : Level) → IsImageOf bytes l level → length bytes ≡ length_told bytes
length_is bytes l level is =
    let reads = reads_head bytes l level is in
    let blocks : List ℕ = flat_map (λ block. block) l.memory.blocks in
    let head = length-head (head_of l level) in
    let many = length-blocks l.memory.blocks is.parts.laid_out.each
    ∙ ap (λ n. 512 * n) (many_blocks bytes l level is) in
    let file = length-ifile_bytes l.tables is.parts.formed.states_length in
    let agree = is.parts.agree in
    let segments = reads.segments in
    let inodes = reads.inodes in
    ap length (sym is.spelled)
    ∙ length-append (head_bytes (head_of l level)) (body_bytes l)
    ∙ omega (arith, head, length-append blocks (ifile_bytes l.tables), many, file, agree, segments, inodes)

tables_of : (bytes : List ℕ) (l : LogParts) (level : Level) (t : Tables) → IsImageOf bytes l level → IsIfile t
    → ifile_bytes t ≡ drop (ifile_place bytes) bytes → l.tables ≡ t
tables_of bytes l level t is formed stands =
    one_ifile (ifile_bytes t) t l.tables formed (tables_told t formed) is.parts.formed (ifile_at bytes l level is
    ∙ sym stands)

pub one_image : (bytes : List ℕ) (l m : LogParts) (a b : Level) → IsImageOf bytes l a → IsImageOf bytes m b → (l ≡ m)
    × (a ≡ b)
one_image bytes l m a b p q =
    let one = reads_head bytes l a p in
    let other = reads_head bytes m b q in
    let segments : l.memory.segments ≡ m.memory.segments = sym one.segments ∙ other.segments in
    let active : l.memory.active ≡ m.memory.active = sym one.active ∙ other.active in
    let fill : l.memory.fill ≡ m.memory.fill = sym one.used ∙ other.used in
    let serial : l.memory.serial ≡ m.memory.serial =
    same_serial l.memory.serial m.memory.serial p.parts.laid_out.told q.parts.laid_out.told
    (sym one.serial ∙ other.serial) in
    let blocks : l.memory.blocks ≡ m.memory.blocks =
    same_blocks l.memory.blocks m.memory.blocks (ifile_bytes l.tables)
    (ifile_bytes m.tables) p.parts.laid_out.each q.parts.laid_out.each
    (many_blocks bytes l a p ∙ sym (many_blocks bytes m b q)) (body_at bytes l a p ∙ sym (body_at bytes m b q)) in
    let tables : l.tables ≡ m.tables = tables_of bytes l a m.tables p q.parts.formed (ifile_at bytes m b q) in
    let clean : l.clean ≡ m.clean =
    p.parts.counted ∙ ap (λ t. clean_count t l.memory.segments) tables ∙ ap (λ n. clean_count m.tables n) segments
    ∙ sym q.parts.counted in
    let memory : l.memory ≡ m.memory = λ i. record {
      segments = segments i;
      active = active i;
      fill = fill i;
      serial = serial i;
      blocks = blocks i;
    } in (
      λ i. record { memory = memory i; tables = tables i; clean = clean i },
      same_level a b (sym one.level ∙ other.level),
    )

-- ---- bytes with a fault
-- tables that don't make a log with a memory stand apart from its head
pub stands_apart : (bytes : List ℕ) (h : Head) (m : SegmentMemory) (t : Tables) → ReadsHead bytes h → m.segments
    ≡ h.segments → m.active ≡ h.active
    → IsLaidOut m → IsIfile t → ifile_bytes t ≡ drop (ifile_place bytes) bytes
    → ((clean : ℕ) → IsParts (record { memory = m; tables = t; clean = clean }) → ⊥) → IsApart bytes
stands_apart bytes h m t reads segments active laid formed stands none = record {
  tables = t;
  formed = formed;
  stands = stands;
  apart = λ live rows alone.
      let agree : length t.live ≡ m.segments = live ∙ reads.segments ∙ sym segments in
      let here : number_at bytes 16 ≡ m.active = reads.active ∙ sym active in
      let own : IsActiveAlone t m.active = subst (λ s. IsActiveAlone t s) here alone in
      none (clean_count t m.segments) (record {
        laid_out = laid;
        formed = formed;
        agree = agree;
        is_active = own.is_active;
        no_other = λ s low. own.no_other s (subst (λ n. s < n) (sym agree) low);
        counted = refl;
      });
}

not_apart : (bytes : List ℕ) (l : LogParts) (level : Level) → IsImageOf bytes l level → IsApart bytes → ⊥
not_apart bytes l level is apart =
    let reads = reads_head bytes l level is in
    let same : l.tables ≡ apart.tables = tables_of bytes l level apart.tables is apart.formed apart.stands in
    let agree = is.parts.agree in
    let alone : IsActiveAlone l.tables l.memory.active = record {
      is_active = is.parts.is_active;
      no_other = λ s low. is.parts.no_other s (subst (λ n. s < n) agree low);
    } in
    apart.apart (ap (λ t. length t.live) (sym same) ∙ agree ∙ sym reads.segments) (ap (λ t. length t.rows) (sym same)
    ∙ sym reads.inodes)
    (subst (λ s. IsActiveAlone apart.tables s) (sym reads.active)
    (subst (λ t. IsActiveAlone t l.memory.active) same alone))

no_tables : (bytes : List ℕ) (l : LogParts) (level : Level) (fault : IfileFault) → IsImageOf bytes l level
    → (fault ≡ ifile_fault.Memory → ⊥)
    → IsIfileFaultOf (drop (ifile_place bytes) bytes) fault → ⊥
no_tables bytes l level fault is other h =
    no_ifile (drop (ifile_place bytes) bytes) fault h other l.tables is.parts.formed (ifile_at bytes l level is)

level-most : (level : Level) → level_word level ≤ 3
level-most PermanentlyInsecure = omega arith
level-most Insecure = omega arith
level-most Secure = omega arith
level-most HighlySecure = omega arith

-- bytes with a fault, but for want of memory, are the image of no labelled log that a store may stand on
no_fault : (bytes : List ℕ) (fault : ImageFault) → IsImageFaultOf bytes fault → (fault ≡ Memory → ⊥)
    → (l : LogParts) (level : Level)
    → IsStored l → IsLabelled l → IsImageOf bytes l level → ⊥
no_fault bytes Short (inl few) other l level s label is = let long = length_is bytes l level is in
    absurd (omega (arith, few))
no_fault bytes Short (inr few) other l level s label is = let long = length_is bytes l level is in
    absurd (omega (arith, few))
no_fault bytes Long many other l level s label is = let long = length_is bytes l level is in
    absurd (omega (arith, many))
no_fault bytes Mark h other l level s label is = h (reads_head bytes l level is).mark
no_fault bytes Form h other l level s label is = h (reads_head bytes l level is).form
no_fault bytes (Segments number) (e, inl low) other l level s label is =
    let same = (reads_head bytes l level is).segments in let least = (may_head l level is.parts).segments_least in
    absurd (omega (arith, low))
no_fault bytes (Segments number) (e, inr high) other l level s label is =
    let same = (reads_head bytes l level is).segments in let most = (may_head l level is.parts).segments_most in
    absurd (omega (arith, high))
no_fault bytes (Inodes number) (e, inl low) other l level s label is =
    let same = (reads_head bytes l level is).inodes in let least = (may_head l level is.parts).inodes_least in
    absurd (omega (arith, low))
no_fault bytes (Inodes number) (e, inr high) other l level s label is =
    let same = (reads_head bytes l level is).inodes in let most = (may_head l level is.parts).inodes_most in
    absurd (omega (arith, high))
no_fault bytes (Active segment) (e, high) other l level s label is =
    let reads = reads_head bytes l level is in
    let many = reads.segments in let same = reads.active in let inside = (may_head l level is.parts).active_inside in
    absurd (omega (arith, high))
no_fault bytes (Used blocks) (e, inl low) other l level s label is =
    let reads = reads_head bytes l level is in
    let begun : log_start (number_at bytes 16) ≤ l.memory.fill =
    subst (λ a. log_start a ≤ l.memory.fill) (sym reads.active) (may_head l level is.parts).begun in
    let same = reads.used in absurd (omega (arith, low))
no_fault bytes (Used blocks) (e, inr high) other l level s label is =
    let same = (reads_head bytes l level is).used in let within = (may_head l level is.parts).within in
    absurd (omega (arith, high))
no_fault bytes (Securelevel number) (e, high) other l level s label is =
    let same = (reads_head bytes l level is).level in let most = level-most level in absurd (omega (arith, high))
no_fault bytes Gap h other l level s label is =
    h (head_of l level) (may_head l level is.parts) (head_at bytes l level is)
no_fault bytes IfileHead h other l level s label is = no_tables bytes l level ifile_fault.Head is (λ e. absurd (cc)) h
no_fault bytes (IfileSegment segment) h other l level s label is =
    no_tables bytes l level (ifile_fault.Segment segment) is (λ e. absurd (cc)) h
no_fault bytes (IfileRow number) h other l level s label is =
    no_tables bytes l level (ifile_fault.Row number) is (λ e. absurd (cc)) h
no_fault bytes Apart h other l level s label is = not_apart bytes l level is h
no_fault bytes Label (m, at, image, un) other l level s label is =
    un (subst IsLabelled (one_image bytes l m level at is image).0 label)
no_fault bytes (Log fault) (not_memory, (m, at, image, bad)) other l level s label is =
    not_stored m fault bad not_memory 32 (subst IsStored (one_image bytes l m level at is image).0 s 32)
no_fault bytes Memory h other l level s label is = other refl

pub no_image : (bytes : List ℕ) (fault : ImageFault) → IsImageFaultOf bytes fault → (fault ≡ Memory → ⊥)
    → (l : LogParts) (level : Level)
    → IsStored l → IsLabelled l → image_bytes l level ≡ bytes → ⊥
no_image bytes fault h other l level s label spelled =
    let store = s 32 in
    no_fault bytes fault h other l level s label (record { parts = store.whole.parts; spelled = spelled })
