-- The entries of a block without that of one name: the bytes before it and those behind it, and zeros (`closed_up`, for
-- `removed`). The bytes behind are those of the entries behind, as a block spells one list. For `behind`: what is known
-- of the bytes that were passed, one entry after the other. And what `replaced` needs of entries written again.
use Rattle.std.proofs.Common.{◌≡◌, ℕ, ◌+◌, ◌-◌, ◌≤◌, false, List, [], ◌∷◌, ◌++◌, length, take, drop, replicate, None}
use Rattle.std.proofs.Common.{refl, sym, ap, ◌∙◌, subst, arith, append_assoc, length-append}
use Rattle.std.proofs.lemmas.Grind.{flat_map-append}
use Rattle.std.proofs.lemmas.List.{append-nil, append_cancel_left, drop_all, drop_at, length-drop, length-replicate}
use Rattle.std.proofs.lemmas.List.{length-take-le, replicate-append-replicate, take_all, take_at}
use Rattle.std.proofs.lemmas.List.Edits.{paste_all}
use Rattle.std.specs.List.{copy_within}
use borrow.Rule.Slice.PartMut.{mid_of, post_of, put_mid}
use Rattle.lfs_dirs.specs.Directory.{Entry, entry_bytes, used_of, has_name, number_in, without, IsEntry, AreEntries}
use Rattle.lfs_dirs.specs.Directory.{IsDirectoryBlock, Spells}
use Rattle.lfs_dirs.specs.Reading.{StandsBehind, StandsFirst, entries_of}
use Rattle.lfs_dirs.proofs.Laws.{bytes_of, length-entry_bytes, Spells-bytes, Spells-from_bytes}
use Rattle.lfs_dirs.proofs.Adding.{bytes_of-added}
use Rattle.std.specs.Prelude.{IsSome}
use Rattle.lfs_dirs.proofs.Changes.{has_name-same, number_in-append, number_in-here, number_in-later, number_in-nil}
use Rattle.lfs_dirs.proofs.Changes.{number_in-none, without-absent}
use Rattle.lfs_dirs.proofs.Changes.{without-here, without-later, AreEntries-without}

-- ---- entries written again

-- an entry that may be written behind others
pub record MayFollow (done : List Entry) (e : Entry) : Type 0 where
  pub entry : IsEntry e
  pub absent : number_in e.1 done ≡ None
  pub room : used_of done + 5 + length e.1 ≤ 512

-- what is written and what is left, once the next entry is written
pub written_next : (done more : List Entry) (e : Entry) (rest total : List Entry)
    → more ≡ done ++ e ∷ [] → done ++ (e ∷ rest) ≡ total → more ++ rest ≡ total
written_next done more e rest total is_more kept =
    ap (λ xs. xs ++ rest) is_more ∙ append_assoc done (e ∷ []) rest ∙ kept

-- ---- the bytes behind a name

-- entries that were passed, none of them of a name, and the bytes behind them
pub record IsFront (bytes name rest : List ℕ) : Type 0 where
  pub before : List Entry
  pub absent : number_in name before ≡ None
  pub read : entries_of bytes ≡ before ++ entries_of rest
  pub spelled : bytes ≡ bytes_of before ++ rest

pub front_first : (bytes name : List ℕ) → IsFront bytes name bytes
front_first bytes name = record { before = []; absent = number_in-nil name; read = refl; spelled = refl }

module _ (bytes name rest others : List ℕ) (e : Entry) (front : IsFront bytes name rest)
    (first : StandsFirst rest e others) where
  -- one more, of another name
  pub front_next : has_name name e ≡ false → IsFront bytes name others
  front_next other = record {
    before = front.before ++ e ∷ [];
    absent = number_in-append name front.before (e ∷ []) front.absent ∙ number_in-later name e [] other
        ∙ number_in-nil name;
    read = front.read ∙ ap (λ es. front.before ++ es) first.read
        ∙ sym (append_assoc front.before (e ∷ []) (entries_of others));
    spelled = front.spelled ∙ ap (λ bs. bytes_of front.before ++ bs) first.spelled
        ∙ sym (append_assoc (bytes_of front.before) (entry_bytes e) others)
        ∙ ap (λ bs. bs ++ others) (bytes_of-added front.before e);
  }

-- ---- the block without the name

-- bytes moved towards the front, and zeros behind them
pub moved_up : (block : List ℕ) (at left : ℕ) (moved zeros : List ℕ) → length block ≡ 512 → at + left ≤ 512
    → moved ≡ copy_within block (512 - left) 512 at
    → zeros ≡ replicate (length (mid_of (at + left) (512 - (at + left)) moved)) 0
    → put_mid (at + left) (512 - (at + left)) moved zeros
    ≡ take at block ++ (drop (512 - left) block ++ replicate (512 - at - left) 0)
moved_up block at left moved zeros size room is_moved is_zeros =
    let end = at + left in
    let last = drop (512 - left) block in
    let count : length last ≡ left = omega (arith, size, length-drop (512 - left) block) in
    let front = take at block ++ last in
    let behind = drop end block in
    let short : length (take at block) ≡ at = length-take-le at block (omega (arith, size)) in
    let at_end : length front ≡ end = length-append (take at block) last ∙ omega (arith, short, count) in
    let parts : moved ≡ front ++ behind =
    is_moved ∙ paste_all block at last (512 - (512 - left)) (omega (arith, count))
    ∙ ap (λ n. take at block ++ (last ++ drop n block)) (omega arith)
    ∙ sym (append_assoc (take at block) last behind) in
    let tail : drop end moved ≡ behind = ap (drop end) parts ∙ drop_at front behind end at_end in
    let whole : length behind ≡ 512 - end = length-drop end block ∙ omega (arith, size) in
    let mid : length (mid_of end (512 - end) moved) ≡ 512 - at - left =
    ap (λ bs. length (take (512 - end) bs)) tail ∙ ap length (take_all (512 - end) behind (omega (arith, whole)))
    ∙ omega (arith, whole) in
    let none : post_of end (512 - end) moved ≡ [] =
    ap (drop (512 - end)) tail ∙ drop_all (512 - end) behind (omega (arith, whole)) in
    ap (λ bs. take end bs ++ (zeros ++ post_of end (512 - end) moved)) parts
    ∙ ap (λ bs. bs ++ (zeros ++ post_of end (512 - end) moved)) (take_at front behind end at_end)
    ∙ ap (λ bs. front ++ (zeros ++ bs)) none
    ∙ ap (λ bs. front ++ bs) (append-nil zeros ∙ is_zeros ∙ ap (λ n. replicate n 0) mid)
    ∙ append_assoc (take at block) last (replicate (512 - at - left) 0)

-- what is behind entries are entries
AreEntries-behind : (es fs : List Entry) → AreEntries (es ++ fs) → AreEntries fs
AreEntries-behind [] fs a = a
AreEntries-behind (e ∷ es) fs a = AreEntries-behind es fs a.2

-- the entries without one are those before it and those behind it
without_one : (name : List ℕ) (es : List Entry) (e : Entry) (fs : List Entry) → number_in name es ≡ None → e.1 ≡ name
    → AreEntries (es ++ e ∷ fs) → without name (es ++ e ∷ fs) ≡ es ++ fs
without_one name [] e fs absent named a =
    without-here name e fs (has_name-same name e named)
    ∙ without-absent name fs (subst (λ n. number_in n fs ≡ None) named a.1)
without_one name (d ∷ es) e fs absent named a =
    let none = number_in-none name d es absent in
    without-later name d (es ++ e ∷ fs) none.0
    ∙ ap (λ xs. d ∷ xs) (without_one name es e fs none.1 named a.2)

module _ (block name rest : List ℕ) (h : IsDirectoryBlock block (entries_of block))
    (b : StandsBehind block name rest) where
  -- how many bytes are before the entry
  pub place : length (bytes_of b.before) + (5 + length name) + length rest ≡ 512
  place = omega (
    arith,
    ap length b.spelled,
    h.size,
    length-append (bytes_of b.before) (entry_bytes b.entry ++ rest),
    length-append (entry_bytes b.entry) rest,
    length-entry_bytes b.entry,
    ap length b.named,
  )

  -- they are the last of the block
  pub last_is : drop (512 - length rest) block ≡ rest
  last_is =
      let front = bytes_of b.before ++ entry_bytes b.entry in
      let long : length front ≡ 512 - length rest = length-append (bytes_of b.before) (entry_bytes b.entry)
      ∙ omega (arith, place, length-entry_bytes b.entry, ap length b.named) in
      ap (drop (512 - length rest))
      (b.spelled ∙ sym (append_assoc (bytes_of b.before) (entry_bytes b.entry) rest))
      ∙ drop_at front rest (512 - length rest) long

  -- the block lists the name
  pub listed_there : IsSome (number_in name (entries_of block))
  listed_there = subst IsSome
      (sym (ap (number_in name) b.read ∙ number_in-append name b.before (b.entry ∷ entries_of rest) b.absent
      ∙ number_in-here name b.entry (entries_of rest) (has_name-same name b.entry b.named)))
      refl

  -- the bytes behind it are those of the entries behind it, and zeros
  rest_is : (n : ℕ) × (rest ≡ bytes_of (entries_of rest) ++ replicate n 0)
  rest_is =
      let spelled = Spells-bytes block (entries_of block) h.spelled in
      let zeros : List ℕ = replicate spelled.0 0 in
      let all : bytes_of b.before ++ (entry_bytes b.entry ++ rest)
      ≡ bytes_of b.before ++ (entry_bytes b.entry ++ (bytes_of (entries_of rest) ++ zeros)) =
      sym b.spelled ∙ spelled.1
      ∙ ap (λ es. bytes_of es ++ zeros) b.read
      ∙ ap (λ bs. bs ++ zeros) (flat_map-append entry_bytes b.before (b.entry ∷ entries_of rest))
      ∙ append_assoc (bytes_of b.before) (entry_bytes b.entry ++ bytes_of (entries_of rest)) zeros
      ∙ ap (λ bs. bytes_of b.before ++ bs) (append_assoc (entry_bytes b.entry) (bytes_of (entries_of rest)) zeros) in (
        spelled.0,
        append_cancel_left (entry_bytes b.entry) rest (bytes_of (entries_of rest) ++ zeros)
            (append_cancel_left (bytes_of b.before) (entry_bytes b.entry ++ rest)
            (entry_bytes b.entry ++ (bytes_of (entries_of rest) ++ zeros)) all),
      )

  kept_is : without name (entries_of block) ≡ b.before ++ entries_of rest
  kept_is = ap (without name) b.read
      ∙ without_one name b.before b.entry (entries_of rest) b.absent b.named (subst AreEntries b.read h.entries)

  -- what is left is a directory block without the name
  pub closed_up : (out : List ℕ) (at k : ℕ) → at ≡ length (bytes_of b.before)
      → out ≡ take at block ++ (rest ++ replicate k 0) → at + length rest + k ≡ 512
      → IsDirectoryBlock out (without name (entries_of block))
  closed_up out at k is_at is_out long =
      let n = rest_is.0 in
      let front : take at block ≡ bytes_of b.before =
      ap (take at) b.spelled ∙ take_at (bytes_of b.before) (entry_bytes b.entry ++ rest) at (sym is_at) in
      let parts : out ≡ bytes_of (b.before ++ entries_of rest) ++ replicate (n + k) 0 =
      is_out ∙ ap (λ bs. bs ++ (rest ++ replicate k 0)) front
      ∙ ap (λ bs. bytes_of b.before ++ (bs ++ replicate k 0)) rest_is.1
      ∙ ap (λ bs. bytes_of b.before ++ bs) (append_assoc (bytes_of (entries_of rest)) (replicate n 0) (replicate k 0))
      ∙ ap (λ bs. bytes_of b.before ++ (bytes_of (entries_of rest) ++ bs)) (replicate-append-replicate n k 0)
      ∙ sym (append_assoc (bytes_of b.before) (bytes_of (entries_of rest)) (replicate (n + k) 0))
      ∙ ap (λ bs. bs ++ replicate (n + k) 0) (sym (flat_map-append entry_bytes b.before (entries_of rest))) in
      let P : List Entry → Type 0 = λ es. IsDirectoryBlock out es in
      subst P (sym kept_is) (record {
        size = omega (
          arith,
          ap length is_out,
          ap length front,
          length-append (take at block) (rest ++ replicate k 0),
          length-append rest (replicate k 0),
          length-replicate {A = ℕ} k 0,
          is_at,
          long,
        );
        entries = subst AreEntries kept_is (AreEntries-without name (entries_of block) h.entries);
        spelled = subst (λ bs. Spells bs (b.before ++ entries_of rest)) (sym parts) (Spells-from_bytes (n + k) (b.before ++ entries_of rest));
      })
