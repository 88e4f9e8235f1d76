-- What hints say of a directory's room stays true as a content changes: `full_made`, `full_removed`, `full_attrs` and
-- `full_lower` for `follow_one`, `full_entered` for `enter_hint` of `lfs_calls`. A hint says that no name of a length
-- fits in the blocks before one; a change touches one number, so hints of others stay (`full_put`), and its own is
-- forgotten, or lowered to the blocks before the bytes that were put (`full_spliced`). A hint is lowered by any Put,
-- whatever the block got; a change of bytes that left it would let it speak of blocks that have room again.
use Rattle.std.proofs.Common.{min, ◌≡◌, ◌≢◌, ℕ, ◌+◌, ◌*◌, ◌-◌, ◌<◌, ◌≤◌, List, [], ◌∷◌, ◌++◌, length, take, drop}
use Rattle.std.proofs.Common.{Option, None, Some, refl, sym, ap, subst, ◌∙◌, arith, append_assoc, length-append}
use Rattle.std.proofs.Common.{length-take, length-drop}
use Rattle.std.proofs.Math.ListN.{length-replicate}
use Rattle.std.proofs.lemmas.List.{take-append-drop}
use Rattle.std.specs.Prelude.{IfSome, replicate}
use Rattle.std.specs.FinMap as map
use Rattle.lfs_types.specs.Changes.{changed_at}
use Rattle.lfs_types.specs.Splicing.{splice}
use Rattle.lfs_types.specs.Stored.{bytes_of, bytes_of_file}
use Rattle.lfs_types.specs.Tree.{Content, File, file_of}
use Rattle.lfs_types.specs.declared.attrs.Attrs.{Attrs}
use Rattle.lfs_types.proofs.Maps.{get-insert_other, get-insert_same, get-remove_other}
use Rattle.lfs_types.proofs.Pieces.{piece-front}
use Rattle.lfs_dirs.specs.Directory.{used_of}
use Rattle.lfs_dirs.specs.Reading.{entries_of}
use Rattle.lfs_known.specs.Says.{SaysTheSame, kept_of, says}
use Rattle.lfs_known.specs.declared.slots.Slots.{Slots}
use Rattle.lfs_known.proofs.FollowLemmas.{changed-others, kept_only, true_put}
use Rattle.lfs_known.specs.Full.{AreFull, IsFullBefore, IsLowered}
use Rattle.lfs_known.specs.declared.hints.Hint.{Hint}

-- ---- bytes put into others

-- a piece of the old bytes that ends before the new ones stays
pub piece-spliced : (old : List ℕ) (off : ℕ) (new : List ℕ) (n j : ℕ) → j + n ≤ off → j + n ≤ length old
    → take n (drop j (splice old off new)) ≡ take n (drop j old)
piece-spliced old off [] n j before within = refl
piece-spliced old off (b ∷ bs) n j before within =
    let cut : length (take off old) ≡ min off (length old) = simp length-take in
    let fits : j + n ≤ length (take off old) = omega (arith, before, within, cut) in
    let rest : List ℕ = replicate (off - length old) 0 ++ ((b ∷ bs) ++ drop (off + length (b ∷ bs)) old) in
    let split : splice old off (b ∷ bs) ≡ take off old ++ rest = simp append_assoc in
    ap (λ x. take n (drop j x)) split ∙ piece-front n j (take off old) rest fits
    ∙ sym (piece-front n j (take off old) (drop off old) fits) ∙ ap (λ x. take n (drop j x)) (take-append-drop off old)

-- bytes don't get fewer where others are put
pub length-spliced : (old : List ℕ) (off : ℕ) (new : List ℕ) → length old ≤ length (splice old off new)
length-spliced old off [] = omega arith
length-spliced old off (b ∷ bs) =
    let is : length (splice old off (b ∷ bs)) ≡ min off (length old) + (off - length old) + length (b ∷ bs)
    + (length old - (off + length (b ∷ bs))) =
    simp (length-append, length-take, length-drop, length-replicate) in
    omega (arith, is)

-- ---- a directory's bytes

-- what is known of blocks is known of fewer
pub full_lowered : (bytes : List ℕ) (old new : Hint) → IsLowered old new → IsFullBefore bytes old
    → IsFullBefore bytes new
full_lowered bytes old new lowered was = record {
  within = let fewer = lowered.block in let within = was.within in omega arith;
  full = λ k before.
      let fewer = lowered.block in
      subst (λ n. 512 < used_of (entries_of (take 512 (drop (512 * k) bytes))) + 5 + n) (sym lowered.length)
      (was.full k (omega arith));
}

-- and stays so where bytes are put behind them
pub full_spliced : (bytes : List ℕ) (hint : Hint) (off : ℕ) (new : List ℕ) → 512 * hint.block ≤ off
    → IsFullBefore bytes hint → IsFullBefore (splice bytes off new) hint
full_spliced bytes hint off new behind was = record {
  within = omega (arith, was.within, length-spliced bytes off new);
  full = λ k before.
      let within = was.within in
      subst (λ block. 512 < used_of (entries_of block) + 5 + hint.length)
      (sym (piece-spliced bytes off new 512 (512 * k) (omega arith) (omega arith))) (was.full k before);
}

-- ---- hints

-- what is said after the slot of a number was put is true, where a change touches that number alone and it is true
-- there
pub full_put : (old new : Slots Hint) (dir : ℕ) (c after : Content) → SaysTheSame old new dir
    → ((q : ℕ) → q ≢ dir → map.get after q ≡ map.get c q)
    → ((h : Hint) → says new dir ≡ Some h → IsFullBefore (bytes_of after dir) h)
    → AreFull old c → AreFull new after
full_put = true_put (λ o h. IsFullBefore (bytes_of_file o) h)

-- a hint that is true was entered
pub full_entered : (old new : Slots Hint) (c : Content) (dir : ℕ) (hint : Hint) → says new dir ≡ kept_of dir (Some hint)
    → SaysTheSame old new dir
    → IsFullBefore (bytes_of c dir) hint → AreFull old c → AreFull new c
full_entered old new c dir hint entered others is = full_put old new dir c c others (λ q apart. refl)
    (λ h said.
    let same : Some hint ≡ Some h = kept_only dir (Some hint) h (sym entered ∙ said) in
    let one : hint ≡ h = cc in
    subst (IsFullBefore (bytes_of c dir)) one is)

module _ (c : Content) (ino : ℕ) where
  -- after a change at a number its bytes are those of the changed file, or none
  pub changed-bytes : (change : File → File) (P : List ℕ → Type 0)
      → ((f : File) → map.get c ino ≡ Some f → P (change f).bytes) → (map.get c ino ≡ None → P [])
      → P (bytes_of (changed_at (map.get c ino) ino change c) ino)
  changed-bytes change P some none = at (map.get c ino) refl where
    at : (o : Option File) → map.get c ino ≡ o → P (bytes_of (changed_at o ino change c) ino)
    at None e = subst P (sym (ap bytes_of_file e)) (none e)
    at (Some f) e = subst P (sym (ap bytes_of_file (get-insert_same c ino (change f)))) (some f e)

-- attributes leave bytes
pub full_attrs : (hints : Slots Hint) (ino : ℕ) (attrs : Attrs) (c : Content) → AreFull hints c
    → AreFull hints (changed_at (map.get c ino) ino (λ f. file_of attrs f.bytes) c)
full_attrs hints ino attrs c was = full_put hints hints ino c _ (λ n apart. refl)
    (changed-others c ino (map.get c ino) (λ f. file_of attrs f.bytes))
    (λ h said. changed-bytes c ino (λ f. file_of attrs f.bytes) (λ bytes. IsFullBefore bytes h)
    (λ f e. subst (λ o. IsFullBefore (bytes_of_file o) h) e (was ino h said))
    (λ e. subst (λ o. IsFullBefore (bytes_of_file o) h) e (was ino h said)))
    was

module _ (old new : Slots Hint) (ino : ℕ) (c : Content) (others : SaysTheSame old new ino) where
  -- a number was forgotten, and nothing else was changed than its file
  pub full_forgotten : says new ino ≡ None → (after : Content) → ((q : ℕ) → q ≢ ino → map.get after q ≡ map.get c q)
      → AreFull old c → AreFull new after
  full_forgotten forgotten after kept = full_put old new ino c after others kept (λ h said. absurd (cc))

  -- a file was made, or removed, or cut
  pub full_made : says new ino ≡ None → (f : File) → AreFull old c → AreFull new (map.insert c ino f)
  full_made forgotten f = full_forgotten forgotten _ (get-insert_other c ino f)

  pub full_removed : says new ino ≡ None → AreFull old c → AreFull new (map.remove c ino)
  full_removed forgotten = full_forgotten forgotten _ (get-remove_other c ino)

  pub full_changed : says new ino ≡ None → (change : File → File) → AreFull old c
      → AreFull new (changed_at (map.get c ino) ino change c)
  full_changed forgotten change = full_forgotten forgotten _ (changed-others c ino (map.get c ino) change)

  -- bytes were put behind the blocks of which something is said
  pub full_lower : (off : ℕ) (bytes : List ℕ)
      → IfSome (says new ino) (λ h. (was : Hint)
      × ((says old ino ≡ Some was) × IsLowered was h × (512 * h.block ≤ off)))
      → AreFull old c → AreFull new (changed_at (map.get c ino) ino
      (λ f. record f { bytes = splice f.bytes off bytes }) c)
  full_lower off bytes lowered was = full_put old new ino c _ others (changed-others c ino (map.get c ino) put)
      (λ h said.
      let is : (before : Hint) × ((says old ino ≡ Some before) × IsLowered before h × (512 * h.block ≤ off)) =
      subst (λ o. IfSome o (λ h. (before : Hint)
      × ((says old ino ≡ Some before) × IsLowered before h × (512 * h.block ≤ off)))) said lowered in
      let here : IsFullBefore (bytes_of c ino) h = full_lowered (bytes_of c ino) is.0 h is.1.1 (was ino is.0 is.1.0) in
      changed-bytes c ino put (λ bs. IsFullBefore bs h)
      (λ f e. full_spliced f.bytes h off bytes is.1.2 (subst (λ o. IsFullBefore (bytes_of_file o) h) e here))
      (λ e. subst (λ o. IsFullBefore (bytes_of_file o) h) e here))
      was where
        put : File → File
        put f = record f { bytes = splice f.bytes off bytes }
