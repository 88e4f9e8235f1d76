-- Each byte of a file was set by the last call of the run that set its place, or was there at the opening:
-- `last_written` and `last_written_since_opening`, for the law of that name; its sums on spliced and resized bytes
-- serve Fates, DoneLemmas and TwinLemmas too. One call sets a byte or leaves the one that was there (`byte`, by the
-- cases of the call; `Was` says that a row is as it was or is the changed one), and the run carries an `Origin` of the
-- byte from its front, entry by entry. The hard places are the zeros of a gap and of a longer file, which a call sets
-- without naming them; a call that wrote bytes in another way needs its case in `byte`.
use Rattle.std.proofs.Common.{◌≡◌, ◌≢◌, ◌⊎◌, ℕ, ◌+◌, ◌-◌, ◌==◌, ◌<◌, ◌≤◌, Bool, true, false, cond, List, [], ◌∷◌, ◌++◌}
use Rattle.std.proofs.Common.{length, get_or, take, drop, replicate, Option, None, Some, inl, inr, refl, sym, ap, subst}
use Rattle.std.proofs.Common.{◌∙◌, ⊎_elim, arith, append_assoc, append-nil, length-append, length-drop, length-take}
use Rattle.std.proofs.Common.{get_or-take, get_or-drop}
use Rattle.std.specs.Prelude.{min}
use Rattle.std.proofs.Math.ListN.{get_or-append}
use Rattle.std.proofs.Math.Seq.{get_or-append_right}
use Rattle.std.proofs.lemmas.Bool.{cases_lt, cases_eq}
use Rattle.std.proofs.lemmas.List.{get_or-replicate, get_or_past, length-replicate}
use Rattle.std.specs.FinMap as map
use Rattle.lfs_types.specs.Caller.{Caller}
use Rattle.lfs_types.specs.Splicing.{splice, resized}
use Rattle.lfs_types.specs.Tree.{File, Row, World, root, opening_world}
use Rattle.lfs_types.specs.declared.answer.Answer.TheVariants.{Served, Denied, Refused}
use Rattle.lfs_types.specs.declared.attrs.Kind.{Kind}
use Rattle.lfs_types.specs.declared.attrs.Kind.TheVariants.{File as Regular, Directory}
use Rattle.lfs_types.specs.declared.request.Place.{Place}
use Rattle.lfs_types.specs.declared.request.Request.{Request}
use Rattle.lfs_types.specs.declared.request.Request.TheVariants.{Stat, Read, Write, List as Names, SetLength, Create}
use Rattle.lfs_types.specs.declared.request.Request.TheVariants.{Mkdir, Unlink, Rmdir, Rename, Chmod, Chown, Chflags}
use Rattle.lfs_types.specs.declared.request.Request.TheVariants.{SetLevel, Sync}
use Rattle.lfs_model.specs.declared.journal.Entry.{Entry}
use Rattle.lfs_model.specs.declared.journal.Event.{Event}
use Rattle.lfs_model.specs.declared.journal.Event.TheVariants.{User, Cleaner}
use Rattle.lfs_model.specs.World.{Rows, child, file_at, IsTree}
use Rattle.lfs_model.specs.Rules.{reached, front, last, start_in}
use Rattle.lfs_model.specs.Effects.{effect, after_rename, least_unused, with_file, with_place, without_row, new_file}
use Rattle.lfs_model.specs.Effects.{written, cut, given}
use Rattle.lfs_laws.specs.LawsBytes.{IsLastSet, IsNeverSet, LastWritten, LastWrittenSinceOpening, SetsByte, SetsSome}
use Rattle.lfs_laws.specs.LawsRuns.{IsServed, NoneServed}
use Rattle.lfs_model.specs.Steps.{after_event, world_after}
use Rattle.lfs_laws.proofs.LegalTrees.{entries_tree}
use Rattle.lfs_types.proofs.Maps.{get-insert_same, get-insert_other, get-remove_same, get-remove_other}
use Rattle.lfs_types.proofs.Pieces.{length-resized}
use Rattle.lfs_model.proofs.RunLemmas.{only_root, opening_tree, world_after-append}

-- the row that a call makes
abbrev pub new_row : ℕ → World → Caller → List (List ℕ) → Kind → ℕ → Row
new_row numbers w caller path kind mode =
    let parent = reached w.rows root (front path) in
    record { parent = parent; name = last path; file = new_file caller kind (file_at (map.get w.rows parent)).gid mode }

-- ---- bytes of changed files

zeros : (n i : ℕ) → get_or (replicate {A = ℕ} n 0) i 0 ≡ 0
zeros n i =
    let count : length (replicate {A = ℕ} n 0) ≡ n = length-replicate n 0 in
    ⊎_elim (λ low. get_or-replicate n i 0 0 low)
    (λ high. get_or_past (replicate {A = ℕ} n 0) i 0 (omega (arith, count, high))) (cases_lt i n)

-- a byte below the new length is the old one, and 0 where there was none
pub resized-keeps : (old : List ℕ) (len i : ℕ) → i < len → get_or (resized old len) i 0 ≡ get_or old i 0
resized-keeps old len i h =
    let count : length (take len old) ≡ min len (length old) = length-take len old in
    ⊎_elim
    (λ low. get_or-append (take len old) (replicate (len - length old) 0) 0 i (omega (arith, count, low, h))
    ∙ get_or-take len old i 0 h)
    (λ high. get_or-append_right (take len old) (replicate (len - length old) 0) i 0 (omega (arith, count, high, h))
    ∙ zeros (len - length old) (i - length (take len old)) ∙ sym (get_or_past old i 0 high))
    (cases_lt i (length old))

module _ (old : List ℕ) (start b : ℕ) (bs : List ℕ) where
  abbrev put : List ℕ
  put = resized old start ++ (b ∷ bs)

  length-put : length put ≡ start + length (b ∷ bs)
  length-put = length-append (resized old start) (b ∷ bs) ∙ ap (λ n. n + length (b ∷ bs)) (length-resized old start)

  pub length-spliced : length (splice old start (b ∷ bs)) ≡ (start + length (b ∷ bs))
      + (length old - (start + length (b ∷ bs)))
  length-spliced =
      let long = length-put in
      let whole : length (splice old start (b ∷ bs)) ≡ length put
      + length (drop (start + length (b ∷ bs)) old) = length-append put (drop (start + length (b ∷ bs)) old) in
      let rest : length (drop (start + length (b ∷ bs)) old)
      ≡ length old - (start + length (b ∷ bs)) = length-drop (start + length (b ∷ bs)) old in
      omega (arith, long, whole, rest)

  pub splice-before : (i : ℕ) → i < start → get_or (splice old start (b ∷ bs)) i 0 ≡ get_or old i 0
  splice-before i h =
      let long = length-put in
      let head = length-resized old start in
      get_or-append put (drop (start + length (b ∷ bs)) old) 0 i (omega (arith, long, h))
      ∙ get_or-append (resized old start) (b ∷ bs) 0 i (omega (arith, head, h))
      ∙ resized-keeps old start i h

  pub splice-inside : (k : ℕ) → k < length (b ∷ bs) → get_or (splice old start (b ∷ bs)) (start + k) 0
      ≡ get_or (b ∷ bs) k 0
  splice-inside k h =
      let long = length-put in
      let head = length-resized old start in
      let back : (start + k) - length (resized old start) ≡ k = omega (arith, head) in
      get_or-append put (drop (start + length (b ∷ bs)) old) 0 (start + k) (omega (arith, long, h))
      ∙ get_or-append_right (resized old start) (b ∷ bs) (start + k) 0 (omega (arith, head))
      ∙ ap (λ j. get_or (b ∷ bs) j 0) back

  pub splice-behind : (i : ℕ) → start + length (b ∷ bs) ≤ i → get_or (splice old start (b ∷ bs)) i 0 ≡ get_or old i 0
  splice-behind i h =
      let long = length-put in
      let on : (start + length (b ∷ bs)) + (i - length put) ≡ i = omega (arith, long, h) in
      get_or-append_right put (drop (start + length (b ∷ bs)) old) i 0 (omega (arith, long, h))
      ∙ get_or-drop (start + length (b ∷ bs)) old (i - length put) 0
      ∙ ap (λ j. get_or old j 0) on

-- ---- a row before a call

-- a row after a file was changed: as it was, or the changed one
pub record Was (w : World) (n m : ℕ) (change : File → File) (after : Row) : Type 0 where
  pub row : Row
  pub there : map.get w.rows n ≡ Some row
  pub how : ((n ≢ m) × (row ≡ after)) ⊎ ((n ≡ m) × (record row { file = change row.file } ≡ after))

pub was : (w : World) (n m : ℕ) (change : File → File) (after : Row) (o : Option Row) → map.get w.rows m ≡ o
    → map.get (with_file o m change w).rows n ≡ Some after → Was w n m change after
was w n m change after None e h = record {
  row = after;
  there = h;
  how = inl ((λ same. let none : map.get w.rows n ≡ None = ap (map.get w.rows) same ∙ e in absurd (cc)), refl);
}
was w n m change after (Some r) e h = ⊎_elim
    (λ same.
    let new : map.get (map.insert w.rows m (record r { file = change r.file })) n
    ≡ Some (record r { file = change r.file }) =
    ap (map.get (map.insert w.rows m (record r { file = change r.file }))) same
    ∙ get-insert_same w.rows m (record r { file = change r.file }) in
    let is : record r { file = change r.file } ≡ after = cc in
    record { row = r; there = ap (map.get w.rows) same ∙ e; how = inr (same, is) })
    (λ other. record {
      row = after;
      there = sym (get-insert_other w.rows m (record r { file = change r.file }) n other)
          ∙ h;
      how = inl (other, refl);
    })
    (cases_eq n m)

-- the byte was there before, and the call doesn't set it
record Kept (numbers : ℕ) (w : World) (request : Request) (n i : ℕ) (after : Row) : Type 0 where
  row : Row
  there : map.get w.rows n ≡ Some row
  kind : row.file.kind ≡ after.file.kind
  same : get_or row.file.bytes i 0 ≡ get_or after.file.bytes i 0
  unset : (value : ℕ) → SetsByte numbers w n i value request → ⊥

-- the call sets the byte, or it was there before
abbrev Byte : ℕ → World → Request → ℕ → ℕ → Row → Type 0
Byte numbers w request n i after = SetsByte numbers w n i (get_or after.file.bytes i 0) request
    ⊎ Kept numbers w request n i after

module _ (numbers : ℕ) (w : World) (n i : ℕ) (after : Row) where
  -- the row is as it was
  whole : (request : Request) (row : Row) → map.get w.rows n ≡ Some row → row ≡ after
      → ((value : ℕ) → SetsByte numbers w n i value request → ⊥) → Byte numbers w request n i after
  whole request row there is unset = inr (record {
    row = row;
    there = there;
    kind = ap (λ (x : Row). x.file.kind) is;
    same = ap (λ (x : Row). get_or x.file.bytes i 0) is;
    unset = unset;
  })

  -- a change of attributes alone
  titled : (request : Request) (path : List (List ℕ)) (change : File → File) → ((f : File) → (change f).kind ≡ f.kind)
      → ((f : File) → (change f).bytes ≡ f.bytes)
      → ((value : ℕ) → SetsByte numbers w n i value request → ⊥)
      → map.get (with_file (map.get w.rows (reached w.rows root path)) (reached w.rows root path) change w).rows n
      ≡ Some after → Byte numbers w request n i after
  titled request path change kind bytes unset h =
      let before = was w n (reached w.rows root path) change after _ refl h in
      ⊎_elim
      (λ other. whole request before.row before.there other.1 unset)
      (λ same. inr (record {
        row = before.row;
        there = before.there;
        kind = sym (kind before.row.file) ∙ ap (λ (x : Row). x.file.kind) same.1;
        same = ap (λ bs. get_or bs i 0) (sym (bytes before.row.file) ∙ ap (λ (x : Row). x.file.bytes) same.1);
        unset = unset;
      }))
      before.how

  -- a row that is left where another is taken away
  left : (request : Request) (k : ℕ) → ((value : ℕ) → SetsByte numbers w n i value request → ⊥)
      → map.get (map.remove w.rows k) n ≡ Some after → Byte numbers w request n i after
  left request k unset h = ⊎_elim
      (λ same. let none : map.get (map.remove w.rows k) n ≡ None = ap (map.get (map.remove w.rows k)) same
      ∙ get-remove_same w.rows k in absurd (cc))
      (λ other. whole request after (sym (get-remove_other w.rows k n other) ∙ h) refl unset)
      (cases_eq n k)

  removed : (request : Request) (path : List (List ℕ)) → ((value : ℕ) → SetsByte numbers w n i value request → ⊥)
      → map.get (map.remove w.rows (reached w.rows root path)) n ≡ Some after → Byte numbers w request n i after
  removed request path unset h = left request (reached w.rows root path) unset h

  -- a row's place alone changes
  placed : (request : Request) (m parent : ℕ) (name : List ℕ) (o : Option Row) → map.get w.rows m ≡ o
      → ((value : ℕ) → SetsByte numbers w n i value request → ⊥)
      → map.get (with_place o m parent name w).rows n ≡ Some after → Byte numbers w request n i after
  placed request m parent name None e unset h = whole request after h refl unset
  placed request m parent name (Some r) e unset h = ⊎_elim
      (λ same.
      let new : map.get (map.insert w.rows m (record r { parent = parent; name = name })) n
      ≡ Some (record r { parent = parent; name = name }) =
      ap (map.get (map.insert w.rows m (record r { parent = parent; name = name }))) same
      ∙ get-insert_same w.rows m (record r { parent = parent; name = name }) in
      let is : record r { parent = parent; name = name } ≡ after = cc in
      inr (record {
        row = r;
        there = ap (map.get w.rows) same ∙ e;
        kind = ap (λ (x : Row). x.file.kind) is;
        same = ap (λ (x : Row). get_or x.file.bytes i 0) is;
        unset = unset;
      }))
      (λ other. whole request after (sym (get-insert_other w.rows m (record r { parent = parent; name = name }) n other)
      ∙ h) refl unset)
      (cases_eq n m)

  -- and so where another row is taken away from there
  swapped : (request : Request) (m parent k : ℕ) (name : List ℕ) (o : Option Row) → map.get w.rows m ≡ o
      → ((value : ℕ) → SetsByte numbers w n i value request → ⊥)
      → map.get (with_place o m parent name (without_row k w)).rows n ≡ Some after → Byte numbers w request n i after
  swapped request m parent k name None e unset h = left request k unset h
  swapped request m parent k name (Some r) e unset h = ⊎_elim
      (λ same.
      let new : map.get (map.insert (map.remove w.rows k) m (record r { parent = parent; name = name })) n
      ≡ Some (record r { parent = parent; name = name }) =
      ap (map.get (map.insert (map.remove w.rows k) m (record r { parent = parent; name = name }))) same
      ∙ get-insert_same (map.remove w.rows k) m (record r { parent = parent; name = name }) in
      let is : record r { parent = parent; name = name } ≡ after = cc in
      inr (record {
        row = r;
        there = ap (map.get w.rows) same ∙ e;
        kind = ap (λ (x : Row). x.file.kind) is;
        same = ap (λ (x : Row). get_or x.file.bytes i 0) is;
        unset = unset;
      }))
      (λ other. left request k unset (sym (get-insert_other (map.remove w.rows k) m
      (record r { parent = parent; name = name }) n other) ∙ h))
      (cases_eq n m)

  over : (request : Request) (m parent k : ℕ) (name : List ℕ) (b : Bool)
      → ((value : ℕ) → SetsByte numbers w n i value request → ⊥)
      → map.get (cond b w (with_place (map.get w.rows m) m parent name (without_row k w))).rows n ≡ Some after
      → Byte numbers w request n i after
  over request m parent k name true unset h = whole request after h refl unset
  over request m parent k name false unset h = swapped request m parent k name (map.get w.rows m) refl unset h

  renamed : (request : Request) (m parent : ℕ) (name : List ℕ) (o : Option ℕ)
      → ((value : ℕ) → SetsByte numbers w n i value request → ⊥)
      → map.get (after_rename w m o parent name).rows n ≡ Some after → Byte numbers w request n i after
  renamed request m parent name None unset h = placed request m parent name _ refl unset h
  renamed request m parent name (Some k) unset h = over request m parent k name (k == m) unset h

  -- a Write of some bytes
  rewritten : (caller : Caller) (path : List (List ℕ)) (place : Place) (b : ℕ) (bs : List ℕ)
      → map.get (effect numbers w caller (Write path place (b ∷ bs))).rows n ≡ Some after
      → Byte numbers w (Write path place (b ∷ bs)) n i after
  rewritten caller path place b bs h =
      let before = was w n (reached w.rows root path) (written caller place (b ∷ bs)) after _ refl h in
      let start = start_in place (length before.row.file.bytes) in
      let here : start_in place (length (file_at (map.get w.rows n)).bytes)
      ≡ start = ap (λ o. start_in place (length (file_at o).bytes)) before.there in
      let outside : (i < start) ⊎ (start + length (b ∷ bs) ≤ i) → (value : ℕ)
      → SetsByte numbers w n i value (Write path place (b ∷ bs)) → ⊥ =
      λ out value sets. let k = sets.1.inside in let at = sets.1.at in
      ⊎_elim (λ low. omega (arith, here, k, at, low)) (λ high. omega (arith, here, k, at, high)) out in
      ⊎_elim
      (λ other. whole _ before.row before.there other.1 (λ value sets. other.0 (sym sets.0)))
      (λ same.
      let bytes : splice before.row.file.bytes start (b ∷ bs)
      ≡ after.file.bytes = ap (λ (x : Row). x.file.bytes) same.1 in
      let kept : (i < start) ⊎ (start + length (b ∷ bs) ≤ i) → get_or (splice before.row.file.bytes start (b ∷ bs)) i 0
      ≡ get_or before.row.file.bytes i 0 → Byte numbers w (Write path place (b ∷ bs)) n i after =
      λ out e. inr (record {
        row = before.row;
        there = before.there;
        kind = ap (λ (x : Row). x.file.kind) same.1;
        same = sym e ∙ ap (λ l. get_or l i 0) bytes;
        unset = outside out;
      }) in
      ⊎_elim
      (λ low. kept (inl low) (splice-before before.row.file.bytes start b bs i low))
      (λ from. ⊎_elim
      (λ low.
      let on : start + (i - start) ≡ i = omega (arith, from) in
      let inside : i - start < length (b ∷ bs) = omega (arith, from, low) in
      inl (
        sym same.0,
        record {
          k = i - start;
          inside = inside;
          at = ap (λ s. s + (i - start)) here ∙ on;
          is = sym (splice-inside before.row.file.bytes start b bs (i - start) inside)
              ∙ ap (λ j. get_or (splice before.row.file.bytes start (b ∷ bs)) j 0) on ∙ ap (λ l. get_or l i 0) bytes;
        },
      ))
      (λ high. kept (inr high) (splice-behind before.row.file.bytes start b bs i high))
      (cases_lt i (start + length (b ∷ bs))))
      (cases_lt i start))
      before.how

  shortened : (caller : Caller) (path : List (List ℕ)) (len : ℕ)
      → map.get (effect numbers w caller (SetLength path len)).rows n ≡ Some after
      → Byte numbers w (SetLength path len) n i after
  shortened caller path len h =
      let before = was w n (reached w.rows root path) (cut caller len) after _ refl h in
      ⊎_elim
      (λ other. whole _ before.row before.there other.1 (λ value sets. other.0 (sym sets.0)))
      (λ same.
      let bytes : resized before.row.file.bytes len ≡ after.file.bytes = ap (λ (x : Row). x.file.bytes) same.1 in
      let long = length-resized before.row.file.bytes len in
      ⊎_elim
      (λ low. inr (record {
        row = before.row;
        there = before.there;
        kind = ap (λ (x : Row). x.file.kind) same.1;
        same = sym (resized-keeps before.row.file.bytes len i low) ∙ ap (λ l. get_or l i 0) bytes;
        unset = λ value sets. let high = sets.1 in omega (arith, low, high);
      }))
      (λ high. inl (
        sym same.0,
        high,
        sym (ap (λ l. get_or l i 0) bytes)
            ∙ get_or_past (resized before.row.file.bytes len) i 0 (omega (arith, long, high)),
      ))
      (cases_lt i len))
      before.how

  byte : (caller : Caller) (request : Request) → after.file.kind ≡ Regular
      → map.get (effect numbers w caller request).rows n ≡ Some after → Byte numbers w request n i after
  byte caller (Stat path) kind h = whole _ after h refl (λ value sets. sets)
  byte caller (Read path off len) kind h = whole _ after h refl (λ value sets. sets)
  byte caller (Names path) kind h = whole _ after h refl (λ value sets. sets)
  byte caller (Write path place []) kind h =
      whole _ after h refl (λ value sets. let none = sets.1.inside in omega (arith, none))
  byte caller (Write path place (b ∷ bs)) kind h = rewritten caller path place b bs h
  byte caller (SetLength path len) kind h = shortened caller path len h
  byte caller (Create path mode) kind h = ⊎_elim
      (λ same.
      let row = new_row numbers w caller path Regular mode in
      let new : map.get (effect numbers w caller (Create path mode)).rows n
      ≡ Some row = ap (map.get (map.insert w.rows (least_unused w.rows numbers 4) row)) same
      ∙ get-insert_same w.rows (least_unused w.rows numbers 4) row in
      let is : row ≡ after = cc in
      inl (sym same, ap (λ (x : Row). get_or x.file.bytes i 0) (sym is)))
      (λ other. whole _ after (sym (get-insert_other w.rows (least_unused w.rows numbers 4)
      (new_row numbers w caller path Regular mode) n other) ∙ h) refl (λ value sets. other (sym sets.0)))
      (cases_eq n (least_unused w.rows numbers 4))
  byte caller (Mkdir path mode) kind h = ⊎_elim
      (λ same.
      let row = new_row numbers w caller path Directory mode in
      let new : map.get (effect numbers w caller (Mkdir path mode)).rows n
      ≡ Some row = ap (map.get (map.insert w.rows (least_unused w.rows numbers 4) row)) same
      ∙ get-insert_same w.rows (least_unused w.rows numbers 4) row in
      let is : row ≡ after = cc in
      let directory : Directory ≡ after.file.kind = ap (λ (x : Row). x.file.kind) is in
      absurd (cc))
      (λ other. whole _ after (sym (get-insert_other w.rows (least_unused w.rows numbers 4)
      (new_row numbers w caller path Directory mode) n other) ∙ h) refl (λ value sets. sets))
      (cases_eq n (least_unused w.rows numbers 4))
  byte caller (Unlink path) kind h = removed _ path (λ value sets. sets) h
  byte caller (Rmdir path) kind h = removed _ path (λ value sets. sets) h
  byte caller (Rename from to) kind h =
      renamed _ (reached w.rows root from) (reached w.rows root (front to)) (last to)
      (child w.rows (reached w.rows root (front to)) (last to)) (λ value sets. sets) h
  byte caller (Chmod path mode) kind h = titled _ path (λ f. record f { mode = mode }) (λ f. refl) (λ f. refl)
      (λ value sets. sets) h
  byte caller (Chown path uid gid) kind h =
      titled _ path (given caller uid gid) (λ f. refl) (λ f. refl) (λ value sets. sets) h
  byte caller (Chflags path flags) kind h =
      titled _ path (λ f. record f { flags = flags }) (λ f. refl) (λ f. refl) (λ value sets. sets) h
  byte caller (SetLevel level) kind h = whole _ after h refl (λ value sets. sets)
  byte caller Sync kind h = whole _ after h refl (λ value sets. sets)

-- ---- lists of calls

none_more : (numbers : ℕ) (es : List Entry) (e : Entry) (w : World) (n i : ℕ)
    → NoneServed (SetsSome numbers n i) numbers es w
    → (IsServed (SetsSome numbers n i (world_after numbers es w) e.cred) e.event → ⊥)
    → NoneServed (SetsSome numbers n i) numbers (es ++ e ∷ []) w
none_more numbers [] e w n i none unset = (unset, tt)
none_more numbers (x ∷ es) e w n i none unset =
    (none.0, none_more numbers es e (after_event numbers w x.cred x.event) n i none.1 unset)

-- each byte of each file is what the last call that set it made of it, or what it was in the beginning
abbrev Origin : ℕ → World → List Entry → ℕ → ℕ → ℕ → Type 0
Origin numbers w before n i value = IsLastSet numbers w before n i value ⊎ IsNeverSet numbers w before n i value

abbrev AreSet : ℕ → World → List Entry → World → Type 0
AreSet numbers w before v = (n : ℕ) (r : Row) → map.get v.rows n ≡ Some r → r.file.kind ≡ Regular → (i : ℕ)
    → Origin numbers w before n i (get_or r.file.bytes i 0)

module _ (numbers : ℕ) (w : World) (before : List Entry) (e : Entry)
    (sure : AreSet numbers w before (world_after numbers before w)) where
  -- an entry that doesn't set a byte leaves the last that did
  later_entry : (n i value : ℕ) → (IsServed (SetsSome numbers n i (world_after numbers before w) e.cred) e.event → ⊥)
      → Origin numbers w before n i value → Origin numbers w (before ++ e ∷ []) n i value
  later_entry n i value unset = ⊎_elim
      (λ (was : IsLastSet numbers w before n i value).
      let here = world_after-append numbers was.before (was.entry ∷ was.later) w in
      let leads : world_after numbers before w
      ≡ world_after numbers was.later (after_event numbers
      (world_after numbers was.before w) was.entry.cred was.entry.event) =
      ap (λ es. world_after numbers es w) (sym was.split) ∙ here in
      inl (record {
        before = was.before;
        entry = was.entry;
        later = was.later ++ e ∷ [];
        split = sym (append_assoc was.before (was.entry ∷ was.later) (e ∷ [])) ∙ ap (λ l. l ++ e ∷ []) was.split;
        sets = was.sets;
        last = none_more numbers was.later e _ n i was.last
            (subst (λ (v : World). IsServed (SetsSome numbers n i v e.cred) e.event → ⊥) leads unset);
      }))
      (λ (was : IsNeverSet numbers w before n i value). inr
      (record {
        none = none_more numbers before e w n i was.none unset;
        row = was.row;
        there = was.there;
        kind = was.kind;
        was = was.was;
      }))

  unset_by : (event : Event) → e.event ≡ event → (n : ℕ) (r : Row) → map.get (world_after numbers before w).rows n
      ≡ Some r → r.file.kind ≡ Regular → (i : ℕ)
      → (IsServed (SetsSome numbers n i (world_after numbers before w) e.cred) event → ⊥)
      → Origin numbers w (before ++ e ∷ []) n i (get_or r.file.bytes i 0)
  unset_by event is n r there kind i unset =
      later_entry n i _ (subst (λ (x : Event). IsServed (SetsSome numbers n i (world_after numbers before w) e.cred) x
      → ⊥) (sym is) unset) (sure n r there kind i)

  one_more : (event : Event) → e.event ≡ event
      → AreSet numbers w (before ++ e ∷ []) (after_event numbers (world_after numbers before w) e.cred event)
  one_more (User request (Served shown)) is n r there kind i = ⊎_elim
      (λ sets. inl (record {
        before = before;
        entry = e;
        later = [];
        split = refl;
        sets = subst (IsServed (SetsByte numbers (world_after numbers before w) n i (get_or r.file.bytes i 0)))
            (sym is) sets;
        last = tt;
      }))
      (λ kept. subst (Origin numbers w (before ++ e ∷ []) n i) kept.same
      (unset_by (User request (Served shown)) is n kept.row kept.there (kept.kind ∙ kind) i
      (λ sets. kept.unset sets.0 sets.1)))
      (byte numbers (world_after numbers before w) n i r e.cred request kind there)
  one_more (User request (Denied denial)) is n r there kind i = unset_by _ is n r there kind i (λ sets. sets)
  one_more (User request (Refused resource)) is n r there kind i = unset_by _ is n r there kind i (λ sets. sets)
  one_more (Cleaner call outcome) is n r there kind i = unset_by _ is n r there kind i (λ sets. sets)

all_set : (numbers : ℕ) (w : World) (before later : List Entry) → AreSet numbers w before (world_after numbers before w)
    → AreSet numbers w (before ++ later) (world_after numbers (before ++ later) w)
all_set numbers w before [] sure = subst (λ es. AreSet numbers w es (world_after numbers es w))
    (sym (append-nil before)) sure
all_set numbers w before (e ∷ later) sure =
    let next : AreSet numbers w (before ++ e ∷ []) (world_after numbers (before ++ e ∷ []) w) =
    subst (AreSet numbers w (before ++ e ∷ [])) (sym (world_after-append numbers before (e ∷ []) w))
    (one_more numbers w before e sure e.event refl) in
    subst (λ es. AreSet numbers w es (world_after numbers es w)) (append_assoc before (e ∷ []) later)
    (all_set numbers w (before ++ e ∷ []) later next)

-- in the beginning nothing has set them
none_yet : (numbers : ℕ) (w : World) → AreSet numbers w [] w
none_yet numbers w n r there kind i = inr (record { none = tt; row = r; there = there; kind = kind; was = refl })

-- a file with a byte is no directory
with_byte : (rows : Rows) → IsTree rows → (n : ℕ) (r : Row) → map.get rows n ≡ Some r → (i : ℕ)
    → i < length r.file.bytes → (k : Kind) → r.file.kind ≡ k → k ≡ Regular
with_byte rows tree n r there i h Regular e = refl
with_byte rows tree n r there i h Directory e = let none = ap (λ (l : List ℕ). length l) (tree.empty n r there e) in
    absurd (omega (arith, h, none))

-- each byte of a file is what the last call that set it made of it
pub last_written : LastWritten
last_written numbers segments entries w n r i tree legal there h =
    all_set numbers w [] entries (none_yet numbers w) n r there
    (let is = with_byte (world_after numbers entries w).rows
    (entries_tree numbers segments entries w tree legal) n r there i h r.file.kind refl in is) i

-- the opening world has no file
pub last_written_since_opening : LastWrittenSinceOpening
last_written_since_opening numbers segments entries n r i legal there h = ⊎_elim
    (λ set. set)
    (λ never.
    let directory : Directory ≡ never.row.file.kind =
    ap (λ (x : Row). x.file.kind) (only_root n never.row never.there).1 in
    let regular = never.kind in
    absurd (cc))
    (last_written numbers segments entries opening_world n r i opening_tree legal there h)
