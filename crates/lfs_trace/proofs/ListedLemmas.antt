-- A directory's entries, block by block: `dir_bounded`, `dir_within` and `dir_block` say what `lists_all` asks of a
-- store that shows a tree, `none_listed`, `more_listed` and `block_listed` carry its loop. All entries are those before a
-- block, in it and behind it, so that where one of the block isn't listed, not all are.
use Rattle.std.proofs.Common.{◌≡◌, ℕ, ◌+◌, ◌/◌, ◌%◌, ◌<◌, ◌≤◌, List, [], ◌∷◌, ◌++◌, length, replicate, Some, refl, sym, ap}
use Rattle.std.proofs.Common.{subst, arith, add-one}
use Rattle.std.specs.Prelude.{Contains, IsSome}
use Rattle.std.specs.FinMap as map
use Rattle.std.proofs.lemmas.List.Elements.{All-append, All-contains, All-contains_itself, All-nil, All-weaker}
use Rattle.std.proofs.lemmas.List.Elements.{Contains-append_left, Contains-append_right, Contains-push}
use Rattle.lfs_types.proofs.Somewhere.{present, some_and}
use Rattle.lfs_types.specs.Changes.{IsLength}
use Rattle.lfs_types.specs.Stored.{bytes_of, bytes_of_file}
use Rattle.lfs_types.specs.Tree.{Content, World}
use Rattle.lfs_types.specs.declared.attrs.Kind.TheVariants.{Directory}
use Rattle.lfs_types.specs.declared.limits.TheConstants.{FILE_BYTES}
use Rattle.lfs_dirs.specs.Directory.{Entry, IsDirectoryBlock, number_in}
use Rattle.lfs_dirs.specs.Reading.{entries_of}
use Rattle.lfs_calls.specs.Content.{IsDirectoryAt, Shows, all_entries, block_at, entries_below}
use Rattle.lfs_calls.proofs.Listings.{behind, entries_from, nothing_at_first, old_listed}
use Rattle.lfs_trace.specs.Alike.{AreListed}

module _ (d : Content) (v : World) (shown : Shows d v) (n : ℕ) (dir : IsDirectoryAt d n) where
  long : IsLength Directory (length (bytes_of d n))
  long =
      let g = some_and (map.get d n) (λ f. f.kind ≡ Directory) dir in
      subst (λ k. IsLength k (length (bytes_of d n))) g.holds
      (subst (λ bs. IsLength g.value.kind (length bs)) (sym (ap bytes_of_file g.is)) (shown.sizes n g.value g.is))

  pub dir_used : IsSome (map.get d n)
  dir_used = present (some_and (map.get d n) (λ f. f.kind ≡ Directory) dir).is

  pub dir_bounded : length (bytes_of d n) ≤ FILE_BYTES
  dir_bounded = long.0

  pub dir_whole : length (bytes_of d n) % 512 ≡ 0
  dir_whole = long.1

  pub dir_block : (k : ℕ) → k < length (bytes_of d n) / 512
      → IsDirectoryBlock (block_at (bytes_of d n) k) (entries_of (block_at (bytes_of d n) k))
  dir_block k within =
      let g = some_and (map.get d n) (λ f. f.kind ≡ Directory) dir in
      let bytes : bytes_of d n ≡ g.value.bytes = ap bytes_of_file g.is in
      subst (λ bs. IsDirectoryBlock (block_at bs k) (entries_of (block_at bs k))) (sym bytes)
      ((shown.listings n g.value g.is g.holds).blocks k (subst (λ bs. k < length bs / 512) bytes within))

-- ---- blocks

pub none_listed : (mine bytes : List ℕ) → AreListed mine (entries_below bytes 0)
none_listed mine bytes = subst (AreListed mine) (sym (nothing_at_first bytes))
    (All-nil (λ (e : Entry). number_in e.1 (all_entries mine) ≡ Some e.0))

below_next : (bytes : List ℕ) (k : ℕ) → entries_below bytes (k + 1) ≡ entries_below bytes k
    ++ entries_of (block_at bytes k)
unfolding entries_below
below_next bytes k = rw add-one refl

pub more_listed : (mine bytes : List ℕ) (k : ℕ) → AreListed mine (entries_below bytes k)
    → AreListed mine (entries_of (block_at bytes k)) → AreListed mine (entries_below bytes (k + 1))
more_listed mine bytes k before here = subst (AreListed mine) (sym (below_next bytes k))
    (All-append (λ (e : Entry). number_in e.1 (all_entries mine) ≡ Some e.0) (entries_below bytes k)
    (entries_of (block_at bytes k)) before here)

all_within : (mine : List ℕ) (xs ys : List Entry) → ((e : Entry) → Contains ys e → Contains xs e) → AreListed mine xs
    → AreListed mine ys
all_within mine xs ys within all =
    let Is = λ (e : Entry). number_in e.1 (all_entries mine) ≡ Some e.0 in
    All-weaker (Contains ys) Is (λ e h. All-contains Is xs e all (within e h)) ys (All-contains_itself ys)

-- where all are listed, those of a block are
pub block_listed : (mine bytes : List ℕ) (k : ℕ) → length bytes % 512 ≡ 0 → k < length bytes / 512
    → AreListed mine (all_entries bytes) → AreListed mine (entries_of (block_at bytes k))
block_listed mine bytes k whole within all =
    let block : List ℕ = replicate 512 0 in
    let before = entries_below bytes k in
    let here = entries_of (block_at bytes k) in
    let after = entries_from bytes (k + 1) (behind bytes k block refl whole (omega arith)) in
    all_within mine ((before ++ here) ++ after) here
    (λ e h. Contains-append_left (before ++ here) after e (Contains-append_right before here e h))
    (subst (AreListed mine) (old_listed bytes k block refl whole (omega arith)) all)

-- ---- entries

-- where all are listed, the next is
pub next_listed : (mine : List ℕ) (all done rest : List Entry) (e : Entry) → all ≡ done ++ e ∷ rest
    → AreListed mine all → number_in e.1 (all_entries mine) ≡ Some e.0
next_listed mine all done rest e is listed =
    All-contains (λ (x : Entry). number_in x.1 (all_entries mine) ≡ Some x.0) all e listed
    (subst (λ es. Contains es e) (sym is) (Contains-append_right done (e ∷ rest) e (Contains-append_left (e ∷ []) rest e
    (Contains-push [] e))))
