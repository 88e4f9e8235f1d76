-- Where names stand in directories' blocks behind a call's changes, for the table that follows them: `stands_made` for
-- `gives_name`, `stands_taken` for `loses_name`, `stands_moved` and `stands_swapped` for a Rename. A block that is put has
-- the names of the one that it replaces, but for one that is given; where it lists another besides, the table would miss
-- that one. A file that is new, or gone, has no bytes, which list no name.
use Rattle.std.proofs.Common.{◌≡◌, ℕ, zero, suc, ◌*◌, ◌/◌, ◌≤◌, ◌⊎◌, inl, inr, List, [], ◌∷◌, ◌++◌, length, take, drop}
use Rattle.std.proofs.Common.{Option, None, Some, refl, sym, ap, subst, ◌∙◌, ⊎_elim, arith}
use Rattle.std.specs.Prelude.{IsSome}
use Rattle.std.specs.FinMap as map
use Rattle.std.proofs.lemmas.Bool.{cases_eq, cases_Bool}
use Rattle.lfs_types.specs.Splicing.{splice}
use Rattle.lfs_types.specs.Stored.{bytes_of, bytes_of_file}
use Rattle.lfs_types.specs.Tree.{Content, File}
use Rattle.lfs_types.proofs.Maps.{get-remove_same, get-remove_other}
use Rattle.lfs_dirs.specs.Directory.{Entry, has_name, number_in, renumbered, without}
use Rattle.lfs_dirs.specs.Reading.{entries_at, entries_of}
use Rattle.lfs_dirs.proofs.Changes.{has_name-false, has_name-true, number_in-added_other, number_in-nil}
use Rattle.lfs_dirs.proofs.Changes.{number_in-renumbered_other, number_in-without, number_in-without_other}
use Rattle.lfs_known.specs.Spots.{StandsAt, StandsBesides}
use Rattle.lfs_known.proofs.FollowLemmas.{changed-others}
use Rattle.lfs_known.proofs.FullLemmas.{changed-bytes}
use Rattle.lfs_known.proofs.PutLemmas.{stands_put}
use Rattle.lfs_calls.specs.Content.{block_at}
use Rattle.lfs_calls.specs.Makes.{IsRoom, MakesFile}
use Rattle.lfs_calls.specs.Removes.{IsTaking, TakesFile}
use Rattle.lfs_calls.specs.Renames.{IsSwap, WritesBlocks, block_put}
use Rattle.lfs_calls.specs.declared.directory.DirBlock.{DirBlock}

-- ---- names of entries

-- an entry more lists its name besides
names_added : (n name : List ℕ) (number : ℕ) (es : List Entry) → IsSome (number_in n (es ++ (number, name) ∷ []))
    → IsSome (number_in n es) ⊎ (n ≡ name)
names_added n name number es some = ⊎_elim
    (λ t. inr (sym (has_name-true n (number, name) t)))
    (λ f. inl (subst IsSome (number_in-added_other n (number, name) es (has_name-false n (number, name) f)) some))
    (cases_Bool (has_name n (number, name)))

-- entries without a name list no other
names_taken : (n name : List ℕ) (es : List Entry) → IsSome (number_in n (without name es)) → IsSome (number_in n es)
names_taken n name es some = ⊎_elim
    (λ t.
    let none : number_in n (without name es) ≡ None =
    subst (λ x. number_in n (without x es) ≡ None) (sym (has_name-true n (0, name) t)) (number_in-without n es) in
    absurd (cc))
    (λ f. subst IsSome (number_in-without_other name n es (has_name-false n (0, name) f)) some)
    (cases_Bool (has_name n (0, name)))

-- nor with another number for a name
names_swapped : (n name : List ℕ) (number : ℕ) (es : List Entry) → IsSome (number_in name es)
    → IsSome (number_in n (renumbered name number es)) → IsSome (number_in n es)
names_swapped n name number es listed some = ⊎_elim
    (λ t. subst (λ x. IsSome (number_in x es)) (has_name-true n (0, name) t) listed)
    (λ f. subst IsSome (number_in-renumbered_other name n number es (has_name-false n (0, name) f)) some)
    (cases_Bool (has_name n (0, name)))

-- ---- blocks

drop-nil : (n : ℕ) → drop {A = ℕ} n [] ≡ []
drop-nil zero = refl
drop-nil (suc n) = refl

take-nil : (n : ℕ) → take {A = ℕ} n [] ≡ []
take-nil zero = refl
take-nil (suc n) = refl

entries_of-nil : entries_of [] ≡ []
unfolding entries_of entries_at
entries_of-nil = refl

some_none : (o : Option ℕ) → o ≡ None → IsSome o → ⊥
some_none o e some = absurd (cc)

-- no bytes list no name
none_stands : (n : List ℕ) (j : ℕ) → StandsAt [] n j → ⊥
none_stands n j stands = some_none (number_in n (entries_of (take 512 (drop (512 * j) []))))
    (ap (λ bs. number_in n (entries_of (take 512 bs))) (drop-nil (512 * j))
    ∙ ap (λ bs. number_in n (entries_of bs)) (take-nil 512) ∙ ap (number_in n) entries_of-nil ∙ number_in-nil n)
    stands

-- a block that is put over one of a directory's bytes lists the names of that one, and new ones
abbrev Names : (List ℕ → Type 0) → ℕ → DirBlock → List ℕ → Type 0
Names New k room bytes = (n : List ℕ) → IsSome (number_in n (entries_of room.block))
    → IsSome (number_in n (entries_of (block_at bytes k))) ⊎ New n

module _ (New : List ℕ → Type 0) (k : ℕ) (room : DirBlock) (size : length room.block ≡ 512) (at_k : room.off ≡ 512 * k) where
  -- names stand where they stood, or are new
  stands_in : (bytes : List ℕ) → 512 * k ≤ length bytes → Names New k room bytes → (n : List ℕ) (j : ℕ)
      → StandsAt (splice bytes room.off room.block) n j → StandsAt bytes n j ⊎ (New n × (j ≡ k))
  stands_in bytes within names n j stands = ⊎_elim
      (λ before. inl before)
      (λ put. ⊎_elim
      (λ was. inl (subst (StandsAt bytes n) (sym put.0) was))
      (λ new. inr (new, put.0))
      (names n put.1))
      (stands_put bytes k room.off room.block size at_k within n j stands)

  -- in a content too
  stands_block : (c : Content) (dir : ℕ) → 512 * k ≤ length (bytes_of c dir) → Names New k room (bytes_of c dir)
      → (d : ℕ) (n : List ℕ) (j : ℕ) → StandsAt (bytes_of (block_put dir room c) d) n j
      → StandsAt (bytes_of c d) n j ⊎ ((d ≡ dir) × New n × (j ≡ k))
  stands_block c dir within names d n j stands = ⊎_elim
      (λ same. subst (λ x. StandsAt (bytes_of c x) n j ⊎ ((x ≡ dir) × New n × (j ≡ k))) (sym same)
      (here (subst (λ x. StandsAt (bytes_of (block_put dir room c) x) n j) same stands)))
      (λ apart. inl (subst (λ o. StandsAt (bytes_of_file o) n j)
      (changed-others c dir (map.get c dir) put d apart) stands))
      (cases_eq d dir)
    where
      put : File → File
      put f = record f { bytes = splice f.bytes room.off room.block }

      here : StandsAt (bytes_of (block_put dir room c) dir) n j
          → StandsAt (bytes_of c dir) n j ⊎ ((dir ≡ dir) × New n × (j ≡ k))
      here = changed-bytes c dir put
          (λ bs. StandsAt bs n j → StandsAt (bytes_of c dir) n j ⊎ ((dir ≡ dir) × New n × (j ≡ k)))
          (λ f e stood. ⊎_elim
          (λ was. inl was)
          (λ new. inr (refl, new.0, new.1))
          (stands_in (bytes_of c dir) within names n j
          (subst (λ bs. StandsAt (splice bs room.off room.block) n j) (sym (ap bytes_of_file e)) stood)))
          (λ e none. absurd (none_stands n j none))

-- ---- a name that is made, or taken away

module _ (c after : Content) (number dir : ℕ) (name : List ℕ) (room : DirBlock) (k : ℕ) (f : File)
    (stored : map.get c dir ≡ Some f) where
  abbrev bytes : List ℕ
  bytes = bytes_of c dir

  -- a file has no bytes then, the directory has the block, and the others stay
  stands_changed : (New : List ℕ → Type 0) → length room.block ≡ 512 → room.off ≡ 512 * k → 512 * k ≤ length bytes
      → Names New k room bytes → bytes_of after number ≡ []
      → ((g : File) → map.get c dir ≡ Some g → map.get after dir
      ≡ Some (record g { bytes = splice g.bytes room.off room.block }))
      → ((q : ℕ) → (q ≡ number → ⊥) → (q ≡ dir → ⊥) → map.get after q ≡ map.get c q)
      → (d : ℕ) (n : List ℕ) (j : ℕ) → StandsAt (bytes_of after d) n j
      → StandsAt (bytes_of c d) n j ⊎ ((d ≡ dir) × New n × (j ≡ k))
  stands_changed New size at_k within names empty listed others d n j stands = ⊎_elim
      (λ same. absurd (none_stands n j (subst (λ bs. StandsAt bs n j) (ap (bytes_of after) same ∙ empty) stands)))
      (λ other. ⊎_elim
      (λ here. ⊎_elim
      (λ was. inl (subst (λ x. StandsAt (bytes_of c x) n j) (sym here) was))
      (λ new. inr (here, new.0, new.1))
      (stands_in New k room size at_k bytes within names n j (subst (λ bs. StandsAt bs n j)
      (ap (bytes_of after) here ∙ ap bytes_of_file (listed f stored)
      ∙ ap (λ o. splice (bytes_of_file o) room.off room.block) (sym stored)) stands)))
      (λ apart. inl (subst (λ o. StandsAt (bytes_of_file o) n j) (others d other apart) stands))
      (cases_eq d dir))
      (cases_eq d number)

  -- behind a Create the new name alone may stand where it didn't
  pub stands_made : (file : File) → file.bytes ≡ [] → IsRoom bytes number name room k
      → MakesFile c after number file dir room.off room.block → StandsBesides c after dir name (room.off / 512)
  stands_made file empty fits makes d n j stands =
      let is : k ≡ room.off / 512 = omega (arith, fits.off) in
      subst (λ i. StandsAt (bytes_of c d) n j ⊎ ((d ≡ dir) × (n ≡ name) × (j ≡ i))) is
      (stands_changed (λ x. x ≡ name) fits.block.size fits.off (omega (arith, fits.within))
      (λ x some. names_added x name number (entries_of (block_at bytes k))
      (subst (λ es. IsSome (number_in x es)) fits.adds some))
      (ap bytes_of_file makes.made ∙ empty) makes.listed makes.others d n j stands)

  -- behind a removal none
  pub stands_taken : IsTaking bytes name room k → TakesFile c after number dir room.off room.block
      → StandsBesides c after dir name (room.off / 512)
  stands_taken taking takes d n j stands = ⊎_elim
      (λ was. inl was)
      (λ new. absurd new.1)
      (stands_changed (λ x. ⊥) taking.block.size taking.off (omega (arith, taking.within))
      (λ x some. inl (names_taken x name (entries_of (block_at bytes k))
      (subst (λ es. IsSome (number_in x es)) taking.takes some)))
      (ap bytes_of_file takes.gone) takes.listed takes.others d n j stands)

-- ---- a Rename

module _ (c after : Content) (p q n : ℕ) (taken room : DirBlock) (old new : List ℕ) (kt k : ℕ)
    (taking : IsTaking (bytes_of c p) old taken kt) where
  -- where the block is written without the old name, names stand where they stood
  stands_left : (d : ℕ) (x : List ℕ) (j : ℕ) → StandsAt (bytes_of (block_put p taken c) d) x j
      → StandsAt (bytes_of c d) x j
  stands_left d x j stands = ⊎_elim
      (λ was. was)
      (λ none. absurd none.1)
      (stands_block (λ y. ⊥) kt taken taking.block.size taking.off c p (omega (arith, taking.within))
      (λ y some. inl (names_taken y old (entries_of (block_at (bytes_of c p) kt))
      (subst (λ es. IsSome (number_in y es)) taking.takes some)))
      d x j stands)

  -- to a place that was free
  pub stands_moved : IsRoom (bytes_of (block_put p taken c) q) n new room k
      → WritesBlocks c after p taken q room None
      → StandsBesides c after q new (room.off / 512)
  stands_moved fits writes d x j stands =
      let mid = block_put p taken c in
      let is : k ≡ room.off / 512 = omega (arith, fits.off) in
      ⊎_elim
      (λ left. inl (stands_left d x j left))
      (λ it. inr (it.0, it.1, it.2 ∙ is))
      (stands_block (λ y. y ≡ new) k room fits.block.size fits.off mid q (omega (arith, fits.within))
      (λ y some. names_added y new n (entries_of (block_at (bytes_of mid q) k))
      (subst (λ es. IsSome (number_in y es)) fits.adds some))
      d x j (subst (λ o. StandsAt (bytes_of_file o) x j) (writes d) stands))

  -- or in that of another row, which is gone
  pub stands_swapped : (gone : ℕ) → IsSwap (bytes_of (block_put p taken c) q) new n room k
      → WritesBlocks c after p taken q room (Some gone) → StandsBesides c after q new (room.off / 512)
  stands_swapped gone swap swaps d x j stands = ⊎_elim
      (λ same. absurd (none_stands x j (subst (λ o. StandsAt (bytes_of_file o) x j)
      (swaps d ∙ ap (map.get both_removed) same ∙ get-remove_same both gone) stands)))
      (λ apart. ⊎_elim
      (λ left. inl (stands_left d x j left))
      (λ none. absurd none.1)
      (stands_block (λ y. ⊥) k room swap.block.size swap.off mid q (omega (arith, swap.within))
      (λ y some. inl (names_swapped y new n (entries_of (block_at (bytes_of mid q) k)) swap.listed
      (subst (λ es. IsSome (number_in y es)) swap.swaps some)))
      d x j (subst (λ o. StandsAt (bytes_of_file o) x j) (swaps d ∙ get-remove_other both gone d apart) stands)))
      (cases_eq d gone)
    where
      mid : Content
      mid = block_put p taken c

      both : Content
      both = block_put q room mid

      both_removed : Content
      both_removed = map.remove both gone
