-- That names stand only where a table says that they may stays so: `placed_at` for all that changes the table or a
-- directory, with `put_keeps` where a spot was widened and `placed_spliced` where a block was put. Spots only ever
-- allow more, so what was allowed stays so; a name that is gone leaves its spot as it was, which is why a table is
-- dropped when it is full. A directory that is known has blocks, so bytes that are put behind its last one make it
-- longer by one.
use Rattle.std.proofs.Common.{◌≡◌, ◌≢◌, ℕ, ◌+◌, ◌-◌, ◌*◌, ◌<◌, ◌≤◌, ◌⊎◌, inl, inr, true, false, List, [], ◌∷◌, length, take, drop}
use Rattle.std.proofs.Common.{get_or, Option, None, Some, is_some, refl, sym, ap, subst, ◌∙◌, ⊎_elim, arith}
use Rattle.std.specs.Prelude.{IsSome, IfSome}
use Rattle.std.specs.FinMap as map
use Rattle.std.proofs.Math.ListN.{set}
use Rattle.std.proofs.lemmas.Bool.{cases_eq, cases_Bool}
use Rattle.std.proofs.lemmas.List.{get_or-set_same, get_or-set_other}
use Rattle.lfs_types.specs.Changes.{changed_at}
use Rattle.lfs_types.specs.Splicing.{splice}
use Rattle.lfs_types.specs.Stored.{bytes_of, bytes_of_file}
use Rattle.lfs_types.specs.Tree.{Content, File, file_of}
use Rattle.lfs_types.specs.declared.attrs.Attrs.{Attrs}
use Rattle.lfs_dirs.specs.Directory.{Entry, has_name, number_in}
use Rattle.lfs_dirs.proofs.Changes.{has_name-true, number_in-later, number_in-nil}
use Rattle.lfs_dirs.specs.Reading.{entries_of}
use Rattle.lfs_known.specs.Says.{SaysTheSame, kept_of, says}
use Rattle.lfs_known.specs.Spots.{Allows, ArePlaced, IsPlaced, MayStand, hash_of}
use Rattle.lfs_known.specs.declared.name_table.NameTable.{NameTable}
use Rattle.lfs_known.specs.declared.slots.Slots.{Slots}
use Rattle.lfs_known.specs.declared.spot.Spot.{Spot}
use Rattle.lfs_known.specs.declared.spot.Spot.TheVariants.{Anywhere}
use Rattle.lfs_known.proofs.FollowLemmas.{changed-others, kept_only}
use Rattle.lfs_known.proofs.FullLemmas.{changed-bytes}
use Rattle.lfs_known.proofs.PutLemmas.{length_put, stands_put}

-- spots allow what others allow
abbrev pub Keeps : List Spot → List Spot → Type 0
Keeps old new = (d : ℕ) (name : List ℕ) (j : ℕ) → MayStand old d name j → MayStand new d name j

-- ---- one spot

module _ (spots : List Spot) (slot : ℕ) (spot : Spot) (within : slot < length spots) where
  -- names of its hash may stand where the new spot allows it
  pub put_here : (dir : ℕ) (name : List ℕ) (k : ℕ) → slot ≡ hash_of dir name → Allows spot k
      → MayStand (set spots slot spot) dir name k
  unfolding MayStand
  put_here dir name k same may = subst (λ i. Allows (get_or (set spots slot spot) i Anywhere) k) same
      (subst (λ s. Allows s k) (sym (get_or-set_same spots slot spot Anywhere within)) may)

  -- and all names where they might, where it allows what the old one did
  pub put_keeps : ((j : ℕ) → Allows (get_or spots slot Anywhere) j → Allows spot j)
      → Keeps spots (set spots slot spot)
  unfolding MayStand
  put_keeps more d n j may = ⊎_elim
      (λ same. put_here d n j (sym same) (more j (subst (λ i. Allows (get_or spots i Anywhere) j) same may)))
      (λ apart. subst (λ s. Allows s j) (sym (get_or-set_other spots slot (hash_of d n) spot Anywhere apart)) may)
      (cases_eq (hash_of d n) slot)

-- a name may stand where the spot of its hash allows it
pub may_stand : (spots : List Spot) (dir : ℕ) (name : List ℕ) (k : ℕ) → MayStand spots dir name k
    → Allows (get_or spots (hash_of dir name) Anywhere) k
unfolding MayStand
may_stand spots dir name k may = may

none_of : (o : Option ℕ) → (IsSome o → ⊥) → o ≡ None
none_of None h = refl
none_of (Some n) h = absurd (h refl)

-- a directory that is known lists no name in a block where it may not stand
pub absent : (table : NameTable) (c : Content) (dir : ℕ) (name : List ℕ) (k : ℕ) → is_some (says table.whole dir) ≡ true
    → ArePlaced table c → (Allows (get_or table.spots.items (hash_of dir name) Anywhere) k → ⊥)
    → number_in name (entries_of (take 512 (drop (512 * k) (bytes_of c dir)))) ≡ None
absent table c dir name k known placed apart = at (says table.whole dir) refl where
  at : (o : Option ℕ) → says table.whole dir ≡ o
      → number_in name (entries_of (take 512 (drop (512 * k) (bytes_of c dir)))) ≡ None
  at None e = absurd (let none : is_some (says table.whole dir) ≡ false = ap is_some e in cc)
  at (Some blocks) e = none_of _
      (λ stands. apart (may_stand table.spots.items dir name k ((placed dir blocks e).stands name k stands)))

-- ---- the names of a block

-- each name of entries is among those that are left, or may stand in a block
abbrev pub AreEntered : List Spot → ℕ → ℕ → List Entry → List Entry → Type 0
AreEntered spots dir k es left =
    (name : List ℕ) → IsSome (number_in name es) → IsSome (number_in name left) ⊎ MayStand spots dir name k

-- all are left at first
pub entered_first : (spots : List Spot) (dir k : ℕ) (es left : List Entry) → left ≡ es → AreEntered spots dir k es left
entered_first spots dir k es left same name some = inl (subst (λ x. IsSome (number_in name x)) (sym same) some)

-- the next one was entered
pub entered_next : (old new : List Spot) (dir k : ℕ) (es left rest : List Entry) (e : Entry) → left ≡ e ∷ rest
    → Keeps old new → MayStand new dir e.1 k → AreEntered old dir k es left → AreEntered new dir k es rest
entered_next old new dir k es left rest e steps keeps here was name some = ⊎_elim
    (λ left_some.
    let more : IsSome (number_in name (e ∷ rest)) = subst (λ x. IsSome (number_in name x)) steps left_some in
    ⊎_elim
    (λ t. inr (subst (λ n. MayStand new dir n k) (has_name-true name e t) here))
    (λ f. inl (subst IsSome (number_in-later name e rest f) more))
    (cases_Bool (has_name name e)))
    (λ may. inr (keeps dir name k may))
    (was name some)

-- none are left at last
pub entered_all : (spots : List Spot) (dir k : ℕ) (es left : List Entry) → left ≡ []
    → AreEntered spots dir k es left → (name : List ℕ) → IsSome (number_in name es) → MayStand spots dir name k
entered_all spots dir k es left none was name some = ⊎_elim
    (λ left_some.
    let no : number_in name left ≡ None = ap (number_in name) none ∙ number_in-nil name in
    absurd (cc))
    (λ may. may)
    (was name some)

-- ---- a directory's bytes

-- its names are placed, where spots allow what others allow
pub placed_more : (old new : List Spot) (dir : ℕ) (bytes : List ℕ) (blocks : ℕ) → Keeps old new
    → IsPlaced old dir bytes blocks → IsPlaced new dir bytes blocks
placed_more old new dir bytes blocks keeps was = record {
  long = was.long;
  stands = λ name k stands. keeps dir name k (was.stands name k stands);
}

-- and where a block was put, whose names were entered
pub placed_spliced : (old new : List Spot) (dir : ℕ) (bytes : List ℕ) (blocks now k off : ℕ) (block : List ℕ)
    → length block ≡ 512 → off ≡ 512 * k → k ≤ blocks
    → 512 * k + 512 + (512 * blocks - (512 * k + 512)) ≡ 512 * now
    → Keeps old new
    → ((name : List ℕ) → IsSome (number_in name (entries_of block)) → MayStand new dir name k)
    → IsPlaced old dir bytes blocks → IsPlaced new dir (splice bytes off block) now
placed_spliced old new dir bytes blocks now k off block size at_k low count keeps names was = record {
  long = length_put bytes k off block size at_k within ∙ omega (arith, was.long, count);
  stands = λ name j stands. ⊎_elim
      (λ before. keeps dir name j (was.stands name j before))
      (λ put. subst (MayStand new dir name) (sym put.0) (names name put.1))
      (stands_put bytes k off block size at_k within name j stands);
} where
  within : 512 * k ≤ length bytes
  within = omega (arith, was.long, low)

-- ---- a table

module _ (old new : NameTable) (dir : ℕ) (c after : Content) (others : SaysTheSame old.whole new.whole dir)
    (keeps : Keeps old.spots.items new.spots.items) where
  -- what is known of directories is so, where a change touches one alone and it is so there
  pub placed_at : ((q : ℕ) → q ≢ dir → map.get after q ≡ map.get c q)
      → ((blocks : ℕ) → says new.whole dir ≡ Some blocks → IsPlaced new.spots.items dir (bytes_of after dir) blocks)
      → ArePlaced old c → ArePlaced new after
  placed_at kept here was d blocks said = ⊎_elim
      (λ same. subst (λ x. IsPlaced new.spots.items x (bytes_of after x) blocks) (sym same)
      (here blocks (sym (ap (says new.whole) same) ∙ said)))
      (λ apart. subst (λ o. IsPlaced new.spots.items d (bytes_of_file o) blocks) (sym (kept d apart))
      (placed_more old.spots.items new.spots.items d (bytes_of c d) blocks keeps
      (was d blocks (sym (others d apart) ∙ said))))
      (cases_eq d dir)

  -- so where nothing is known of it any more
  pub placed_forgotten : says new.whole dir ≡ None → ((q : ℕ) → q ≢ dir → map.get after q ≡ map.get c q)
      → ArePlaced old c → ArePlaced new after
  placed_forgotten forgotten kept = placed_at kept (λ blocks said. absurd (cc))

-- what is known stays so, where spots allow more
pub placed_wider : (old new : NameTable) (c : Content) → new.whole ≡ old.whole → Keeps old.spots.items new.spots.items
    → ArePlaced old c → ArePlaced new c
placed_wider old new c same keeps was d blocks said =
    placed_more old.spots.items new.spots.items d (bytes_of c d) blocks keeps
    (was d blocks (ap (λ (w : Slots ℕ). says w d) (sym same) ∙ said))

-- attributes leave bytes
pub placed_attrs : (table : NameTable) (ino : ℕ) (attrs : Attrs) (c : Content) → ArePlaced table c
    → ArePlaced table (changed_at (map.get c ino) ino (λ f. file_of attrs f.bytes) c)
placed_attrs table ino attrs c was = placed_at table table ino c _ (λ n apart. refl) (λ d name j may. may)
    (changed-others c ino (map.get c ino) (λ f. file_of attrs f.bytes))
    (λ blocks said. changed-bytes c ino (λ f. file_of attrs f.bytes)
    (λ bytes. IsPlaced table.spots.items ino bytes blocks)
    (λ f e. subst (λ o. IsPlaced table.spots.items ino (bytes_of_file o) blocks) e (was ino blocks said))
    (λ e. subst (λ o. IsPlaced table.spots.items ino (bytes_of_file o) blocks) e (was ino blocks said)))
    was

-- what is said of a directory into which bytes were put
abbrev pub IsPut : NameTable → NameTable → ℕ → ℕ → List ℕ → ℕ → Type 0
IsPut old new ino off bytes now = (blocks : ℕ) × ((says old.whole ino ≡ Some blocks) × (0 < blocks)
    × ((was : List ℕ) → IsPlaced old.spots.items ino was blocks
    → IsPlaced new.spots.items ino (splice was off bytes) now))

-- bytes were put into a file
pub placed_put : (old new : NameTable) (ino : ℕ) (c : Content) (off : ℕ) (bytes : List ℕ)
    → SaysTheSame old.whole new.whole ino → Keeps old.spots.items new.spots.items
    → IfSome (says new.whole ino) (IsPut old new ino off bytes)
    → ArePlaced old c → ArePlaced new (changed_at (map.get c ino) ino
    (λ f. record f { bytes = splice f.bytes off bytes }) c)
placed_put old new ino c off bytes others keeps known was = placed_at old new ino c _ others keeps
    (changed-others c ino (map.get c ino) put)
    (λ now said.
    let is : IsPut old new ino off bytes now = subst (λ o. IfSome o (IsPut old new ino off bytes)) said known in
    let here : IsPlaced old.spots.items ino (bytes_of c ino) is.0 = was ino is.0 is.1.0 in
    changed-bytes c ino put (λ bs. IsPlaced new.spots.items ino bs now)
    (λ f e. is.1.2 f.bytes (subst (λ o. IsPlaced old.spots.items ino (bytes_of_file o) is.0) e here))
    (λ e.
    let none : IsPlaced old.spots.items ino [] is.0 =
    subst (λ o. IsPlaced old.spots.items ino (bytes_of_file o) is.0) e here in
    absurd (let some = is.1.1 in let long = none.long in omega arith)))
    was where
      put : File → File
      put f = record f { bytes = splice f.bytes off bytes }

-- a block was put, behind the last one or over another, and its names were entered
pub is_put : (old : NameTable) (spots : List Spot) (whole : Slots ℕ) (ino off blocks now k : ℕ) (block : List ℕ)
    → says whole ino ≡ kept_of ino (Some now) → says old.whole ino ≡ Some blocks → 0 < blocks → length block ≡ 512
    → off ≡ 512 * k → k ≤ blocks → 512 * k + 512 + (512 * blocks - (512 * k + 512)) ≡ 512 * now
    → Keeps old.spots.items spots
    → ((name : List ℕ) → IsSome (number_in name (entries_of block)) → MayStand spots ino name k)
    → IfSome (says whole ino) (λ n. (x : ℕ) × ((says old.whole ino ≡ Some x) × (0 < x)
    × ((was : List ℕ) → IsPlaced old.spots.items ino was x → IsPlaced spots ino (splice was off block) n)))
is_put old spots whole ino off blocks now k block entered said some size at_k low count keeps names =
    at (says whole ino) refl where
      at : (o : Option ℕ) → says whole ino ≡ o → IfSome o (λ n. (x : ℕ) × ((says old.whole ino ≡ Some x) × (0 < x)
          × ((was : List ℕ) → IsPlaced old.spots.items ino was x → IsPlaced spots ino (splice was off block) n)))
      at None e = tt
      at (Some b) e =
          let same : Some now ≡ Some b = kept_only ino (Some now) b (sym entered ∙ e) in
          let one : now ≡ b = cc in (
            blocks,
            (
              said,
              some,
              λ was is. subst (IsPlaced spots ino (splice was off block)) one
                  (placed_spliced old.spots.items spots ino was blocks now k off block size at_k low count keeps names is),
            ),
          )
