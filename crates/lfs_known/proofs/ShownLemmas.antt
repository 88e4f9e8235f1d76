-- What a cache of attributes says stays what the content shows: `shown_made`, `shown_removed`, `shown_mapped` and
-- `shown_within`, for `follow_one`. A change touches one number, so what is said of the others stays (`shown_put`), and
-- of its own it says the changed attributes or nothing. Bytes put within a file leave its size (`length-within`), so
-- nothing need be changed then; an attribute that such a Put changed, like a time, would have to be followed.
use Rattle.std.proofs.Common.{◌≡◌, ◌≢◌, ℕ, ◌+◌, ◌≤◌, List, [], ◌∷◌, length, Option, None, Some, refl, sym, ap, subst}
use Rattle.std.proofs.Common.{◌∙◌, arith}
use Rattle.std.specs.Prelude.{IfSome, option_map}
use Rattle.std.specs.FinMap as map
use Rattle.lfs_types.specs.Changes.{changed_at}
use Rattle.lfs_types.specs.Splicing.{splice}
use Rattle.lfs_types.specs.Stored.{shown_attrs}
use Rattle.lfs_types.specs.Tree.{Content, File, attrs_of, file_of}
use Rattle.lfs_types.specs.declared.attrs.Attrs.{Attrs}
use Rattle.lfs_types.proofs.Maps.{get-insert_other, get-insert_same, get-remove_other}
use Rattle.lfs_types.proofs.Pieces.{length-put_over, splice-put_over}
use Rattle.lfs_known.specs.Says.{SaysTheSame, kept_of, says}
use Rattle.lfs_known.specs.declared.slots.Slots.{Slots}
use Rattle.lfs_known.proofs.FollowLemmas.{changed-others, kept_only, true_put}
use Rattle.lfs_known.specs.Shown.{AreShown}

-- what is said after the slot of a number was put is shown, where a change touches that number alone and shows there
-- what is said of it
pub shown_put : (old new : Slots Attrs) (ino : ℕ) (c after : Content) → SaysTheSame old new ino
    → ((q : ℕ) → q ≢ ino → map.get after q ≡ map.get c q)
    → ((a : Attrs) → says new ino ≡ Some a → shown_attrs after ino ≡ Some a)
    → AreShown old c → AreShown new after
shown_put = true_put (λ o a. option_map attrs_of o ≡ Some a)

module _ (c : Content) (ino : ℕ) where
  -- a change at a number shows there what the changed file shows
  pub changed-shown : (change : File → File) (a b : Attrs) → ((f : File) → attrs_of f ≡ a → attrs_of (change f) ≡ b)
      → shown_attrs c ino ≡ Some a → shown_attrs (changed_at (map.get c ino) ino change c) ino ≡ Some b
  changed-shown change a b by = at (map.get c ino) where
    at : (o : Option File) → option_map attrs_of o ≡ Some a → shown_attrs (changed_at o ino change c) ino ≡ Some b
    at None h = absurd (cc)
    at (Some f) h = ap (option_map attrs_of) (get-insert_same c ino (change f)) ∙ ap Some (by f (cc))

-- bytes put within others leave their length
pub length-within : (old : List ℕ) (off : ℕ) (bytes : List ℕ) → off + length bytes ≤ length old
    → length (splice old off bytes) ≡ length old
length-within old off [] within = refl
length-within old off (b ∷ bs) within = ap (λ (x : List ℕ). length x)
    (splice-put_over old off (b ∷ bs) (omega arith) (omega arith)) ∙ length-put_over old off (b ∷ bs) (omega arith)
    ∙ omega arith

-- what something known becomes was made of it
mapped : (g : Attrs → Attrs) (b : Attrs) (o : Option Attrs) → option_map g o ≡ Some b → (a : Attrs) × (o ≡ Some a)
    × (g a ≡ b)
mapped g b None h = absurd (cc)
mapped g b (Some a) h = (a, refl, cc)

module _ (old new : Slots Attrs) (ino : ℕ) (c : Content) (others : SaysTheSame old new ino) where
  -- a number got an empty file
  pub shown_made : (attrs : Attrs) → says new ino ≡ kept_of ino (Some (record attrs { size = 0 })) → AreShown old c
      → AreShown new (map.insert c ino (file_of attrs []))
  shown_made attrs put = shown_put old new ino c _ others (get-insert_other c ino (file_of attrs []))
      (λ a h. ap (option_map attrs_of) (get-insert_same c ino (file_of attrs []))
      ∙ kept_only ino (Some (record attrs { size = 0 })) a (sym put ∙ h))

  -- a number became free
  pub shown_removed : says new ino ≡ None → AreShown old c → AreShown new (map.remove c ino)
  shown_removed forgotten = shown_put old new ino c _ others (get-remove_other c ino) (λ a h. absurd (cc))

  -- a file was changed
  pub shown_changed : (change : File → File)
      → ((b : Attrs) → says new ino ≡ Some b → (a : Attrs) × (says old ino ≡ Some a)
      × ((f : File) → attrs_of f ≡ a → attrs_of (change f) ≡ b))
      → AreShown old c → AreShown new (changed_at (map.get c ino) ino change c)
  shown_changed change by was = shown_put old new ino c _ others (changed-others c ino (map.get c ino) change)
      (λ b h. let is = by b h in changed-shown c ino change is.0 b is.2 (was ino is.0 is.1)) was

  -- so where what is known of it was changed
  pub shown_mapped : (change : File → File) (g : Attrs → Attrs) → ((f : File) → attrs_of (change f) ≡ g (attrs_of f))
      → says new ino ≡ kept_of ino (option_map g (says old ino))
      → AreShown old c → AreShown new (changed_at (map.get c ino) ino change c)
  shown_mapped change g by put = shown_changed change
      (λ b h. let was = mapped g b (says old ino) (kept_only ino _ b (sym put ∙ h)) in
      (was.0, was.1, λ f e. by f ∙ ap g e ∙ was.2))

  -- and where bytes were put within it
  pub shown_within : (off : ℕ) (bytes : List ℕ)
      → IfSome (says new ino) (λ a. (says old ino ≡ Some a) × (off + length bytes ≤ a.size))
      → AreShown old c → AreShown new (changed_at (map.get c ino) ino
      (λ f. record f { bytes = splice f.bytes off bytes }) c)
  shown_within off bytes within = shown_changed (λ f. record f { bytes = splice f.bytes off bytes })
      (λ b h.
      let is : (says old ino ≡ Some b) × (off + length bytes ≤ b.size) =
      subst (λ o. IfSome o (λ a. (says old ino ≡ Some a) × (off + length bytes ≤ a.size))) h within in (
        b,
        is.0,
        λ f e.
            let size : length f.bytes ≡ b.size = ap (λ (x : Attrs). x.size) e in
            ap (λ n. record (attrs_of f) { size = n }) (length-within f.bytes off bytes (omega (arith, is.1, size)))
            ∙ e,
      ))
