-- The test of the grammar, from the first entry on: `lists_behind`, `lists_before`, `lists_end` and `zeros_at_end`, for
-- the loop of `is_directory_block`. Bytes are a block of entries just where the first entry is one, no later one has
-- its name, and the bytes behind it are such a block again; at the end of the entries there must be zeros. Bytes that
-- spell a list spell its first entry at their front, so what is behind is the same however it is read
-- (`append_cancel_left`).
use Rattle.std.proofs.Common.{◌≡◌, ℕ, List, [], ◌∷◌, length, replicate, false, Option, None, Some, refl, sym, ◌∙◌}
use Rattle.std.proofs.Common.{subst}
use Rattle.std.specs.Prelude.{All, is_some}
use Rattle.std.proofs.lemmas.List.{append_cancel_left, ext_get_or, length-replicate, get_or-replicate}
use Rattle.std.proofs.lemmas.List.Elements.{All-replicate, All-same}
use Rattle.lfs_types.specs.Naming.{name_fault}
use Rattle.lfs_dirs.specs.Directory.{Entry, entry_bytes, number_in, IsEntry, AreEntries, Spells}
use Rattle.lfs_dirs.specs.Reading.{StandsFirst, entries_of}

-- the bytes are the entries that are read from them, and zeros
pub record Lists (bytes : List ℕ) : Type 0 where
  pub entries : AreEntries (entries_of bytes)
  pub spelled : Spells bytes (entries_of bytes)

-- what holds of the bytes holds of those behind the first entry
pub lists_behind : (bytes : List ℕ) (e : Entry) (rest : List ℕ) → StandsFirst bytes e rest → Lists bytes
    → IsEntry e × (number_in e.1 (entries_of rest) ≡ None) × Lists rest
lists_behind bytes e rest first lists =
    let entries : AreEntries (e ∷ entries_of rest) = subst AreEntries first.read lists.entries in
    let P : List Entry → Type 0 = λ es. Spells bytes es in
    let spelled : Spells bytes (e ∷ entries_of rest) = subst P first.read lists.spelled in
    let same : spelled.0 ≡ rest = append_cancel_left (entry_bytes e) spelled.0 rest (sym spelled.1 ∙ first.spelled) in
    let Q : List ℕ → Type 0 = λ xs. Spells xs (entries_of rest) in
    (entries.0, entries.1, record { entries = entries.2; spelled = subst Q same spelled.2 })

-- and the other way round
pub lists_before : (bytes : List ℕ) (e : Entry) (rest : List ℕ) → StandsFirst bytes e rest
    → name_fault e.1 ≡ None → number_in e.1 (entries_of rest) ≡ None → Lists rest → Lists bytes
lists_before bytes e rest first named absent lists =
    let P : List Entry → Type 0 = λ es. Spells bytes es in
    let entry : IsEntry e = record { above = first.above; fits = first.fits; named = named } in
    record {
      entries = subst AreEntries (sym first.read) (entry, absent, lists.entries);
      spelled = subst P (sym first.read) (rest, first.spelled, lists.spelled);
    }

zeros_from_All : (bytes : List ℕ) → All (λ b. b ≡ 0) bytes → bytes ≡ replicate (length bytes) 0
zeros_from_All bytes h =
    ext_get_or 0 bytes (replicate (length bytes) 0) (sym (length-replicate (length bytes) 0))
    (λ i lt. h i 0 lt ∙ sym (get_or-replicate (length bytes) i 0 0 lt))

-- at the end of the entries there are zeros
pub lists_end : (bytes : List ℕ) → entries_of bytes ≡ [] → All (λ b. b ≡ 0) bytes → Lists bytes
lists_end bytes none zeros =
    let P : List Entry → Type 0 = λ es. Spells bytes es in
    record { entries = subst AreEntries (sym none) tt; spelled = subst P (sym none) (zeros_from_All bytes zeros) }

pub zeros_at_end : (bytes : List ℕ) → entries_of bytes ≡ [] → Lists bytes → All (λ b. b ≡ 0) bytes
zeros_at_end bytes none lists =
    let P : List Entry → Type 0 = λ es. Spells bytes es in
    let zeros : bytes ≡ replicate (length bytes) 0 = subst P none lists.spelled in
    All-same (λ b. b ≡ 0) bytes (replicate (length bytes) 0) zeros (All-replicate (λ b. b ≡ 0) (length bytes) 0 refl)

pub none_from_is_some : {X : Type 0} (o : Option X) → false ≡ is_some o → o ≡ None
none_from_is_some None h = refl
none_from_is_some (Some x) h = absurd (cc)
