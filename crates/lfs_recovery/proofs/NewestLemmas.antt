-- A table that has the newest of some records has that of one record more once it is noted (`noted_more`), and of those
-- of a block more (`places_in`).
use Rattle.std.proofs.Common.{◌≡◌, ◌≢◌, ℕ, suc, ◌+◌, ◌<◌, true, false, ◌==◌, List, [], ◌∷◌}
use Rattle.std.proofs.Common.{◌++◌, Option, Some, None}
use Rattle.std.proofs.Common.{if◌then◌else◌, append_assoc, option_map, length, get_or, set, replicate, refl, sym, ap}
use Rattle.std.proofs.Common.{◌∙◌, ⊎_elim, arith}
use Rattle.std.proofs.lemmas.Bool.Decides.{eqb_tells}
use Rattle.std.proofs.lemmas.List.{get_or-replicate, get_or-set_other, get_or-set_same, length-replicate, length-set}
use Rattle.lfs_inodes.specs.declared.inode.Inode.{Inode}
use Rattle.lfs_inodes.specs.Reading.{fields_in, fields_of}
use Rattle.lfs_inodes.specs.Slots.{slot_of}
use Rattle.lfs_segments.specs.Memory.{SegmentMemory, block_at}
use Rattle.lfs_recovery.specs.declared.places.RecordPlace.{RecordPlace}
use Rattle.lfs_recovery.specs.Course.{Course, at_inodes, course, listed}
use Rattle.lfs_recovery.specs.Noted.{IsTable, newer, newest, newest_from, place_of, places_in, records}
use Rattle.lfs_recovery.specs.Noted.{records_at}

-- first some records, and then others
pub newest_from-append : (n : ℕ) (noted : Option RecordPlace) (xs ys : List RecordPlace)
    → newest_from n noted (xs ++ ys) ≡ newest_from n (newest_from n noted xs) ys
unfolding newest_from
newest_from-append n noted [] ys = refl
newest_from-append n noted (x ∷ xs) ys =
    newest_from-append n (if x.number == n then Some (newer noted x) else noted) xs ys

-- what is noted in a table when a record comes
abbrev pub note_at : ℕ → Option RecordPlace → RecordPlace → Option RecordPlace
note_at n noted place = if place.number == n then Some (newer noted place) else noted

pub newest_from-one : (n : ℕ) (noted : Option RecordPlace) (place : RecordPlace)
    → newest_from n noted (place ∷ []) ≡ note_at n noted place
unfolding newest_from
newest_from-one n noted place = refl

noted_one : (old new : List (Option RecordPlace)) (places : List RecordPlace) (place : RecordPlace) → length new
    ≡ length old
    → ((n : ℕ) → get_or new n None ≡ note_at n (get_or old n None) place) → IsTable old places
    → IsTable new (places ++ place ∷ [])
noted_one old new places place long noted is = record {
  long = long ∙ is.long;
  each = λ n below. noted n ∙ ap (λ (o : Option RecordPlace). note_at n o place) (is.each n below)
      ∙ sym (newest_from-append n None places (place ∷ []) ∙ newest_from-one n (newest n places) place);
}

-- one place of a table is set to the newer record
pub noted_more : (old : List (Option RecordPlace)) (places : List RecordPlace) (place : RecordPlace)
    → place.number < length old
    → IsTable old places
    → IsTable (set old place.number (Some (newer (get_or old place.number None) place))) (places ++ place ∷ [])
noted_more old places place inside is =
    let value : Option RecordPlace = Some (newer (get_or old place.number None) place) in
    let new : List (Option RecordPlace) = set old place.number value in
    noted_one old new places place (length-set old place.number value) (λ n. ⊎_elim
    (λ (same : ((place.number == n) ≡ true) × (place.number ≡ n)). rw same.0
    (ap (λ (k : ℕ). get_or new k None) (sym same.1) ∙ get_or-set_same old place.number value None inside
    ∙ ap (λ (k : ℕ). Some (newer (get_or old k None) place)) same.1))
    (λ (other : ((place.number == n) ≡ false) × (place.number ≢ n)). rw other.0
    (get_or-set_other old place.number n value None (λ e. other.1 (sym e))))
    (eqb_tells place.number n)) is

-- an empty table
pub IsTable-none : IsTable (replicate 4096 None) []
unfolding newest_from
IsTable-none =
    let none : Option RecordPlace = None in
    record {
      long = length-replicate 4096 none;
      each = λ n below. get_or-replicate 4096 n none none below;
    }

-- one block more
pub records-next : (m : SegmentMemory) (address : ℕ) (c : Course) → c ≡ course m address
    → records m address ++ records_at m address c ≡ records m (address + 1)
unfolding records
records-next m address c here =
    let one : address + 1 ≡ suc address = omega arith in
    ap (λ (d : Course). records m address ++ records_at m address d) here ∙ ap (records m) (sym one)

-- one slot more
pub places-next : (serial address : ℕ) (block : List ℕ) (slot : ℕ) (places : List RecordPlace)
    (found : Option RecordPlace)
    → found ≡ option_map (place_of serial address slot) (fields_in (slot_of block slot))
    → (places ++ places_in serial address block slot) ++ listed found ≡ places
    ++ places_in serial address block (slot + 1)
unfolding places_in
places-next serial address block slot places found is =
    let one : slot + 1 ≡ suc slot = omega arith in
    append_assoc places (places_in serial address block slot) (listed found)
    ∙ ap (λ (o : Option RecordPlace). places ++ (places_in serial address block slot ++ listed o)) is
    ∙ ap (λ (n : ℕ). places ++ places_in serial address block n) (sym one)

pub place-read : (serial address slot : ℕ) (bytes block : List ℕ) (read : Option Inode) → bytes ≡ slot_of block slot
    → option_map fields_of read ≡ fields_in bytes
    → option_map (place_of serial address slot) (option_map fields_of read)
    ≡ option_map (place_of serial address slot) (fields_in (slot_of block slot))
place-read serial address slot bytes block read at is =
    ap (option_map (place_of serial address slot)) (is ∙ ap fields_in at)

-- the block that comes is an inode block, or not
pub records_at-some : (m : SegmentMemory) (address : ℕ) (c : Course) (serial : ℕ) (block : List ℕ) → serial ≡ c.serial
    → block ≡ block_at m address → at_inodes c ≡ true → places_in serial address block 4 ≡ records_at m address c
unfolding records_at
records_at-some m address c serial block numbered at inodes = rw (inodes, numbered, at) refl

pub records_at-none : (m : SegmentMemory) (address : ℕ) (c : Course) → at_inodes c ≡ false → records_at m address c ≡ []
unfolding records_at
records_at-none m address c other = rw other refl
