-- Where a memory is findable the newest record that recovery finds of a number is the latest one (`finds_newest`), and
-- there is one: so the latest of a number stands where the inode map has it just where the newest does, `latest_there`
-- and `stands_there`. A number that is free has no place in the log.
use Rattle.std.proofs.Common.{◌≡◌, ◌≢◌, ℕ, ◌+◌, ◌*◌, Bool, true, false, Option, Some, None, if◌then◌else◌}
use Rattle.std.proofs.Common.{refl, sym, ap, subst, ◌∙◌, arith}
use Rattle.std.proofs.lemmas.Bool.{eq-eqb, ne_eqb}
use Rattle.lfs_ifile.specs.declared.inode.InodePlace.{InodePlace}
use Rattle.lfs_ifile.specs.declared.inode.InodeRow.{InodeRow}
use Rattle.lfs_ifile.specs.Inode.{IsRow, place_in}
use Rattle.lfs_ifile.specs.Tables.{Tables, place_of, row_of}
use Rattle.lfs_log.specs.Parts.{LogParts, record_place}
use Rattle.lfs_recovery.specs.declared.places.RecordPlace.{RecordPlace}
use Rattle.lfs_recovery.specs.Newest.{IsNewest}
use Rattle.lfs_found.specs.Written.{IsFindable}
use Rattle.lfs_found.proofs.NamedLemmas.{finds_newest, latest_is_one}
use Rattle.lfs_segwrite.specs.Ordered.{HasLatest}
use Rattle.lfs_findable.specs.Judging.{IsPlaceOf, StandsAt}

-- ---- places

place-none : (tables : Tables) (n : ℕ) → (row_of tables n).address ≡ 0 → record_place tables n ≡ 0
unfolding record_place
place-none tables n none = rw (eq-eqb _ _ none) refl

place-some : (tables : Tables) (n : ℕ) → (row_of tables n).address ≢ 0
    → record_place tables n ≡ 4 * (row_of tables n).address + (row_of tables n).slot
unfolding record_place
place-some tables n some = rw (ne_eqb _ _ some) refl

-- the place that a row has
abbrev place_by : InodeRow → InodePlace
place_by row = record { addr = row.address; slot = row.slot; version = row.version }

place_in-used : (row : InodeRow) → row.used ≡ true → place_in row ≡ Some (place_by row)
place_in-used row used = ap (λ (b : Bool). if b then Some (place_by row) else None) used

place_in-free : (row : InodeRow) → row.used ≡ false → place_in row ≡ None
place_in-free row free = ap (λ (b : Bool). if b then Some (place_by row) else None) free

-- ---- a number

-- where a number has a place in the log
abbrev StandsBy : InodeRow → Option RecordPlace → Type 0
StandsBy row newest = row.address ≢ 0 → IsPlaceOf (place_by row) newest

stands_by : (blocks : ℕ) (row : InodeRow) (newest : Option RecordPlace) (used : Bool) → row.used ≡ used
    → IsRow blocks row → StandsAt (place_in row) newest → StandsBy row newest
stands_by blocks row newest true is formed stands =
    subst (λ (p : Option InodePlace). StandsAt p newest) (place_in-used row is) stands
stands_by blocks row newest false is formed stands = λ some. absurd (some (formed.unused_address is))

by_stands : (row : InodeRow) (newest : Option RecordPlace) (used : Bool) → row.used ≡ used → StandsBy row newest
    → StandsAt (place_in row) newest
by_stands row newest true is stands =
    subst (λ (p : Option InodePlace). StandsAt p newest) (sym (place_in-used row is)) stands
by_stands row newest false is stands =
    subst (λ (p : Option InodePlace). StandsAt p newest) (sym (place_in-free row is)) tt

module _ (l : LogParts) (next number : ℕ) (f : IsFindable l.memory next) where
  placed_latest : (newest : Option RecordPlace) → IsNewest l.memory number newest
      → IsPlaceOf (place_by (row_of l.tables number)) newest → (row_of l.tables number).address ≢ 0 → HasLatest l number
  placed_latest None none is some = absurd is
  placed_latest (Some s) newest is some =
      let address = is.0 in
      let slot = is.1.0 in
      let place = place-some l.tables number some in
      record {
        record_there = s;
        latest = (finds_newest l.memory next number s f.kind f.rising f.whole).0 newest;
        here = omega arith;
        version = sym is.1.1;
      }

  latest_placed : (blocks : ℕ) (newest : Option RecordPlace) → IsRow blocks (row_of l.tables number)
      → IsNewest l.memory number newest → HasLatest l number → StandsBy (row_of l.tables number) newest
  latest_placed blocks None formed none latest some =
      absurd (none latest.record_there
      ((finds_newest l.memory next number latest.record_there f.kind f.rising f.whole).1 latest.latest).0
      latest.latest.number)
  latest_placed blocks (Some s) formed newest latest some =
      let t = latest.record_there in
      let same : s ≡ t = latest_is_one l.memory number s t
      ((finds_newest l.memory next number s f.kind f.rising f.whole).0 newest) latest.latest in
      let address = ap (λ (r : RecordPlace). r.address) same in
      let slot = ap (λ (r : RecordPlace). r.slot) same in
      let here = latest.here in
      let place = place-some l.tables number some in
      let low = latest.latest.named.slot in
      let low_too = formed.slot in
      (omega arith, (omega arith, sym latest.version ∙ ap (λ (r : RecordPlace). r.version) (sym same)))

  pub latest_there : (blocks : ℕ) (newest : Option RecordPlace) → IsRow blocks (row_of l.tables number)
      → IsNewest l.memory number newest → StandsAt (place_of l.tables number) newest
      → record_place l.tables number ≢ 0 → HasLatest l number
  latest_there blocks newest formed is stands place =
      let row = row_of l.tables number in
      let some : row.address ≢ 0 = λ none. place (place-none l.tables number none) in
      placed_latest newest is (stands_by blocks row newest row.used refl formed stands some) some

  pub stands_there : (blocks : ℕ) (newest : Option RecordPlace) → IsRow blocks (row_of l.tables number)
      → IsNewest l.memory number newest → (record_place l.tables number ≢ 0 → HasLatest l number)
      → StandsAt (place_of l.tables number) newest
  stands_there blocks newest formed is latest =
      let row = row_of l.tables number in
      by_stands row newest row.used refl
      (λ some. latest_placed blocks newest formed is
      (latest (λ none. some (let place = place-some l.tables number some in omega arith))) some)
