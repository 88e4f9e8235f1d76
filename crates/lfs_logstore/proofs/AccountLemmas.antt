-- Between calls the live bytes of each segment are those of the keys with an address in it, and a clean one has none:
-- `accounted`, for `ifile_bytes` of the cleaned store, with `has_key` and `segment_is` for ReclaimLemmas. A present
-- address that isn't 0 is one of a key at its number's version (`has_key`), which has a place, so what the store knows
-- of its keys is what the cleaner sees by addresses. A key's place is four times its address with the slot, so both
-- name the same segment (`segment_is`); another count of records in a block changes that.
use Rattle.std.proofs.Common.{List, length, Result, Ok, Err, IfOk, ◌≡◌, ◌≢◌, ℕ, ◌/◌, inl, inr, sym, ap, ◌∙◌, subst}
use Rattle.std.proofs.Common.{arith}
use Rattle.std.proofs.lemmas.Bool.{cases_eq, cases_lt}
use Rattle.lfs_types.specs.Cleaned.{ifile_size}
use Rattle.lfs_ifile.specs.Layout.{ifile_bytes}
use Rattle.lfs_ifile.proofs.LayoutLemmas.{length-ifile_bytes}
use Rattle.lfs_bmap.specs.declared.blocks.TheConstants.{BLOCK_CODES}
use Rattle.lfs_bmap.specs.Counting.{seg_of}
use Rattle.lfs_bmap.specs.Log.{LogState, IsPlaced, Owner}
use Rattle.lfs_bmap.specs.Moves.{present_address}
use Rattle.lfs_bmap.proofs.MoveLemmas.{present_address-key, present_address-other}
use Rattle.lfs_log.specs.Infos.{HasInfo, infos_of}
use Rattle.lfs_log.specs.Parts.{state_of}
use Rattle.lfs_log.proofs.FoundLemmas.{infos_of-named}
use Rattle.lfs_parts.specs.declared.parts.Parts.{Parts}
use Rattle.lfs_parts.specs.Keys.{log_state}
use Rattle.lfs_parts.specs.Store.{IsStore}
use Rattle.lfs_logstore.specs.States as state
use Rattle.lfs_logstore.specs.Cleaning.{IsAccounted, address_of}

-- A key with a present address: it has a place, at the version that its number has.
pub record IsKey (l : LogState) (number version code : ℕ) : Type 0 where
  pub there : IsPlaced l number code
  pub version_is : l.version number ≡ version
  pub address_is : present_address l number version code ≡ l.at number code / 4

pub has_key : (l : LogState) (number version code : ℕ) → present_address l number version code ≢ 0
    → IsKey l number version code
has_key l number version code some =
    elim (cases_lt number l.numbers) [
      | inr past ↦ absurd (some (present_address-other l number version code (inl past)))
      | inl low ↦ elim (cases_eq (l.version number) version) [
        | inr other ↦ absurd (some (present_address-other l number version code (inr (inl other))))
        | inl same ↦ elim (cases_lt code BLOCK_CODES) [
          | inr past ↦ absurd (some (present_address-other l number version code (inr (inr past))))
          | inl below ↦
              let at : present_address l number version code ≡ l.at number code / 4 =
              subst (λ v. present_address l number v code ≡ l.at number code / 4) same
              (present_address-key l number code low below) in
              record {
                there = record {
                  number_below = low;
                  code_below = below;
                  somewhere = λ none. some (at ∙ ap (λ n. n / 4) none);
                };
                version_is = same;
                address_is = at;
              }
        ]
      ]
    ]

-- the segment of an address
pub segment_is : (l : LogState) (number version code : ℕ) → IsKey l number version code
    → present_address l number version code / 64 ≡ seg_of (l.at number code)
segment_is l number version code key = let at = key.address_is in omega arith

pub accounted : (p : Parts) → IsStore p → IsAccounted p
accounted p store = record {
  counted = store.log.counted;
  none_in_clean = λ number version code some clean.
      let key = has_key (log_state p) number version code some in
      (store.log.keys number code key.there).not_clean
      (ap (state_of p.log.tables) (sym (segment_is (log_state p) number version code key)) ∙ clean);
  found = λ number version code some.
      let key = has_key (log_state p) number version code some in
      let place = (log_state p).at number code in
      let owned = (store.log.keys number code key.there).owned in
      let owner : ℕ → Owner = λ v. record { number = number; version = v; code = code } in
      let has = infos_of-named p.log.memory (address_of p number version code / 64) place
      (owner ((log_state p).version number)) (sym (segment_is (log_state p) number version code key)) owned in
      subst (λ v. HasInfo (infos_of p.log.memory (address_of p number version code / 64))
      (address_of p number version code) (owner v)) key.version_is
      (subst (λ a. HasInfo (infos_of p.log.memory (address_of p number version code / 64)) a
      (owner ((log_state p).version number))) (sym key.address_is) has);
}

-- how many bytes the ifile of a store has
pub sized : {A E : Type 0} (f : A → List ℕ) (r : Result A E) (p : Parts) → IsStore p
    → IfOk r (λ a. f a ≡ ifile_bytes p.log.tables) → IfOk r (λ a. length (f a) ≡ ifile_size (state.state_of p).shape)
sized f (Err e) p store h = tt
sized f (Ok a) p store h =
    let parts = store.whole.parts in
    let agree = parts.agree in
    let size = length-ifile_bytes p.log.tables parts.formed.states_length in
    let same : length (f a) ≡ length (ifile_bytes p.log.tables) = ap length h in
    omega arith
