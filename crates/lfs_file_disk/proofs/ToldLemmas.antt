-- What a crash may leave behind a call of the host, which went well or failed, or wasn't made since one had failed by then
-- (`wrote_left`, `synced_left`), and of a file that was told nothing (`seen-nothing`, `only-nothing`).
use Rattle.std.proofs.Common.{◌≡◌, ℕ, Bool, true, false, List, [], ◌∷◌, ◌++◌, Result, Ok, Err, OnErr, OnOk, inl}
use Rattle.std.proofs.Common.{map, refl, subst}
use Rattle.lfs_disk.proofs.CallLemmas.{left-write, sync_left}
use Rattle.lfs_disk.specs.declared.calls.Call.{Call}
use Rattle.lfs_disk.specs.declared.calls.Call.TheVariants.{Synced, Written}
use Rattle.lfs_disk.specs.Calls.{left_after, left_from, seen_after}
use Rattle.lfs_disk.specs.Disk.{LandsOrNot, Only}
use Rattle.lfs_file_disk.specs.declared.told.HostCall.{HostCall}
use Rattle.lfs_file_disk.specs.File.{call_of}

module _ (first : List (List ℕ)) (calls later : List Call) where
  pub wrote_left : (address : ℕ) (block : List ℕ) (gave_up : Bool)
      → (gave_up ≡ false → later ≡ calls ++ Written address block ∷ []) → (gave_up ≡ true → later ≡ calls)
      → LandsOrNot address block (left_from first calls) (left_from first later)
  wrote_left address block true told still c left =
      inl (subst (λ (l : List Call). left_from first l c) (still refl) left)
  wrote_left address block false told still c left =
      left-write (λ d. d ≡ first) first calls address block c
      (subst (λ (l : List Call). left_from first l c) (told refl) left)

  pub synced_left : {A E : Type 0} (result : Result A E) → OnOk result (later ≡ calls ++ Synced ∷ [])
      → OnErr result (later ≡ calls) → (c : List (List ℕ)) → left_from first later c → left_from first calls c
  synced_left (Ok _) told still c left =
      sync_left first calls c (subst (λ (l : List Call). left_from first l c) told left)
  synced_left (Err _) told still c left = subst (λ (l : List Call). left_from first l c) still left

-- no call, of a file that has these blocks
pub seen-nothing : (first blocks : List (List ℕ)) (told : List HostCall) → told ≡ [] → first ≡ blocks
    → seen_after first (map call_of told) ≡ blocks
unfolding seen_after
seen-nothing first blocks told none is = rw none is

pub only-nothing : (first : List (List ℕ)) (told : List HostCall) → told ≡ []
    → Only (seen_after first (map call_of told)) (left_from first (map call_of told))
unfolding seen_after left_after
only-nothing first told none = rw none (λ c left. left)
