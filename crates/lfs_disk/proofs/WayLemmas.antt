-- What a crash leaves while the blocks of a log's end are written: behind all but the first comes the first
-- (`log_way`), and before them zeros in its place, where a segment is opened (`opened_way`).
use Rattle.std.proofs.Common.{◌≡◌, ◌⊎◌, ℕ, ◌+◌, ◌<◌, inl, inr, List, [], length, get_or, set}
use Rattle.lfs_types.specs.Blocks.{zero_block}
use Rattle.lfs_disk.specs.Disk.{LeavesOnly}
use Rattle.lfs_disk.specs.Writing.{IsOnTheWay, IsSameBut, HasOthers}
use Rattle.lfs_disk.proofs.BlockLemmas.{clear_way, cleared, on_way, without_first, way_behind}
use Rattle.lfs_disk.proofs.MomentLemmas.{followed, widened}

abbrev Blocks : Type 0
Blocks = List (List ℕ)

module _ {D : Type 0} (time : D → ℕ) (left_since : D → ℕ → Blocks → Type 0) (disk mid new : D) (old others : Blocks)
    (first end : ℕ) (inside : first < length old) where
  abbrev Way : Blocks → Type 0
  Way = IsOnTheWay first end old others

  -- only the others were
  pub rest_way : get_or old first [] ≡ zero_block
      → LeavesOnly time left_since disk mid (IsSameBut (first + 1) end old) → LeavesOnly time left_since disk mid Way
  rest_way zeros run =
      widened time left_since disk mid Way (IsSameBut (first + 1) end old) run
      (λ c same. inr (inl (without_first first end old c zeros same)))

  pub log_way : (seen : Blocks) (block : List ℕ) → get_or old first [] ≡ zero_block → IsSameBut first end old others
      → HasOthers others (first + 1) end old seen → block ≡ get_or others first []
      → LeavesOnly time left_since disk mid (IsSameBut (first + 1) end old)
      → LeavesOnly time left_since mid new (λ c. (c ≡ seen) ⊎ (c ≡ set seen first block))
      → LeavesOnly time left_since disk new Way
  log_way seen block zeros same takes is run next =
      followed time left_since disk mid new Way (λ c. (c ≡ seen) ⊎ (c ≡ set seen first block)) (rest_way zeros run) next
      (on_way others first end old seen block inside zeros same takes is)

  -- only the zeros were
  pub zeros_way : first < end → LeavesOnly time left_since disk mid (λ c. (c ≡ old) ⊎ (c ≡ set old first zero_block))
      → LeavesOnly time left_since disk mid Way
  zeros_way some run =
      widened time left_since disk mid Way (λ c. (c ≡ old) ⊎ (c ≡ set old first zero_block)) run
      (λ c put. clear_way first end old others c inside some put)

  pub opened_way : (seen : Blocks) → first < end → seen ≡ set old first zero_block
      → LeavesOnly time left_since disk mid (λ c. (c ≡ old) ⊎ (c ≡ set old first zero_block))
      → LeavesOnly time left_since mid new (IsOnTheWay first end seen others)
      → LeavesOnly time left_since disk new Way
  opened_way seen some put run next =
      followed time left_since disk mid new Way (IsOnTheWay first end seen others) (zeros_way some run) next
      (λ c on. way_behind first end old seen others c (cleared first end old seen inside some put) on)
