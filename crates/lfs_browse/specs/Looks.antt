-- What a look at a path asks, and what is told of it.
use Rattle.std.specs.Prelude.{◌≡◌, ℕ, ◌≤◌, List, ◌++◌, length}
use Rattle.lfs_types.specs.declared.answer.Answer.{Answer}
use Rattle.lfs_types.specs.declared.request.Request.{Request}
use Rattle.lfs_volume.specs.Cleanings.{Cleaner}
use Rattle.lfs_volume.specs.Seen.{Seen}
use Rattle.lfs_browse.specs.Asking.{Asks}
use Rattle.lfs_browse.specs.Content.{IsContent}
use Rattle.lfs_browse.specs.Listing.{IsListed}
use Rattle.lfs_browse.specs.Trees.{IsTree}
use Rattle.lfs_audit.specs.declared.asker.Asker.{Asker}
use Rattle.lfs_hearing.specs.declared.look.Look.{Look}
use Rattle.lfs_hearing.specs.declared.look.Look.TheVariants.{Listing, Content, Tree}

-- the calls of a look at a path that were answered so, and what is told of them
abbrev pub IsLooked : Look → ℕ → List (List ℕ) → List Request → List Answer → List ℕ → Type 0
IsLooked Listing session path calls answers told = IsListed session path calls answers told
IsLooked Content session path calls answers told = IsContent session path calls answers told
IsLooked Tree session path calls answers told = IsTree path calls answers told

-- A volume became this one by the calls of a look at a path, at most 107, and what is told of their answers was added
-- to a text.
pub record TellsLook {F : Type 0} (r : Cleaner F) (old new : Seen F) (asker : Asker) (look : Look)
    (path : List (List ℕ)) (before after : List ℕ) : Type 0 where
  pub calls : List Request
  pub answers : List Answer
  pub told : List ℕ
  pub asks : Asks r old new asker calls answers
  pub few : length calls ≤ 107
  pub looked : IsLooked look asker.session path calls answers told
  pub printed : after ≡ before ++ told
