-- Parts of a look.
use Rattle.std.specs.Prelude.{◌≡◌, ℕ, List, ◌++◌, filter, length, map, true, Option, Some}
use Rattle.std.specs.List.{All, flat_map}
use Rattle.lfs_types.specs.declared.answer.Answer.{Answer}
use Rattle.lfs_volume.specs.Cleanings.{Cleaner}
use Rattle.lfs_volume.specs.Seen.{Seen}
use Rattle.lfs_browse.specs.Asking.{Asks}
use Rattle.lfs_browse.specs.Content.{IsLast, bytes_of, followed, is_whole, pieces}
use Rattle.lfs_browse.specs.Listing.{has_path, listed_text, looked_at, looked_of, names_text, rows_text}
use Rattle.lfs_browse.specs.Listing.{stat_of}
use Rattle.lfs_audit.specs.declared.asker.Asker.{Asker}

-- Stats of names of a directory were made, of each that has a path, and their rows added to a text.
pub record TellsRows {F : Type 0} (r : Cleaner F) (old new : Seen F) (asker : Asker) (directory names : List (List ℕ))
    (before after : List ℕ) : Type 0 where
  pub stats : List Answer
  pub asks : Asks r old new asker (map (stat_of directory) (filter (has_path directory) names)) stats
  pub printed : after ≡ before ++ rows_text (filter (has_path directory) names) stats

-- Behind a List that served these names the Stats were made, and all was added to a text.
pub record TellsNames {F : Type 0} (r : Cleaner F) (old new : Seen F) (asker : Asker) (path names : List (List ℕ))
    (before after : List ℕ) : Type 0 where
  pub stats : List Answer
  pub asks : Asks r old new asker (map (stat_of path) (looked_of path (Some names))) stats
  pub printed : after ≡ before ++ names_text path names stats

-- The same behind a List that was answered so.
pub record TellsListed {F : Type 0} (r : Cleaner F) (old new : Seen F) (asker : Asker) (path : List (List ℕ))
    (first : Answer) (before after : List ℕ) : Type 0 where
  pub stats : List Answer
  pub asks : Asks r old new asker (map (stat_of path) (looked_at path first)) stats
  pub printed : after ≡ before ++ listed_text asker.session path first stats

-- A file was read in pieces up to this last one, or to none behind 107, and the bytes were added to others.
pub record HasRead {F : Type 0} (r : Cleaner F) (old new : Seen F) (asker : Asker) (path : List (List ℕ))
    (last : Option Answer) (before after : List ℕ) : Type 0 where
  pub whole : List Answer
  pub all : All (λ answer. is_whole answer ≡ true) whole
  pub ends : IsLast (length whole) last
  pub asks : Asks r old new asker (pieces path (length (followed whole last))) (followed whole last)
  pub read : after ≡ before ++ flat_map bytes_of (followed whole last)
