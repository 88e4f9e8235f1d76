-- Parts of a walk through a tree.
use Rattle.std.specs.Prelude.{◌≡◌, ◌≤◌, ◌⊎◌, List, [], ◌∷◌, ◌++◌, length, map, reverse}
use Rattle.lfs_types.specs.declared.answer.Answer.{Answer}
use Rattle.lfs_volume.specs.Cleanings.{Cleaner}
use Rattle.lfs_volume.specs.Seen.{Seen}
use Rattle.lfs_browse.specs.Asking.{Asks}
use Rattle.lfs_browse.specs.Trees.{IsWalk, call_of, leads_to, visit_text, visits_text}
use Rattle.lfs_audit.specs.declared.asker.Asker.{Asker}
use Rattle.lfs_browse.specs.declared.visit.Visit.{Visit}
use Rattle.lfs_browse.specs.declared.walk.Walk.{Walk}

-- What an answer leads to was added to the visits of a walk, of which the last is the next one, and what is told of it to
-- its text.
pub record TakesIn (old new : Walk) (visit : Visit) (answer : Answer) : Type 0 where
  pub root : new.root ≡ old.root
  pub pending : new.pending.items ≡ old.pending.items ++ reverse (leads_to visit answer)
  pub told : new.text.items ≡ old.text.items ++ visit_text old.root visit answer

-- A visit was made, and its answer taken in.
pub record Visits {F : Type 0} (r : Cleaner F) (old new : Seen F) (asker : Asker) (before after : Walk)
    (visit : Visit) : Type 0 where
  pub answer : Answer
  pub asks : Asks r old new asker (call_of visit ∷ []) (answer ∷ [])
  pub takes : TakesIn before after visit answer

-- Visits were made, one after another, to the last or up to so many.
pub record HasWalked {F : Type 0} (r : Cleaner F) (old new : Seen F) (asker : Asker) (before after : Walk)
    (visits : List Visit) : Type 0 where
  pub answers : List Answer
  pub asks : Asks r old new asker (map call_of visits) answers
  pub walked : IsWalk (reverse before.pending.items) visits answers (reverse after.pending.items)
  pub root : after.root ≡ before.root
  pub told : after.text.items ≡ before.text.items ++ visits_text before.root visits answers

-- the same to the end, or up to 107
pub record HasEnded {F : Type 0} (r : Cleaner F) (old new : Seen F) (asker : Asker) (before after : Walk) : Type 0 where
  pub visits : List Visit
  pub walked : HasWalked r old new asker before after visits
  pub few : length visits ≤ 107
  pub ends : (after.pending.items ≡ []) ⊎ (length visits ≡ 107)
