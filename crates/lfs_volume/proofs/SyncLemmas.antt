-- A Sync leaves the tree, and what is shown of it: `sync_shown`, for whoever makes one (lfs_live, lfs_mount). Its
-- entry, if it has one, changes no row and no level (`sync_leaves`), so the longer journal leads to the world to which
-- the shorter one led. The volume shows the world that its journal leads to, from wherever that began, and a Sync
-- doesn't move the beginning.
use Rattle.std.proofs.Common.{◌≡◌, ℕ, List, ◌++◌, refl, sym, ap, subst, ◌∙◌}
use Rattle.lfs_types.specs.Caller.{Caller}
use Rattle.lfs_types.specs.StoreStates.{Follows, Shape, StoreState}
use Rattle.lfs_types.specs.Tree.{World}
use Rattle.lfs_types.specs.declared.answer.Answer.{Answer}
use Rattle.lfs_types.specs.declared.answer.Answer.TheVariants.{Served, Denied, Refused}
use Rattle.lfs_types.specs.declared.answer.Resource.TheVariants.{NoMemory, NoSpace, NoInodes, DirectoryFull}
use Rattle.lfs_types.specs.declared.answer.Resource.TheVariants.{JournalFull}
use Rattle.lfs_types.specs.declared.level.Level.{Level}
use Rattle.lfs_types.specs.declared.request.Request.TheVariants.{Sync}
use Rattle.lfs_model.specs.Runs.{kept_entry}
use Rattle.lfs_model.specs.Steps.{world_after}
use Rattle.lfs_model.specs.declared.journal.Entry.{Entry}
use Rattle.lfs_model.proofs.RunLemmas.{world_after-append}
use Rattle.lfs_volume.specs.Journals.{AtPresent, Begins, IsJournal, Since}
use Rattle.lfs_volume.specs.Seen.{Seen}

sync_leaves : (numbers session : ℕ) (caller : Caller) (answer : Answer) (w : World)
    → world_after numbers (kept_entry session caller Sync answer) w ≡ w
sync_leaves numbers session caller (Served shown) w = refl
sync_leaves numbers session caller (Denied denial) w = refl
sync_leaves numbers session caller (Refused NoMemory) w = refl
sync_leaves numbers session caller (Refused NoSpace) w = refl
sync_leaves numbers session caller (Refused NoInodes) w = refl
sync_leaves numbers session caller (Refused DirectoryFull) w = refl
sync_leaves numbers session caller (Refused JournalFull) w = refl

-- store and level show the tree that the journal led to before a Sync
pub sync_shown : {F : Type 0} (state : F → StoreState) (old made : Seen F) (session : ℕ) (caller : Caller)
    (answer : Answer)
    → made.journal ≡ old.journal ++ kept_entry session caller Sync answer
    → Since (state made.since) made.since_level
    (λ from. IsJournal from (state made.store) made.level made.journal made.limit)
    → made.since ≡ old.since → made.since_level ≡ old.since_level → Follows (state old.store) (state made.store)
    → AtPresent state old (Begins (state made.store) made.level)
sync_shown {F} state old made session caller answer entered legal since since_level follows = λ from begins.
    let numbers = (state old.store).shape.numbers in
    let entry = kept_entry session caller Sync answer in
    let starts = subst (λ (s : F). Begins (state s) made.since_level from) (sym since)
    (subst (λ (l : Level). Begins (state old.since) l from) (sym since_level) begins) in
    let j = legal from starts in
    let same : world_after (state made.store).shape.numbers made.journal from ≡ world_after numbers old.journal from =
    ap (λ (s : Shape). world_after s.numbers made.journal from) follows.shape
    ∙ ap (λ (es : List Entry). world_after numbers es from) entered
    ∙ world_after-append numbers old.journal entry from
    ∙ sync_leaves numbers session caller answer (world_after numbers old.journal from) in
    subst (Begins (state made.store) made.level) same (record { shown = j.shown; at_level = j.at_level })
