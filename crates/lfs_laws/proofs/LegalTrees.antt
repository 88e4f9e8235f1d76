-- What may happen leaves a tree, and so does each legal list of entries: `answer_tree`, `event_tree` and
-- `entries_tree`, for all laws of runs. A served call leaves a tree by `effect_tree` of lfs_model; whatever else
-- happens changes no row.
use Rattle.std.proofs.Common.{ℕ, List, [], ◌∷◌}
use Rattle.lfs_types.specs.Caller.{Caller}
use Rattle.lfs_types.specs.Tree.{World}
use Rattle.lfs_types.specs.declared.answer.Answer.{Answer}
use Rattle.lfs_types.specs.declared.answer.Answer.TheVariants.{Served, Denied, Refused}
use Rattle.lfs_types.specs.declared.request.Request.{Request}
use Rattle.lfs_model.specs.declared.journal.Entry.{Entry}
use Rattle.lfs_model.specs.declared.journal.Event.{Event}
use Rattle.lfs_model.specs.declared.journal.Event.TheVariants.{User, Cleaner}
use Rattle.lfs_model.specs.World.{IsTree}
use Rattle.lfs_model.specs.Steps.{IsAnswer, IsEvent, IsLegal, after_answer, after_event, world_after}
use Rattle.lfs_model.proofs.EffectTree.{effect_tree}

-- what a call leaves that was answered so is a tree
pub answer_tree : (numbers : ℕ) (w : World) (caller : Caller) (request : Request) (answer : Answer) → IsTree w.rows
    → IsAnswer numbers w caller request answer → IsTree (after_answer numbers w caller request answer).rows
answer_tree numbers w caller request (Served shown) tree is = effect_tree numbers w caller tree request is.0 is.1
answer_tree numbers w caller request (Denied denial) tree is = tree
answer_tree numbers w caller request (Refused resource) tree is = tree

-- what an event leaves is a tree
pub event_tree : (numbers segments : ℕ) (w : World) (caller : Caller) (event : Event) → IsTree w.rows
    → IsEvent numbers segments w caller event → IsTree (after_event numbers w caller event).rows
event_tree numbers segments w caller (User request answer) tree is = answer_tree numbers w caller request answer tree is
event_tree numbers segments w caller (Cleaner kind outcome) tree is = tree

-- what a legal list of entries leaves is a tree
pub entries_tree : (numbers segments : ℕ) (entries : List Entry) (w : World) → IsTree w.rows
    → IsLegal numbers segments entries w → IsTree (world_after numbers entries w).rows
entries_tree numbers segments [] w tree legal = tree
entries_tree numbers segments (e ∷ es) w tree legal =
    entries_tree numbers segments es (after_event numbers w e.cred e.event)
    (event_tree numbers segments w e.cred e.event tree legal.0) legal.1
