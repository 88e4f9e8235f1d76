-- Which answers are allowed, given what the rules decide.
use Rattle.std.specs.Prelude.{◌≡◌, ◌↔◌, ℕ, Bool, IsTrue, None}
use Rattle.lfs_types.specs.Caller.{Caller}
use Rattle.lfs_types.specs.Tree.{World}
use Rattle.lfs_types.specs.declared.answer.Answer.{Answer}
use Rattle.lfs_types.specs.declared.answer.Answer.TheVariants.{Served, Denied, Refused}
use Rattle.lfs_types.specs.declared.answer.Resource.{Resource}
use Rattle.lfs_types.specs.declared.answer.Resource.TheVariants.{NoInodes}
use Rattle.lfs_types.specs.declared.request.Request.{Request}
use Rattle.lfs_types.specs.declared.request.Request.TheVariants.{Create, Mkdir}
use Rattle.lfs_model.specs.Rules.{decide}
use Rattle.lfs_model.specs.Steps.{AllUsed, IsAnswer, IsCrowded, IsEvent}
use Rattle.lfs_model.specs.declared.journal.Entry.{Entry}
use Rattle.lfs_model.specs.declared.journal.Event.TheVariants.{User}

-- an answer that the rules alone give: not one for want of space, of a directory's room, of memory or of the journal's
-- room
abbrev pub IsOfRules : Answer → Type 0
IsOfRules (Served shown) = Unit {0}
IsOfRules (Denied denial) = Unit {0}
IsOfRules (Refused NoInodes) = Unit {0}
IsOfRules (Refused resource) = ⊥

-- two answers of the rules to one call in one world are the same
abbrev pub OneAnswer : Type 0
OneAnswer =
    (numbers : ℕ) (w : World) (caller : Caller) (request : Request) (a b : Answer) → IsOfRules a → IsOfRules b
    → IsAnswer numbers w caller request a → IsAnswer numbers w caller request b → a ≡ b

-- the entry of a call with this answer
abbrev pub answered : ℕ → Caller → Request → Answer → Entry
answered session caller request answer = record { session = session; cred = caller; event = User request answer }

-- In each world where the rules gave a call the answer of one entry, the other, which tells an answer of the rules to
-- the same call, is allowed exactly where this is true.
abbrev pub JudgesMade : Entry → Entry → Bool → Type 0
JudgesMade made told result =
    (numbers segments session : ℕ) (w : World) (caller : Caller) (request : Request) (a b : Answer)
    → made ≡ answered session caller request a → told ≡ answered session caller request b → IsOfRules a → IsOfRules b
    → IsAnswer numbers w caller request a → IsTrue result ↔ IsEvent numbers segments w told.cred told.event

-- the call makes a file or a directory, and so wants a new number
abbrev pub WantsNumber : Request → Type 0
WantsNumber (Create path mode) = Unit {0}
WantsNumber (Mkdir path mode) = Unit {0}
WantsNumber request = ⊥

-- In each world whose directories have fewer names than blocks, where it is known whether the rules allow a call and
-- whether a number is left, it may be refused for a resource exactly where this is true.
abbrev pub JudgesRefusal : Request → Bool → Bool → Resource → Bool → Type 0
JudgesRefusal request is_allowed is_number_left resource result =
    (numbers : ℕ) (w : World) (caller : Caller) → (IsTrue is_allowed ↔ (decide w caller request ≡ None))
    → (IsTrue is_number_left ↔ ¬ (AllUsed numbers w.rows)) → ¬ (IsCrowded w request)
    → IsTrue result ↔ IsAnswer numbers w caller request (Refused resource)
