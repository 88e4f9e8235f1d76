-- What a Create or Mkdir may be answered, by one lemma for both: `make_denial`, `make_no_inodes`, `make_full`,
-- `make_done` and `make_refused`, for `make`. The two requests differ in the kind alone, and both come to the same by
-- unfolding, so each lemma is proved for either. The order of causes is fixed here: rules, numbers, room, then the
-- store; a third kind of file needs a line in each.
use Rattle.std.proofs.Common.{◌≡◌, ℕ, ◌≤◌, List, length, None, Some, refl}
use Rattle.lfs_types.specs.Caller.{Caller}
use Rattle.lfs_types.specs.Stored.{bytes_of}
use Rattle.lfs_types.specs.StoreStates.{StoreState, MayRefuse}
use Rattle.lfs_types.specs.Tree.{World, Content, root}
use Rattle.lfs_types.specs.declared.answer.Answer.{Answer}
use Rattle.lfs_types.specs.declared.answer.Answer.TheVariants.{Served, Denied, Refused}
use Rattle.lfs_types.specs.declared.answer.Resource.TheVariants.{NoInodes, DirectoryFull}
use Rattle.lfs_types.specs.declared.answer.Served.TheVariants.{Done}
use Rattle.lfs_types.specs.declared.attrs.Kind.{Kind}
use Rattle.lfs_types.specs.declared.attrs.Kind.TheVariants.{File as Regular, Directory}
use Rattle.lfs_types.specs.declared.rule.Denial.{Denial}
use Rattle.lfs_types.specs.declared.store.StoreRefusal.{StoreRefusal}
use Rattle.lfs_model.specs.World.{Rows, children}
use Rattle.lfs_model.specs.Rules.{first_failing, making, front, last, reached}
use Rattle.lfs_model.specs.Effects.{with_new}
use Rattle.lfs_calls.specs.Content.{FitsNowhere}
use Rattle.lfs_calls.specs.Entries.{LeavesEntries}
use Rattle.lfs_calls.specs.Makes.{EntersFirst, request_for}
use Rattle.lfs_calls.specs.Outcomes.{IsOutcome}
use Rattle.lfs_model.specs.Steps.{AllUsed, IsChanging, after_answer}
use Rattle.lfs_calls.specs.Calls.{LooksOn, resource_of}
use Rattle.lfs_types.specs.declared.limits.TheConstants.{FILE_BLOCKS}
use Rattle.lfs_calls.proofs.WriteLemmas.{refused_outcome}

-- such a call changes files
pub make_changing : (path : List (List ℕ)) (mode : ℕ) (kind : Kind) → IsChanging (request_for kind path mode)
make_changing path mode Regular = tt
make_changing path mode Directory = tt

-- it leaves the entries where its kinds do
pub make_entries : (old new : Content) (rows : Rows) (path : List (List ℕ)) (mode : ℕ) (kind : Kind)
    → EntersFirst old new rows path → LeavesEntries (request_for kind path mode) old new rows
make_entries old new rows path mode Regular enters = enters
make_entries old new rows path mode Directory enters = enters

-- and does not look alone
pub make_looks : (old new : StoreState) (path : List (List ℕ)) (mode : ℕ) (kind : Kind)
    → LooksOn (request_for kind path mode) old new
make_looks old new path mode Regular = tt
make_looks old new path mode Directory = tt

module _ (s : StoreState) (w : World) (caller : Caller) (path : List (List ℕ)) (mode : ℕ) where
  abbrev may_be : Kind → Answer → Type 0
  may_be kind answer = IsOutcome s w caller (request_for kind path mode) answer

  -- a call that the rules deny
  pub make_denial : (kind : Kind) (denial : Denial) → first_failing (making w.rows caller path) ≡ Some denial
      → may_be kind (Denied denial)
  make_denial Regular denial h = h
  make_denial Directory denial h = h

  -- the world after one that is served
  pub make_after : (kind : Kind) → after_answer s.shape.numbers w caller (request_for kind path mode) (Served Done)
      ≡ with_new s.shape.numbers w caller path kind mode
  make_after Regular = refl
  make_after Directory = refl

  module _ (allowed : first_failing (making w.rows caller path) ≡ None) where
    -- a call where no number is free
    pub make_no_inodes : (kind : Kind) → AllUsed s.shape.numbers w.rows → may_be kind (Refused NoInodes)
    make_no_inodes Regular used = (allowed, used)
    make_no_inodes Directory used = (allowed, used)

    module _ (numbered : AllUsed s.shape.numbers w.rows → ⊥) where
      -- a call in a directory that is full
      pub make_full : (kind : Kind) → FILE_BLOCKS ≤ length (children w.rows (reached w.rows root (front path)))
          → FitsNowhere (bytes_of s.content (reached w.rows root (front path))) None (last path)
          → may_be kind (Refused DirectoryFull)
      make_full Regular crowded full = ((allowed, (numbered, crowded)), full)
      make_full Directory crowded full = ((allowed, (numbered, crowded)), full)

      module _ (roomy : FitsNowhere (bytes_of s.content (reached w.rows root (front path))) None (last path) → ⊥) where
        -- a call that is served
        pub make_done : (kind : Kind) → may_be kind (Served Done)
        make_done Regular = ((allowed, numbered, refl), roomy)
        make_done Directory = ((allowed, numbered, refl), roomy)

        -- a call whose changes the store refused
        pub make_refused : (kind : Kind) (refusal : StoreRefusal) → MayRefuse s refusal
            → may_be kind (Refused (resource_of refusal))
        make_refused Regular refusal may = refused_outcome s w caller
            (request_for Regular path mode) refusal may allowed numbered tt roomy
        make_refused Directory refusal may = refused_outcome s w caller
            (request_for Directory path mode) refusal may allowed numbered tt roomy
