-- A plain store has fewer numbers than a file may have blocks, so that no directory of its tree is crowded:
-- `uncrowded`, for CheckLemmas. The rows that hang in a directory have different numbers, all of them numbers of the
-- store, so there are no more of them than it has numbers (`few_children`).
use Rattle.std.proofs.Common.{◌≤◌, ℕ, length, get_or, arith}
use Rattle.std.proofs.lemmas.List.Elements.{Contains-get_or}
use Rattle.std.proofs.lemmas.Map.Views.{length-le_from_below}
use Rattle.lfs_types.proofs.Somewhere.{present}
use Rattle.lfs_types.specs.StoreStates.{StoreState}
use Rattle.lfs_types.specs.Tree.{World, root}
use Rattle.lfs_types.specs.declared.limits.TheConstants.{FILE_BLOCKS}
use Rattle.lfs_types.specs.declared.request.Request.{Request}
use Rattle.lfs_types.specs.declared.request.Request.TheVariants.{Create, Mkdir, Rename}
use Rattle.lfs_model.specs.World.{children}
use Rattle.lfs_model.specs.Rules.{front, reached}
use Rattle.lfs_model.specs.Steps.{IsCrowded}
use Rattle.lfs_model.proofs.Members.{children-hang, children-sorted}
use Rattle.lfs_calls.specs.Volumes.{IsVolume}
use Rattle.lfs_calls.proofs.Visible.{stored_of}
use Rattle.lfs_trace.specs.Checking.{IsPlain}

module _ (s : StoreState) (w : World) (plain : IsPlain s) (v : IsVolume s w) where
  -- a directory's rows have numbers of the store
  few_children : (parent : ℕ) → length (children w.rows parent) ≤ s.shape.numbers
  few_children parent =
      length-le_from_below s.shape.numbers (children w.rows parent) (children-sorted w.rows parent) (λ k d within.
      let n = get_or (children w.rows parent) k d in
      let c = children-hang w.rows parent n (Contains-get_or (children w.rows parent) k d within) in
      plain.within n (present (stored_of s.content w v.shows n c.row c.there).stored))

  not_many : (parent : ℕ) → FILE_BLOCKS ≤ length (children w.rows parent) → ⊥
  not_many parent many = let few = few_children parent in let most = plain.few in
      absurd (omega (arith, many, few, most))

  pub uncrowded : (request : Request) → ¬ (IsCrowded w request)
  uncrowded (Create path mode) h = not_many (reached w.rows root (front path)) h
  uncrowded (Mkdir path mode) h = not_many (reached w.rows root (front path)) h
  uncrowded (Rename from to) h = not_many (reached w.rows root (front to)) h.1
  uncrowded request h = h
