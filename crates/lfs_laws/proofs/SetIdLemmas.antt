-- Set-id bits since a row was written or given: `set_ids_are_fresh`, for the law `set_ids_by_bits`. A call of another
-- than the superuser that writes, cuts or gives a row leaves it without these bits, since its mode is that of
-- `mode_after` (`worn`). A row that has one at the end then got it in between, and only a Chmod gives it
-- (`set_id_between`); the entries before that call only lead to its world. A call that kept the mode's bits as they
-- were would leave `worn` unproved.
use Rattle.std.proofs.Common.{◌≡◌, ◌≢◌, ◌<◌, ℕ, cond, List, [], ◌∷◌, None, Some, refl, sym, ap, subst, ◌∙◌, arith}
use Rattle.std.proofs.Common.{ne_eqb}
use Rattle.std.specs.FinMap as map
use Rattle.lfs_types.specs.Caller.{Caller}
use Rattle.lfs_types.specs.Tree.{File, Row, World, root}
use Rattle.lfs_types.specs.declared.answer.Answer.TheVariants.{Served}
use Rattle.lfs_types.specs.declared.answer.Served.TheVariants as served
use Rattle.lfs_types.specs.declared.request.Request.{Request}
use Rattle.lfs_types.specs.declared.request.Request.TheVariants.{Write, SetLength, Chown}
use Rattle.lfs_rules.specs.SetId.{set_id_cleared}
use Rattle.lfs_model.specs.declared.journal.Event.{Event}
use Rattle.lfs_model.specs.declared.journal.Event.TheVariants.{User}
use Rattle.lfs_model.specs.World.{IsTree}
use Rattle.lfs_model.specs.Rules.{decide, reached}
use Rattle.lfs_model.specs.Effects.{cut, effect, given, mode_after, with_file, written}
use Rattle.lfs_model.specs.Steps.{IsEvent, after_event}
use Rattle.lfs_laws.specs.LawSetIds.{SetIdsAreFresh, Wears}
use Rattle.lfs_laws.proofs.BetweenLemmas.{set_id_between}
use Rattle.lfs_laws.proofs.DoneLemmas.{done_law}
use Rattle.lfs_laws.proofs.LawFates.{file_changed}
use Rattle.lfs_laws.proofs.LegalTrees.{event_tree}

worn_mode : (caller : Caller) (mode : ℕ) → caller.uid ≢ 0 → mode_after caller mode < 0o2000
worn_mode caller mode other =
    let e : mode_after caller mode ≡ set_id_cleared mode =
    ap (λ b. cond b mode (set_id_cleared mode)) (ne_eqb caller.uid 0 other) in
    omega (arith, e)

-- a row without set-id bits
record Worn (v : World) (n : ℕ) : Type 0 where
  row : Row
  is : map.get v.rows n ≡ Some row
  low : row.file.mode < 0o2000

module _ (numbers : ℕ) (w : World) (caller : Caller) (n : ℕ) (other : caller.uid ≢ 0) where
  worn_by : (path : List (List ℕ)) (change : File → File) → ((f : File) → (change f).mode ≡ mode_after caller f.mode)
      → reached w.rows root path ≡ n → (old : Row)
      → map.get w.rows (reached w.rows root path) ≡ Some old
      → Worn (with_file (map.get w.rows (reached w.rows root path)) (reached w.rows root path) change w) n
  worn_by path change modes at old was =
      let low = worn_mode caller old.file.mode other in
      let mode = modes old.file in
      record {
        row = record old { file = change old.file };
        is = file_changed w n (reached w.rows root path) old change (ap (map.get w.rows) (sym at) ∙ was) (sym at);
        low = omega (arith, low, mode);
      }

  worn : (request : Request) → IsTree w.rows → decide w caller request ≡ None → Wears w n request
      → Worn (effect numbers w caller request) n
  worn (Write path place (b ∷ bs)) tree allowed at =
      let did = done_law numbers w caller (Write path place (b ∷ bs)) (Served served.Done) tree (
        allowed,
        (λ x. x),
        refl,
      ) in
      worn_by path (written caller place (b ∷ bs)) (λ f. refl) at did.old did.was
  worn (SetLength path len) tree allowed at =
      let did = done_law numbers w caller (SetLength path len) (Served served.Done) tree (allowed, (λ x. x), refl) in
      worn_by path (cut caller len) (λ f. refl) at did.old did.was
  worn (Chown path uid gid) tree allowed at =
      let did = done_law numbers w caller (Chown path uid gid) (Served served.Done) tree (allowed, (λ x. x), refl) in
      worn_by path (given caller uid gid) (λ f. refl) at did.old did.was
  worn request tree allowed at = absurd at

pub set_ids_are_fresh : SetIdsAreFresh
set_ids_are_fresh numbers segments [] entry later w request shown n s tree legal is other wears there high =
    let may : IsEvent numbers segments w entry.cred (User request (Served shown)) =
    subst (IsEvent numbers segments w entry.cred) is legal.0 in
    let bare = worn numbers w entry.cred n other request tree may.0 wears in
    let row : map.get (after_event numbers w entry.cred entry.event).rows n ≡ Some bare.row =
    subst (λ (x : Event). map.get (after_event numbers w entry.cred x).rows n ≡ Some bare.row) (sym is) bare.is in
    set_id_between numbers segments later (after_event numbers w entry.cred entry.event) n bare.row s
    (event_tree numbers segments w entry.cred entry.event tree legal.0) legal.1 row there (bare.low, high)
set_ids_are_fresh numbers segments (e ∷ es) entry later w request shown n s tree legal is other wears there high =
    set_ids_are_fresh numbers segments es entry later (after_event numbers w e.cred e.event) request shown n s
    (event_tree numbers segments w e.cred e.event tree legal.0) legal.1 is other wears there high
