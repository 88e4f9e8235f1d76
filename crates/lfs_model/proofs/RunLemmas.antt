-- The world at the opening is a tree with the root alone (`opening_tree`, `only_root`), and a list of entries with one
-- more is legal just by that one in the world which the others leave (`IsLegal-append`, `world_after-append`), for the
-- journal, the trace checker and the laws. The opening rows are a map with one value, so whatever is there is it; lists
-- are taken apart from the front, as `world_after` goes. `list_copies` and `kept-append` are for the journal of
-- `lfs_volume`; a second row at the opening would change `only_root` and all that rests on it.
use Rattle.std.proofs.Common.{◌≡◌, ℕ, List, [], ◌∷◌, ◌++◌, length, Some, refl, sym, ap, subst, ◌∙◌, arith, append_assoc}
use Rattle.std.specs.Prelude.{IsSomeAnd}
use Rattle.std.proofs.lemmas.List.{append-nil}
use Rattle.std.specs.FinMap as map
use Rattle.lfs_types.specs.Shown.{IsList}
use Rattle.lfs_types.specs.Tree.{File, Row, World, root, fresh_root, opening_content, opening_world}
use Rattle.lfs_types.specs.declared.answer.Answer.{Answer}
use Rattle.lfs_types.specs.declared.attrs.Kind.TheVariants.{Directory}
use Rattle.lfs_types.specs.declared.request.Request.{Request}
use Rattle.lfs_types.specs.declared.request.Request.TheVariants.{Stat, Read, Write, List as Names, SetLength, Create}
use Rattle.lfs_types.specs.declared.request.Request.TheVariants.{Mkdir, Unlink, Rmdir, Rename, Chmod, Chown, Chflags}
use Rattle.lfs_types.specs.declared.request.Request.TheVariants.{SetLevel, Sync}
use Rattle.lfs_model.specs.declared.journal.Call.{Call}
use Rattle.lfs_model.specs.declared.journal.Entry.{Entry}
use Rattle.lfs_model.specs.World.{Rows, ancestor, IsTree, IsChild}
use Rattle.lfs_model.specs.Effects.{answer_of}
use Rattle.lfs_model.specs.Memory.{IsCopying}
use Rattle.lfs_model.specs.Runs.{kept, kept_entry}
use Rattle.lfs_model.specs.Steps.{IsEvent, IsLegal, after_event, world_after}
use Rattle.lfs_types.proofs.Maps.{get-insert_same, each_inserted, none_at_first}
use Rattle.lfs_types.proofs.Somewhere.{is_some_and}

-- ---- the opening

-- the rows at the opening
abbrev pub opening_rows : Rows
opening_rows = opening_world.rows

-- the root's row
abbrev pub root_row : Row
root_row = record { parent = root; name = []; file = fresh_root }

-- the root is all that there is
pub only_root : (n : ℕ) (r : Row) → map.get opening_rows n ≡ Some r → (n ≡ root) × (root_row ≡ r)
only_root = each_inserted map.empty root root_row (λ n r. (n ≡ root) × (root_row ≡ r)) (refl, refl)
    (λ n r other e. absurd (none_at_first n r e))

pub only_fresh : (n : ℕ) (f : File) → map.get opening_content n ≡ Some f → (n ≡ root) × (fresh_root ≡ f)
only_fresh = each_inserted map.empty root fresh_root (λ n f. (n ≡ root) × (fresh_root ≡ f)) (refl, refl)
    (λ n f other e. absurd (none_at_first n f e))

-- nothing hangs anywhere
pub no_child : (parent : ℕ) (name : List ℕ) (n : ℕ) → IsChild opening_rows parent name n → ⊥
no_child parent name n c = absurd (c.below (only_root n c.row c.there).0)

-- the opening rows are a tree
pub opening_tree : IsTree opening_rows
unfolding ancestor
opening_tree = record {
  rooted = is_some_and _ (get-insert_same map.empty root root_row) (refl, refl, refl);
  unique = λ parent name m n c d. absurd (no_child parent name m c);
  parents = λ n r e. let is = only_root n r e in
      subst (λ (x : Row). IsSomeAnd (map.get opening_rows x.parent) (λ p. p.file.kind ≡ Directory)) is.1
      (is_some_and _ (get-insert_same map.empty root root_row) refl);
  reached = λ n r e. (0, (only_root n r e).0);
  empty = λ n r e k. let is = only_root n r e in ap (λ (x : Row). x.file.bytes) (sym is.1);
  numbers = λ n r e apart. absurd (apart (only_root n r e).0);
}

-- ---- an entry more

-- the world after some entries and others is the one that the others leave of it
pub world_after-append : (numbers : ℕ) (es fs : List Entry) (w : World) → world_after numbers (es ++ fs) w
    ≡ world_after numbers fs (world_after numbers es w)
world_after-append numbers [] fs w = refl
world_after-append numbers (e ∷ es) fs w = world_after-append numbers es fs (after_event numbers w e.cred e.event)

pub IsLegal-append : (numbers segments : ℕ) (es : List Entry) (e : Entry) (w : World) → IsLegal numbers segments es w
    → IsEvent numbers segments (world_after numbers es w) e.cred e.event → IsLegal numbers segments (es ++ e ∷ []) w
IsLegal-append numbers segments [] e w legal is = (is, tt)
IsLegal-append numbers segments (x ∷ es) e w legal is =
    (legal.0, IsLegal-append numbers segments es e (after_event numbers w x.cred x.event) legal.1 is)

-- what is shown as a list is copied
pub list_copies : (w : World) (request : Request) → IsList (answer_of w request) → IsCopying request
list_copies w (Stat path) h = absurd h
list_copies w (Read path off len) h = tt
list_copies w (Names path) h = tt
list_copies w (Write path place bytes) h = absurd h
list_copies w (SetLength path len) h = absurd h
list_copies w (Create path mode) h = absurd h
list_copies w (Mkdir path mode) h = absurd h
list_copies w (Unlink path) h = absurd h
list_copies w (Rmdir path) h = absurd h
list_copies w (Rename from to) h = absurd h
list_copies w (Chmod path mode) h = absurd h
list_copies w (Chown path uid gid) h = absurd h
list_copies w (Chflags path flags) h = absurd h
list_copies w (SetLevel level) h = absurd h
list_copies w Sync h = absurd h

-- ---- runs

-- what a call more keeps
pub kept-append : (calls : List Call) (answers : List Answer) (call : Call) (answer : Answer) → length answers
    ≡ length calls
    → kept (calls ++ call ∷ []) (answers ++ answer ∷ []) ≡ kept calls answers
    ++ kept_entry call.session call.cred call.request answer
kept-append [] [] call answer h = append-nil (kept_entry call.session call.cred call.request answer)
kept-append [] (a ∷ answers) call answer h = absurd (omega (arith, h))
kept-append (c ∷ calls) [] call answer h = absurd (omega (arith, h))
kept-append (c ∷ calls) (a ∷ answers) call answer h =
    ap (λ l. kept_entry c.session c.cred c.request a ++ l) (kept-append calls answers call answer (omega (arith, h)))
    ∙ sym (append_assoc (kept_entry c.session c.cred c.request a) (kept calls answers)
    (kept_entry call.session call.cred call.request answer))
