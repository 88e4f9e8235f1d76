-- A call refused for a resource was allowed and did lack it, in words that need no path: `refused_truly`, for the law
-- of that name. The first half is `answered_as_may` of MayLemmas; for the second a full directory has so many names as
-- a List shows, since names put in order are as many as the rows (`names-many`). No number is wanted but by Create and
-- Mkdir, no space but by changing calls; a call more that may be refused so needs its line in `fills_up` or
-- `lacks_number`.
use Rattle.std.proofs.Common.{◌≡◌, ◌≤◌, ℕ, ◌+◌, Bool, true, false, cond, List, [], ◌∷◌, length, None, refl, ◌∙◌, arith}
use Rattle.std.proofs.lemmas.List.{length-map}
use Rattle.std.specs.Ordering.{nat_cmp, is_lt}
use Rattle.std.specs.Cmp.Lexicographic.{slice_cmp}
use Rattle.std.specs.FinMap as map
use Rattle.lfs_types.specs.Caller.{Caller}
use Rattle.lfs_types.specs.Tree.{World, root}
use Rattle.lfs_types.specs.declared.answer.Answer.TheVariants.{Refused}
use Rattle.lfs_types.specs.declared.answer.Resource.{Resource}
use Rattle.lfs_types.specs.declared.answer.Resource.TheVariants.{NoMemory, NoSpace, NoInodes, DirectoryFull}
use Rattle.lfs_types.specs.declared.answer.Resource.TheVariants.{JournalFull}
use Rattle.lfs_types.specs.declared.limits.TheConstants.{FILE_BLOCKS}
use Rattle.lfs_types.specs.declared.request.Request.{Request}
use Rattle.lfs_types.specs.declared.request.Request.TheVariants.{Stat, Read, Write, List as Names, SetLength, Create}
use Rattle.lfs_types.specs.declared.request.Request.TheVariants.{Mkdir, Unlink, Rmdir, Rename, Chmod, Chown, Chflags}
use Rattle.lfs_types.specs.declared.request.Request.TheVariants.{SetLevel, Sync}
use Rattle.lfs_model.specs.World.{Rows, child, children, name_of, IsTree}
use Rattle.lfs_model.specs.Rules.{decide, first_failing, front, last, making, reached, removing, arriving}
use Rattle.lfs_model.specs.Effects.{in_byte_order, names_in, put_in_order}
use Rattle.lfs_model.specs.Steps.{IsChanging, IsCrowded, LacksInodes, MayLack}
use Rattle.lfs_laws.specs.LawRefused.{FillsUp, IsFull, IsWriting, Lacked, RefusedTruly}
use Rattle.lfs_laws.specs.Rights.{LeadsTo}
use Rattle.lfs_model.proofs.Allowed.{may_arrive, may_make, split_last}
use Rattle.lfs_model.proofs.Children.{child-none}
use Rattle.lfs_model.proofs.Deciding.{passes-append}
use Rattle.lfs_laws.proofs.Fates.{leads_last}
use Rattle.lfs_laws.proofs.NameLists.{are_names}
use Rattle.lfs_laws.proofs.MayLemmas.{answered_as_may}

length_either : (b : Bool) (xs ys : List (List ℕ)) (n : ℕ) → length xs ≡ n → length ys ≡ n → length (cond b xs ys) ≡ n
length_either true xs ys n a b = a
length_either false xs ys n a b = b

length-put : (name : List ℕ) (names : List (List ℕ)) → length (put_in_order name names) ≡ length names + 1
unfolding put_in_order
length-put name [] = refl
length-put name (x ∷ xs) =
    let rest = length-put name xs in
    length_either (is_lt (slice_cmp nat_cmp x name)) (x ∷ put_in_order name xs) (name ∷ x ∷ xs) _ (omega (arith, rest))
    (omega arith)

-- names in order are as many
length-in_byte_order : (names : List (List ℕ)) → length (in_byte_order names) ≡ length names
unfolding in_byte_order
length-in_byte_order [] = refl
length-in_byte_order (name ∷ names) =
    let rest = length-in_byte_order names in
    let put = length-put name (in_byte_order names) in
    omega (arith, rest, put)

-- a List shows as many names as rows hang in the directory
names-many : (rows : Rows) (dir : ℕ) → length (in_byte_order (names_in rows dir)) ≡ length (children rows dir)
names-many rows dir = length-in_byte_order (names_in rows dir)
    ∙ length-map (children rows dir) (λ n. name_of (map.get rows n))

module _ (w : World) (caller : Caller) (tree : IsTree w.rows) where
  -- a directory with so many rows in it has so many names
  is_full : (path : List (List ℕ)) → LeadsTo w.rows path (reached w.rows root (front path)) (last path)
      → child w.rows (reached w.rows root (front path)) (last path) ≡ None
      → FILE_BLOCKS ≤ length (children w.rows (reached w.rows root (front path)))
      → IsFull w.rows path
  is_full path leads free many =
      let dir = reached w.rows root (front path) in
      let count = names-many w.rows dir in
      record {
        parent = dir;
        name = last path;
        leads = leads;
        free = child-none w.rows dir (last path) free;
        names = in_byte_order (names_in w.rows dir);
        those = are_names w.rows tree dir;
        many = omega (arith, many, count);
      }

  made_full : (path : List (List ℕ)) → first_failing (making w.rows caller path) ≡ None
      → FILE_BLOCKS ≤ length (children w.rows (reached w.rows root (front path))) → IsFull w.rows path
  made_full path allowed many =
      let may = may_make w.rows tree caller path allowed in
      is_full path (leads_last w caller path may) may.free many

  fills_up : (request : Request) → decide w caller request ≡ None → IsCrowded w request → FillsUp w request
  fills_up (Stat path) allowed h = h
  fills_up (Read path off len) allowed h = h
  fills_up (Names path) allowed h = h
  fills_up (Write path place bytes) allowed h = h
  fills_up (SetLength path len) allowed h = h
  fills_up (Create path mode) allowed h = made_full path allowed h
  fills_up (Mkdir path mode) allowed h = made_full path allowed h
  fills_up (Unlink path) allowed h = h
  fills_up (Rmdir path) allowed h = h
  fills_up (Rename from to) allowed h =
      let behind = passes-append (removing w.rows caller from) _ allowed in
      let arrives = may_arrive w.rows tree caller to (passes-append (arriving w.rows caller to) _ behind.1).0 in
      is_full to (record { front = front to; split = split_last to arrives.filled; leads = refl }) h.0 h.1
  fills_up (Chmod path mode) allowed h = h
  fills_up (Chown path uid gid) allowed h = h
  fills_up (Chflags path flags) allowed h = h
  fills_up (SetLevel level) allowed h = h
  fills_up Sync allowed h = h

lacks_number : (numbers : ℕ) (w : World) (request : Request) → LacksInodes numbers w request
    → Lacked numbers w request NoInodes
lacks_number numbers w (Create path mode) h = (tt, h)
lacks_number numbers w (Mkdir path mode) h = (tt, h)
lacks_number numbers w request h = absurd h

writes : (request : Request) → IsChanging request → IsWriting request
writes (Stat path) h = h
writes (Read path off len) h = h
writes (Names path) h = h
writes (SetLevel level) h = h
writes request h = h

lacked : (numbers : ℕ) (w : World) (caller : Caller) (request : Request) (resource : Resource) → IsTree w.rows
    → decide w caller request ≡ None
    → MayLack numbers w request resource
    → Lacked numbers w request resource
lacked numbers w caller request NoInodes tree allowed h = lacks_number numbers w request h
lacked numbers w caller request DirectoryFull tree allowed h = fills_up w caller tree request allowed h.1
lacked numbers w caller request NoSpace tree allowed h = writes request h.1
lacked numbers w caller request NoMemory tree allowed h = h
lacked numbers w caller request JournalFull tree allowed h = h

pub refused_truly : RefusedTruly
refused_truly numbers segments w caller request resource tree is = (
  answered_as_may numbers w caller request (Refused resource) tree is,
  lacked numbers w caller request resource tree is.0 is.1,
)
