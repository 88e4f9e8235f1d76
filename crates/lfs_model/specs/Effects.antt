-- What allowed calls do, and what they show.
use Rattle.std.specs.Prelude.{ℕ, zero, suc, ◌+◌, ◌==◌, min, List, [], ◌∷◌, length, Option, None, Some, is_some}
use Rattle.std.specs.Prelude.{if◌then◌else◌}
use Rattle.std.specs.FinMap as map
use Rattle.std.specs.Ordering.{nat_cmp, is_lt}
use Rattle.std.specs.Cmp.Lexicographic.{slice_cmp}
use Rattle.std.specs.Prelude as lists
use Rattle.lfs_types.specs.Caller.{Caller}
use Rattle.lfs_types.specs.Splicing.{splice, resized}
use Rattle.lfs_types.specs.Stored.{slice_of}
use Rattle.lfs_types.specs.Tree.{File, Row, World, root, attrs_of}
use Rattle.lfs_types.specs.declared.answer.Served.{Served}
use Rattle.lfs_types.specs.declared.answer.Served.TheVariants as served
use Rattle.lfs_types.specs.declared.attrs.Kind.{Kind}
use Rattle.lfs_types.specs.declared.attrs.Kind.TheVariants.{File as Regular, Directory}
use Rattle.lfs_types.specs.declared.limits.TheConstants.{FIRST_INODE, TRANSFER_BYTES}
use Rattle.lfs_types.specs.declared.request.Place.{Place}
use Rattle.lfs_types.specs.declared.request.Request.{Request}
use Rattle.lfs_types.specs.declared.request.Request.TheVariants.{Stat, Read, Write, List as Names, SetLength, Create}
use Rattle.lfs_types.specs.declared.request.Request.TheVariants.{Mkdir, Unlink, Rmdir, Rename, Chmod, Chown, Chflags}
use Rattle.lfs_types.specs.declared.request.Request.TheVariants.{SetLevel, Sync}
use Rattle.lfs_rules.specs.SetId.{set_id_cleared}
use Rattle.lfs_model.specs.World.{Rows, file_at, name_of, child, children}
use Rattle.lfs_model.specs.Rules.{front, last, reached, start_in}

-- the least number from n up that no row has, looked for among so many numbers
unfoldable pub least_unused : Rows → ℕ → ℕ → ℕ
least_unused rows zero n = n
least_unused rows (suc count) n = if is_some (map.get rows n) then least_unused rows count (n + 1) else n

-- the world with the file of a row changed
abbrev pub with_file : Option Row → ℕ → (File → File) → World → World
with_file None n change w = w
with_file (Some r) n change w = record w { rows = map.insert w.rows n (record r { file = change r.file }) }

-- write(2): the mode of a file after bytes were written to it: a caller who isn't the superuser clears the set-id bits
abbrev pub mode_after : Caller → ℕ → ℕ
mode_after caller mode = if caller.uid == 0 then mode else set_id_cleared mode

-- write(2): a file with bytes written to it; what lies between its old end and them is zeros
abbrev pub written : Caller → Place → List ℕ → File → File
written caller place bytes f = record f {
  mode = mode_after caller f.mode;
  bytes = splice f.bytes (start_in place (length f.bytes)) bytes;
}

-- the world after a Write: no bytes change nothing
abbrev pub after_write : World → Caller → List (List ℕ) → Place → List ℕ → World
after_write w caller path place [] = w
after_write w caller path place (b ∷ bs) =
    let n = reached w.rows root path in
    with_file (map.get w.rows n) n (written caller place (b ∷ bs)) w

-- open(2), mkdir(2): a new file belongs to who makes it, and to the group of its directory
abbrev pub new_file : Caller → Kind → ℕ → ℕ → File
new_file caller kind gid mode = record { kind = kind; uid = caller.uid; gid = gid; mode = mode; flags = 0; bytes = [] }

-- the world with a new row, of the least unused number from 4 up
abbrev pub with_new : ℕ → World → Caller → List (List ℕ) → Kind → ℕ → World
with_new numbers w caller path kind mode =
    let parent = reached w.rows root (front path) in
    record w {
      rows = map.insert w.rows (least_unused w.rows numbers FIRST_INODE) (record {
        parent = parent;
        name = last path;
        file = new_file caller kind (file_at (map.get w.rows parent)).gid mode;
      });
    }

-- the world without a row
abbrev pub without_row : ℕ → World → World
without_row n w = record w { rows = map.remove w.rows n }

-- the world with a row under another parent and another name
abbrev pub with_place : Option Row → ℕ → ℕ → List ℕ → World → World
with_place None n parent name w = w
with_place (Some r) n parent name w = record w {
  rows =
      map.insert w.rows n (record r { parent = parent; name = name });
}

-- rename(2): the world after a row got a place to which a name leads here: another row is taken away from it, and a row
-- that has it already stays
abbrev pub after_rename : World → ℕ → Option ℕ → ℕ → List ℕ → World
after_rename w n None parent name = with_place (map.get w.rows n) n parent name w
after_rename w n (Some m) parent name =
    if m == n then w else with_place (map.get w.rows n) n parent name (without_row m w)

-- the world with a row's file changed
abbrev pub with_change : World → List (List ℕ) → (File → File) → World
with_change w path change = let n = reached w.rows root path in with_file (map.get w.rows n) n change w

-- truncate(2): a file of another length, cut, or grown with zeros
abbrev pub cut : Caller → ℕ → File → File
cut caller len f = record f { mode = mode_after caller f.mode; bytes = resized f.bytes len }

-- chown(2): a file of another owner and group; its set-id bits go where another than user 0 does so
abbrev pub given : Caller → ℕ → ℕ → File → File
given caller uid gid f = record f { uid = uid; gid = gid; mode = mode_after caller f.mode }

-- the world after an allowed call, on a volume of this many inode numbers
abbrev pub effect : ℕ → World → Caller → Request → World
effect numbers w caller (Stat path) = w
effect numbers w caller (Read path off len) = w
effect numbers w caller (Names path) = w
effect numbers w caller (Write path place bytes) = after_write w caller path place bytes
effect numbers w caller (SetLength path len) = with_change w path (cut caller len)
effect numbers w caller (Create path mode) = with_new numbers w caller path Regular mode
effect numbers w caller (Mkdir path mode) = with_new numbers w caller path Directory mode
effect numbers w caller (Unlink path) = without_row (reached w.rows root path) w
effect numbers w caller (Rmdir path) = without_row (reached w.rows root path) w
effect numbers w caller (Rename from to) =
    let dir = reached w.rows root (front to) in
    after_rename w (reached w.rows root from) (child w.rows dir (last to)) dir (last to)
effect numbers w caller (Chmod path mode) = with_change w path (λ f. record f { mode = mode })
effect numbers w caller (Chown path uid gid) = with_change w path (given caller uid gid)
effect numbers w caller (Chflags path flags) = with_change w path (λ f. record f { flags = flags })
effect numbers w caller (SetLevel level) = record w { level = level }
effect numbers w caller Sync = w

-- read(2): bytes up to the file's end; this project's profile: the most that a Read serves
abbrev pub read_max : ℕ
read_max = TRANSFER_BYTES

-- a name put into names in byte order, before the first that isn't less
unfoldable pub put_in_order : List ℕ → List (List ℕ) → List (List ℕ)
put_in_order name [] = name ∷ []
put_in_order name (first ∷ names) = if is_lt (slice_cmp nat_cmp first name) then first ∷ put_in_order name names
    else name ∷ first ∷ names

-- names in byte order
unfoldable pub in_byte_order : List (List ℕ) → List (List ℕ)
in_byte_order [] = []
in_byte_order (name ∷ names) = put_in_order name (in_byte_order names)

-- getdirentries(2): the names in a directory, without its own and its parent's; in byte order by this project's profile
abbrev pub names_in : Rows → ℕ → List (List ℕ)
names_in rows parent = lists.map (λ n. name_of (map.get rows n)) (children rows parent)

-- what an allowed call shows of the world before it
abbrev pub answer_of : World → Request → Served
answer_of w (Stat path) = let n = reached w.rows root path in served.Stat n (attrs_of (file_at (map.get w.rows n)))
answer_of w (Read path off len) = served.Bytes
    (slice_of (file_at (map.get w.rows (reached w.rows root path))).bytes off (min len read_max))
answer_of w (Names path) = served.Names (in_byte_order (names_in w.rows (reached w.rows root path)))
answer_of w (Write path place bytes) = served.Done
answer_of w (SetLength path len) = served.Done
answer_of w (Create path mode) = served.Done
answer_of w (Mkdir path mode) = served.Done
answer_of w (Unlink path) = served.Done
answer_of w (Rmdir path) = served.Done
answer_of w (Rename from to) = served.Done
answer_of w (Chmod path mode) = served.Done
answer_of w (Chown path uid gid) = served.Done
answer_of w (Chflags path flags) = served.Done
answer_of w (SetLevel level) = served.Done
answer_of w Sync = served.Done
