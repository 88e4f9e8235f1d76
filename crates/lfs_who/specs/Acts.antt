-- What somebody may want to do by a path, and the tests of it.
use Rattle.std.specs.Prelude.{ℕ, not, Bool, true, false, List, [], ◌∷◌, ◌++◌, filter, length, Option, None, Some, is_some}
use Rattle.lfs_types.specs.Caller.{Caller}
use Rattle.lfs_types.specs.Kinds.{is_directory_kind}
use Rattle.lfs_types.specs.Tree.{World, root}
use Rattle.lfs_types.specs.declared.attrs.Kind.{Kind}
use Rattle.lfs_types.specs.declared.request.Place.TheVariants.{At, End}
use Rattle.lfs_types.specs.declared.request.Request.{Request}
use Rattle.lfs_types.specs.declared.request.Request.TheVariants as requests
use Rattle.lfs_types.specs.declared.rule.Denial.{Denial}
use Rattle.lfs_model.specs.Rules.{Check, attrs_at, first_failing, leaves_test, reached, reaching, removing, rule_table}
use Rattle.lfs_model.specs.Rules.{searching_tests}
use Rattle.lfs_explain.specs.Tables.{Path, last_row, removing_by}
use Rattle.lfs_who.specs.declared.act.Act.{Act}
use Rattle.lfs_who.specs.declared.act.Act.TheVariants.{Stat, Search, Read, Write, Append, List as Names, Create, Unlink}
use Rattle.lfs_who.specs.declared.act.Act.TheVariants.{Rmdir, Move, Chmod, Chown, Chflags}

-- whether a path leads to a directory, or to a file
abbrev pub leads_to_directory : Option Kind → Bool
leads_to_directory None = false
leads_to_directory (Some kind) = is_directory_kind kind

abbrev pub leads_to_file : Option Kind → Bool
leads_to_file None = false
leads_to_file (Some kind) = not (is_directory_kind kind)

-- Whether an act makes sense by a path that leads to this, or nowhere: a directory alone is gone through, listed and
-- taken away by a Rmdir, a file alone is read, changed and taken away by an Unlink, and only where nothing is can
-- something be made. Whatever is there is moved and gets other attributes; a Stat asks what is there.
abbrev pub suits : Option Kind → Act → Bool
suits kind Stat = true
suits kind Search = leads_to_directory kind
suits kind Read = leads_to_file kind
suits kind Write = leads_to_file kind
suits kind Append = leads_to_file kind
suits kind Names = leads_to_directory kind
suits kind Create = not (is_some kind)
suits kind Unlink = leads_to_file kind
suits kind Rmdir = leads_to_directory kind
suits kind Move = is_some kind
suits kind Chmod = is_some kind
suits kind Chown = is_some kind
suits kind Chflags = is_some kind

-- the acts, and those of them by a path that leads to this, or nowhere
abbrev pub acts : List Act
acts = Stat ∷ Search ∷ Read ∷ Write ∷ Append ∷ Names ∷ Create ∷ Unlink ∷ Rmdir ∷ Move ∷ Chmod ∷ Chown ∷ Chflags ∷ []

abbrev pub acts_by : Option Kind → List Act
acts_by kind = filter (suits kind) acts

-- The call that does it: to give it away is to give it to user 0 and group 0, to change its flags to take all from it.
-- Going through a directory is no call of its own, nor is taking a name away to another directory: both ask what a Stat
-- asks and more.
abbrev pub request_of : Act → List (List ℕ) → Request
request_of Stat path = requests.Stat path
request_of Search path = requests.Stat path
request_of Read path = requests.Read path 0 0
request_of Write path = requests.Write path (At 0) []
request_of Append path = requests.Write path End []
request_of Names path = requests.List path
request_of Create path = requests.Create path 0
request_of Unlink path = requests.Unlink path
request_of Rmdir path = requests.Rmdir path
request_of Move path = requests.Stat path
request_of Chmod path = requests.Chmod path 0
request_of Chown path = requests.Chown path 0 0
request_of Chflags path = requests.Chflags path 0

-- The tests of it in a world: those of its call; of going through a directory, those of the way and of search in it; of
-- taking a name away to another directory, those that a Rename there asks of what has the name and of where it hangs,
-- while those of the other directory are of another path.
abbrev pub act_table : World → Caller → Act → List (List ℕ) → List Check
act_table w c Search path = reaching w.rows c path (searching_tests c 0)
act_table w c Move path =
    removing w.rows c path
    ++ (leaves_test c false (attrs_at w.rows (reached w.rows root path)) (length path) ∷ [])
act_table w c act path = rule_table w c (request_of act path)

-- the denial of it, or None where the rules allow it
abbrev pub act_denial : World → Caller → Act → List (List ℕ) → Option Denial
act_denial w c act path = first_failing (act_table w c act path)

-- the tests of taking a name away to another directory, by what the path leads through
abbrev pub leaving_by : Caller → Path → List Check
leaving_by c path = removing_by c path
    ++ (leaves_test c false (last_row path).attrs path.names ∷ [])
