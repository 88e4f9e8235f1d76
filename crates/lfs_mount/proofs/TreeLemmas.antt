-- Nodes stay true of the tree behind the calls of a message, for StayLemmas: `plain_nodes` for calls that take no name
-- away, `found_nodes`, `made_nodes`, `unlinked_nodes`, `emptied_nodes` and `renamed_nodes` for the others by what they
-- do. A call that takes no name away changes what a row has besides its place, or puts one at an unused number, so that
-- all that nodes say stays (`judged_kept`). What `FindsRow`, `LosesRow` and `MovesRow` say of nodes holds for a tree in
-- which the row hangs under the name, and in which a row that goes has none beneath; that is so because the call was
-- served, by the rule that asked for it (`lost_row`, `renamed_row`). A call that was refused leaves the tree and the
-- nodes.
use Rattle.std.proofs.Common.{◌≡◌, ◌≢◌, ℕ, ◌==◌, Bool, true, false, List, [], ◌∷◌, ◌++◌, length, Option, None, Some, refl}
use Rattle.std.proofs.Common.{sym, ap, subst, ◌∙◌, arith, eqb-true, ne_eqb, suc, zero, ◌-◌, drop}
use Rattle.std.specs.FinMap as map
use Rattle.lfs_types.specs.Caller.{Caller}
use Rattle.lfs_types.specs.Tree.{World, root}
use Rattle.lfs_types.specs.declared.answer.Answer.{Answer}
use Rattle.lfs_types.specs.declared.answer.Answer.TheVariants.{Served, Denied, Refused}
use Rattle.lfs_types.specs.declared.answer.Served.{Served as Shown}
use Rattle.lfs_types.specs.declared.answer.Served.TheVariants as given
use Rattle.lfs_types.specs.declared.attrs.Attrs.{Attrs}
use Rattle.lfs_types.specs.declared.request.Request.{Request}
use Rattle.lfs_types.specs.declared.request.Request.TheVariants.{Stat, Read, Write, List as Names, SetLength, Create}
use Rattle.lfs_types.specs.declared.request.Request.TheVariants.{Mkdir, Unlink, Rmdir, Rename, Chmod, Chown, Chflags}
use Rattle.lfs_types.specs.declared.request.Request.TheVariants.{SetLevel, Sync}
use Rattle.lfs_model.specs.Effects.{after_rename, answer_of, cut, effect, given as passed_on, written}
use Rattle.lfs_model.specs.Rules.{decide, first_failing, front, last, moving_tests, arriving, reached, removing}
use Rattle.lfs_model.specs.Steps.{IsAnswer, after_answer}
use Rattle.lfs_model.specs.World.{Rows, IsTree, child, children}
use Rattle.lfs_model.proofs.Allowed.{MayRemove, may_go, may_remove, regular_row}
use Rattle.lfs_model.proofs.Deciding.{met_first, passes-append}
use Rattle.lfs_model.proofs.Members.{children-none}
use Rattle.lfs_model.proofs.NewNumbers.{new_unused}
use Rattle.lfs_model.proofs.Trees.{no_parent}
use Rattle.std.proofs.lemmas.Bool.{not-true}
use Rattle.lfs_calls.specs.Entries.{OnServed}
use Rattle.lfs_nodes.specs.declared.node.Node.{Node}
use Rattle.lfs_nodes.specs.declared.parts.Parts.{Parts}
use Rattle.lfs_nodes.specs.Nodes.{AreNodes, known, live_row}
use Rattle.lfs_nodes.proofs.LawLemmas.{nodes_changed, nodes_grown}
use Rattle.lfs_fuse_reply.specs.declared.errno.Errno.{Errno}
use Rattle.lfs_fuse_calls.specs.Asked.{asked_if, asked_to_open, asked_to_set, asked_with, is_told, mode_of, reads, told_or}
use Rattle.lfs_fuse_calls.specs.Asked.{writes}
use Rattle.lfs_fuse_calls.specs.Paths.{LeadsToRow}
use Rattle.lfs_fuse_calls.specs.Pieces.{next_place, put_at, read_pieces, write_pieces}
use Rattle.lfs_fuse_calls.specs.Shown.{wanted_by}
use Rattle.lfs_fuse_calls.specs.Telling.{refusal_in, seen_in}
use Rattle.lfs_fuse_calls.specs.declared.telling.Seen.{Seen as Sight}
use Rattle.lfs_fuse_wire.specs.declared.attributes.SetAttr.{SetAttr}
use Rattle.lfs_fuse_wire.specs.declared.flags.OpenFlags.{OpenFlags}
use Rattle.lfs_mount.specs.Making.{GoUpTo}
use Rattle.lfs_mount.specs.Trees.{FindsRow, LosesRow, MovesRow, UnlessRefused}
use Rattle.lfs_mount.proofs.JudgedLemmas.{AreJudged, SeesRow, child_at, front_is, last_is, refused_once}
use Rattle.lfs_mount.proofs.JudgedLemmas.{sees_made, sees_row, served_once}

-- ---- calls that take no name away

abbrev pub KeepsNames : Request → Type 0
KeepsNames (Unlink path) = ⊥
KeepsNames (Rmdir path) = ⊥
KeepsNames (Rename from to) = ⊥
KeepsNames request = Unit {0}

abbrev pub KeepNames : List Request → Type 0
KeepNames [] = Unit {0}
KeepNames (request ∷ requests) = KeepsNames request × KeepNames requests

module _ (numbers : ℕ) (caller : Caller) (K : ℕ → Option Node) where
  effect_kept : (w : World) (request : Request) (shown : Shown) → KeepsNames request
      → IsAnswer numbers w caller request (Served shown) → AreNodes w.rows K
      → AreNodes (effect numbers w caller request).rows K
  effect_kept w (Stat path) shown keeps answered are = are
  effect_kept w (Read path off len) shown keeps answered are = are
  effect_kept w (Names path) shown keeps answered are = are
  effect_kept w (Write path place []) shown keeps answered are = are
  effect_kept w (Write path place (b ∷ bs)) shown keeps answered are =
      nodes_changed w (reached w.rows root path) (written caller place (b ∷ bs)) K _ refl are
  effect_kept w (SetLength path len) shown keeps answered are =
      nodes_changed w (reached w.rows root path) (cut caller len) K _ refl are
  effect_kept w (Create path mode) shown keeps answered are =
      nodes_grown w.rows _ _ K (new_unused numbers w.rows answered.1) are
  effect_kept w (Mkdir path mode) shown keeps answered are =
      nodes_grown w.rows _ _ K (new_unused numbers w.rows answered.1) are
  effect_kept w (Unlink path) shown keeps answered are = absurd keeps
  effect_kept w (Rmdir path) shown keeps answered are = absurd keeps
  effect_kept w (Rename from to) shown keeps answered are = absurd keeps
  effect_kept w (Chmod path mode) shown keeps answered are =
      nodes_changed w (reached w.rows root path) (λ f. record f { mode = mode }) K _ refl are
  effect_kept w (Chown path uid gid) shown keeps answered are =
      nodes_changed w (reached w.rows root path) (passed_on caller uid gid) K _ refl are
  effect_kept w (Chflags path flags) shown keeps answered are =
      nodes_changed w (reached w.rows root path) (λ f. record f { flags = flags }) K _ refl are
  effect_kept w (SetLevel level) shown keeps answered are = are
  effect_kept w Sync shown keeps answered are = are

  answer_kept : (w : World) (request : Request) (answer : Answer) → KeepsNames request
      → OnServed answer (IsAnswer numbers w caller request answer) → AreNodes w.rows K
      → AreNodes (after_answer numbers w caller request answer).rows K
  answer_kept w request (Served shown) keeps answered are = effect_kept w request shown keeps answered are
  answer_kept w request (Denied denial) keeps answered are = are
  answer_kept w request (Refused resource) keeps answered are = are

  pub judged_kept : (w after : World) (requests : List Request) (answers : List Answer) → KeepNames requests
      → AreJudged numbers caller w requests answers after → AreNodes w.rows K → AreNodes after.rows K
  judged_kept w after [] [] keep judged are = subst (λ (v : World). AreNodes v.rows K) (sym judged) are
  judged_kept w after (request ∷ requests) [] keep judged are =
      subst (λ (v : World). AreNodes v.rows K) (sym judged) are
  judged_kept w after [] (answer ∷ answers) keep judged are = absurd judged
  judged_kept w after (request ∷ requests) (answer ∷ answers) keep judged are =
      judged_kept (after_answer numbers w caller request answer) after requests answers keep.1 judged.2
      (answer_kept w request answer keep.0 judged.1 are)

-- ---- which calls those are

keep_append : (first second : List Request) → KeepNames first → KeepNames second → KeepNames (first ++ second)
keep_append [] second one two = two
keep_append (request ∷ first) second one two = (one.0, keep_append first second one.1 two)

keep_if : (asks : Bool) (request : Request) → KeepsNames request → KeepNames (asked_if asks request)
keep_if true request keeps = (keeps, tt)
keep_if false request keeps = tt

keep_with : (request : ℕ → Request) (value : Option ℕ) → ((n : ℕ) → KeepsNames (request n))
    → KeepNames (asked_with request value)
keep_with request None keeps = tt
keep_with request (Some n) keeps = (keeps n, tt)

pub keep_open : (flags : OpenFlags) (path : List (List ℕ)) → KeepNames (asked_to_open flags path)
keep_open flags path =
    keep_append _ _
    (keep_append _ _
    (keep_append _ _ (keep_if (reads flags.access) (Read path 0 0) tt)
    (keep_if (writes flags.access) (Write path (put_at flags.append 0) []) tt))
    (keep_if flags.truncate (SetLength path 0) tt)) (keep_if flags.exec (Stat path) tt)

pub keep_read : (path : List (List ℕ)) (off size count : ℕ) → KeepNames (read_pieces path off size count)
keep_read path off size zero = tt
keep_read path off size (suc count) = (tt, keep_read path (next_place off) (size - 4096) count)

pub keep_write : (path : List (List ℕ)) (append : Bool) (off : ℕ) (bytes : List ℕ) (count : ℕ)
    → KeepNames (write_pieces path append off bytes count)
keep_write path append off bytes zero = tt
keep_write path append off bytes (suc count) = (tt, keep_write path append (next_place off) (drop 4096 bytes) count)

pub keep_set : (fields : SetAttr) (present : Attrs) (path : List (List ℕ))
    → KeepNames (asked_to_set fields present path)
keep_set fields present path =
    keep_append _ (Stat path ∷ [])
    (keep_append _ _
    (keep_append _ _ (keep_with (SetLength path) fields.size (λ n. tt))
    (keep_if (is_told fields.uid fields.gid)
    (Chown path (told_or present.uid fields.uid) (told_or present.gid fields.gid)) tt))
    (keep_with (λ permissions. Chmod path (mode_of permissions)) fields.permissions (λ n. tt))) (tt, tt)

-- ---- nodes of the calls of one message

-- nodes that are the same
pub same_true : (rows : Rows) (nodes after : Parts) → after ≡ nodes → AreNodes rows (known nodes)
    → AreNodes rows (known after)
same_true rows nodes after same are = subst (λ (n : Parts). AreNodes rows (known n)) (sym same) are

same_either : (o : Option Errno) (nodes after : Parts) → UnlessRefused o (after ≡ nodes) nodes after → after ≡ nodes
same_either None nodes after h = h
same_either (Some error) nodes after h = h

-- an empty list
none_in : {A : Type 0} (xs : List A) → (length xs == 0) ≡ true → xs ≡ []
none_in [] h = refl
none_in (x ∷ xs) h = let none : length (x ∷ xs) ≡ 0 = eqb-true _ _ h in absurd (omega (arith, none))

module _ (numbers : ℕ) (caller : Caller) (w v : World) (nodes after : Parts) where
  -- calls that take no name away leave nodes true, where these stay as they are
  pub plain_nodes : (requests : List Request) (answers : List Answer) (o : Option Errno) → KeepNames requests
      → AreJudged numbers caller w requests answers v → UnlessRefused o (after ≡ nodes) nodes after
      → AreNodes w.rows (known nodes) → AreNodes v.rows (known after)
  plain_nodes requests answers o keep judged same are =
      same_true v.rows nodes after (same_either o nodes after same)
      (judged_kept numbers caller (known nodes) w v requests answers keep judged are)

  seen_nodes : (directory : ℕ) (above path : List (List ℕ)) (name : List ℕ) (answers : List Answer)
      → SeesRow v above name answers
      → ((rows : Rows) → IsTree rows → AreNodes rows (known nodes) → live_row (known nodes directory)
      ≡ Some (reached rows root above))
      → FindsRow (Some name) (seen_in answers) directory nodes after → AreNodes v.rows (known nodes)
      → AreNodes v.rows (known after)
  seen_nodes directory above path name answers sees leads finds are =
      let found = subst (λ (s : Option Sight). FindsRow (Some name) s directory nodes after) sees.is finds in
      found v.rows (reached v.rows root above) sees.tree are (leads v.rows sees.tree are) sees.hangs

  -- a look-up
  pub found_nodes : (directory : ℕ) (path : List (List ℕ)) (name : List ℕ) (answers : List Answer) (o : Option Errno)
      → LeadsToRow (known nodes) directory (Some name) path → refusal_in answers ≡ o
      → AreJudged numbers caller w (Stat path ∷ []) answers v → GoUpTo (Stat path ∷ []) answers
      → UnlessRefused o (FindsRow (Some name) (seen_in answers) directory nodes after) nodes after
      → AreNodes w.rows (known nodes) → AreNodes v.rows (known after)
  found_nodes directory path name answers (Some error) leads refused judged up_to same are =
      plain_nodes (Stat path ∷ []) answers (Some error) (tt, tt) judged same are
  found_nodes directory path name answers None leads served judged up_to finds are =
      seen_nodes directory leads.above path name answers
      (sees_row numbers caller w v path leads.above name answers leads.all judged up_to served) leads.leads finds
      (judged_kept numbers caller (known nodes) w v (Stat path ∷ []) answers (tt, tt) judged are)

  -- a file or a directory that was made
  pub made_nodes : (request : Request) (directory : ℕ) (path : List (List ℕ)) (name : List ℕ) (answers : List Answer)
      (o : Option Errno)
      → KeepsNames request → wanted_by request ≡ None → ((u : World) → answer_of u request ≡ given.Done)
      → LeadsToRow (known nodes) directory (Some name) path → refusal_in answers ≡ o
      → AreJudged numbers caller w (request ∷ Stat path ∷ []) answers v → GoUpTo (request ∷ Stat path ∷ []) answers
      → UnlessRefused o (FindsRow (Some name) (seen_in answers) directory nodes after) nodes after
      → AreNodes w.rows (known nodes) → AreNodes v.rows (known after)
  made_nodes request directory path name answers (Some error) keeps none done leads refused judged up_to same are =
      plain_nodes (request ∷ Stat path ∷ []) answers (Some error) (keeps, (tt, tt)) judged same are
  made_nodes request directory path name answers None keeps none done leads served judged up_to finds are =
      seen_nodes directory leads.above path name answers
      (sees_made numbers caller w v request path leads.above name answers leads.all judged up_to served none done)
      leads.leads finds
      (judged_kept numbers caller (known nodes) w v (request ∷ Stat path ∷ []) answers (keeps, (tt, tt)) judged are)

  -- a row that was removed, in which nothing hung
  lost_row : (directory : ℕ) (path : List (List ℕ)) (name : List ℕ)
      → LeadsToRow (known nodes) directory (Some name) path → IsTree w.rows → MayRemove w.rows caller path
      → children w.rows (reached w.rows root path) ≡ [] → LosesRow (Some name) directory nodes after
      → AreNodes w.rows (known nodes) → AreNodes (map.remove w.rows (reached w.rows root path)) (known after)
  lost_row directory path name leads tree may empty loses are =
      loses w.rows (reached w.rows root leads.above) (reached w.rows root path) tree are (leads.leads w.rows tree are)
      (child_at w.rows path leads.above name (reached w.rows root path) leads.all may.hangs) empty

  pub unlinked_nodes : (directory : ℕ) (path : List (List ℕ)) (name : List ℕ) (answers : List Answer)
      (o : Option Errno)
      → LeadsToRow (known nodes) directory (Some name) path → refusal_in answers ≡ o
      → AreJudged numbers caller w (Unlink path ∷ []) answers v → GoUpTo (Unlink path ∷ []) answers
      → UnlessRefused o (LosesRow (Some name) directory nodes after) nodes after
      → AreNodes w.rows (known nodes) → AreNodes v.rows (known after)
  unlinked_nodes directory path name answers (Some error) leads refused judged up_to same are =
      subst (λ (u : World). AreNodes u.rows (known after))
      (sym (refused_once numbers caller w (Unlink path) answers v error judged refused))
      (same_true w.rows nodes after same are)
  unlinked_nodes directory path name answers None leads served judged up_to loses are =
      let once = served_once numbers caller w (Unlink path) answers v judged up_to served in
      let two = passes-append (removing w.rows caller path) _ once.answered.0 in
      let regular = regular_row _ (not-true _ (met_first _ _ _ two.1).0) in
      subst (λ (u : World). AreNodes u.rows (known after)) (sym once.leaves)
      (lost_row directory path name leads once.tree (may_remove w.rows caller path two.0)
      (none_in _ (children-none w.rows (reached w.rows root path)
      (no_parent w.rows once.tree (reached w.rows root path) regular))) loses are)

  pub emptied_nodes : (directory : ℕ) (path : List (List ℕ)) (name : List ℕ) (answers : List Answer) (o : Option Errno)
      → LeadsToRow (known nodes) directory (Some name) path → refusal_in answers ≡ o
      → AreJudged numbers caller w (Rmdir path ∷ []) answers v → GoUpTo (Rmdir path ∷ []) answers
      → UnlessRefused o (LosesRow (Some name) directory nodes after) nodes after
      → AreNodes w.rows (known nodes) → AreNodes v.rows (known after)
  emptied_nodes directory path name answers (Some error) leads refused judged up_to same are =
      subst (λ (u : World). AreNodes u.rows (known after))
      (sym (refused_once numbers caller w (Rmdir path) answers v error judged refused))
      (same_true w.rows nodes after same are)
  emptied_nodes directory path name answers None leads served judged up_to loses are =
      let once = served_once numbers caller w (Rmdir path) answers v judged up_to served in
      let two = passes-append (removing w.rows caller path) _ once.answered.0 in
      subst (λ (u : World). AreNodes u.rows (known after)) (sym once.leaves)
      (lost_row directory path name leads once.tree (may_remove w.rows caller path two.0)
      (none_in _ (met_first _ _ _ (met_first _ _ _ two.1).1).0) loses are)

  -- what a row that is moved replaces is empty
  replaced_empty : (from to : List (List ℕ)) (m : ℕ)
      → first_failing (moving_tests w.rows caller from to
      (child w.rows (reached w.rows root (front to)) (last to))) ≡ None
      → child w.rows (reached w.rows root (front to)) (last to) ≡ Some m → m ≢ reached w.rows root from
      → children w.rows m ≡ []
  replaced_empty from to m tests is apart =
      let goes = may_go w.rows caller from to (Some m) (ne_eqb m (reached w.rows root from) apart)
      (subst (λ o. first_failing (moving_tests w.rows caller from to o) ≡ None) is tests) in
      none_in _ (goes.gives m refl).empty

  renamed_row : (from to : List (List ℕ)) (node : ℕ) (name : List ℕ) (directory : ℕ) (new_name : List ℕ)
      → LeadsToRow (known nodes) node (Some name) from → LeadsToRow (known nodes) directory (Some new_name) to
      → IsTree w.rows → decide w caller (Rename from to) ≡ None
      → MovesRow node name directory new_name nodes after → AreNodes w.rows (known nodes)
      → AreNodes (effect numbers w caller (Rename from to)).rows (known after)
  renamed_row from to node name directory new_name leads leads_to tree allowed moves are =
      let moved = reached w.rows root from in
      let one = passes-append (removing w.rows caller from) _ allowed in
      let two = passes-append (arriving w.rows caller to) _ one.1 in
      let may = may_remove w.rows caller from one.0 in
      let t = reached w.rows root leads_to.above in
      let into = front_is to leads_to.above new_name leads_to.all in
      let named = last_is to leads_to.above new_name leads_to.all in
      let place : child w.rows (reached w.rows root (front to)) (last to) ≡ child w.rows t new_name =
      ap (λ names. child w.rows (reached w.rows root names) (last to)) into ∙ ap (child w.rows t) named in
      subst (λ l. AreNodes (after_rename w moved (child w.rows (reached w.rows root (front to)) l)
      (reached w.rows root (front to)) l).rows (known after)) (sym named)
      (subst (λ names. AreNodes (after_rename w moved (child w.rows (reached w.rows root names) new_name)
      (reached w.rows root names) new_name).rows (known after)) (sym into)
      (moves w (reached w.rows root leads.above) t moved tree are (leads.leads w.rows tree are)
      (leads_to.leads w.rows tree are) (child_at w.rows from leads.above name moved leads.all may.hangs)
      (λ m is apart. replaced_empty from to m two.1 (place ∙ is) apart)))

  -- a Rename
  pub renamed_nodes : (from to : List (List ℕ)) (node : ℕ) (name : List ℕ) (directory : ℕ) (new_name : List ℕ)
      (answers : List Answer) (o : Option Errno)
      → LeadsToRow (known nodes) node (Some name) from → LeadsToRow (known nodes) directory (Some new_name) to
      → refusal_in answers ≡ o
      → AreJudged numbers caller w (Rename from to ∷ []) answers v → GoUpTo (Rename from to ∷ []) answers
      → UnlessRefused o (MovesRow node name directory new_name nodes after) nodes after
      → AreNodes w.rows (known nodes) → AreNodes v.rows (known after)
  renamed_nodes from to node name directory new_name answers (Some error) leads leads_to refused judged up_to same are =
      subst (λ (u : World). AreNodes u.rows (known after))
      (sym (refused_once numbers caller w (Rename from to) answers v error judged refused))
      (same_true w.rows nodes after same are)
  renamed_nodes from to node name directory new_name answers None leads leads_to served judged up_to moves are =
      let once = served_once numbers caller w (Rename from to) answers v judged up_to served in
      subst (λ (u : World). AreNodes u.rows (known after)) (sym once.leaves)
      (renamed_row from to node name directory new_name leads leads_to once.tree once.answered.0 moves are)
