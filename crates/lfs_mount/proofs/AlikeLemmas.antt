-- When the calls of a message come to the same for every caller of a user, whatever his groups are: `moded` and `owned`
-- for attributes, `row_alike` for a row, and `stats_alike`, `reads_alike`, `writes_alike`, `unlinks_alike`, `rmdirs_alike`
-- and `moves_alike` for calls.
-- The rules ask a caller's groups only where they ask what a mode grants him, and there between the group's bit and the
-- others'. So a call's first failing test is the same where the walks end alike (`after_way`) and each test that asks a
-- mode is met alike; all other tests ask his user alone. Behind a first path the walk of a Rename's second one is the
-- walk of its own, told as of the second (`walked_as`).
use Rattle.std.proofs.Common.{◌≡◌, ℕ, zero, suc, ◌+◌, ◌-◌, ◌==◌, ◌≤◌, ◌&&◌, ◌||◌, not, min, Bool, true, false, cond, List, [], ◌∷◌}
use Rattle.std.proofs.Common.{◌++◌, length, Option, None, Some, Result, Ok, Err, refl, sym, ap, subst, ◌∙◌, arith, append_assoc, append-nil, take}
use Rattle.std.specs.Prelude.{nat_le, IfSome}
use Rattle.std.proofs.lemmas.Grind.{common_steps}
use Rattle.std.specs.Bool.{beq}
use Rattle.std.specs.FinMap as map
use Rattle.lfs_types.specs.Caller.{Caller}
use Rattle.lfs_types.specs.Kinds.{is_directory_kind}
use Rattle.lfs_types.specs.Splicing.{splice}
use Rattle.lfs_types.specs.Stored.{shown_attrs}
use Rattle.lfs_types.specs.StoreStates.{StoreState}
use Rattle.lfs_types.specs.Tree.{Content, File, World, root}
use Rattle.lfs_types.specs.declared.attrs.Attrs.{Attrs}
use Rattle.lfs_types.specs.declared.attrs.Bit.{Bit}
use Rattle.lfs_types.specs.declared.attrs.Bit.TheVariants as bits
use Rattle.lfs_types.specs.declared.request.Place.{Place}
use Rattle.lfs_types.specs.declared.request.Request.TheVariants.{Stat, Read, Write, Unlink, Rmdir, Rename}
use Rattle.lfs_types.specs.declared.rule.Denial.{Denial}
use Rattle.lfs_types.specs.declared.rule.Rule.TheVariants as rule
use Rattle.lfs_rules.specs.Bits.{has_bit, sticky_bit}
use Rattle.lfs_rules.specs.Grants.{grants_of, owner_mask, group_mask, other_mask}
use Rattle.lfs_rules.specs.Locks.{is_append_only, is_immutable}
use Rattle.lfs_rules.specs.Owners.{is_in_group}
use Rattle.lfs_rules.specs.SetId.{set_id_cleared}
use Rattle.lfs_rules.specs.Sticky.{is_barred}
use Rattle.lfs_model.specs.Effects.{after_write, with_file}
use Rattle.lfs_model.specs.Rules.{Check, apart_test, arriving, asks, attrs_at, first_failing, front, is_directory_row}
use Rattle.lfs_model.specs.Rules.{file_max, is_end, is_there, last, last_tests, moving_tests, placing_tests, reached, read_tests}
use Rattle.lfs_model.specs.Rules.{removing, removing_tests, replaced_tests, row_grants, searching_tests, start_in, walk, write_tests}
use Rattle.lfs_model.specs.Rules.{rmdir_tests, unlink_tests}
use Rattle.lfs_model.specs.Walks.{and_then, found, stepped, walked}
use Rattle.lfs_model.specs.World.{IsTree, Rows, child, children}
use Rattle.lfs_model.proofs.Deciding.{after_walk, failing_walk, walked-reached}
use Rattle.lfs_model.proofs.WalkLemmas.{walked_last}
use Rattle.lfs_calls.specs.Content.{Shows}
use Rattle.lfs_calls.specs.Reaches.{EndsAlike}
use Rattle.lfs_calls.proofs.StepLemmas.{attrs_reads, grants_reads}
use Rattle.lfs_nodes.specs.Nodes.{AreNodes, is_live, live_row}
use Rattle.lfs_nodes.specs.Reads.{number_in}
use Rattle.lfs_nodes.specs.declared.node.Node.{Node}
use Rattle.lfs_fuse_calls.specs.Pieces.{next_place, piece_count, put_at, read_pieces, write_pieces}
use Rattle.lfs_fuse_calls.specs.Paths.{IsPathOf, LeadsToRow}
use Rattle.lfs_fuse_wire.specs.Said as said
use Rattle.lfs_fuse_wire.specs.declared.handles.Read.{Read as ReadFields}
use Rattle.lfs_fuse_wire.specs.declared.handles.Write.{Write as WriteFields}
use Rattle.lfs_fuse_wire.specs.declared.header.Header.{Header}
use Rattle.lfs_fuse_wire.specs.declared.naming.Rename.{Rename as RenameFields}
use Rattle.lfs_nodes.specs.declared.node.Hang.{Hang}
use Rattle.lfs_nodes.specs.declared.parts.Parts.{Parts}
use Rattle.lfs_volume.specs.Seen.{Seen}
use Rattle.lfs_mount.proofs.JudgedLemmas.{front_is}
use Rattle.lfs_mount.specs.Groups.{AreAlike, GrantsAlike, IsAlike, NeedsNoGroups, ReachesAlike, RowGrantsAlike}
use Rattle.lfs_mount.specs.Handled.{hangs_in}

-- ---- attributes

-- two tests with one answer
pub same_of : (a b : Bool) → beq a b ≡ true → a ≡ b
same_of true true h = refl
same_of true false h = absurd (cc)
same_of false true h = absurd (cc)
same_of false false h = refl

-- what is granted a user who is in the group, or isn't
abbrev granted : Attrs → Bit → ℕ → Bool → Bool
granted attrs bit uid member =
    cond (uid == 0) true (cond (uid == attrs.uid) (has_bit attrs.mode (owner_mask bit))
    (cond member (has_bit attrs.mode (group_mask bit)) (has_bit attrs.mode (other_mask bit))))

member_cond : (b c g o : Bool) → g ≡ o → cond b g o ≡ cond c g o
member_cond true true g o h = refl
member_cond true false g o h = h
member_cond false true g o h = sym h
member_cond false false g o h = refl

alike_of : (attrs : Attrs) (uid : ℕ) (bit : Bit)
    → ((m n : Bool) → granted attrs bit uid m ≡ granted attrs bit uid n) → GrantsAlike attrs uid bit
alike_of attrs uid bit same c d cu du =
    ap (λ u. granted attrs bit u (is_in_group c attrs.gid)) cu
    ∙ same (is_in_group c attrs.gid) (is_in_group d attrs.gid)
    ∙ ap (λ u. granted attrs bit u (is_in_group d attrs.gid)) (sym du)

-- its group is granted what others are
pub moded : (attrs : Attrs) (uid : ℕ) (bit : Bit) → has_bit attrs.mode (group_mask bit)
    ≡ has_bit attrs.mode (other_mask bit) → GrantsAlike attrs uid bit
moded attrs uid bit same = alike_of attrs uid bit
    (λ m n. ap (λ x. cond (uid == 0) true (cond (uid == attrs.uid) (has_bit attrs.mode (owner_mask bit)) x))
    (member_cond m n _ _ same))

-- it is his
pub owned : (attrs : Attrs) (uid : ℕ) (bit : Bit) → (uid == attrs.uid) ≡ true → GrantsAlike attrs uid bit
owned attrs uid bit his = alike_of attrs uid bit
    (λ m n. let his_bit : (x : Bool) → cond (uid == attrs.uid) (has_bit attrs.mode (owner_mask bit)) x
    ≡ has_bit attrs.mode (owner_mask bit) =
    λ x. ap (λ b. cond b (has_bit attrs.mode (owner_mask bit)) x) his in
    ap (λ x. cond (uid == 0) true x) (his_bit _ ∙ sym (his_bit _)))

-- ---- rows

-- what attributes that a store shows grant alike their row does
pub row_alike : (c : Content) (w : World) → Shows c w → (n : ℕ) (a : Attrs) → Some a ≡ shown_attrs c n → (uid : ℕ)
    (bit : Bit) → GrantsAlike a uid bit → RowGrantsAlike w.rows n uid bit
row_alike c w shows n a shown uid bit alike one two cu du = (
  grants_reads c w shows n a shown one bit ∙ alike one two cu du ∙ sym (grants_reads c w shows n a shown two bit),
  ap (λ (x : Attrs). grants_of one x bit) (attrs_reads c w shows n a shown) ∙ alike one two cu du
      ∙ sym (ap (λ (x : Attrs). grants_of two x bit) (attrs_reads c w shows n a shown)),
)

live_then : (b : Bool) (m n : ℕ) → cond b (Some m) None ≡ Some n → Some m ≡ Some n
live_then true m n e = e
live_then false m n e = absurd (cc)

-- the number of a node that hangs
pub live_number : (o : Option Node) (n : ℕ) → live_row o ≡ Some n → number_in o ≡ Some n
live_number None n e = absurd (cc)
live_number (Some node) n e = live_then (is_live node.hang) node.row n e

-- ---- tests behind a walk

module _ (rows : Rows) (c d : Caller) where
  -- where a walk ends alike, and the tests behind it come to the same, all do
  pub after_way : (p : ℕ) (names : List (List ℕ)) (xs ys : List Check)
      → walked rows c p 0 root names ≡ walked rows d p 0 root names → first_failing xs ≡ first_failing ys
      → first_failing (walk rows c p 0 root names ++ xs) ≡ first_failing (walk rows d p 0 root names ++ ys)
  after_way p names xs ys ends same =
      failing_walk rows c p 0 root names xs ∙ ap (λ r. after_walk r (first_failing xs)) ends
      ∙ ap (λ r. after_walk (walked rows d p 0 root names) r) same ∙ sym (failing_walk rows d p 0 root names ys)

front_same : (ts xs ys : List Check) → first_failing xs ≡ first_failing ys
    → first_failing (ts ++ xs) ≡ first_failing (ts ++ ys)
front_same [] xs ys same = same
front_same (t ∷ ts) xs ys same = ap (λ r. cond t.met r (Some t.denial)) (front_same ts xs ys same)

-- ---- calls on the file of a path

-- a write goes by the user
same_write : (w : World) (c d : Caller) → c.uid ≡ d.uid → (path : List (List ℕ)) (place : Place) (bytes : List ℕ)
    → after_write w c path place bytes ≡ after_write w d path place bytes
same_write w c d same path place [] = refl
same_write w c d same path place (b ∷ bytes) =
    let n = reached w.rows root path in
    ap (λ u. with_file (map.get w.rows n) n (λ (f : File). record f {
      mode = cond (u == 0) f.mode (set_id_cleared f.mode);
      bytes = splice f.bytes (start_in place (length f.bytes)) (b ∷ bytes);
    }) w) same

module _ (numbers : ℕ) (w : World) (uid : ℕ) (path : List (List ℕ)) (ends : EndsAlike w.rows uid path) where
  -- a look, of which nothing else is asked
  pub stats_alike : IsAlike numbers w uid (Stat path)
  stats_alike c d cu du = (after_way w.rows c d 0 path [] [] (ends c d cu du) refl, refl)

  -- a read
  pub reads_alike : RowGrantsAlike w.rows (reached w.rows root path) uid bits.Read → (off len : ℕ)
      → IsAlike numbers w uid (Read path off len)
  reads_alike grants off len c d cu du =
      let attrs = attrs_at w.rows (reached w.rows root path) in
      let k = length path in (
        after_way w.rows c d 0 path (read_tests c attrs k) (read_tests d attrs k) (ends c d cu du)
            (ap (λ b. first_failing (asks (not (is_directory_kind attrs.kind)) rule.IsNoDirectory 0 k
            ∷ asks b rule.GrantsRead 0 k ∷ [])) (grants c d cu du).1),
        refl,
      )

  -- reads in pieces
  pub all_read : RowGrantsAlike w.rows (reached w.rows root path) uid bits.Read → (off size n : ℕ)
      → AreAlike numbers w uid (read_pieces path off size n)
  all_read grants off size zero = tt
  all_read grants off size (suc n) =
      (reads_alike grants off (min size 4096), λ c cu. all_read grants (next_place off) (size - 4096) n)

  -- a write
  pub writes_alike : RowGrantsAlike w.rows (reached w.rows root path) uid bits.Write → (place : Place)
      (bytes : List ℕ) → IsAlike numbers w uid (Write path place bytes)
  writes_alike grants place bytes c d cu du =
      let attrs = attrs_at w.rows (reached w.rows root path) in
      let k = length path in
      let count = length bytes in (
        after_way w.rows c d 0 path (write_tests c place count attrs k) (write_tests d place count attrs k)
            (ends c d cu du)
            (ap (λ b. first_failing ((asks (not (is_directory_kind attrs.kind)) rule.IsNoDirectory 0 k
            ∷ asks (not (is_immutable attrs)) rule.IsMutable 0 k ∷ asks b rule.GrantsWrite 0 k
            ∷ asks (is_end place || not (is_append_only attrs)) rule.IsNotAppendOnly 0 k ∷ [])
            ++ asks (nat_le (start_in place attrs.size + count) file_max) rule.FitsFile 0 k ∷ []))
            (grants c d cu du).1),
        same_write w c d (cu ∙ sym du) path place bytes,
      )

-- ---- the walk along another path of a call

abbrev told_of : ℕ → Result ℕ Denial → Result ℕ Denial
told_of p (Ok n) = Ok n
told_of p (Err denial) = Err (record denial { path = p })

step_as : (p k : ℕ) (kind search : Denial) (d s : Bool) (o : Option ℕ) (f g : ℕ → Result ℕ Denial)
    → ((n : ℕ) → f n ≡ told_of p (g n))
    → and_then (cond d (cond s (found p k o) (Err (record search { path = p }))) (Err (record kind { path = p }))) f
    ≡ told_of p (and_then (cond d (cond s (found 0 k o) (Err search)) (Err kind)) g)
step_as p k kind search true true None f g same = refl
step_as p k kind search true true (Some n) f g same = same n
step_as p k kind search true false o f g same = refl
step_as p k kind search false s o f g same = refl

-- the walk along a path of this index
walked_as : (rows : Rows) (c : Caller) (p k at : ℕ) (names : List (List ℕ))
    → walked rows c p k at names ≡ told_of p (walked rows c 0 k at names)
unfolding walked
walked_as rows c p k at [] = refl
walked_as rows c p k at (name ∷ names) =
    step_as p (k + 1) (record { rule = rule.IsDirectory; path = 0; at = k })
    (record { rule = rule.GrantsSearch; path = 0; at = k }) (is_directory_row (map.get rows at))
    (row_grants c bits.Search (map.get rows at)) (child rows at name)
    (λ n. walked rows c p (k + 1) n names) (λ n. walked rows c 0 (k + 1) n names)
    (λ n. walked_as rows c p (k + 1) n names)

-- ends alike as the first one
pub ends_as : (rows : Rows) (uid : ℕ) (names : List (List ℕ)) → EndsAlike rows uid names → (p : ℕ) (c d : Caller)
    → c.uid ≡ uid → d.uid ≡ uid → walked rows c p 0 root names ≡ walked rows d p 0 root names
ends_as rows uid names ends p c d cu du =
    walked_as rows c p 0 root names ∙ ap (told_of p) (ends c d cu du) ∙ sym (walked_as rows d p 0 root names)

and_then_at : (r : Result ℕ Denial) (f g : ℕ → Result ℕ Denial) → ((n : ℕ) → r ≡ Ok n → f n ≡ g n)
    → and_then r f ≡ and_then r g
and_then_at (Ok n) f g same = same n refl
and_then_at (Err denial) f g same = refl

-- with a name more, in what grants search alike
pub further : (rows : Rows) (uid : ℕ) (above : List (List ℕ)) (name : List ℕ) → EndsAlike rows uid above
    → RowGrantsAlike rows (reached rows root above) uid bits.Search → EndsAlike rows uid (above ++ name ∷ [])
further rows uid above name ends grants c d cu du =
    let k = length above in
    walked_last rows c 0 0 root above name
    ∙ ap (λ r. and_then r (λ n. stepped rows c 0 (0 + k) n name)) (ends c d cu du)
    ∙ and_then_at (walked rows d 0 0 root above) _ _ (λ n is.
    let at = walked-reached rows d 0 0 root above n is in
    let same = subst (λ m. row_grants c bits.Search (map.get rows m) ≡ row_grants d bits.Search (map.get rows m)) at
    (grants c d cu du).0 in
    ap (λ b. cond (is_directory_row (map.get rows n))
    (cond b (found 0 (0 + k + 1) (child rows n name)) (Err (record { rule = rule.GrantsSearch; path = 0; at = 0 + k })))
    (Err (record { rule = rule.IsDirectory; path = 0; at = 0 + k }))) same)
    ∙ sym (walked_last rows d 0 0 root above name)

-- ---- calls on names in a directory

-- the sticky bit goes by the user
barred_alike : (dir file : Attrs) (c d : Caller) → c.uid ≡ d.uid → is_barred c dir file ≡ is_barred d dir file
barred_alike dir file c d same = ap (λ u. has_bit dir.mode sticky_bit
    && not ((u == 0) || (u == file.uid) || (u == dir.uid))) same

-- the tests of a name that is taken away, by what is granted and whether the sticky bit bars
abbrev removing_by : Bool → Bool → ℕ → Attrs → Attrs → ℕ → List Check
removing_by grants barred path dir file k =
    asks (not (is_immutable dir)) rule.IsMutable path k
    ∷ asks grants rule.GrantsWrite path k
    ∷ asks (not (is_append_only dir)) rule.IsNotAppendOnly path k
    ∷ asks (not barred) rule.PassesSticky path (k + 1)
    ∷ asks (not (is_immutable file)) rule.IsMutable path (k + 1)
    ∷ asks (not (is_append_only file)) rule.IsNotAppendOnly path (k + 1)
    ∷ []

removing_same : (p : ℕ) (dir file : Attrs) (k : ℕ) (c d : Caller) → c.uid ≡ d.uid
    → grants_of c dir bits.Write ≡ grants_of d dir bits.Write
    → removing_tests c p dir file k ≡ removing_tests d p dir file k
removing_same p dir file k c d same grants =
    ap (λ b. removing_by b (is_barred c dir file) p dir file k) grants
    ∙ ap (λ b. removing_by (grants_of d dir bits.Write) b p dir file k) (barred_alike dir file c d same)

or_stays : (x s g h : Bool) → s ≡ true → (x || s || g) ≡ (x || s || h)
or_stays true true g h e = refl
or_stays false true g h e = refl
or_stays x false g h e = absurd (cc)

eq_same : (n m : ℕ) → n ≡ m → (n == m) ≡ true
eq_same n m e = grind (arith)

-- a directory to which the walk ends alike, and which grants alike what is asked for its names
module _ (rows : Rows) (uid : ℕ) (above : List (List ℕ)) (ends : EndsAlike rows uid above)
    (searches : RowGrantsAlike rows (reached rows root above) uid bits.Search)
    (writes : RowGrantsAlike rows (reached rows root above) uid bits.Write)
    (c d : Caller) (cu : c.uid ≡ uid) (du : d.uid ≡ uid) where
  -- the tests of a directory of these names
  writes_at : (names : List (List ℕ)) → names ≡ above
      → grants_of c (attrs_at rows (reached rows root names)) bits.Write
      ≡ grants_of d (attrs_at rows (reached rows root names)) bits.Write
  writes_at names is = subst (λ ns. grants_of c (attrs_at rows (reached rows root ns)) bits.Write
      ≡ grants_of d (attrs_at rows (reached rows root ns)) bits.Write) (sym is) (writes c d cu du).1

  searches_at : (names : List (List ℕ)) → names ≡ above
      → grants_of c (attrs_at rows (reached rows root names)) bits.Search
      ≡ grants_of d (attrs_at rows (reached rows root names)) bits.Search
  searches_at names is = subst (λ ns. grants_of c (attrs_at rows (reached rows root ns)) bits.Search
      ≡ grants_of d (attrs_at rows (reached rows root ns)) bits.Search) (sym is) (searches c d cu du).1

  -- a name in it is taken away, with other tests behind that
  removing_then : (name : List ℕ) (xs ys : List Check) → first_failing xs ≡ first_failing ys
      → first_failing (removing rows c (above ++ name ∷ []) ++ xs)
      ≡ first_failing (removing rows d (above ++ name ∷ []) ++ ys)
  removing_then name xs ys same =
      let path = above ++ name ∷ [] in
      let dir = attrs_at rows (reached rows root (front path)) in
      let file = attrs_at rows (reached rows root path) in
      let k = length (front path) in
      let grants = writes_at (front path) (front_is path above name refl) in
      let tests = removing_same 0 dir file k c d (cu ∙ sym du) grants in
      ap (λ r. cond (not (length path == 0)) r (Some (record { rule = rule.IsNotRoot; path = 0; at = 0 })))
      (ap first_failing (append_assoc (walk rows c 0 0 root path) (removing_tests c 0 dir file k) xs)
      ∙ after_way rows c d 0 path (removing_tests c 0 dir file k ++ xs) (removing_tests d 0 dir file k ++ ys)
      (further rows uid above name ends searches c d cu du)
      (ap (λ ts. first_failing (ts ++ xs)) tests ∙ front_same (removing_tests d 0 dir file k) xs ys same)
      ∙ sym (ap first_failing (append_assoc (walk rows d 0 0 root path) (removing_tests d 0 dir file k) ys)))

  -- a name is looked for in it, with other tests behind that
  arriving_then : (name : List ℕ) (xs ys : List Check) → first_failing xs ≡ first_failing ys
      → first_failing (arriving rows c (above ++ name ∷ []) ++ xs)
      ≡ first_failing (arriving rows d (above ++ name ∷ []) ++ ys)
  arriving_then name xs ys same =
      let path = above ++ name ∷ [] in
      let dir = attrs_at rows (reached rows root (front path)) in
      let k = length (front path) in
      let is = front_is path above name refl in
      let ends_at : walked rows c 1 0 root (front path) ≡ walked rows d 1 0 root (front path) =
      subst (λ ns. walked rows c 1 0 root ns ≡ walked rows d 1 0 root ns) (sym is)
      (ends_as rows uid above ends 1 c d cu du) in
      let tests : searching_tests c 1 dir k ≡ searching_tests d 1 dir k =
      ap (λ b. asks (is_directory_kind dir.kind) rule.IsDirectory 1 k ∷ asks b rule.GrantsSearch 1 k ∷ [])
      (searches_at (front path) is) in
      ap (λ r. cond (not (length path == 0)) r (Some (record { rule = rule.IsNotRoot; path = 1; at = 0 })))
      (ap first_failing (append_assoc (walk rows c 1 0 root (front path)) (searching_tests c 1 dir k) xs)
      ∙ after_way rows c d 1 (front path) (searching_tests c 1 dir k ++ xs) (searching_tests d 1 dir k ++ ys) ends_at
      (ap (λ ts. first_failing (ts ++ xs)) tests ∙ front_same (searching_tests d 1 dir k) xs ys same)
      ∙ sym (ap first_failing (append_assoc (walk rows d 1 0 root (front path)) (searching_tests d 1 dir k) ys)))

  placing_same : (moved : ℕ) (names : List (List ℕ)) → names ≡ above → (there : Option ℕ) (k : ℕ)
      → placing_tests rows c moved (reached rows root names) there k
      ≡ placing_tests rows d moved (reached rows root names) there k
  placing_same moved names is None k =
      let dir = attrs_at rows (reached rows root names) in
      ap (λ b. asks (not (is_immutable dir)) rule.IsMutable 1 k ∷ asks b rule.GrantsWrite 1 k ∷ [])
      (writes_at names is)
  placing_same moved names is (Some m) k =
      ap (λ ts. ts ++ replaced_tests (length (children rows m) == 0) (attrs_at rows moved) (attrs_at rows m) (k + 1))
      (removing_same 1 (attrs_at rows (reached rows root names)) (attrs_at rows m) k c d (cu ∙ sym du)
      (writes_at names is))

  -- what is moved stays in its directory
  last_same : (from to : List (List ℕ)) → front from ≡ above → front to ≡ above
      → last_tests rows c from to ≡ last_tests rows d from to
  last_same from to is_from is_to =
      let moved = attrs_at rows (reached rows root from) in
      let stays = reached rows root (front from) == reached rows root (front to) in
      ap (λ b. apart_test rows (reached rows root from) to ∷ asks b rule.GrantsWrite 0 (length from) ∷ [])
      (or_stays (not (is_directory_kind moved.kind)) stays (grants_of c moved bits.Write) (grants_of d moved bits.Write)
      (eq_same _ _ (ap (reached rows root) (is_from ∙ sym is_to))))

  moving_same : (from to : List (List ℕ)) → front from ≡ above → front to ≡ above → (there : Option ℕ)
      → moving_tests rows c from to there ≡ moving_tests rows d from to there
  moving_same from to is_from is_to there =
      let moved = reached rows root from in
      ap (λ ts. cond (is_there moved there) [] ts)
      (ap (λ ts. ts ++ last_tests rows c from to) (placing_same moved (front to) is_to there (length (front to)))
      ∙ ap (λ ts. placing_tests rows d moved (reached rows root (front to)) there (length (front to)) ++ ts)
      (last_same from to is_from is_to))

  -- a Rename within it
  renaming_same : (name new_name : List ℕ) → let from = above ++ name ∷ [] in let to = above ++ new_name ∷ [] in
      let there = child rows (reached rows root (front to)) (last to) in
      first_failing (removing rows c from ++ (arriving rows c to ++ moving_tests rows c from to there))
      ≡ first_failing (removing rows d from ++ (arriving rows d to ++ moving_tests rows d from to there))
  renaming_same name new_name =
      let from = above ++ name ∷ [] in
      let to = above ++ new_name ∷ [] in
      let there = child rows (reached rows root (front to)) (last to) in
      removing_then name (arriving rows c to ++ moving_tests rows c from to there)
      (arriving rows d to ++ moving_tests rows d from to there)
      (arriving_then new_name (moving_tests rows c from to there) (moving_tests rows d from to there)
      (ap first_failing (moving_same from to (front_is from above name refl) (front_is to above new_name refl) there)))

module _ (numbers : ℕ) (w : World) (uid : ℕ) (above : List (List ℕ)) (ends : EndsAlike w.rows uid above)
    (searches : RowGrantsAlike w.rows (reached w.rows root above) uid bits.Search)
    (writes : RowGrantsAlike w.rows (reached w.rows root above) uid bits.Write) where
  -- a file's name is taken away
  pub unlinks_alike : (name : List ℕ) → IsAlike numbers w uid (Unlink (above ++ name ∷ []))
  unlinks_alike name c d cu du =
      let path = above ++ name ∷ [] in
      let tests = unlink_tests (attrs_at w.rows (reached w.rows root path)) (length path) in
      (removing_then w.rows uid above ends searches writes c d cu du name tests tests refl, refl)

  -- a directory's
  pub rmdirs_alike : (name : List ℕ) → IsAlike numbers w uid (Rmdir (above ++ name ∷ []))
  rmdirs_alike name c d cu du =
      let path = above ++ name ∷ [] in
      let dir = reached w.rows root path in
      let tests = rmdir_tests (length (children w.rows dir) == 0) (attrs_at w.rows dir) (length path) in
      (removing_then w.rows uid above ends searches writes c d cu du name tests tests refl, refl)

  -- a name is changed, behind a look at the new one
  pub moves_alike : (name new_name : List ℕ)
      → AreAlike numbers w uid
      (Stat (above ++ new_name ∷ []) ∷ Rename (above ++ name ∷ []) (above ++ new_name ∷ []) ∷ [])
  moves_alike name new_name = (
    stats_alike numbers w uid (above ++ new_name ∷ []) (further w.rows uid above new_name ends searches),
    λ c cu. (
      λ one two cu du. (renaming_same w.rows uid above ends searches writes one two cu du name new_name, refl),
      λ c cu. tt,
    ),
  )

-- ---- nodes

-- what holds of the row of a node's number holds where its path leads
pub at_node : (nodes : ℕ → Option Node) (node : ℕ) (path : List (List ℕ)) → LeadsToRow nodes node None path
    → (rows : Rows) → IsTree rows → AreNodes rows nodes → (P : ℕ → Type 0) → IfSome (number_in (nodes node)) P
    → P (reached rows root path)
at_node nodes node path leads rows tree are P holds =
    let same : path ≡ leads.above = leads.all ∙ append-nil leads.above in
    let number = live_number (nodes node) (reached rows root leads.above) (leads.leads rows tree are) in
    subst (λ ns. P (reached rows root ns)) (sym same) (subst (λ o. IfSome o P) number holds)

-- behind the path of a node a name in it
named_path : (hangs : ℕ → Option Hang) (node : ℕ) (path : List (List ℕ)) (name : List ℕ) → IsPathOf hangs node None path
    → IsPathOf hangs node (Some name) (path ++ name ∷ [])
named_path hangs node path name is = record {
  above = is.above;
  down = is.down;
  all = ap (λ ns. ns ++ name ∷ []) (is.all ∙ append-nil is.above);
}

one_write : (numbers : ℕ) (w : World) (uid : ℕ) (path : List (List ℕ)) → EndsAlike w.rows uid path
    → RowGrantsAlike w.rows (reached w.rows root path) uid bits.Write → (append : Bool) (off : ℕ) (bytes : List ℕ)
    (n : ℕ) → n ≤ 1 → AreAlike numbers w uid (write_pieces path append off bytes n)
one_write numbers w uid path ends grants append off bytes zero few = tt
one_write numbers w uid path ends grants append off bytes (suc zero) few =
    (writes_alike numbers w uid path ends grants (put_at append off) (take 4096 bytes), λ c cu. tt)
one_write numbers w uid path ends grants append off bytes (suc (suc n)) few = absurd (omega (arith, few))

one_piece : (n : ℕ) → n ≤ 4096 → piece_count n ≤ 1
one_piece n few = grind (arith, common_steps)

module _ {F : Type 0} (state : F → StoreState) (volume : Seen F) (nodes : Parts) (header : Header) where
  pub reading : (fields : ReadFields)
      → ReachesAlike state volume nodes header.node header.uid bits.Read bits.Read
      → NeedsNoGroups state volume nodes header (said.read fields)
  reading fields r = record {
    path = r.path;
    leads = r.leads;
    alike = λ from begins are numbers. all_read numbers _ header.uid r.path (r.ends from begins)
        (r.grants from begins are).0 fields.offset fields.size (piece_count fields.size);
  }

  pub writing : (fields : WriteFields) (bytes : List ℕ) → length bytes ≤ 4096
      → ReachesAlike state volume nodes header.node header.uid bits.Write bits.Write
      → NeedsNoGroups state volume nodes header (said.write fields bytes)
  writing fields bytes few r = (
    few,
    record {
      path = r.path;
      leads = r.leads;
      alike = λ from begins are numbers. one_write numbers _ header.uid r.path (r.ends from begins)
          (r.grants from begins are).0 fields.flags.append fields.offset bytes (piece_count (length bytes))
          (one_piece (length bytes) few);
    },
  )

  pub unlinking : (name : List ℕ)
      → ReachesAlike state volume nodes header.node header.uid bits.Search bits.Write
      → NeedsNoGroups state volume nodes header (said.unlink name)
  unlinking name r = record {
    path = r.path ++ name ∷ [];
    leads = named_path (hangs_in nodes) header.node r.path name r.leads;
    alike = λ from begins are numbers. (
      unlinks_alike numbers _ header.uid r.path (r.ends from begins) (r.grants from begins are).0
          (r.grants from begins are).1 name,
      λ c cu. tt,
    );
  }

  pub emptying : (name : List ℕ)
      → ReachesAlike state volume nodes header.node header.uid bits.Search bits.Write
      → NeedsNoGroups state volume nodes header (said.rmdir name)
  emptying name r = record {
    path = r.path ++ name ∷ [];
    leads = named_path (hangs_in nodes) header.node r.path name r.leads;
    alike = λ from begins are numbers. (
      rmdirs_alike numbers _ header.uid r.path (r.ends from begins) (r.grants from begins are).0
          (r.grants from begins are).1 name,
      λ c cu. tt,
    );
  }

  pub moving : (fields : RenameFields) (name new_name : List ℕ) → fields.directory ≡ header.node
      → ReachesAlike state volume nodes header.node header.uid bits.Search bits.Write
      → NeedsNoGroups state volume nodes header (said.rename fields name new_name)
  moving fields name new_name same r = record {
    from = r.path ++ name ∷ [];
    to = r.path ++ new_name ∷ [];
    leads_from = named_path (hangs_in nodes) header.node r.path name r.leads;
    leads_to = subst (λ node. IsPathOf (hangs_in nodes) node (Some new_name) (r.path ++ new_name ∷ [])) (sym same)
        (named_path (hangs_in nodes) header.node r.path new_name r.leads);
    alike = λ from begins are numbers. moves_alike numbers _ header.uid r.path (r.ends from begins)
        (r.grants from begins are).0 (r.grants from begins are).1 name new_name;
  }
