-- A walk that has read a number goes on to the next: `pass_file`, `pass_directory` and `turn`, for Stepping. A
-- directory of which all entries were read lists what hangs in it, so it's complete; a file lists nothing, and nothing
-- hangs in it, as rows hang only in what lists them. Between two numbers no directory is half read, so the walk may
-- begin any (`turn`); what was read of one is forgotten in `so_far` once it's complete.
use Rattle.std.proofs.Common.{◌≡◌, ℕ, Bool, true, false, cond, List, [], ◌∷◌, ◌++◌, refl, sym, ap, subst, ◌∙◌, ⊎_elim}
use Rattle.std.specs.Prelude.{nat_eq}
use Rattle.std.proofs.lemmas.Bool.{cases_eq, eq-eqb, ne_eqb}
use Rattle.std.specs.FinMap as map
use Rattle.lfs_types.specs.declared.attrs.Kind.TheVariants.{Directory}
use Rattle.lfs_types.specs.Stored.{bytes_of, bytes_of_file}
use Rattle.lfs_types.specs.Tree.{Content, File}
use Rattle.lfs_types.proofs.Somewhere.{is_some_and}
use Rattle.lfs_dirs.specs.Directory.{Entry, AreEntries, number_in}
use Rattle.lfs_calls.specs.Content.{IsDirectoryAt, AreBlocks, ListsRows, all_entries}
use Rattle.lfs_trees.specs.Marks.{is_among}
use Rattle.lfs_trees.specs.Walks.{Reaches, so_far}
use Rattle.lfs_trees.proofs.Numbers.{among-same, among-other}

-- what the directory lists that is read
pub so_far-here : (dir : ℕ) (es : List Entry) → so_far dir es dir ≡ es
so_far-here dir es = ap (λ b. cond b es []) (eq-eqb dir dir refl)

-- and what another does
pub so_far-other : (dir : ℕ) (es : List Entry) (d : ℕ) → (d ≡ dir → ⊥) → so_far dir es d ≡ []
so_far-other dir es d apart = ap (λ b. cond b es []) (ne_eqb d dir apart)

-- where nothing was read, no directory lists anything
pub so_far-none : (dir d : ℕ) → so_far dir [] d ≡ []
so_far-none dir d = none (nat_eq d dir)
  where
    none : (b : Bool) → cond {A = List Entry} b [] [] ≡ []
    none true = refl
    none false = refl

-- a walk between two numbers may begin to read any
pub turn : (c : Content) (order before : List ℕ) (old new : ℕ) → Reaches c order before old []
    → Reaches c order before new []
turn c order before old new (rows, h) = (
  rows,
  record {
    tree = h.tree;
    reached = h.reached;
    shown = h.shown;
    listed = h.listed;
    complete = h.complete;
    later = λ d apart name. h.later d apart name ∙ ap (number_in name) (so_far-none old d ∙ sym (so_far-none new d));
  },
)

module _ (c : Content) (order before : List ℕ) (dir : ℕ) where
  -- a number more is before
  among_more : (d : ℕ) → is_among (before ++ dir ∷ []) d ≡ true → (d ≡ dir → ⊥) → is_among before d ≡ true
  among_more d among apart = sym (among-other before dir d apart) ∙ among

  not_here : (d : ℕ) → is_among (before ++ dir ∷ []) d ≡ false → (d ≡ dir → ⊥)
  not_here d none same =
      let yes = among-same before dir in
      let no : is_among (before ++ dir ∷ []) dir
      ≡ false = subst (λ k. is_among (before ++ dir ∷ []) k ≡ false) same none in
      absurd (cc)

  -- what is no directory lists nothing
  pub pass_file : (IsDirectoryAt c dir → ⊥) → Reaches c order before 0 [] → Reaches c order (before ++ dir ∷ []) 0 []
  pass_file none (rows, h) = (
    rows,
    record {
      tree = h.tree;
      reached = h.reached;
      shown = h.shown;
      listed = h.listed;
      complete = λ d among f stored kind. ⊎_elim
          (λ same. absurd (none (is_some_and (λ (x : File). x.kind ≡ Directory) (ap (map.get c) (sym same)
          ∙ stored) kind)))
          (λ apart. h.complete d (among_more d among apart) f stored kind)
          (cases_eq d dir);
      later = λ d none name. h.later d (sym (among-other before dir d (not_here d none)) ∙ none) name;
    },
  )

  -- a directory of which all entries were read is complete
  pub pass_directory : is_among before dir ≡ false → AreBlocks (bytes_of c dir)
      → AreEntries (all_entries (bytes_of c dir))
      → Reaches c order before dir (all_entries (bytes_of c dir)) → Reaches c order (before ++ dir ∷ []) 0 []
  pass_directory apart blocks entries (rows, h) = (
    rows,
    record {
      tree = h.tree;
      reached = h.reached;
      shown = h.shown;
      listed = h.listed;
      complete = λ d among f stored kind. ⊎_elim
          (λ same.
          let bytes : bytes_of c dir ≡ f.bytes = ap bytes_of_file (ap (map.get c) (sym same) ∙ stored) in
          subst (ListsRows rows d) bytes (subst (λ k. ListsRows rows k (bytes_of c dir)) (sym same) (record {
            blocks = blocks;
            distinct = entries;
            names = λ name. sym (h.later dir apart name
                ∙ ap (number_in name) (so_far-here dir (all_entries (bytes_of c dir))));
          })))
          (λ other. h.complete d (among_more d among other) f stored kind)
          (cases_eq d dir);
      later = λ d none name.
          let other = not_here d none in
          h.later d (sym (among-other before dir d other) ∙ none) name
          ∙ ap (number_in name) (so_far-other dir (all_entries (bytes_of c dir)) d other ∙ sym (so_far-none 0 d));
    },
  )
