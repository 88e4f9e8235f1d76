-- The look-up `child` answers what hangs under a parent and a name (`child-is`, `child-none`), and where no two rows
-- hang there it has one answer (`child-answer`): with a new row (`child-new`, `child-new_other`) and with one that
-- stays (`child-stays`). The test of the look-up is the fact `IsChild` as a Bool; a new row hangs at its own place
-- alone, and all others hang where they did. All of the trees stand on `IsUnique`: without it the look-up would find
-- the first of two, and an insertion could hide a row.
use Rattle.std.proofs.Common.{◌≡◌, ◌≢◌, ℕ, true, false, List, Option, None, Some, refl, sym, ap, ◌∙◌, subst, ⊎_elim}
use Rattle.std.specs.Prelude.{◌==◌, ◌&&◌, not, bytes_eq}
use Rattle.std.proofs.lemmas.Bool.{and_parts, and_from, eqb-true, eq-eqb, ne_eqb, cases_eq}
use Rattle.std.proofs.lemmas.Slice.Eq.{bytes_eq-Decides}
use Rattle.std.specs.FinMap as map
use Rattle.lfs_types.specs.Tree.{Row, root}
use Rattle.lfs_model.specs.World.{Rows, hangs_as, child, IsChild}
use Rattle.lfs_types.proofs.Maps.{find-passes, find-none, is_key, get-insert_same, get-insert_other}

-- a row hangs in a directory under a name
pub record Hangs (parent : ℕ) (name : List ℕ) (n : ℕ) (r : Row) : Type 0 where
  pub below : n ≡ root → ⊥
  pub hangs : r.parent ≡ parent
  pub named : r.name ≡ name

tested : (parent : ℕ) (name : List ℕ) (n : ℕ) (r : Row) → hangs_as parent name n (Some r) ≡ true → Hangs parent name n r
tested parent name n r h =
    let two = and_parts (not (n == root) && (r.parent == parent)) (bytes_eq r.name name) h in
    let one = and_parts (not (n == root)) (r.parent == parent) two.0 in
    record {
      below = λ e. let same : not (root == root)
          ≡ true = subst (λ m. not (m == root) ≡ true) e one.0 in absurd (cc);
      hangs = eqb-true r.parent parent one.1;
      named = (bytes_eq-Decides r.name name).0 two.1;
    }

passes : (parent : ℕ) (name : List ℕ) (n : ℕ) (r : Row) → Hangs parent name n r → hangs_as parent name n (Some r) ≡ true
passes parent name n r h =
    let apart : (n == root) ≡ false = ne_eqb n root h.below in
    let parents : (r.parent == parent) ≡ true =
    subst (λ x. (r.parent == x) ≡ true) h.hangs (eq-eqb r.parent r.parent refl) in
    and_from _ _ (and_from _ _ (ap not apart) parents) ((bytes_eq-Decides r.name name).1 h.named)

hanging : (rows : Rows) (parent : ℕ) (name : List ℕ) (n : ℕ) (o : Option Row) → map.get rows n ≡ o
    → hangs_as parent name n o ≡ true → IsChild rows parent name n
hanging rows parent name n None is h = absurd (cc)
hanging rows parent name n (Some r) is h =
    let t = tested parent name n r h in
    record { row = r; there = is; below = t.below; hangs = t.hangs; named = t.named }

-- what the look-up gives hangs there
pub child-is : (rows : Rows) (parent : ℕ) (name : List ℕ) (n : ℕ) → child rows parent name ≡ Some n
    → IsChild rows parent name n
unfolding child
child-is rows parent name n e = hanging rows parent name n (map.get rows n) refl
    (find-passes (λ m. hangs_as parent name m (map.get rows m)) (map.keys rows) n e)

-- where the look-up gives nothing, nothing hangs there
pub child-none : (rows : Rows) (parent : ℕ) (name : List ℕ) → child rows parent name ≡ None → (n : ℕ)
    → IsChild rows parent name n → ⊥
unfolding child
child-none rows parent name e n c =
    let test = λ (m : ℕ). hangs_as parent name m (map.get rows m) in
    let fails : test n ≡ false = find-none test (map.keys rows) n e (is_key rows n c.row c.there) in
    let holds : test n ≡ true = ap (hangs_as parent name n) c.there
    ∙ passes parent name n c.row (record { below = c.below; hangs = c.hangs; named = c.named }) in
    absurd (cc)

-- an answer to the look-up: the row that hangs there, or none
abbrev pub IsChildAnswer : Rows → ℕ → List ℕ → Option ℕ → Type 0
IsChildAnswer rows parent name None = (n : ℕ) → IsChild rows parent name n → ⊥
IsChildAnswer rows parent name (Some n) = IsChild rows parent name n

-- no two rows hang under one parent and name
abbrev pub IsUnique : Rows → Type 0
IsUnique rows = (parent : ℕ) (name : List ℕ) (m n : ℕ) → IsChild rows parent name m → IsChild rows parent name n → m ≡ n

answered : (rows : Rows) → IsUnique rows → (parent : ℕ) (name : List ℕ) (found answer : Option ℕ)
    → child rows parent name ≡ found → IsChildAnswer rows parent name answer → found ≡ answer
answered rows unique parent name None None e h = refl
answered rows unique parent name None (Some n) e h = absurd (child-none rows parent name e n h)
answered rows unique parent name (Some m) None e h = absurd (h m (child-is rows parent name m e))
answered rows unique parent name (Some m) (Some n) e h =
    ap Some (unique parent name m n (child-is rows parent name m e) h)

-- there is one answer
pub child-answer : (rows : Rows) → IsUnique rows → (parent : ℕ) (name : List ℕ) (answer : Option ℕ)
    → IsChildAnswer rows parent name answer → child rows parent name ≡ answer
child-answer rows unique parent name answer h = answered rows unique parent name (child rows parent name) answer refl h

-- the look-up is an answer
pub is_child_answer : (rows : Rows) (parent : ℕ) (name : List ℕ) (found : Option ℕ) → child rows parent name ≡ found
    → IsChildAnswer rows parent name found
is_child_answer rows parent name None e = child-none rows parent name e
is_child_answer rows parent name (Some n) e = child-is rows parent name n e

-- ---- a new row

module _ (rows : Rows) (n : ℕ) (row : Row) where
  -- a row other than the new one hangs where it hung
  kept_old : (parent : ℕ) (name : List ℕ) (m : ℕ) → m ≢ n → IsChild (map.insert rows n row) parent name m
      → IsChild rows parent name m
  kept_old parent name m other c = record {
    row = c.row;
    there = sym (get-insert_other rows n row m other) ∙ c.there;
    below = c.below;
    hangs = c.hangs;
    named = c.named;
  }

  kept_new : (parent : ℕ) (name : List ℕ) (m : ℕ) → m ≢ n → IsChild rows parent name m
      → IsChild (map.insert rows n row) parent name m
  kept_new parent name m other c = record {
    row = c.row;
    there = get-insert_other rows n row m other ∙ c.there;
    below = c.below;
    hangs = c.hangs;
    named = c.named;
  }

  -- the new row hangs under its parent and name, and nowhere else
  the_new : (n ≡ root → ⊥) → IsChild (map.insert rows n row) row.parent row.name n
  the_new below = record { row = row; there = get-insert_same rows n row; below = below; hangs = refl; named = refl }

  where_new : (parent : ℕ) (name : List ℕ) → IsChild (map.insert rows n row) parent name n → (row.parent ≡ parent)
      × (row.name ≡ name)
  where_new parent name c =
      let same : c.row ≡ row = cc (c.there, get-insert_same rows n row) in
      (ap (λ r. r.parent) (sym same) ∙ c.hangs, ap (λ r. r.name) (sym same) ∙ c.named)

  module _ (absent : map.get rows n ≡ None) (below : n ≡ root → ⊥) (free : child rows row.parent row.name ≡ None)
      (unique : IsUnique rows) where
    old_not_new : (parent : ℕ) (name : List ℕ) (m : ℕ) → IsChild rows parent name m → m ≢ n
    old_not_new parent name m c e = let there = c.there in let none : map.get rows m
        ≡ None = subst (λ k. map.get rows k ≡ None) (sym e) absent in absurd (cc)

    -- two rows under one parent and name, of which one is new, are one
    one_new : (parent : ℕ) (name : List ℕ) (m : ℕ) → (row.parent ≡ parent) × (row.name ≡ name)
        → IsChild rows parent name m → ⊥
    one_new parent name m at c =
        child-none rows row.parent row.name free m
        (record {
          row = c.row;
          there = c.there;
          below = c.below;
          hangs = c.hangs ∙ sym at.0;
          named = c.named
              ∙ sym at.1;
        })

    -- with the new row too, no two rows hang under one parent and name
    pub unique-new : IsUnique (map.insert rows n row)
    unique-new parent name m k c d = ⊎_elim
        (λ e. ⊎_elim
        (λ f. e ∙ sym f)
        (λ f. absurd (one_new parent name k (where_new parent name
        (subst (IsChild (map.insert rows n row) parent name) e c)) (kept_old parent name k f d)))
        (cases_eq k n))
        (λ e. ⊎_elim
        (λ f. absurd (one_new parent name m (where_new parent name
        (subst (IsChild (map.insert rows n row) parent name) f d)) (kept_old parent name m e c)))
        (λ f. unique parent name m k (kept_old parent name m e c) (kept_old parent name k f d))
        (cases_eq k n))
        (cases_eq m n)

    -- the look-up finds the new row
    pub child-new : child (map.insert rows n row) row.parent row.name ≡ Some n
    child-new = child-answer _ unique-new row.parent row.name (Some n) (the_new below)

    same_answer : (parent : ℕ) (name : List ℕ) → (row.parent ≡ parent → row.name ≡ name → ⊥) → (found : Option ℕ)
        → child rows parent name ≡ found → IsChildAnswer (map.insert rows n row) parent name found
    same_answer parent name apart None e = λ m c. ⊎_elim
        (λ same. let at = where_new parent name (subst (IsChild (map.insert rows n row) parent name) same c) in
        apart at.0 at.1)
        (λ other. child-none rows parent name e m (kept_old parent name m other c))
        (cases_eq m n)
    same_answer parent name apart (Some m) e = let c = child-is rows parent name m e in
        kept_new parent name m (old_not_new parent name m c) c

    -- elsewhere it finds what it found
    pub child-new_other : (parent : ℕ) (name : List ℕ) → (row.parent ≡ parent → row.name ≡ name → ⊥)
        → child (map.insert rows n row) parent name ≡ child rows parent name
    child-new_other parent name apart = child-answer _ unique-new parent name (child rows parent name)
        (same_answer parent name apart _ refl)

-- ---- a row that stays where it hangs

module _ (rows : Rows) (n : ℕ) (old new : Row) (there : map.get rows n ≡ Some old) (parents : new.parent ≡ old.parent)
    (names : new.name ≡ old.name) (unique : IsUnique rows) where
  stays_old : (parent : ℕ) (name : List ℕ) (m : ℕ) → IsChild (map.insert rows n new) parent name m
      → IsChild rows parent name m
  stays_old parent name m c = ⊎_elim
      (λ e.
      let same : c.row ≡ new = cc (c.there, get-insert_same rows n new, ap (map.get (map.insert rows n new)) e) in
      record {
        row = old;
        there = ap (map.get rows) e ∙ there;
        below = c.below;
        hangs = sym parents
            ∙ ap (λ r. r.parent) (sym same) ∙ c.hangs;
        named = sym names ∙ ap (λ r. r.name) (sym same) ∙ c.named;
      })
      (λ other. kept_old rows n new parent name m other c)
      (cases_eq m n)

  stays_new : (parent : ℕ) (name : List ℕ) (m : ℕ) → IsChild rows parent name m
      → IsChild (map.insert rows n new) parent name m
  stays_new parent name m c = ⊎_elim
      (λ e.
      let same : c.row ≡ old = cc (c.there, there, ap (map.get rows) e) in
      record {
        row = new;
        there = ap (map.get (map.insert rows n new)) e ∙ get-insert_same rows n new;
        below = c.below;
        hangs = parents ∙ ap (λ r. r.parent) (sym same) ∙ c.hangs;
        named = names ∙ ap (λ r. r.name) (sym same)
            ∙ c.named;
      })
      (λ other. kept_new rows n new parent name m other c)
      (cases_eq m n)

  -- no two rows hang under one parent and name
  pub unique-stays : IsUnique (map.insert rows n new)
  unique-stays parent name m k c d = unique parent name m k (stays_old parent name m c) (stays_old parent name k d)

  stays_answer : (parent : ℕ) (name : List ℕ) (found : Option ℕ) → child rows parent name ≡ found
      → IsChildAnswer (map.insert rows n new) parent name found
  stays_answer parent name None e = λ m c. child-none rows parent name e m (stays_old parent name m c)
  stays_answer parent name (Some m) e = stays_new parent name m (child-is rows parent name m e)

  -- the look-up finds what it found
  pub child-stays : (parent : ℕ) (name : List ℕ) → child (map.insert rows n new) parent name ≡ child rows parent name
  child-stays parent name = child-answer _ unique-stays parent name (child rows parent name)
      (stays_answer parent name _ refl)
