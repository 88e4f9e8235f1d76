-- Changes make the files take no more than the sum of what each adds (`grown`), for `store::SharedStore::apply`, and
-- that is little (`growth_most`). What each adds is reckoned by the lengths before all of them: one that was cut by an
-- earlier change only takes less.
use Rattle.std.proofs.Common.{◌≡◌, ◌⊎◌, ℕ, zero, suc, ◌+◌, ◌-◌, ◌*◌, ◌/◌, ◌<◌, ◌≤◌, List, [], ◌∷◌, length, min}
use Rattle.std.proofs.Common.{Option, Some, None, refl, sym, ap, ◌∙◌, subst, inl, inr, arith}
use Rattle.std.specs.Prelude.{if◌then◌else◌, ◌==◌, All, IsSomeAnd}
use Rattle.lfs_inodes.specs.Facts.{block_count}
use Rattle.std.specs.FinMap as map
use Rattle.std.proofs.lemmas.Bool.{cases_eq, cases_lt, cond-true, cond-false, eq-eqb, ne_eqb}
use Rattle.std.proofs.lemmas.List.{length-append, length-drop, length-replicate, length-take}
use Rattle.std.proofs.lemmas.List.Sums.{sum_by-cons}
use Rattle.lfs_types.specs.Changes.{applied, changed, changed_at}
use Rattle.lfs_types.specs.Splicing.{resized, splice}
use Rattle.lfs_types.specs.Tree.{Content, File, file_of}
use Rattle.lfs_types.specs.declared.store.Change.{Change}
use Rattle.lfs_types.specs.declared.store.Change.TheVariants.{Make, Remove, SetAttrs, Put, SetLength}
use Rattle.lfs_types.proofs.Maps.{get-insert_same, get-insert_other, get-remove_same, get-remove_other}
use Rattle.lfs_types.proofs.Pieces.{length-resized}
use Rattle.lfs_types.specs.StoreStates.{Shape}
use Rattle.lfs_inodes.specs.Reading.{Fields}
use Rattle.lfs_bmap.specs.Counting.{total}
use Rattle.lfs_bmap.specs.Reading.{data_block}
use Rattle.lfs_bmap.proofs.PieceLemmas.{file_bytes-length}
use Rattle.lfs_parts.specs.declared.parts.Parts.{Parts}
use Rattle.lfs_parts.specs.Files.{content_of, file_with}
use Rattle.lfs_parts.specs.Store.{IsStore}
use Rattle.lfs_parts.specs.View.{record_of, tree_of}
use Rattle.lfs_parts.proofs.FileLemmas.{file_at-none, file_at-some, get-content_of}
use Rattle.lfs_logstore.specs.States.{state_of}
use Rattle.lfs_segwrite.specs.Applying.{IsInReach}
use Rattle.lfs_share.specs.Growing.{IsEven, growth_of, growth_of_all, growth_to}
use Rattle.lfs_share.specs.Share.{share_of, taken, units_of_file, units_of_length}
use Rattle.lfs_share.proofs.TakenLemmas.{tables_few, tables_le, total_add, total_le}

-- ---- lengths
splice_length : (old : List ℕ) (start : ℕ) (bytes : List ℕ) → (length (splice old start bytes) ≡ length old)
    ⊎ ((0 < length bytes) × (length (splice old start bytes) ≡ start + length bytes))
splice_length old start [] = inl refl
splice_length old start (b ∷ bs) =
    let long : length (splice old start (b ∷ bs)) ≡ min start (length old) + (start - length old) + length (b ∷ bs)
    + (length old - (start + length (b ∷ bs))) =
    simp (length-append, length-take, length-replicate, length-drop) (omega arith) in
    elim (cases_lt (start + length (b ∷ bs)) (length old)) [
      | inl inside ↦ inl (omega arith)
      | inr past ↦ inr (omega arith, omega arith)
    ]

-- ---- what one number's file takes
-- so much more where it is the number's
abbrev pub more_at : ℕ → ℕ → ℕ → ℕ
more_at ino x n = if n == ino then x else 0

more_here : (ino x n : ℕ) → n ≡ ino → more_at ino x n ≡ x
more_here ino x n is = cond-true _ _ _ (eq-eqb n ino is)

abbrev Bounds : Content → (ℕ → ℕ) → Type 0
Bounds c b = (n : ℕ) → units_of_file (map.get c n) ≤ b n

inserted : (c : Content) (b : ℕ → ℕ) (ino x : ℕ) (f : File) → Bounds c b → units_of_length (length f.bytes) ≤ b ino + x
    → Bounds (map.insert c ino f) (λ n. b n + more_at ino x n)
inserted c b ino x f bounds few n = elim (cases_eq n ino) [
  | inl is ↦
      let here = more_here ino x n is in
      let now : units_of_file (map.get (map.insert c ino f) n) ≡ units_of_length (length f.bytes) =
      ap (λ m. units_of_file (map.get (map.insert c ino f) m)) is ∙ ap units_of_file (get-insert_same c ino f) in
      let same : b n ≡ b ino = ap b is in
      omega arith
  | inr other ↦
      let now = ap units_of_file (get-insert_other c ino f n other) in
      let before = bounds n in
      omega arith
]

no_more : (c : Content) (b : ℕ → ℕ) (ino x : ℕ) → Bounds c b → Bounds c (λ n. b n + more_at ino x n)
no_more c b ino x bounds n = let before = bounds n in omega arith

-- the number that a change is of
abbrev number_of : Change → ℕ
number_of (Make ino attrs) = ino
number_of (Remove ino) = ino
number_of (SetAttrs ino attrs) = ino
number_of (Put ino off bytes) = ino
number_of (SetLength ino len) = ino

changed_few : (c : Content) (b : ℕ → ℕ) (ino x : ℕ) (o : Option File) (change : File → File) → map.get c ino ≡ o
    → Bounds c b
    → ((f : File) → units_of_length (length f.bytes) ≤ b ino → units_of_length (length (change f).bytes) ≤ b ino + x)
    → Bounds (changed_at o ino change c) (λ n. b n + more_at ino x n)
changed_few c b ino x None change is bounds each = no_more c b ino x bounds
changed_few c b ino x (Some f) change is bounds each =
    let before = bounds ino in
    let now : units_of_file (map.get c ino) ≡ units_of_length (length f.bytes) = ap units_of_file is in
    inserted c b ino x (change f) bounds (each f (omega arith))

-- what a change leaves, where so much is what there was and what was reckoned by
bounded : (start c : Content) (b : ℕ → ℕ) (change : Change) → Bounds start b → Bounds c b
    → Bounds (changed change c) (λ n. b n + more_at (number_of change) (growth_of start change) n)
bounded start c b (Make ino attrs) at_start bounds =
    inserted c b ino (units_of_length 0) (file_of attrs []) bounds (omega arith)
bounded start c b (Remove ino) at_start bounds = λ n. elim (cases_eq n ino) [
  | inl is ↦
      let now : units_of_file (map.get (map.remove c ino) n) ≡ 0 =
      ap (λ m. units_of_file (map.get (map.remove c ino) m)) is ∙ ap units_of_file (get-remove_same c ino) in
      omega arith
  | inr other ↦
      let now = ap units_of_file (get-remove_other c ino n other) in
      let before = bounds n in
      omega arith
]
bounded start c b (SetAttrs ino attrs) at_start bounds =
    changed_few c b ino 0 (map.get c ino) (λ f. file_of attrs f.bytes) refl bounds (λ f few. omega arith)
bounded start c b (Put ino off bytes) at_start bounds =
    changed_few c b ino (growth_of start (Put ino off bytes)) (map.get c ino)
    (λ f. record f { bytes = splice f.bytes off bytes.now }) refl bounds (λ f few.
    elim (splice_length f.bytes off bytes.now) [
      | inl same ↦ let units = ap units_of_length same in omega arith
      | inr longer ↦
          let units = ap units_of_length longer.1 in
          let some = longer.0 in
          let grows = cond-false {A = ℕ} _ 0 (growth_to start ino (off + length bytes.now))
          (ne_eqb (length bytes.now) 0 (λ e. omega (arith, e, some))) in
          let before = at_start ino in
          omega arith
    ])
bounded start c b (SetLength ino len) at_start bounds =
    changed_few c b ino (growth_to start ino len) (map.get c ino) (λ f. record f { bytes = resized f.bytes len }) refl
    bounds (λ f few. let units = ap units_of_length (length-resized f.bytes len) in let before = at_start ino in
    omega arith)

-- ---- what all take
none_more : (ino x n : ℕ) → n ≤ ino → total (more_at ino x) n ≡ 0
unfolding total
none_more ino x zero low = refl
none_more ino x (suc n) low =
    let now = cond-false {A = ℕ} _ x 0 (ne_eqb n ino (λ e. omega (arith, e, low))) in
    let rest = none_more ino x n (omega arith) in
    omega arith

one_more : (ino x n : ℕ) → total (more_at ino x) n ≤ x
unfolding total
one_more ino x zero = omega arith
one_more ino x (suc n) = elim (cases_eq n ino) [
  | inl is ↦
      let now = more_here ino x n is in
      let rest = none_more ino x n (omega arith) in
      omega arith
  | inr other ↦
      let now = cond-false {A = ℕ} _ x 0 (ne_eqb n ino other) in
      let rest = one_more ino x n in
      omega arith
]

all_bounded : (numbers : ℕ) (start c : Content) (b : ℕ → ℕ) (changes : List Change) → Bounds start b → Bounds c b
    → taken numbers (applied changes c) ≤ total b numbers + growth_of_all start changes
all_bounded numbers start c b [] at_start bounds =
    let few = total_le (λ n. units_of_file (map.get c n)) b numbers (λ n low. bounds n) in omega arith
all_bounded numbers start c b (change ∷ changes) at_start bounds =
    let x = growth_of start change in
    let more : ℕ → ℕ = λ n. b n + more_at (number_of change) x n in
    let rest = all_bounded numbers start (changed change c) more changes
    (λ n. let before = at_start n in omega arith) (bounded start c b change at_start bounds) in
    let sum = total_add b (more_at (number_of change) x) numbers in
    let one = one_more (number_of change) x numbers in
    let growth = sum_by-cons (growth_of start) change changes in
    omega arith

-- Behind changes the files take no more than before and what these add.
pub grown : (numbers : ℕ) (c : Content) (changes : List Change)
    → taken numbers (applied changes c) ≤ taken numbers c + growth_of_all c changes
grown numbers c changes = all_bounded numbers c c (λ n. units_of_file (map.get c n)) changes (λ n. omega arith)
    (λ n. omega arith)

-- ---- few units
pub units_few : (len : ℕ) → len ≤ 8460288 → units_of_length len ≤ 70000
units_few len low = let tables = tables_few ((len + 511) / 512) in omega arith

reach_few : (c : Content) (change : Change) → IsInReach change → growth_of c change ≤ 70000
reach_few c (Make ino attrs) reach = units_few 0 (omega arith)
reach_few c (Remove ino) reach = omega arith
reach_few c (SetAttrs ino attrs) reach = omega arith
reach_few c (Put ino off bytes) reach = elim (cases_eq (length bytes.now) 0) [
  | inl none ↦
      let is = cond-true {A = ℕ} _ 0 (growth_to c ino (off + length bytes.now)) (eq-eqb (length bytes.now) 0 none) in
      omega arith
  | inr some ↦
      let is = cond-false {A = ℕ} _ 0 (growth_to c ino (off + length bytes.now)) (ne_eqb (length bytes.now) 0 some) in
      let few = units_few (off + length bytes.now) (reach.1 (omega arith)) in
      omega arith
]
reach_few c (SetLength ino len) reach = let few = units_few len reach in omega arith

pub growth_most : (c : Content) (changes : List Change) → All IsInReach changes
    → growth_of_all c changes ≤ 70000 * length changes
growth_most c [] reach = omega arith
growth_most c (change ∷ changes) reach =
    let one = reach_few c change (reach 0 change (omega arith)) in
    let rest = growth_most c changes (λ k d low. reach (suc k) d (omega arith)) in
    let growth = sum_by-cons (growth_of c) change changes in
    omega arith

-- what a file of a store takes
file_few : (p : Parts) (number : ℕ) (o : Option Fields) → IsStore p → record_of p number ≡ o
    → units_of_file (map.get (content_of p) number) ≤ 70000
file_few p number (Some f) store is =
    let file = store.whole.files number f is in
    let size : length (file_with (tree_of p number) f).bytes ≡ f.attributes.size =
    file_bytes-length (data_block (tree_of p number)) file.padded.whole f.attributes.size in
    let at : map.get (content_of p) number ≡ Some (file_with (tree_of p number) f) = get-content_of p number
    ∙ file_at-some p number f is in
    let same : units_of_file (map.get (content_of p) number) ≡ units_of_length f.attributes.size = ap units_of_file at
    ∙ ap units_of_length size in
    let few = units_few f.attributes.size file.formed.sized.0 in
    omega arith
file_few p number None store is =
    let none : units_of_file (map.get (content_of p) number) ≡ 0 =
    ap units_of_file (get-content_of p number ∙ file_at-none p number is) in
    omega arith

pub each_few : (p : Parts) → IsStore p → (number : ℕ) → units_of_file (map.get (content_of p) number) ≤ 70000
each_few p store number = file_few p number (record_of p number) store refl

-- ---- changes that add nothing
units_le : (len other : ℕ) → block_count len ≤ block_count other → units_of_length len ≤ units_of_length other
units_le len other le = let tables = tables_le (block_count len) (block_count other) le in omega arith

no_growth_to : (c : Content) (ino len : ℕ) (o : Option File) → map.get c ino ≡ o
    → IsSomeAnd o (λ f. block_count len ≤ block_count (length f.bytes)) → growth_to c ino len ≡ 0
no_growth_to c ino len (Some f) is few =
    let there : units_of_file (map.get c ino) ≡ units_of_length (length f.bytes) = ap units_of_file is in
    let less = units_le len (length f.bytes) few in
    omega arith
no_growth_to c ino len None is few = absurd few

no_growth : (c : Content) (change : Change) → IsEven c change → growth_of c change ≡ 0
no_growth c (Make ino attrs) even = absurd even
no_growth c (Remove ino) even = refl
no_growth c (SetAttrs ino attrs) even = refl
no_growth c (Put ino off bytes) even = elim (cases_eq (length bytes.now) 0) [
  | inl none ↦ cond-true {A = ℕ} _ 0 (growth_to c ino (off + length bytes.now)) (eq-eqb (length bytes.now) 0 none)
  | inr some ↦
      cond-false {A = ℕ} _ 0 (growth_to c ino (off + length bytes.now)) (ne_eqb (length bytes.now) 0 some)
      ∙ no_growth_to c ino (off + length bytes.now) (map.get c ino) refl (even (omega arith))
]
no_growth c (SetLength ino len) even = no_growth_to c ino len (map.get c ino) refl even

pub even_growth : (c : Content) (changes : List Change) → All (IsEven c) changes → growth_of_all c changes ≡ 0
even_growth c [] even = refl
even_growth c (change ∷ changes) even =
    let one = no_growth c change (even 0 change (omega arith)) in
    let rest = even_growth c changes (λ k d low. even (suc k) d (omega arith)) in
    let growth = sum_by-cons (growth_of c) change changes in
    omega arith

-- ---- the share of a state
-- a bound holds of a store with this content and this shape
at_share : (new : Parts) (c : Content) (s : Shape) (most : ℕ) → (state_of new).content ≡ c → (state_of new).shape ≡ s
    → taken s.numbers c ≤ most → most ≤ share_of s.segments
    → (taken (state_of new).shape.numbers (state_of new).content ≤ most) × (most ≤ share_of (state_of new).shape.segments)
at_share new c s most content shape few within =
    subst (λ (t : Shape). (taken t.numbers (state_of new).content ≤ most) × (most ≤ share_of t.segments)) (sym shape)
    (subst (λ (d : Content). (taken s.numbers d ≤ most) × (most ≤ share_of s.segments)) (sym content) (few, within))

-- it does where the content is the same
pub same_share : (old new : Parts) (most : ℕ) → (state_of new).content ≡ (state_of old).content
    → (state_of new).shape ≡ (state_of old).shape
    → taken (state_of old).shape.numbers (state_of old).content ≤ most → most ≤ share_of (state_of old).shape.segments
    → (taken (state_of new).shape.numbers (state_of new).content ≤ most) × (most ≤ share_of (state_of new).shape.segments)
same_share old new most content shape few within =
    at_share new (state_of old).content (state_of old).shape most content shape few within

-- and one more by what changes add where they were made
pub grown_share : (old mid new : Parts) (changes : List Change) (most growth : ℕ)
    → (state_of mid).content ≡ (state_of old).content → (state_of mid).shape ≡ (state_of old).shape
    → (state_of new).content ≡ applied changes (state_of mid).content → (state_of new).shape ≡ (state_of mid).shape
    → growth ≡ growth_of_all (state_of old).content changes
    → taken (state_of old).shape.numbers (state_of old).content ≤ most
    → most + growth ≤ share_of (state_of old).shape.segments
    → (taken (state_of new).shape.numbers (state_of new).content ≤ most + growth)
    × (most + growth ≤ share_of (state_of new).shape.segments)
grown_share old mid new changes most growth content shape made same is few within =
    let more = grown (state_of old).shape.numbers (state_of old).content changes in
    at_share new (applied changes (state_of old).content) (state_of old).shape (most + growth)
    (made ∙ ap (applied changes) content) (same ∙ shape) (omega arith) within
