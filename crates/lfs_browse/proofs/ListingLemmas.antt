-- Rows of names, one behind the other: `rows_more` and `count_more` for the loop of `tell_rows`, `names_told` for
-- `tell_names`, `listing_told` for `tell_listing`. A name that makes a path with the directory's gets a row by a Stat
-- of that path, one that makes none gets no row and is only counted at the end. So rows are those of a filtered list,
-- answers are as many as the names that are kept (without which `rows-joined` would not hold), and the first k + 1
-- names have the rows of the first k and perhaps one more. At most 106 names are looked at, with the List 107 calls
-- (`looked_few`).
use Rattle.std.proofs.Common.{◌≡◌, ℕ, suc, ◌+◌, ◌-◌, ◌<◌, ◌≤◌, true, false, List, [], ◌∷◌, ◌++◌, length, map, take, get_or}
use Rattle.std.proofs.Common.{Option, None, Some, refl, sym, ap, subst, ◌∙◌, arith, append_assoc, append-nil}
use Rattle.std.proofs.Common.{length-append}
use Rattle.std.specs.Prelude.{Bool, cond, filter}
use Rattle.std.proofs.lemmas.List.{length-map, length-take, map-append, take_more}
use Rattle.std.proofs.lemmas.List.Elements.{filter-append}
use Rattle.lfs_types.specs.declared.answer.Answer.{Answer}
use Rattle.lfs_types.specs.declared.request.Request.{Request}
use Rattle.lfs_types.specs.declared.request.Request.TheVariants.{Stat, List as Lists}
use Rattle.lfs_volume.specs.Cleanings.{Cleaner}
use Rattle.lfs_volume.specs.Seen.{Seen}
use Rattle.lfs_print.specs.AnswerText.{answer_line}
use Rattle.lfs_browse.specs.Asking.{Asks}
use Rattle.lfs_browse.specs.Listing.{entry_path, has_path, listed_of, looked_of, more_text, names_served}
use Rattle.lfs_browse.specs.Listing.{row_text, rows_text, stat_of}
use Rattle.lfs_browse.specs.Looks.{TellsLook}
use Rattle.lfs_browse.specs.Steps.{TellsListed, TellsNames, TellsRows}
use Rattle.lfs_audit.specs.declared.asker.Asker.{Asker}
use Rattle.lfs_hearing.specs.declared.look.Look.TheVariants.{Listing}
use Rattle.lfs_browse.proofs.AskLemmas.{asks_count, asks_joined, asks_none}

-- ---- lists

filter_met : {X : Type 0} (p : X → Bool) (x : X) → p x ≡ true → filter p (x ∷ []) ≡ x ∷ []
filter_met p x met = rw met refl

filter_unmet : {X : Type 0} (p : X → Bool) (x : X) → p x ≡ false → filter p (x ∷ []) ≡ []
filter_unmet p x unmet = rw unmet refl

cond_few : {X : Type 0} (b : Bool) (x : X) (xs : List X) (n : ℕ) → length xs ≤ n → length (cond b (x ∷ xs) xs) ≤ suc n
cond_few true x xs n few = omega (arith, few)
cond_few false x xs n few = omega (arith, few)

filter_few : {X : Type 0} (p : X → Bool) (xs : List X) → length (filter p xs) ≤ length xs
filter_few p [] = omega arith
filter_few p (x ∷ xs) = cond_few (p x) x (filter p xs) (length xs) (filter_few p xs)

pub take_next : {X : Type 0} (xs : List X) (i : ℕ) (x : X) → i < length xs → x ≡ get_or xs i x
    → take (i + 1) xs ≡ take i xs ++ x ∷ []
take_next xs i x lt is = take_more xs i x lt ∙ ap (λ y. take i xs ++ y ∷ []) (sym is)

-- ---- rows

rows-joined : (names : List (List ℕ)) (stats : List Answer) (more : List (List ℕ)) (others : List Answer)
    → length stats ≡ length names
    → rows_text (names ++ more) (stats ++ others) ≡ rows_text names stats ++ rows_text more others
rows-joined [] [] more others count = refl
rows-joined [] (a ∷ stats) more others count = absurd (omega (arith, count))
rows-joined (n ∷ names) [] more others count = absurd (omega (arith, count))
rows-joined (n ∷ names) (a ∷ stats) more others count =
    ap (λ (l : List ℕ). row_text n a ++ l) (rows-joined names stats more others (omega (arith, count)))
    ∙ sym (append_assoc (row_text n a) (rows_text names stats) (rows_text more others))

-- the names that have a path, and their rows
rows_of : {F : Type 0} (r : Cleaner F) (old new : Seen F) (asker : Asker) (directory names : List (List ℕ))
    (before after : List ℕ) (kept : List (List ℕ)) (stats : List Answer) → filter (has_path directory) names ≡ kept
    → Asks r old new asker (map (stat_of directory) kept) stats → after ≡ before ++ rows_text kept stats
    → TellsRows r old new asker directory names before after
rows_of r old new asker directory names before after kept stats is asks printed = record {
  stats = stats;
  asks = subst (λ (l : List (List ℕ)). Asks r old new asker (map (stat_of directory) l) stats) (sym is) asks;
  printed = subst (λ (l : List (List ℕ)). after ≡ before ++ rows_text l stats) (sym is) printed;
}

-- none
pub rows_none : {F : Type 0} (r : Cleaner F) (v : Seen F) (asker : Asker) (directory : List (List ℕ)) (text : List ℕ)
    → TellsRows r v v asker directory [] text text
rows_none r v asker directory text =
    rows_of r v v asker directory [] text text [] [] refl (asks_none r v asker) (sym (append-nil text))

-- that of a name
pub row_one : {F : Type 0} (r : Cleaner F) (old new : Seen F) (asker : Asker) (directory : List (List ℕ))
    (name before after : List ℕ) (path : List (List ℕ)) (answer : Answer) → has_path directory name ≡ true
    → path ≡ entry_path directory name → Asks r old new asker (Stat path ∷ []) (answer ∷ [])
    → after ≡ before ++ row_text name answer → TellsRows r old new asker directory (name ∷ []) before after
row_one r old new asker directory name before after path answer has is asks printed =
    rows_of r old new asker directory (name ∷ []) before after (name ∷ []) (answer ∷ [])
    (filter_met (has_path directory) name has)
    (subst (λ (p : List (List ℕ)). Asks r old new asker (Stat p ∷ []) (answer ∷ [])) is asks)
    (printed ∙ ap (λ (l : List ℕ). before ++ l) (sym (append-nil (row_text name answer))))

-- those of further names
rows_joined : {F : Type 0} (r : Cleaner F) (old middle new : Seen F) (asker : Asker)
    (directory names more : List (List ℕ)) (before between after : List ℕ)
    → TellsRows r old middle asker directory names before between
    → TellsRows r middle new asker directory more between after
    → TellsRows r old new asker directory (names ++ more) before after
rows_joined r old middle new asker directory names more before between after first then =
    let p = has_path directory in
    let stat = stat_of directory in
    let kept = filter p names in
    let others = filter p more in
    let count : length first.stats ≡ length kept = asks_count r old middle asker (map stat kept) first.stats first.asks
    ∙ length-map kept stat in
    rows_of r old new asker directory (names ++ more) before after (kept ++ others) (first.stats ++ then.stats)
    (filter-append p names more)
    (subst (λ (l : List Request). Asks r old new asker l (first.stats ++ then.stats))
    (sym (map-append stat kept others))
    (asks_joined r old middle new asker (map stat kept) first.stats (map stat others) then.stats first.asks then.asks))
    (then.printed ∙ ap (λ (l : List ℕ). l ++ rows_text others then.stats) first.printed
    ∙ append_assoc before (rows_text kept first.stats) (rows_text others then.stats)
    ∙ ap (λ (l : List ℕ). before ++ l) (sym (rows-joined kept first.stats others then.stats count)))

-- that of the next name
pub rows_more : {F : Type 0} (r : Cleaner F) (old middle new : Seen F) (asker : Asker) (directory names : List (List ℕ))
    (i : ℕ) (name before between after : List ℕ) → i < length names → name ≡ get_or names i name
    → TellsRows r old middle asker directory (take i names) before between
    → TellsRows r middle new asker directory (name ∷ []) between after
    → TellsRows r old new asker directory (take (i + 1) names) before after
rows_more r old middle new asker directory names i name before between after lt is first then =
    subst (λ (l : List (List ℕ)). TellsRows r old new asker directory l before after)
    (sym (take_next names i name lt is))
    (rows_joined r old middle new asker directory (take i names) (name ∷ []) before between after first then)

-- and their number
pub count_more : (p : List ℕ → Bool) (names : List (List ℕ)) (i : ℕ) (name : List ℕ) (rows more : ℕ)
    → i < length names → name ≡ get_or names i name → rows ≡ length (filter p (take i names))
    → more ≡ length (filter p (name ∷ [])) → rows + more ≡ length (filter p (take (i + 1) names))
count_more p names i name rows more lt is counted one =
    let whole = ap (λ l. length (filter p l)) (take_next names i name lt is)
    ∙ ap length (filter-append p (take i names) (name ∷ []))
    ∙ length-append (filter p (take i names)) (filter p (name ∷ [])) in
    omega (arith, whole, counted, one)

-- ---- a directory

-- the rows of its first names, and how many names have none
pub names_told : {F : Type 0} (r : Cleaner F) (old new : Seen F) (asker : Asker) (path names first : List (List ℕ))
    (rows : ℕ) (before between after : List ℕ) → first ≡ take 106 names
    → rows ≡ length (filter (has_path path) first) → TellsRows r old new asker path first before between
    → after ≡ between ++ more_text (length names - rows) → TellsNames r old new asker path names before after
names_told r old new asker path names first rows before between after is counted tells printed =
    let shown = looked_of path (Some names) in
    let told : TellsRows r old new asker path (take 106 names) before between =
    subst (λ (l : List (List ℕ)). TellsRows r old new asker path l before between) is tells in
    let count : rows ≡ length shown = counted ∙ ap (λ l. length (filter (has_path path) l)) is in
    record {
      stats = told.stats;
      asks = told.asks;
      printed = printed ∙ ap (λ (n : ℕ). between ++ more_text (length names - n)) count
          ∙ ap (λ (l : List ℕ). l ++ more_text (length names - length shown)) told.printed
          ∙ append_assoc before (rows_text shown told.stats) (more_text (length names - length shown));
    }

-- behind a List that served names
pub listed_names : {F : Type 0} (r : Cleaner F) (old new : Seen F) (asker : Asker) (path : List (List ℕ))
    (answer : Answer) (names : List (List ℕ)) (before after : List ℕ) → names_served answer ≡ Some names
    → TellsNames r old new asker path names before after → TellsListed r old new asker path answer before after
listed_names r old new asker path answer names before after served tells = record {
  stats = tells.stats;
  asks = subst (λ (o : Option (List (List ℕ))). Asks r old new asker (map (stat_of path) (looked_of path o)) tells.stats)
      (sym served) tells.asks;
  printed = subst (λ (o : Option (List (List ℕ))). after ≡ before
      ++ listed_of asker.session path answer o tells.stats) (sym served) tells.printed;
}

-- behind one that served none
pub listed_none : {F : Type 0} (r : Cleaner F) (v : Seen F) (asker : Asker) (path : List (List ℕ)) (answer : Answer)
    (before after : List ℕ) → names_served answer ≡ None → after ≡ before ++ answer_line asker.session answer
    → TellsListed r v v asker path answer before after
listed_none r v asker path answer before after none printed = record {
  stats = [];
  asks = subst (λ (o : Option (List (List ℕ))). Asks r v v asker (map (stat_of path) (looked_of path o)) [])
      (sym none) (asks_none r v asker);
  printed = subst (λ (o : Option (List (List ℕ))). after ≡ before ++ listed_of asker.session path answer o [])
      (sym none) printed;
}

looked_few : (path : List (List ℕ)) (names : Option (List (List ℕ))) → length (looked_of path names) ≤ 106
looked_few path None = omega arith
looked_few path (Some names) =
    let few = filter_few (has_path path) (take 106 names) in
    let short = length-take 106 names in omega (arith, few, short)

-- a look at a directory
pub listing_told : {F : Type 0} (r : Cleaner F) (old middle new : Seen F) (asker : Asker) (path asked : List (List ℕ))
    (answer : Answer) (before after : List ℕ) → asked ≡ path
    → Asks r old middle asker (Lists asked ∷ []) (answer ∷ [])
    → TellsListed r middle new asker path answer before after
    → TellsLook r old new asker Listing path before after
listing_told r old middle new asker path asked answer before after same first tells =
    let stats = map (stat_of path) (looked_of path (names_served answer)) in
    let few = looked_few path (names_served answer) in
    let count = length-map (looked_of path (names_served answer)) (stat_of path) in
    record {
      calls = Lists path ∷ stats;
      answers = answer ∷ tells.stats;
      told = _;
      asks = asks_joined r old middle new asker (Lists path ∷ []) (answer ∷ []) stats tells.stats
          (subst (λ (p : List (List ℕ)). Asks r old middle asker (Lists p ∷ []) (answer ∷ [])) same first) tells.asks;
      few = omega (arith, few, count);
      looked = record {
        first = answer;
        stats = tells.stats;
        answered = refl;
        asked = refl;
        printed = refl;
      };
      printed = tells.printed;
    }
