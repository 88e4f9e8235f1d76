-- A walk through a tree: each visit is the last of those that wait, and what its answer leads to is put behind the others,
-- turned round. Turned round, the next one stands first, and what an answer leads to before the others, as in `IsWalk`.
-- So the visits are a walk after each of them, by one more visit at its end.
use Rattle.std.proofs.Common.{◌≡◌, ℕ, ◌+◌, ◌≤◌, ◌⊎◌, inl, inr, true, false, List, [], ◌∷◌, ◌++◌, length, map, refl, sym}
use Rattle.std.proofs.Common.{ap, subst, ◌∙◌, arith, append_assoc, append-nil, length-append, ◌<◌, get_or, take, Option}
use Rattle.std.proofs.Common.{None}
use Rattle.std.specs.Prelude.{reverse, filter, ◌-◌}
use Rattle.std.specs.Option.{IsSome, option_to_list}
use Rattle.std.proofs.lemmas.Bool.{false≢true}
use Rattle.std.proofs.lemmas.List.{map-append, length-map, reverse-append, reverse-reverse}
use Rattle.std.proofs.lemmas.List.Elements.{filter-append}
use Rattle.lfs_types.specs.declared.answer.Answer.{Answer}
use Rattle.lfs_types.specs.declared.request.Request.{Request}
use Rattle.lfs_volume.specs.Cleanings.{Cleaner}
use Rattle.lfs_volume.specs.Seen.{Seen}
use Rattle.lfs_browse.specs.Asking.{Asks}
use Rattle.lfs_browse.specs.Looks.{TellsLook}
use Rattle.lfs_browse.specs.Listing.{has_path, row_text}
use Rattle.lfs_browse.specs.Trees.{IsWalk, call_of, entry_of, leads_to, rest_text}
use Rattle.lfs_browse.specs.Trees.{indent, shows_directory, visit_text, visits_text}
use Rattle.lfs_browse.specs.Walking.{HasEnded, HasWalked, TakesIn, Visits}
use Rattle.lfs_audit.specs.declared.asker.Asker.{Asker}
use Rattle.lfs_hearing.specs.declared.look.Look.TheVariants.{Tree}
use Rattle.lfs_browse.specs.declared.visit.Visit.{Visit}
use Rattle.lfs_browse.specs.declared.visit.Visit.TheVariants.{Entry, Names}
use Rattle.lfs_browse.specs.declared.walk.Walk.{Walk}
use Rattle.lfs_browse.proofs.AskLemmas.{asks_count, asks_joined, asks_none}
use Rattle.lfs_browse.proofs.ListingLemmas.{take_next}

-- ---- one more visit

walk-more : (pending visits : List Visit) (answers : List Answer) (visit : Visit) (answer : Answer)
    (others : List Visit) → IsWalk pending visits answers (visit ∷ others)
    → IsWalk pending (visits ++ visit ∷ []) (answers ++ answer ∷ []) (leads_to visit answer ++ others)
walk-more pending [] answers visit answer others walk =
    (answer, [], others, ap (λ (l : List Answer). l ++ answer ∷ []) walk.0, sym walk.1, (refl, refl))
walk-more pending (v ∷ visits) answers visit answer others walk = (
  walk.0,
  walk.1 ++ answer ∷ [],
  walk.2,
  ap (λ (l : List Answer). l ++ answer ∷ []) walk.3,
  walk.4,
  walk-more (leads_to v walk.0 ++ walk.2) visits walk.1 visit answer others walk.5,
)

texts-more : (root : ℕ) (visits : List Visit) (answers : List Answer) (visit : Visit) (answer : Answer)
    → length answers ≡ length visits
    → visits_text root (visits ++ visit ∷ []) (answers ++ answer ∷ [])
    ≡ visits_text root visits answers ++ visit_text root visit answer
texts-more root [] [] visit answer count = append-nil (visit_text root visit answer)
texts-more root [] (a ∷ answers) visit answer count = absurd (omega (arith, count))
texts-more root (v ∷ visits) [] visit answer count = absurd (omega (arith, count))
texts-more root (v ∷ visits) (a ∷ answers) visit answer count =
    ap (λ (l : List ℕ). visit_text root v a ++ l) (texts-more root visits answers visit answer (omega (arith, count)))
    ∙ sym (append_assoc (visit_text root v a) (visits_text root visits answers) (visit_text root visit answer))

-- ---- a walk

-- none was made
pub walked_none : {F : Type 0} (r : Cleaner F) (v : Seen F) (asker : Asker) (walk : Walk)
    → HasWalked r v v asker walk walk []
walked_none r v asker walk = record {
  answers = [];
  asks = asks_none r v asker;
  walked = (refl, refl);
  root = refl;
  told = sym (append-nil walk.text.items);
}

-- the last that waits is the first of those that are turned round
turned-last : (items rest : List Visit) (visit : Visit) → items ≡ rest ++ visit ∷ []
    → reverse items ≡ visit ∷ reverse rest
turned-last items rest visit is = ap reverse is ∙ reverse-append rest (visit ∷ [])

-- what is put behind the others, turned round, stands before them
turned-led : (items rest led : List Visit) → items ≡ rest ++ reverse led → reverse items ≡ led ++ reverse rest
turned-led items rest led is = ap reverse is ∙ reverse-append rest (reverse led)
    ∙ ap (λ (l : List Visit). l ++ reverse rest) (reverse-reverse led)

-- one more was made, which was the last that waited
pub walked_more : {F : Type 0} (r : Cleaner F) (old middle new : Seen F) (asker : Asker)
    (before between popped after : Walk) (visits : List Visit) (visit : Visit)
    → HasWalked r old middle asker before between visits
    → between.pending.items ≡ popped.pending.items ++ visit ∷ [] → popped.root ≡ between.root
    → popped.text.items ≡ between.text.items → Visits r middle new asker popped after visit
    → HasWalked r old new asker before after (visits ++ visit ∷ [])
walked_more r old middle new asker before between popped after visits visit walked last root text made =
    let answer = made.answer in
    let answers = walked.answers in
    let rest = reverse popped.pending.items in
    let count : length answers ≡ length visits =
    asks_count r old middle asker (map call_of visits) answers walked.asks ∙ length-map visits call_of in
    let same : popped.root ≡ before.root = root ∙ walked.root in
    record {
      answers = answers ++ answer ∷ [];
      asks = subst (λ (l : List Request). Asks r old new asker l (answers ++ answer ∷ []))
          (sym (map-append call_of visits (visit ∷ [])))
          (asks_joined r old middle new asker (map call_of visits) answers (call_of visit ∷ []) (answer ∷ [])
          walked.asks made.asks);
      walked = subst (λ (l : List Visit). IsWalk (reverse before.pending.items) (visits ++ visit ∷ [])
          (answers ++ answer ∷ []) l)
          (sym (turned-led after.pending.items popped.pending.items (leads_to visit answer) made.takes.pending))
          (walk-more (reverse before.pending.items) visits answers visit answer rest
          (subst (λ (l : List Visit). IsWalk (reverse before.pending.items) visits answers l)
          (turned-last between.pending.items popped.pending.items visit last) walked.walked));
      root = made.takes.root ∙ same;
      told = made.takes.told
          ∙ ap (λ (l : List ℕ). l ++ visit_text popped.root visit answer) (text ∙ walked.told)
          ∙ append_assoc before.text.items (visits_text before.root visits answers) (visit_text popped.root visit answer)
          ∙ ap (λ (n : ℕ). before.text.items ++ (visits_text before.root visits answers ++ visit_text n visit answer)) same
          ∙ ap (λ (l : List ℕ). before.text.items ++ l) (sym (texts-more before.root visits answers visit answer count));
    }

-- so many visits were made
pub record IsWalking {F : Type 0} (r : Cleaner F) (old new : Seen F) (asker : Asker) (before after : Walk) (n : ℕ)
    : Type 0 where
  pub visits : List Visit
  pub walked : HasWalked r old new asker before after visits
  pub count : length visits ≡ n

pub walking_none : {F : Type 0} (r : Cleaner F) (v : Seen F) (asker : Asker) (walk : Walk)
    → IsWalking r v v asker walk walk 0
walking_none r v asker walk = record { visits = []; walked = walked_none r v asker walk; count = refl }

pub walking_more : {F : Type 0} (r : Cleaner F) (old middle new : Seen F) (asker : Asker)
    (before between popped after : Walk) (n : ℕ) (visit : Visit) → IsWalking r old middle asker before between n
    → between.pending.items ≡ popped.pending.items ++ visit ∷ [] → popped.root ≡ between.root
    → popped.text.items ≡ between.text.items → Visits r middle new asker popped after visit
    → IsWalking r old new asker before after (n + 1)
walking_more r old middle new asker before between popped after n visit walking last root text made =
    let grown = length-append walking.visits (visit ∷ []) in
    let count = walking.count in
    record {
      visits = walking.visits ++ visit ∷ [];
      walked = walked_more r old middle new asker before between popped after walking.visits visit walking.walked last
          root text made;
      count = omega (arith, grown, count);
    }

-- where none was taken out, none was there, and none is left
pub none_left : (items rest : List Visit) (popped : Option Visit) → popped ≡ None
    → items ≡ rest ++ option_to_list popped → (0 < length items → IsSome popped) → rest ≡ []
none_left [] rest popped none is some =
    sym (append-nil rest) ∙ sym (subst (λ (o : Option Visit). [] ≡ rest ++ option_to_list o) none is)
none_left (x ∷ items) rest popped none is some =
    absurd (false≢true (subst (λ (o : Option Visit). IsSome o) none (some (omega arith))))

-- no call waits any more
pub ended_early : {F : Type 0} (r : Cleaner F) (old new : Seen F) (asker : Asker) (before between popped : Walk) (n : ℕ)
    → IsWalking r old new asker before between n → n ≤ 107 → between.pending.items ≡ popped.pending.items ++ []
    → popped.pending.items ≡ [] → popped.root ≡ between.root → popped.text.items ≡ between.text.items
    → HasEnded r old new asker before popped
ended_early r old new asker before between popped n walking few last none root text =
    let walked = walking.walked in
    let count = walking.count in
    let same : between.pending.items ≡ popped.pending.items = last ∙ append-nil popped.pending.items in
    record {
      visits = walking.visits;
      walked = record {
        answers = walked.answers;
        asks = walked.asks;
        walked = subst (λ (l : List Visit). IsWalk (reverse before.pending.items) walking.visits walked.answers
            (reverse l)) same walked.walked;
        root = root ∙ walked.root;
        told = text ∙ walked.told;
      };
      few = omega (arith, few, count);
      ends = inl none;
    }

-- or so many calls were made as a line may ask for
pub ended_full : {F : Type 0} (r : Cleaner F) (old new : Seen F) (asker : Asker) (before after : Walk) (n : ℕ)
    → IsWalking r old new asker before after n → n ≡ 107 → HasEnded r old new asker before after
ended_full r old new asker before after n walking full =
    let count = walking.count in
    record {
      visits = walking.visits;
      walked = walking.walked;
      few = omega (arith, full, count);
      ends = inr (count ∙ full);
    }

-- ---- the whole

rest-led : (visit : Visit) (visits : List Visit) → rest_text (visits ++ visit ∷ []) ≡ rest_text (visit ∷ [])
rest-led visit [] = refl
rest-led visit (v ∷ visits) = refl

rest-turned : (visits : List Visit) → rest_text (reverse visits) ≡ rest_text visits
rest-turned [] = refl
rest-turned (v ∷ visits) =
    ap rest_text (reverse-append (v ∷ []) visits) ∙ rest-led v (reverse visits)

ends-turned : (items : List Visit) (n : ℕ) → (items ≡ []) ⊎ (n ≡ 107) → (reverse items ≡ []) ⊎ (n ≡ 107)
ends-turned items n (inl none) = inl (ap reverse none)
ends-turned items n (inr full) = inr full

-- a walk to its end is told
pub tree_told : {F : Type 0} (r : Cleaner F) (old new : Seen F) (asker : Asker) (path : List (List ℕ))
    (first last : Walk) (before between after : List ℕ)
    → first.root ≡ length path → first.pending.items ≡ Names path ∷ [] → first.text.items ≡ []
    → HasEnded r old new asker first last → between ≡ before ++ last.text.items
    → after ≡ between ++ rest_text last.pending.items
    → TellsLook r old new asker Tree path before after
tree_told r old new asker path first last before between after root pending empty ended between_is after_is =
    let visits = ended.visits in
    let walked = ended.walked in
    let answers = walked.answers in
    let left = reverse last.pending.items in
    let told = visits_text (length path) visits answers ++ rest_text left in
    let text : last.text.items ≡ visits_text (length path) visits answers =
    walked.told ∙ ap (λ (l : List ℕ). l ++ visits_text first.root visits answers) empty
    ∙ ap (λ (n : ℕ). visits_text n visits answers) root in
    let count = length-map visits call_of in
    let few = ended.few in
    record {
      calls = map call_of visits;
      answers = answers;
      told = told;
      asks = walked.asks;
      few = omega (arith, count, few);
      looked = record {
        visits = visits;
        left = left;
        walked = subst (λ (l : List Visit). IsWalk l visits answers left) (ap reverse pending) walked.walked;
        ends = ends-turned last.pending.items (length visits) ended.ends;
        asked = refl;
        printed = refl;
      };
      printed = after_is ∙ ap (λ (l : List ℕ). l ++ rest_text last.pending.items) (between_is
          ∙ ap (λ (l : List ℕ). before ++ l) text)
          ∙ append_assoc before (visits_text (length path) visits answers) (rest_text last.pending.items)
          ∙ ap (λ (l : List ℕ). before ++ (visits_text (length path) visits answers ++ l))
          (sym (rest-turned last.pending.items));
    }

-- ---- an answer that is taken in

-- that to a Stat of a name
pub entry_taken : (old new : Walk) (path : List (List ℕ)) (name : List ℕ) (answer : Answer) (led : List Visit)
    → new.root ≡ old.root → led ≡ leads_to (Entry path name) answer → reverse led ≡ led
    → new.pending.items ≡ old.pending.items ++ led
    → new.text.items ≡ old.text.items ++ visit_text old.root (Entry path name) answer
    → TakesIn old new (Entry path name) answer
entry_taken old new path name answer led root is same pending told = record {
  root = root;
  pending = pending ∙ ap (λ (l : List Visit). old.pending.items ++ l) (sym same ∙ ap reverse is);
  told = told;
}

-- it leads to a List of a directory that it showed
pub led_directory : (path : List (List ℕ)) (name : List ℕ) (answer : Answer) → shows_directory answer ≡ true
    → Names path ∷ [] ≡ leads_to (Entry path name) answer
led_directory path name answer shows = rw shows refl

-- and else to nothing
pub led_nowhere : (path : List (List ℕ)) (name : List ℕ) (answer : Answer) → shows_directory answer ≡ false
    → [] ≡ leads_to (Entry path name) answer
led_nowhere path name answer other = rw other refl

-- a row, so far in
pub row_told : (root : ℕ) (path names : List (List ℕ)) (below depth : ℕ) (name : List ℕ) (answer : Answer)
    (before between after : List ℕ) → names ≡ path → below ≡ length names - root → depth ≡ below - 1
    → between ≡ before ++ indent depth → after ≡ between ++ row_text name answer
    → after ≡ before ++ visit_text root (Entry path name) answer
row_told root path names below depth name answer before between after same below_is depth_is first then =
    then ∙ ap (λ (l : List ℕ). l ++ row_text name answer) first
    ∙ append_assoc before (indent depth) (row_text name answer)
    ∙ ap (λ (n : ℕ). before ++ (indent n ++ row_text name answer))
    (depth_is ∙ ap (λ (m : ℕ). m - 1) (below_is ∙ ap (λ (l : List (List ℕ)). length l - root) same))

-- ---- the names of a directory

-- a Stat of one more name, where it has a path
pub entries_more : (directory names : List (List ℕ)) (i : ℕ) (name : List ℕ) (entries more : List Visit)
    → i < length names → name ≡ get_or names i name
    → entries ≡ map (entry_of directory) (filter (has_path directory) (take i names))
    → more ≡ entries ++ map (entry_of directory) (filter (has_path directory) (name ∷ []))
    → more ≡ map (entry_of directory) (filter (has_path directory) (take (i + 1) names))
entries_more directory names i name entries more lt is before then =
    then ∙ ap (λ (l : List Visit). l ++ map (entry_of directory) (filter (has_path directory) (name ∷ []))) before
    ∙ sym (map-append (entry_of directory) (filter (has_path directory) (take i names))
    (filter (has_path directory) (name ∷ [])))
    ∙ ap (map (entry_of directory)) (sym (filter-append (has_path directory) (take i names) (name ∷ [])))
    ∙ ap (λ (l : List (List ℕ)). map (entry_of directory) (filter (has_path directory) l))
    (sym (take_next names i name lt is))
