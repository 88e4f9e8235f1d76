-- What the calls of a message did to the tree: `judged_made` for StayLemmas, the rest for TreeLemmas. A volume tells of
-- each call by its journal: it was answered in the world to which the journal led, and its entry leads to what the
-- answer leaves (`entry_leaves`), so the calls are answers in worlds, one behind the other (`AreJudged`). A call that
-- was served found room in the journal, or it would have been refused for it, so the rules decided it (`judged_one`).
-- Of a lone call without a refusal follows that it was served (`served_once`), and of a Stat then that it saw the row
-- that hangs where its path leads (`sees_row`), also behind a call that shows nothing (`sees_made`).
use Rattle.std.proofs.Common.{◌≡◌, ◌≢◌, ◌↔◌, ℕ, ◌<◌, ◌≤◌, ◌==◌, false, List, [], ◌∷◌, ◌++◌, length, take}
use Rattle.std.proofs.Common.{None, Some, refl, sym, ap, subst, ◌∙◌, arith, append_assoc, append-nil, length-append, ne_eqb}
use Rattle.lfs_types.specs.Caller.{Caller}
use Rattle.lfs_types.specs.StoreStates.{Shape, StoreState}
use Rattle.lfs_types.specs.Tree.{World, root}
use Rattle.lfs_types.specs.declared.answer.Answer.{Answer}
use Rattle.lfs_types.specs.declared.answer.Answer.TheVariants.{Served, Denied, Refused}
use Rattle.lfs_types.specs.declared.answer.Resource.TheVariants.{NoMemory, NoSpace, NoInodes, DirectoryFull}
use Rattle.lfs_types.specs.declared.answer.Resource.TheVariants.{JournalFull}
use Rattle.lfs_types.specs.declared.answer.Served.{Served as Shown}
use Rattle.lfs_types.specs.declared.answer.Served.TheVariants as given
use Rattle.lfs_types.specs.declared.request.Request.{Request}
use Rattle.lfs_types.specs.declared.request.Request.TheVariants.{Stat}
use Rattle.lfs_model.specs.declared.journal.Entry.{Entry}
use Rattle.lfs_model.specs.Effects.{answer_of, effect}
use Rattle.lfs_model.specs.Rules.{first_failing, front, last, reached, walk}
use Rattle.lfs_model.specs.Runs.{kept, kept_entry}
use Rattle.lfs_model.specs.Steps.{IsAnswer, after_answer, world_after}
use Rattle.lfs_model.specs.World.{Rows, IsChild, IsTree}
use Rattle.lfs_model.proofs.Allowed.{child_there, last_step, reached_last}
use Rattle.lfs_model.proofs.Children.{child-is}
use Rattle.lfs_model.proofs.Deciding.{passes-append}
use Rattle.lfs_model.proofs.RunLemmas.{world_after-append}
use Rattle.lfs_calls.specs.Entries.{OnServed}
use Rattle.lfs_calls.specs.Outcomes.{IsOutcome}
use Rattle.lfs_volume.specs.CallRuns.{AreAnswers}
use Rattle.lfs_volume.specs.Journals.{Since}
use Rattle.lfs_volume.specs.Seen.{Seen}
use Rattle.lfs_fuse_reply.specs.declared.errno.Errno.{Errno}
use Rattle.lfs_fuse_calls.specs.Shown.{bytes_shown, has_all, wanted_by}
use Rattle.lfs_fuse_calls.specs.Telling.{or_else, refusal_in, seen_in, seen_of}
use Rattle.lfs_fuse_calls.specs.declared.telling.Seen.{Seen as Sight}
use Rattle.lfs_mount.specs.Making.{AreMade, EndsOr, GoUpTo, OnAny, calls_as}

-- Calls were answered so in this world, one after another, each in the tree that the one before it left, those that are
-- served as the rules say; and they led to another world.
abbrev pub AreJudged : ℕ → Caller → World → List Request → List Answer → World → Type 0
AreJudged numbers caller w [] [] after = after ≡ w
AreJudged numbers caller w (request ∷ requests) [] after = after ≡ w
AreJudged numbers caller w [] (answer ∷ answers) after = ⊥
AreJudged numbers caller w (request ∷ requests) (answer ∷ answers) after =
    IsTree w.rows
    × OnServed answer (IsAnswer numbers w caller request answer)
    × AreJudged numbers caller (after_answer numbers w caller request answer) requests answers after

-- ---- from calls of a volume

entry_leaves : (numbers session : ℕ) (w : World) (caller : Caller) (request : Request) (answer : Answer)
    → world_after numbers (kept_entry session caller request answer) w ≡ after_answer numbers w caller request answer
entry_leaves numbers session w caller request (Served shown) = refl
entry_leaves numbers session w caller request (Denied denial) = refl
entry_leaves numbers session w caller request (Refused NoMemory) = refl
entry_leaves numbers session w caller request (Refused NoSpace) = refl
entry_leaves numbers session w caller request (Refused NoInodes) = refl
entry_leaves numbers session w caller request (Refused DirectoryFull) = refl
entry_leaves numbers session w caller request (Refused JournalFull) = refl

on_any : (P Q : Type 0) (answers : List Answer) → (P → Q) → OnAny answers P → OnAny answers Q
on_any P Q [] f h = tt
on_any P Q (answer ∷ answers) f h = f h

any_of : (P : Type 0) (answers : List Answer) → P → OnAny answers P
any_of P [] h = tt
any_of P (answer ∷ answers) h = h

-- a call that is served is answered as the rules say
judged_one : (s : StoreState) (w : World) (caller : Caller) (request : Request) (answer : Answer) (count limit : ℕ)
    → ((answer ≡ Refused JournalFull) ↔ (count ≡ limit)) → (count < limit → IsOutcome s w caller request answer)
    → count ≤ limit → OnServed answer (IsAnswer s.shape.numbers w caller request answer)
judged_one s w caller request (Served shown) count limit full outcome fits =
    let apart : count ≢ limit = λ e. let wrong : Served shown ≡ Refused JournalFull = full.1 e in absurd (cc) in
    (outcome (omega (arith, fits, apart))).0
judged_one s w caller request (Denied denial) count limit full outcome fits = tt
judged_one s w caller request (Refused resource) count limit full outcome fits = tt

are_judged : {F : Type 0} (state : F → StoreState) (is_flushed : F → Type 0) (limit : ℕ) (from : World)
    (caller : Caller) (requests : List Request) (answers : List Answer) (journal : List Entry) (old new : F)
    → AreAnswers state is_flushed limit from journal old (calls_as caller (take (length answers) requests)) answers new
    → OnAny answers (length (journal ++ kept (calls_as caller (take (length answers) requests)) answers) ≤ limit)
    → AreJudged (state old).shape.numbers caller (world_after (state old).shape.numbers journal from) requests answers
    (world_after (state new).shape.numbers
    (journal ++ kept (calls_as caller (take (length answers) requests)) answers) from)
are_judged {F} state is_flushed limit from caller [] [] journal old new are room =
    ap (λ (s : F). world_after (state s).shape.numbers (journal ++ []) from) are
    ∙ ap (λ j. world_after (state old).shape.numbers j from) (append-nil journal)
are_judged {F} state is_flushed limit from caller (request ∷ requests) [] journal old new are room =
    ap (λ (s : F). world_after (state s).shape.numbers (journal ++ []) from) are
    ∙ ap (λ j. world_after (state old).shape.numbers j from) (append-nil journal)
are_judged state is_flushed limit from caller [] (answer ∷ answers) journal old new are room = absurd are
are_judged {F} state is_flushed limit from caller (request ∷ requests) (answer ∷ answers) journal old new are room =
    let numbers = (state old).shape.numbers in
    let entry = kept_entry 0 caller request answer in
    let rest = kept (calls_as caller (take (length answers) requests)) answers in
    let made = are.1 in
    let before = world_after numbers journal from in
    let behind : (journal ++ entry) ++ rest ≡ journal ++ (entry ++ rest) = append_assoc journal entry rest in
    let counted = length-append journal (entry ++ rest) in
    let end : List Entry → World = λ j. world_after (state new).shape.numbers j from in
    let leads : world_after numbers (journal ++ entry) from ≡ after_answer numbers before caller request answer =
    world_after-append numbers journal entry from ∙ entry_leaves numbers 0 before caller request answer in
    let later = are_judged state is_flushed limit from caller requests answers (journal ++ entry) are.0 new are.2
    (any_of _ answers (subst (λ j. length j ≤ limit) (sym behind) room)) in (
      made.shown.tree,
      judged_one (state old) before caller request answer (length journal) limit made.full made.outcome
          (omega (arith, room, counted)),
      subst (λ j. AreJudged numbers caller (after_answer numbers before caller request answer) requests answers (end j))
          behind
          (subst (λ v. AreJudged numbers caller v requests answers (end ((journal ++ entry) ++ rest))) leads
          (subst (λ (s : Shape). AreJudged s.numbers caller (world_after s.numbers (journal ++ entry) from)
          requests answers (end ((journal ++ entry) ++ rest))) made.follows.shape later)),
    )

-- the calls of a message, in the trees that the volume showed
pub judged_made : {F : Type 0} (state : F → StoreState) (is_flushed : F → Type 0) (caller : Caller)
    (requests : List Request) (answers : List Answer) (old new : Seen F)
    → AreMade state is_flushed caller requests answers old new
    → Since (state old.since) old.since_level (λ from. AreJudged (state old.store).shape.numbers caller
    (world_after (state old.store).shape.numbers old.journal from) requests answers
    (world_after (state new.store).shape.numbers new.journal from))
judged_made state is_flushed caller requests answers old new made = λ from begins.
    let entries = kept (calls_as caller (take (length answers) requests)) answers in
    subst (λ j. AreJudged (state old.store).shape.numbers caller
    (world_after (state old.store).shape.numbers old.journal from) requests answers
    (world_after (state new.store).shape.numbers j from)) (sym made.entered)
    (are_judged state is_flushed old.limit from caller requests answers old.journal old.store new.store
    (made.each from begins)
    (on_any _ _ answers (λ within.
    subst (λ n. length (old.journal ++ entries) ≤ n) made.limit
    (subst (λ j. length j ≤ new.limit) made.entered (within from begins))) made.within))

-- ---- one call

-- a call that was served
pub record IsServedOnce (numbers : ℕ) (caller : Caller) (w : World) (request : Request) (answers : List Answer)
    (after : World) : Type 0 where
  pub shown : Shown
  pub is : answers ≡ Served shown ∷ []
  pub tree : IsTree w.rows
  pub answered : IsAnswer numbers w caller request (Served shown)
  pub leaves : after ≡ effect numbers w caller request

-- where no answer is a refusal, the call was served
pub served_once : (numbers : ℕ) (caller : Caller) (w : World) (request : Request) (answers : List Answer) (after : World)
    → AreJudged numbers caller w (request ∷ []) answers after → GoUpTo (request ∷ []) answers
    → refusal_in answers ≡ None → IsServedOnce numbers caller w request answers after
served_once numbers caller w request [] after judged up_to served = absurd up_to
served_once numbers caller w request (Served shown ∷ []) after judged up_to served =
    record { shown = shown; is = refl; tree = judged.0; answered = judged.1; leaves = judged.2 }
served_once numbers caller w request (Denied denial ∷ []) after judged up_to served = absurd (cc)
served_once numbers caller w request (Refused resource ∷ []) after judged up_to served = absurd (cc)
served_once numbers caller w request (answer ∷ second ∷ answers) after judged up_to served = absurd judged.2

-- where it was refused, the tree is what it was
pub refused_once : (numbers : ℕ) (caller : Caller) (w : World) (request : Request) (answers : List Answer)
    (after : World) (error : Errno)
    → AreJudged numbers caller w (request ∷ []) answers after → refusal_in answers ≡ Some error → after ≡ w
refused_once numbers caller w request [] after error judged refused = judged
refused_once numbers caller w request (Served shown ∷ []) after error judged refused = absurd (cc)
refused_once numbers caller w request (Denied denial ∷ []) after error judged refused = judged.2
refused_once numbers caller w request (Refused resource ∷ []) after error judged refused = judged.2
refused_once numbers caller w request (answer ∷ second ∷ answers) after error judged refused = absurd judged.2

-- ---- what a Stat saw

front_more : (above : List (List ℕ)) (name : List ℕ) → front (above ++ name ∷ []) ≡ above
front_more [] name = refl
front_more (first ∷ []) name = refl
front_more (first ∷ second ∷ above) name = ap (λ l. first ∷ l) (front_more (second ∷ above) name)

last_more : (above : List (List ℕ)) (name : List ℕ) → last (above ++ name ∷ []) ≡ name
last_more [] name = refl
last_more (first ∷ []) name = refl
last_more (first ∷ second ∷ above) name = last_more (second ∷ above) name

-- the names of a path before its last, and the last
pub front_is : (path above : List (List ℕ)) (name : List ℕ) → path ≡ above ++ name ∷ [] → front path ≡ above
front_is path above name e = ap front e ∙ front_more above name

pub last_is : (path above : List (List ℕ)) (name : List ℕ) → path ≡ above ++ name ∷ [] → last path ≡ name
last_is path above name e = ap last e ∙ last_more above name

filled : (path above : List (List ℕ)) (name : List ℕ) → path ≡ above ++ name ∷ [] → (length path == 0) ≡ false
filled path above name e =
    let all = length-append above (name ∷ []) in
    let count = ap (λ (l : List (List ℕ)). length l) e in
    ne_eqb (length path) 0 (omega (arith, all, count))

-- what hangs where the last name of a path leads, by the names before it and the last
pub child_at : (rows : Rows) (path above : List (List ℕ)) (name : List ℕ) (n : ℕ) → path ≡ above ++ name ∷ []
    → IsChild rows (reached rows root (front path)) (last path) n → IsChild rows (reached rows root above) name n
child_at rows path above name n e c =
    subst (λ names. IsChild rows (reached rows root names) name n) (front_is path above name e)
    (subst (λ l. IsChild rows (reached rows root (front path)) l n) (last_is path above name e) c)

path_child : (rows : Rows) (caller : Caller) (path above : List (List ℕ)) (name : List ℕ) → path
    ≡ above ++ name ∷ [] → first_failing (walk rows caller 0 0 root path) ≡ None
    → IsChild rows (reached rows root above) name (reached rows root path)
path_child rows caller path above name e walks =
    let some = filled path above name e in
    let step = last_step rows caller 0 0 root path some walks in
    child_at rows path above name (reached rows root path) e
    (child-is rows (reached rows root (front path)) (last path) (reached rows root path)
    (child_there _ _ step.leads (reached_last rows root path some)))

-- a Stat of a name saw the row that hangs there
pub record SeesRow (w : World) (above : List (List ℕ)) (name : List ℕ) (answers : List Answer) : Type 0 where
  pub tree : IsTree w.rows
  pub seen : Sight
  pub is : seen_in answers ≡ Some seen
  pub hangs : IsChild w.rows (reached w.rows root above) name seen.number

pub sees_row : (numbers : ℕ) (caller : Caller) (w after : World) (path above : List (List ℕ)) (name : List ℕ)
    (answers : List Answer) → path ≡ above ++ name ∷ [] → AreJudged numbers caller w (Stat path ∷ []) answers after
    → GoUpTo (Stat path ∷ []) answers → refusal_in answers ≡ None → SeesRow after above name answers
sees_row numbers caller w after path above name answers e judged up_to served =
    let once = served_once numbers caller w (Stat path) answers after judged up_to served in
    let walks = passes-append (walk w.rows caller 0 0 root path) [] once.answered.0 in
    let answer = answer_of w (Stat path) in
    subst (λ v. SeesRow v above name answers) (sym once.leaves) (record {
      tree = once.tree;
      seen = _;
      is = ap seen_in once.is ∙ ap (λ (s : Shown). seen_in (Served s ∷ [])) once.answered.2;
      hangs = path_child w.rows caller path above name e walks.0;
    })

-- a call of which no bytes are wanted was served, and the next was made
next_made : (request : Request) (shown : Shown) (requests : List Request) (answers : List Answer)
    → wanted_by request ≡ None → GoUpTo (request ∷ requests) (Served shown ∷ answers) → GoUpTo requests answers
next_made request shown requests answers none up_to =
    subst (λ o. EndsOr (has_all o (bytes_shown (Served shown))) (GoUpTo requests answers) answers) none up_to

unseen : (shown : Shown) (answers : List Answer) → shown ≡ given.Done → seen_in (Served shown ∷ answers)
    ≡ seen_in answers
unseen shown answers e = ap (λ (s : Shown). or_else (seen_of (Served s)) (seen_in answers)) e

-- so does a Stat behind a call that shows nothing
pub sees_made : (numbers : ℕ) (caller : Caller) (w after : World) (request : Request) (path above : List (List ℕ))
    (name : List ℕ) (answers : List Answer) → path ≡ above ++ name ∷ []
    → AreJudged numbers caller w (request ∷ Stat path ∷ []) answers after
    → GoUpTo (request ∷ Stat path ∷ []) answers → refusal_in answers ≡ None → wanted_by request ≡ None
    → ((v : World) → answer_of v request ≡ given.Done) → SeesRow after above name answers
sees_made numbers caller w after request path above name [] e judged up_to served none done = absurd up_to
sees_made numbers caller w after request path above name (Served shown ∷ answers) e judged up_to served none done =
    let sees = sees_row numbers caller (effect numbers w caller request) after path above name answers e judged.2
    (next_made request shown (Stat path ∷ []) answers none up_to) served in
    record {
      tree = sees.tree;
      seen = sees.seen;
      is = unseen shown answers (judged.1.2 ∙ done w) ∙ sees.is;
      hangs = sees.hangs;
    }
sees_made numbers caller w after request path above name (Denied denial ∷ answers) e judged up_to served none done =
    absurd (cc)
sees_made numbers caller w after request path above name (Refused resource ∷ answers) e judged up_to served none done =
    absurd (cc)
