-- Calls that were made, with one more, for the loop of `make`. A message's calls are made while each is served in full
-- (`AllFull`); all of them were, or the first that wasn't is the last (`up_to_all`, `up_to_one`). Each is answered
-- behind the entries of those before it, and neither the journal's beginning nor its limit moves; so a further one is
-- one of a longer run from the same beginning (`one_more`, `entered_more`). `are_made` puts this together: the calls
-- that were made are the first of those that were asked for, as many as there are answers.
use Rattle.std.proofs.Common.{◌≡◌, true, false, List, [], ◌∷◌, ◌++◌, length, take, refl, sym, ap, subst, ◌∙◌}
use Rattle.std.proofs.Math.Seq.{take-append_seam}
use Rattle.lfs_types.specs.Caller.{Caller}
use Rattle.lfs_types.specs.StoreStates.{StoreState}
use Rattle.lfs_types.specs.declared.answer.Answer.{Answer}
use Rattle.lfs_types.specs.declared.request.Request.{Request}
use Rattle.lfs_model.specs.declared.journal.Entry.{Entry}
use Rattle.lfs_model.specs.Runs.{kept, kept_entry}
use Rattle.lfs_model.proofs.RunLemmas.{kept-append}
use Rattle.std.proofs.Common.{append_assoc, suc, ◌≤◌}
use Rattle.lfs_volume.specs.CallRuns.{AreAnswers, IsCallMade}
use Rattle.lfs_volume.specs.Journals.{Begins, IsJournal, Since}
use Rattle.lfs_volume.specs.Seen.{Seen}
use Rattle.lfs_volume.proofs.CallLemmas.{AreAnswers-append}
use Rattle.lfs_fuse_calls.specs.Shown.{is_full, wanted_by}
use Rattle.lfs_mount.specs.Making.{AreMade, EndsOr, GoUpTo, OnAny, call_as, calls_as}
use Rattle.lfs_mount.specs.Runs.{IsRun}

pub calls_as-append : (caller : Caller) (requests : List Request) (request : Request)
    → calls_as caller (requests ++ request ∷ []) ≡ calls_as caller requests ++ call_as caller request ∷ []
calls_as-append caller [] request = refl
calls_as-append caller (r ∷ requests) request = ap (λ l. call_as caller r ∷ l) (calls_as-append caller requests request)

pub length-calls_as : (caller : Caller) (requests : List Request) → length (calls_as caller requests) ≡ length requests
length-calls_as caller [] = refl
length-calls_as caller (r ∷ requests) = ap (λ n. suc n) (length-calls_as caller requests)

-- each answer is served in full
abbrev pub AllFull : List Request → List Answer → Type 0
AllFull [] [] = Unit {0}
AllFull [] (answer ∷ answers) = ⊥
AllFull (request ∷ requests) [] = ⊥
AllFull (request ∷ requests) (answer ∷ answers) = (is_full (wanted_by request) answer ≡ true) × AllFull requests answers

pub AllFull-append : (requests : List Request) (answers : List Answer) (request : Request) (answer : Answer)
    → AllFull requests answers
    → is_full (wanted_by request) answer ≡ true → AllFull (requests ++ request ∷ []) (answers ++ answer ∷ [])
AllFull-append [] [] request answer all full = (full, tt)
AllFull-append [] (a ∷ answers) request answer all full = absurd all
AllFull-append (r ∷ requests) [] request answer all full = absurd all
AllFull-append (r ∷ requests) (a ∷ answers) request answer all full =
    (all.0, AllFull-append requests answers request answer all.1 full)

pub up_to_all : (requests : List Request) (answers : List Answer) → AllFull requests answers → GoUpTo requests answers
up_to_all [] [] all = tt
up_to_all [] (a ∷ answers) all = absurd all
up_to_all (r ∷ requests) [] all = absurd all
up_to_all (r ∷ requests) (a ∷ answers) all =
    subst (λ b. EndsOr b (GoUpTo requests answers) answers) (sym all.0) (up_to_all requests answers all.1)

pub up_to_one : (requests rest : List Request) (answers : List Answer) (request : Request) (answer : Answer)
    → AllFull requests answers
    → is_full (wanted_by request) answer ≡ false → GoUpTo (requests ++ request ∷ rest) (answers ++ answer ∷ [])
up_to_one [] rest [] request answer all not_full = subst (λ b. EndsOr b (GoUpTo rest []) []) (sym not_full) refl
up_to_one [] rest (a ∷ answers) request answer all not_full = absurd all
up_to_one (r ∷ requests) rest [] request answer all not_full = absurd all
up_to_one (r ∷ requests) rest (a ∷ answers) request answer all not_full =
    subst (λ b. EndsOr b (GoUpTo (requests ++ request ∷ rest) (answers ++ answer ∷ [])) (answers ++ answer ∷ []))
    (sym all.0)
    (up_to_one requests rest answers request answer all.1 not_full)

-- one more call was answered
pub one_more : {F : Type 0} (state : F → StoreState) (is_flushed : F → Type 0) (caller : Caller)
    (old before next : Seen F) (done : List Request) (answers : List Answer) (request : Request) (answer : Answer)
    → Since (state old.since) old.since_level
    (λ from. AreAnswers state is_flushed old.limit from old.journal old.store
    (calls_as caller done) answers before.store)
    → before.journal ≡ old.journal ++ kept (calls_as caller done) answers
    → before.since ≡ old.since → before.since_level ≡ old.since_level → before.limit ≡ old.limit
    → Since (state before.since) before.since_level
    (λ from. IsCallMade state is_flushed before.limit from before.journal before.store caller request answer
    next.store)
    → Since (state old.since) old.since_level
    (λ from. AreAnswers state is_flushed old.limit from old.journal old.store
    (calls_as caller (done ++ request ∷ [])) (answers ++ answer ∷ []) next.store)
one_more {F} state is_flushed caller old before next done answers request answer each entered since since_level limit
    made =
    λ from begins.
    let here : Begins (state before.since) before.since_level from =
    subst (λ l. Begins (state before.since) l from) (sym since_level)
    (subst (λ (s : F). Begins (state s) old.since_level from) (sym since) begins) in
    subst (λ calls. AreAnswers state is_flushed old.limit from old.journal old.store calls (answers ++ answer
    ∷ []) next.store) (sym (calls_as-append caller done request))
    (AreAnswers-append state is_flushed old.limit from old.journal old.store before.store next.store
    (calls_as caller done) answers (call_as caller request) answer (each from begins)
    (subst (λ n. IsCallMade state is_flushed n from (old.journal
    ++ kept (calls_as caller done) answers) before.store caller request answer next.store) limit
    (subst (λ j. IsCallMade state is_flushed before.limit from j before.store caller request answer next.store) entered
    (made from here))))

-- no call was made
pub none_made : (P : Type 0) (answers : List Answer) → answers ≡ [] → OnAny answers P
none_made P answers none = subst (λ l. OnAny l P) (sym none) tt

-- a call that was made left the journal within its limit
pub within_limit : {F : Type 0} (state : F → StoreState) (old next : Seen F) (answers : List Answer)
    → Since (state next.since) next.since_level
    (λ from. IsJournal from (state next.store) next.level next.journal next.limit)
    → next.since ≡ old.since → next.since_level ≡ old.since_level
    → OnAny answers (Since (state old.since) old.since_level (λ from. length next.journal ≤ next.limit))
within_limit state old next [] legal since since_level = tt
within_limit {F} state old next (answer ∷ answers) legal since since_level =
    λ from begins.
    (legal from (subst (λ l. Begins (state next.since) l from) (sym since_level)
    (subst (λ (s : F). Begins (state s) old.since_level from) (sym since) begins))).within

-- what was entered, with one more
pub entered_more : (caller : Caller) (old before next : List Entry) (done : List Request) (answers : List Answer)
    (request : Request) (answer : Answer)
    → length answers ≡ length done → before ≡ old ++ kept (calls_as caller done) answers → next ≡ before
    ++ kept_entry 0 caller request answer
    → next ≡ old ++ kept (calls_as caller (done ++ request ∷ [])) (answers ++ answer ∷ [])
entered_more caller old before next done answers request answer count entered more =
    more
    ∙ ap (λ j. j ++ kept_entry 0 caller request answer) entered
    ∙ append_assoc old (kept (calls_as caller done) answers) (kept_entry 0 caller request answer)
    ∙ ap (λ l. old ++ l)
    (sym (kept-append (calls_as caller done) answers (call_as caller request) answer (count
    ∙ sym (length-calls_as caller done)))
    ∙ ap (λ calls. kept calls (answers ++ answer ∷ [])) (sym (calls_as-append caller done request)))

-- calls that have answers, of those that were asked for
pub are_made : {F : Type 0} (state : F → StoreState) (is_flushed : F → Type 0) (caller : Caller)
    (requests done rest : List Request) (answers : List Answer) (old new : Seen F)
    → done ++ rest ≡ requests → length answers ≡ length done
    → Since (state old.since) old.since_level
    (λ from. AreAnswers state is_flushed old.limit from old.journal old.store
    (calls_as caller done) answers new.store)
    → new.journal ≡ old.journal ++ kept (calls_as caller done) answers
    → OnAny answers (Since (state old.since) old.since_level (λ from. length new.journal ≤ new.limit))
    → GoUpTo requests answers
    → new.since ≡ old.since → new.since_level ≡ old.since_level → new.limit ≡ old.limit
    → (state new.store).shape ≡ (state old.store).shape → (IsRun state old → IsRun state new)
    → AreMade state is_flushed caller requests answers old new
are_made state is_flushed caller requests done rest answers old new all count each entered within up_to since
    since_level limit shape legal =
    let made : take (length answers) requests ≡ done =
    ap (λ n. take n requests) count ∙ ap (take (length done)) (sym all) ∙ take-append_seam done rest in
    record {
      each = subst (λ l. Since (state old.since) old.since_level
          (λ from. AreAnswers state is_flushed old.limit from old.journal old.store
          (calls_as caller l) answers new.store)) (sym made) each;
      entered = entered ∙ ap (λ l. old.journal ++ kept (calls_as caller l) answers) (sym made);
      within = within;
      up_to = up_to;
      since = since;
      since_level = since_level;
      limit = limit;
      shape = shape;
      legal = legal;
    }
