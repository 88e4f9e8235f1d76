-- Users get the same answers whatever the cleaner does between their calls: `same_answers_law`, for the law
-- `same_answers`. Without the cleaner's entries, the Syncs and the refusals each entry was decided by the rules
-- (AllJudged), and these have one answer to a call in a world (`one_answer`); so by induction both lists are the same
-- entry by entry. A refusal isn't decided by the rules, so runs of which one refused what the other served aren't
-- compared; an answer that the rules left open would break `one_answer`.
use Rattle.std.proofs.Common.{◌≡◌, ℕ, List, [], ◌∷◌, ◌++◌, refl, sym, ap, subst, ◌∙◌}
use Rattle.lfs_types.specs.Caller.{Caller}
use Rattle.lfs_types.specs.Tree.{World}
use Rattle.lfs_types.specs.declared.answer.Answer.{Answer}
use Rattle.lfs_types.specs.declared.answer.Answer.TheVariants.{Served, Denied, Refused}
use Rattle.lfs_types.specs.declared.request.Request.{Request}
use Rattle.lfs_types.specs.declared.request.Request.TheVariants.{Sync}
use Rattle.lfs_model.specs.declared.journal.Call.{Call}
use Rattle.lfs_model.specs.declared.journal.Entry.{Entry}
use Rattle.lfs_model.specs.declared.journal.Event.{Event}
use Rattle.lfs_model.specs.declared.journal.Event.TheVariants.{User, Cleaner}
use Rattle.lfs_laws.specs.LawsRuns.{SameAnswers, call_of, calls_of}
use Rattle.lfs_model.specs.Runs.{journaled, users_alone, users_event}
use Rattle.lfs_model.specs.Steps.{IsAnswer, IsEvent, IsLegal, after_event, world_after}
use Rattle.lfs_model.proofs.EntryLemmas.{users_alone_law}

-- the event is a user's call that was decided by the rules
abbrev IsJudged : Event → Type 0
IsJudged (User request (Served shown)) = Unit {0}
IsJudged (User request (Denied denial)) = Unit {0}
IsJudged (User request (Refused resource)) = ⊥
IsJudged (Cleaner kind outcome) = ⊥

abbrev AllJudged : List Entry → Type 0
AllJudged [] = Unit {0}
AllJudged (e ∷ es) = IsJudged e.event × AllJudged es

AllJudged-left : (session : ℕ) (caller : Caller) (event : Event) (es : List Entry) → AllJudged es
    → AllJudged (journaled session caller (users_event event) ++ es)
AllJudged-left session caller (User Sync (Served shown)) es all = all
AllJudged-left session caller (User Sync (Denied denial)) es all = all
AllJudged-left session caller (User Sync (Refused resource)) es all = all
AllJudged-left session caller (User request (Refused resource)) es all = all
AllJudged-left session caller (User request (Served shown)) es all = (tt, all)
AllJudged-left session caller (User request (Denied denial)) es all = (tt, all)
AllJudged-left session caller (Cleaner kind outcome) es all = all

-- the users' entries alone were all decided by the rules
AllJudged-users : (es : List Entry) → AllJudged (users_alone es)
AllJudged-users [] = tt
AllJudged-users (e ∷ es) = AllJudged-left e.session e.cred e.event (users_alone es) (AllJudged-users es)

-- a call has one answer by the rules
one_answer : (numbers : ℕ) (w : World) (caller : Caller) (request : Request) (a b : Answer) → IsJudged (User request a)
    → IsJudged (User request b)
    → IsAnswer numbers w caller request a → IsAnswer numbers w caller request b → a ≡ b
one_answer numbers w caller request (Served shown) (Served other) ja jb a b = ap Served (a.2 ∙ sym b.2)
one_answer numbers w caller request (Served shown) (Denied denial) ja jb a b = let none = a.0 in let some = b in cc
one_answer numbers w caller request (Denied denial) (Served shown) ja jb a b = let none = b.0 in let some = a in cc
one_answer numbers w caller request (Denied denial) (Denied other) ja jb a b = cc
one_answer numbers w caller request (Refused resource) answer ja jb a b = absurd ja
one_answer numbers w caller request answer (Refused resource) ja jb a b = absurd jb

abbrev entry : ℕ → Caller → Event → Entry
entry session caller event = record { session = session; cred = caller; event = event }

abbrev call : ℕ → Caller → Request → Call
call session caller request = record { session = session; cred = caller; request = request }

-- one call, decided by the rules in one world, has one entry
one_entry : (numbers : ℕ) (w : World) (s t : ℕ) (c d : Caller) (request other : Request) (a b : Answer)
    → IsJudged (User request a) → IsJudged (User other b) → IsAnswer numbers w c request a
    → IsAnswer numbers w d other b
    → call s c request ≡ call t d other → entry s c (User request a) ≡ entry t d (User other b)
one_entry numbers w s t c d request other a b ja jb ia ib same =
    let sessions : s ≡ t = ap (λ (x : Call). x.session) same in
    let callers : c ≡ d = ap (λ (x : Call). x.cred) same in
    let requests : request ≡ other = ap (λ (x : Call). x.request) same in
    let judged : IsJudged (User request b) = subst (λ r. IsJudged (User r b)) (sym requests) jb in
    let mine : IsAnswer numbers w c request b =
    subst (λ r. IsAnswer numbers w c r b) (sym requests) (subst (λ k. IsAnswer numbers w k other b) (sym callers) ib) in
    let answers : a ≡ b = one_answer numbers w c request a b ja judged ia mine in
    cc

-- the first entries of lists that make the same calls from one world are the same, and the others make the same calls
same_first : (numbers segments : ℕ) (w : World) (s t : ℕ) (c d : Caller) (x y : Event) (es fs : List Entry) → IsJudged x
    → IsJudged y
    → IsEvent numbers segments w c x → IsEvent numbers segments w d y
    → call_of s c x ++ calls_of es ≡ call_of t d y ++ calls_of fs
    → (entry s c x ≡ entry t d y) × (calls_of es ≡ calls_of fs)
same_first numbers segments w s t c d (User request a) (User other b) es fs jx jy ix iy same =
    let calls : call s c request ≡ call t d other = cc in
    (one_entry numbers w s t c d request other a b jx jy ix iy calls, cc)
same_first numbers segments w s t c d (User request a) (Cleaner kind outcome) es fs jx jy ix iy same = absurd jy
same_first numbers segments w s t c d (Cleaner kind outcome) y es fs jx jy ix iy same = absurd jx

-- a list that begins with an entry that was decided makes a call
no_calls : (s : ℕ) (c : Caller) (x : Event) (es : List Entry) → IsJudged x → [] ≡ call_of s c x ++ calls_of es → ⊥
no_calls s c (User request a) es j same = cc
no_calls s c (Cleaner kind outcome) es j same = j

-- lists of entries that were decided, and make the same calls from one world, are the same
same_entries : (numbers segments : ℕ) (es fs : List Entry) (w : World) → AllJudged es → AllJudged fs
    → IsLegal numbers segments es w → IsLegal numbers segments fs w → calls_of es ≡ calls_of fs → es ≡ fs
same_entries numbers segments [] [] w je jf le lf same = refl
same_entries numbers segments [] (f ∷ fs) w je jf le lf same = absurd (no_calls f.session f.cred f.event fs jf.0 same)
same_entries numbers segments (e ∷ es) [] w je jf le lf same =
    absurd (no_calls e.session e.cred e.event es je.0 (sym same))
same_entries numbers segments (e ∷ es) (f ∷ fs) w je jf le lf same =
    let both = same_first numbers segments w e.session f.session e.cred f.cred e.event f.event es fs je.0 jf.0 le.0 lf.0
    same in
    let one : e ≡ f = both.0 in
    let rest : es ≡ fs = same_entries numbers segments es fs (after_event numbers w e.cred e.event) je.1 jf.1 le.1
    (subst (λ (x : Entry). IsLegal numbers segments fs (after_event numbers w x.cred x.event)) (sym one) lf.1) both.1 in
    cc

pub same_answers_law : SameAnswers
same_answers_law numbers segments es fs w le lf same =
    let mine = users_alone_law numbers segments es w le in
    let other = users_alone_law numbers segments fs w lf in
    let alike : users_alone es ≡ users_alone fs =
    same_entries numbers segments (users_alone es) (users_alone fs) w (AllJudged-users es)
    (AllJudged-users fs) mine.0 other.0 same in
    (alike, sym mine.1 ∙ ap (λ l. world_after numbers l w) alike ∙ other.1)
