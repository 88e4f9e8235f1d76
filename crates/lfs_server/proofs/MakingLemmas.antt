-- What a session has made of the calls that it makes next, a call after another: `none_made`, `more_made` and
-- `same_made`, for `Kept::call_each`. Of the batch's calls the first ones were made and the others are left; they have
-- as many answers, and their entries stand in order behind the journal. A further call is the first of those left, and
-- its answer and its entry go behind the others (`entries_kept_append`); the session is the batch's throughout.
use Rattle.std.proofs.Common.{◌≡◌, ℕ, List, [], ◌∷◌, ◌++◌, length, refl, sym, ap, ◌∙◌, arith, append-nil, append_assoc, length-append}
use Rattle.lfs_types.specs.Caller.{Caller}
use Rattle.lfs_types.specs.declared.answer.Answer.{Answer}
use Rattle.lfs_types.specs.declared.request.Request.{Request}
use Rattle.lfs_model.specs.Runs.{kept_entry}
use Rattle.lfs_model.specs.declared.journal.Entry.{Entry}
use Rattle.lfs_settle.specs.Interleaving.{entries_kept}
use Rattle.lfs_server.specs.Telling.{AreMade, IsMade}
use Rattle.lfs_server.specs.declared.batch.Batch.{Batch}

-- a call more has its entry behind those before
entries_kept_append : (session : ℕ) (made : List (Caller × Request)) (told : List Answer) (call : Caller × Request)
    (answer : Answer) → length told ≡ length made → entries_kept session (made ++ call ∷ []) (told ++ answer ∷ [])
    ≡ entries_kept session made told ++ kept_entry session call.0 call.1 answer
entries_kept_append session [] [] call answer h = append-nil (kept_entry session call.0 call.1 answer)
entries_kept_append session [] (a ∷ told) call answer h = absurd (omega (arith, h))
entries_kept_append session (c ∷ made) [] call answer h = absurd (omega (arith, h))
entries_kept_append session (c ∷ made) (a ∷ told) call answer h =
    ap (λ l. kept_entry session c.0 c.1 a ++ l) (entries_kept_append session made told call answer (omega (arith, h)))
    ∙ sym (append_assoc (kept_entry session c.0 c.1 a) (entries_kept session made told)
    (kept_entry session call.0 call.1 answer))

-- before the first no call is made
pub none_made : (journal : List Entry) (batch : Batch) → AreMade journal journal batch batch
none_made journal batch =
    let is : IsMade journal journal batch batch [] [] = record {
      calls = refl;
      answers = sym (append-nil batch.answers.items);
      each = refl;
      entered = sym (append-nil journal);
      session = refl;
    } in ([], [], is)

-- where a batch has the same calls, answers and session as one that has made these, it has made them
pub same_made : (before after : List Entry) (old now new : Batch) → AreMade before after old now
    → new.calls.items ≡ now.calls.items → new.answers.items ≡ now.answers.items
    → new.turns.session ≡ now.turns.session → AreMade before after old new
same_made before after old now new (made, told, m) calls answers session =
    let is : IsMade before after old new made told = record {
      calls = m.calls ∙ ap (λ l. made ++ l) (sym calls);
      answers = answers ∙ m.answers;
      each = m.each;
      entered = m.entered;
      session = session ∙ m.session;
    } in (made, told, is)

-- a call more is made
pub more_made : (before middle after : List Entry) (old now new : Batch) (call : Caller × Request) (answer : Answer)
    (turn : ℕ) → AreMade before middle old now → now.calls.items ≡ call ∷ new.calls.items
    → new.answers.items ≡ now.answers.items ++ answer ∷ [] → new.turns.session ≡ now.turns.session
    → turn ≡ now.turns.session → after ≡ middle ++ kept_entry turn call.0 call.1 answer → AreMade before after old new
more_made before middle after old now new call answer turn (made, told, m) calls answers session same entered =
    let s = old.turns.session in
    let is : IsMade before after old new (made ++ call ∷ []) (told ++ answer ∷ []) = record {
      calls = m.calls ∙ ap (λ l. made ++ l) calls ∙ sym (append_assoc made (call ∷ []) new.calls.items);
      answers = answers ∙ ap (λ l. l ++ answer ∷ []) m.answers ∙ append_assoc old.answers.items told (answer ∷ []);
      each = simp (length-append) (omega (arith, m.each));
      entered = entered ∙ ap (λ n. middle ++ kept_entry n call.0 call.1 answer) (same ∙ m.session)
          ∙ ap (λ l. l ++ kept_entry s call.0 call.1 answer) m.entered
          ∙ append_assoc before (entries_kept s made told) (kept_entry s call.0 call.1 answer)
          ∙ ap (λ l. before ++ l) (sym (entries_kept_append s made told call answer m.each));
      session = session ∙ m.session;
    } in (made ++ call ∷ [], told ++ answer ∷ [], is)
