-- A file that is read in pieces: `reading_none`, `reading_more`, `reading_last` and `reading_full` for the loop of
-- `read_pieces`, `content_told` for `tell_content`. So many whole pieces of 4,096 bytes were read (`IsReading`), and
-- the next call asks from 4,096 times their number on, so the calls are those of `pieces`. An answer that isn't a whole
-- piece, served or not, is the last; without one 107 whole pieces are the end. Either way there are at most 107 calls
-- (`followed_few`), as a look may make.
use Rattle.std.proofs.Common.{◌≡◌, ℕ, zero, suc, ◌+◌, ◌*◌, ◌<◌, ◌≤◌, true, false, List, [], ◌∷◌, ◌++◌, length, Option, None}
use Rattle.std.proofs.Common.{Some, refl, sym, ap, subst, ◌∙◌, arith, append_assoc, append-nil, length-append, add-one}
use Rattle.std.specs.List.{All, flat_map}
use Rattle.std.proofs.lemmas.Grind.{flat_map-append}
use Rattle.std.proofs.lemmas.List.Elements.{All-nil, All-push}
use Rattle.lfs_types.specs.declared.answer.Answer.{Answer}
use Rattle.lfs_types.specs.declared.request.Request.{Request}
use Rattle.lfs_types.specs.declared.request.Request.TheVariants.{Read}
use Rattle.lfs_volume.specs.Cleanings.{Cleaner}
use Rattle.lfs_volume.specs.Seen.{Seen}
use Rattle.lfs_browse.specs.Asking.{Asks}
use Rattle.lfs_browse.specs.Content.{IsLast, bytes_of, end_text, followed, is_whole, pieces}
use Rattle.lfs_browse.specs.Looks.{TellsLook}
use Rattle.lfs_browse.specs.Spelled.{spelled}
use Rattle.lfs_browse.specs.Steps.{HasRead}
use Rattle.lfs_audit.specs.declared.asker.Asker.{Asker}
use Rattle.lfs_hearing.specs.declared.look.Look.TheVariants.{Content}
use Rattle.lfs_browse.proofs.AskLemmas.{asks_joined, asks_none}

-- so many whole pieces were read
pub record IsReading {F : Type 0} (r : Cleaner F) (old new : Seen F) (asker : Asker) (path : List (List ℕ)) (n : ℕ)
    (before after : List ℕ) : Type 0 where
  pub whole : List Answer
  pub all : All (λ answer. is_whole answer ≡ true) whole
  pub count : length whole ≡ n
  pub asks : Asks r old new asker (pieces path n) whole
  pub read : after ≡ before ++ flat_map bytes_of whole

length-pieces : (path : List (List ℕ)) (n : ℕ) → length (pieces path n) ≡ n
length-pieces path zero = refl
length-pieces path (suc n) =
    let rest = length-pieces path n in
    let whole = length-append (pieces path n) (Read path (4096 * n) 4096 ∷ []) in
    omega (arith, rest, whole)

-- none
pub reading_none : {F : Type 0} (r : Cleaner F) (v : Seen F) (asker : Asker) (path : List (List ℕ)) (text : List ℕ)
    → IsReading r v v asker path 0 text text
reading_none r v asker path text = record {
  whole = [];
  all = All-nil (λ answer. is_whole answer ≡ true);
  count = refl;
  asks = asks_none r v asker;
  read = sym (append-nil text);
}

-- a further piece
asks_more : {F : Type 0} (r : Cleaner F) (old middle new : Seen F) (asker : Asker) (path asked : List (List ℕ)) (n : ℕ)
    (whole : List Answer) (answer : Answer) → asked ≡ path → Asks r old middle asker (pieces path n) whole
    → Asks r middle new asker (Read asked (4096 * n) 4096 ∷ []) (answer ∷ [])
    → Asks r old new asker (pieces path (suc n)) (whole ++ answer ∷ [])
asks_more r old middle new asker path asked n whole answer same first then =
    asks_joined r old middle new asker (pieces path n) whole (Read path (4096 * n) 4096 ∷ []) (answer ∷ []) first
    (subst (λ (p : List (List ℕ)). Asks r middle new asker (Read p (4096 * n) 4096 ∷ []) (answer ∷ [])) same then)

bytes_more : (whole : List Answer) (answer : Answer) (before between after : List ℕ)
    → between ≡ before ++ flat_map bytes_of whole → after ≡ between ++ bytes_of answer
    → after ≡ before ++ flat_map bytes_of (whole ++ answer ∷ [])
bytes_more whole answer before between after first then =
    then ∙ ap (λ (l : List ℕ). l ++ bytes_of answer) first
    ∙ append_assoc before (flat_map bytes_of whole) (bytes_of answer)
    ∙ ap (λ (l : List ℕ). before ++ (flat_map bytes_of whole ++ l)) (sym (append-nil (bytes_of answer)))
    ∙ ap (λ (l : List ℕ). before ++ l) (sym (flat_map-append bytes_of whole (answer ∷ [])))

-- that is whole
pub reading_more : {F : Type 0} (r : Cleaner F) (old middle new : Seen F) (asker : Asker) (path asked : List (List ℕ))
    (n : ℕ) (answer : Answer) (before between after : List ℕ) → asked ≡ path
    → IsReading r old middle asker path n before between
    → Asks r middle new asker (Read asked (4096 * n) 4096 ∷ []) (answer ∷ [])
    → after ≡ between ++ bytes_of answer → is_whole answer ≡ true
    → IsReading r old new asker path (n + 1) before after
reading_more r old middle new asker path asked n answer before between after same first then read is =
    let grown = length-append first.whole (answer ∷ []) in
    let count = first.count in
    record {
      whole = first.whole ++ answer ∷ [];
      all = All-push (λ answer. is_whole answer ≡ true) first.whole answer first.all is;
      count = omega (arith, grown, count);
      asks = subst (λ (m : ℕ). Asks r old new asker (pieces path m) (first.whole ++ answer ∷ [])) (sym (add-one n))
          (asks_more r old middle new asker path asked n first.whole answer same first.asks then);
      read = bytes_more first.whole answer before between after first.read read;
    }

-- that is the last
pub reading_last : {F : Type 0} (r : Cleaner F) (old middle new : Seen F) (asker : Asker) (path asked : List (List ℕ))
    (n : ℕ) (answer : Answer) (before between after : List ℕ) → n < 107 → asked ≡ path
    → IsReading r old middle asker path n before between
    → Asks r middle new asker (Read asked (4096 * n) 4096 ∷ []) (answer ∷ [])
    → after ≡ between ++ bytes_of answer → is_whole answer ≡ false
    → HasRead r old new asker path (Some answer) before after
reading_last r old middle new asker path asked n answer before between after few same first then read isnt =
    let grown = length-append first.whole (answer ∷ []) in
    let count = first.count in
    let all : length (first.whole ++ answer ∷ []) ≡ suc n = omega (arith, grown, count) in
    record {
      whole = first.whole;
      all = first.all;
      ends = (isnt, omega (arith, few, count));
      asks = subst (λ (m : ℕ). Asks r old new asker (pieces path m) (first.whole ++ answer ∷ [])) (sym all)
          (asks_more r old middle new asker path asked n first.whole answer same first.asks then);
      read = bytes_more first.whole answer before between after first.read read;
    }

-- or all 107 were whole
pub reading_full : {F : Type 0} (r : Cleaner F) (old new : Seen F) (asker : Asker) (path : List (List ℕ)) (n : ℕ)
    (before after : List ℕ) → n ≡ 107 → IsReading r old new asker path n before after
    → HasRead r old new asker path None before after
reading_full r old new asker path n before after full first = record {
  whole = first.whole;
  all = first.all;
  ends = first.count ∙ full;
  asks = subst (λ (m : ℕ). Asks r old new asker (pieces path m) first.whole) (sym first.count) first.asks;
  read = first.read;
}

followed_few : (whole : List Answer) (last : Option Answer) → IsLast (length whole) last
    → length (followed whole last) ≤ 107
followed_few whole None ends = omega (arith, ends)
followed_few whole (Some last) ends =
    let few = ends.1 in
    let grown = length-append whole (last ∷ []) in omega (arith, few, grown)

-- a look at a file
pub content_told : {F : Type 0} (r : Cleaner F) (old new : Seen F) (asker : Asker) (path : List (List ℕ))
    (last : Option Answer) (none bytes before after : List ℕ) → none ≡ [] → HasRead r old new asker path last none bytes
    → after ≡ (before ++ spelled bytes) ++ end_text asker.session last
    → TellsLook r old new asker Content path before after
content_told r old new asker path last none bytes before after empty has printed =
    let answers = followed has.whole last in
    let read : bytes ≡ flat_map bytes_of answers = has.read ∙ ap (λ (l : List ℕ). l ++ flat_map bytes_of answers) empty in
    let few = followed_few has.whole last has.ends in
    let count = length-pieces path (length answers) in
    record {
      calls = pieces path (length answers);
      answers = answers;
      told = spelled (flat_map bytes_of answers) ++ end_text asker.session last;
      asks = has.asks;
      few = omega (arith, few, count);
      looked = record {
        whole = has.whole;
        last = last;
        answered = refl;
        all = has.all;
        ends = has.ends;
        asked = refl;
        printed = refl;
      };
      printed = printed ∙ append_assoc before (spelled bytes) (end_text asker.session last)
          ∙ ap (λ (l : List ℕ). before ++ (spelled l ++ end_text asker.session last)) read;
    }
