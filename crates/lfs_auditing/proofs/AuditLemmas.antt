-- An audit that reads on: `read_more` for `Audit::entry`; `none_so_far`, `one_more` and `stopped` for `read_journal`.
-- What has been read is legal and leads to a world where the checker stands; the checker said of one entry that it is
-- legal there and which world comes of it, so the list with this entry is legal, and the checker stands behind it
-- (`legal_as-append`, `world_after-append`). `SoFar` has the lines that were taken from the reader and the entries that
-- they tell: as many, with numbers one behind another (`told_more`).
use Rattle.std.proofs.Common.{◌≡◌, ℕ, ◌+◌, List, [], ◌∷◌, ◌++◌, length, Option, sym, ap, subst, ◌∙◌, arith}
use Rattle.std.proofs.Common.{append_assoc, length-append}
use Rattle.std.specs.Prelude.{MatchOption, None, Ok, Some}
use Rattle.std.specs.Io.KnownBytes.{Consumes}
use Rattle.std.specs.List.{All}
use Rattle.std.proofs.KnownBytes.{Consumes-nil, Consumes-trans}
use Rattle.std.proofs.lemmas.Grind.{flat_map-append}
use Rattle.std.proofs.lemmas.List.{append-nil}
use Rattle.std.proofs.lemmas.List.Elements.{All-nil, All-push}
use Rattle.lfs_types.specs.Tree.{World}
use Rattle.lfs_model.specs.declared.journal.Entry.{Entry}
use Rattle.lfs_model.specs.Steps.{after_event, world_after}
use Rattle.lfs_model.proofs.RunLemmas.{world_after-append}
use Rattle.lfs_words.specs.Lines.{HasNoLineFeed}
use Rattle.lfs_trace.specs.Checking.{IsSameStanding, Standing, StandsAt, numbers_of}
use Rattle.lfs_trace.specs.Errors.{IsCheckedAs, IsLegalAs}
use Rattle.lfs_trace.proofs.ErrorLemmas.{legal_as-append}
use Rattle.lfs_auditing.specs.Audits.{AreTold, HasRead, HasReadLine, HasReadOn, StopsAtLine, StopsBehind, behind}
use Rattle.lfs_auditing.specs.Audits.{lines_text, told_as}
use Rattle.lfs_auditing.specs.Users.{AreCounted}
use Rattle.lfs_auditing.specs.declared.audit.Audit.{Audit}
use Rattle.lfs_auditing.specs.declared.audit.Stop.{Stop}
use Rattle.lfs_auditing.specs.declared.audit.Stop.TheVariants as stops
use Rattle.lfs_auditing.specs.declared.fault.EntryLineFault.TheVariants as whys

-- ---- an entry more

module _ (from : World) (old new : Audit) (mid : Standing) (es : List Entry) (e : Entry)
    (read : HasRead from old es) where
  pub read_more : IsCheckedAs old.denials old.checker mid e.cred e.event (Ok tt) → IsSameStanding mid new.checker
      → new.denials ≡ old.denials → new.entries ≡ old.entries + 1
      → AreCounted new.users.counts (es ++ e ∷ []) → HasRead from new (es ++ e ∷ [])
  read_more checked same denials count users =
      let n = numbers_of old.checker in
      let w = behind from old es in
      let numbers : numbers_of new.checker ≡ n = same.numbers ∙ checked.numbers in
      let segments = same.segments ∙ checked.segments in
      let all = es ++ e ∷ [] in
      record {
        legal = subst (λ d. IsLegalAs d (numbers_of new.checker) new.checker.segments all from) (sym denials)
            (subst (λ m. IsLegalAs old.denials m new.checker.segments all from) (sym numbers)
            (subst (λ s. IsLegalAs old.denials n s all from) (sym segments)
            (legal_as-append old.denials n old.checker.segments es e from read.legal
            (checked.legal w read.stands))));
        stands = subst (λ m. StandsAt new.checker (world_after m all from)) (sym numbers)
            (subst (StandsAt new.checker) (sym (world_after-append n es (e ∷ []) from))
            (same.worlds (after_event n w e.cred e.event) (checked.leads w read.stands)));
        counted = let one = read.counted in let grown : length (es ++ e ∷ []) ≡ length es
            + 1 = length-append es (e ∷ []) in omega (arith, one, grown, count);
        users = users;
      }

-- ---- lines

pub told_more : (number : ℕ) (lines : List (List ℕ)) (more : List Entry) (line : List ℕ) (e : Entry)
    → AreTold number lines more → told_as (number + length more) line ≡ Ok e
    → AreTold number (lines ++ line ∷ []) (more ++ e ∷ [])
told_more number [] [] line e told is = let none : number + 0 ≡ number = omega arith in
    (subst (λ n. told_as n line ≡ Ok e) none is, tt)
told_more number [] (x ∷ more) line e told is = absurd told
told_more number (l ∷ lines) [] line e told is = absurd told
told_more number (l ∷ lines) (x ∷ more) line e told is =
    let next : number + length (x ∷ more) ≡ (number + 1) + length more = omega arith in
    (told.0, told_more (number + 1) lines more line e told.1 (subst (λ n. told_as n line ≡ Ok e) next is))

-- what an audit that had read some entries has read of a reader so far
pub record SoFar (known left : Option (List ℕ)) (from : World) (es : List Entry) (a : Audit) : Type 0 where
  pub lines : List (List ℕ)
  pub more : List Entry
  pub told : AreTold (length es + 1) lines more
  pub whole : All HasNoLineFeed lines
  pub taken : Consumes known left (lines_text lines)
  pub read : HasRead from a (es ++ more)

unfoldable pub none_so_far : (known : Option (List ℕ)) (from : World) (es : List Entry) (a : Audit) → HasRead from a es
    → SoFar known known from es a
none_so_far known from es a read = record {
  lines = [];
  more = [];
  told = tt;
  whole = All-nil HasNoLineFeed;
  taken = Consumes-nil known;
  read = subst (HasRead from a) (sym (append-nil es)) read;
}

unfoldable pub one_more : (known left rest : Option (List ℕ)) (from : World) (es : List Entry) (old new : Audit) (line : List ℕ) (e : Entry)
    → (so : SoFar known left from es old)
    → HasNoLineFeed line → Consumes left rest (line ++ 10 ∷ [])
    → told_as (length (es ++ so.more) + 1) line ≡ Ok e → HasRead from new ((es ++ so.more) ++ e ∷ [])
    → SoFar known rest from es new
one_more known left rest from es old new line e so feedless takes is read = record {
  lines = so.lines ++ line ∷ [];
  more = so.more ++ e ∷ [];
  told = let count : length (es ++ so.more) + 1 ≡ (length es + 1) + length so.more =
      let sum = length-append es so.more in omega (arith, sum) in
      told_more (length es + 1) so.lines so.more line e so.told (subst (λ n. told_as n line ≡ Ok e) count is);
  whole = All-push HasNoLineFeed so.lines line so.whole feedless;
  taken = subst (Consumes known rest) (sym (flat_map-append (λ (l : List ℕ). l ++ 10 ∷ []) so.lines (line ∷ [])
      ∙ ap (λ t. lines_text so.lines ++ t) (append-nil (line ++ 10 ∷ []))))
      (Consumes-trans known left rest (lines_text so.lines) (line ++ 10 ∷ []) so.taken takes);
  read = subst (HasRead from new) (append_assoc es so.more (e ∷ [])) read;
}

-- behind a line that tells no legal entry
pub stops_at : (left rest : Option (List ℕ)) (from : World) (a : Audit) (es : List Entry) (line : List ℕ) (stop : Stop)
    → HasNoLineFeed line
    → Consumes left rest (line ++ 10 ∷ []) → StopsAtLine from a es line stop → StopsBehind left rest from a es stop
stops_at left rest from a es line stops.End feedless takes at = absurd at
stops_at left rest from a es line (stops.Illegal e) feedless takes at = (line, feedless, takes, at)
stops_at left rest from a es line (stops.Unread whys.Cut) feedless takes at = absurd at
stops_at left rest from a es line (stops.Unread whys.TooLong) feedless takes at = absurd at
stops_at left rest from a es line (stops.Unread whys.Gap) feedless takes at = (line, feedless, takes, at)
stops_at left rest from a es line (stops.Unread (whys.Line fault)) feedless takes at = (line, feedless, takes, at)

-- what a line says, as far as an audit reads it
pub lined : (known left : Option (List ℕ)) (from : World) (a : Audit) (es : List Entry) (line : List ℕ) (o : Option Stop)
    → HasNoLineFeed line → Consumes known left (line ++ 10 ∷ [])
    → MatchOption o
    ((entry : Entry) × (told_as (length es + 1) line ≡ Ok entry) × HasRead from a (es ++ entry ∷ []))
    (λ stop. StopsAtLine from a es line stop × HasRead from a es)
    → MatchOption o (HasReadLine known left from es a) (λ stop. HasRead from a es × StopsBehind known left from a es stop)
lined known left from a es line None feedless takes is = record {
  line = line;
  entry = is.0;
  whole = feedless;
  taken = takes;
  told = is.1;
  read = is.2;
}
lined known left from a es line (Some stop) feedless takes is =
    (is.1, stops_at known left from a es line stop feedless takes is.0)

unfoldable pub stopped : (known left rest : Option (List ℕ)) (from : World) (es : List Entry) (old new : Audit) (stop : Stop)
    → (so : SoFar known left from es old)
    → HasRead from new (es ++ so.more) → StopsBehind left rest from new (es ++ so.more) stop → HasReadOn known rest from es new stop
stopped known left rest from es old new stop so read stops = record {
  lines = so.lines;
  more = so.more;
  rest = left;
  told = so.told;
  whole = so.whole;
  taken = so.taken;
  read = read;
  stopped = stops;
}
