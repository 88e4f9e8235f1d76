-- A call is read back from its verb and operands: `tells`, for BackLine. The line is that of a script, but a path which
-- no script can spell is read as the root first, and then put in its place (`tells_by`, `paths_put`); all calls of one
-- path are one lemma (`tells_one`) over their Form, and only Rename puts two. No other operand may look like an escaped
-- path (IsOperand); a new call needs a line here, by `tells_one` if it has one path in front.
use Rattle.std.proofs.Common.{◌≡◌, ℕ, List, [], ◌∷◌, ◌++◌, map, codes, Option, None, Ok, refl, ap, sym, ◌∙◌}
use Rattle.std.specs.Prelude.{decimal}
use Rattle.lfs_types.specs.declared.level.Level.{Level}
use Rattle.lfs_types.specs.declared.request.Place.{Place}
use Rattle.lfs_types.specs.declared.request.Place.TheVariants.{At, End}
use Rattle.lfs_types.specs.declared.request.Request.{Request}
use Rattle.lfs_types.specs.declared.request.Request.TheVariants.{Stat, Read, Write, List as Names, SetLength, Create}
use Rattle.lfs_types.specs.declared.request.Request.TheVariants.{Mkdir, Unlink, Rmdir, Rename, Chmod, Chown, Chflags}
use Rattle.lfs_types.specs.declared.request.Request.TheVariants.{SetLevel, Sync}
use Rattle.lfs_script.proofs.SpellingLemmas.{line_back}
use Rattle.lfs_script.specs.Plans.{line_said}
use Rattle.lfs_script.specs.Requests.{request_said}
use Rattle.lfs_script.specs.Spelling.{IsSaid, kind_of, operands}
use Rattle.lfs_script.specs.Verbs.{request_word}
use Rattle.lfs_script.specs.declared.plan.Act.TheVariants as acts
use Rattle.lfs_script.specs.declared.plan.Line.TheVariants as says
use Rattle.lfs_script.specs.declared.verb.RequestKind.{RequestKind}
use Rattle.lfs_words.proofs.ReadBack.{bytes_read_back, flags_read_back, level_read_back, long_read, mode_read}
use Rattle.lfs_words.proofs.ReadBack.{short_read}
use Rattle.lfs_words.specs.BytesText.{bytes_text}
use Rattle.lfs_words.specs.LevelText.{level_text}
use Rattle.lfs_words.specs.NameText.{flags_text, mode_text}
use Rattle.lfs_words.specs.PathText.{path_of, path_word}
use Rattle.lfs_words.specs.Wording.{spaced}
use Rattle.lfs_journal_lines.proofs.BackNames.{Spelled, spelled}
use Rattle.lfs_journal_lines.proofs.BackWords.{AreField, IsOperand, bytes_operand, field_more, field_none}
use Rattle.lfs_journal_lines.proofs.BackWords.{flags_operand, level_operand, long_operand, mode_operand, short_operand}
use Rattle.lfs_journal_lines.specs.Asked.{asked_by, or_old, path_told, paths_put, plain_word, with_path}
use Rattle.lfs_journal_lines.specs.Asked.{with_target}
use Rattle.lfs_journal_lines.specs.Ranges.{IsRequest}
use Rattle.lfs_journal_lines.specs.declared.asked.Asked.TheVariants.{User}

-- the operands of a call are the words of a field, and are read as the call
pub record Tells (request : Request) : Type 0 where
  pub words : AreField (operands request)
  pub back : asked_by (request_word (kind_of request)) (operands request) ≡ Ok (User request)

-- a call whose plain line is that of another, in which its paths are then put
tells_by : (request plain : Request) → kind_of plain ≡ kind_of request → map plain_word (operands request)
    ≡ operands plain → IsSaid plain
    → paths_put (operands request) plain ≡ Ok request → asked_by (request_word (kind_of request)) (operands request)
    ≡ Ok (User request)
tells_by request plain kind words said put =
    let line : line_said (request_word (kind_of request) ++ spaced (map plain_word (operands request)))
    ≡ Ok (says.Act (acts.User plain)) =
    rw (words, ← kind) (line_back plain said) in
    rw (line, put) refl

-- ---- operands that are no paths

abbrev pub AreOperands : List (List ℕ) → Type 0
AreOperands [] = Unit {0}
AreOperands (word ∷ words) = IsOperand word × AreOperands words

pub field_of : (words : List (List ℕ)) → AreOperands words → AreField words
field_of [] are = field_none
field_of (word ∷ words) are = field_more word words are.0.word_is are.0.bar (field_of words are.1)

pub as_they_are : (words : List (List ℕ)) → AreOperands words → map plain_word words ≡ words
as_they_are [] are = refl
as_they_are (word ∷ words) are = rw (are.0.plain, as_they_are words are.1) refl

no_target : (request : Request) → with_target None request ≡ request
no_target (Stat path) = refl
no_target (Read path off len) = refl
no_target (Write path place bytes) = refl
no_target (Names path) = refl
no_target (SetLength path len) = refl
no_target (Create path mode) = refl
no_target (Mkdir path mode) = refl
no_target (Unlink path) = refl
no_target (Rmdir path) = refl
no_target (Rename from to) = refl
no_target (Chmod path mode) = refl
no_target (Chown path uid gid) = refl
no_target (Chflags path flags) = refl
no_target (SetLevel level) = refl
no_target Sync = refl

-- one path is put, with no other behind it
put_one : (word : List ℕ) (words : List (List ℕ)) (request : Request) (escape : Option (List (List ℕ))) → path_told word
    ≡ Ok escape → AreOperands words
    → paths_put (word ∷ words) request ≡ Ok (with_path escape request)
put_one word [] request escape told are = rw told refl
put_one word (other ∷ words) request escape told are =
    rw (told, are.0.plain) (ap Ok (no_target (with_path escape request)))

-- ---- calls of one path

-- a call with one path, and with these operands behind it
record Form (make : List (List ℕ) → Request) (kind : RequestKind) (words : List (List ℕ)) : Type 0 where
  pub operands_are : (path : List (List ℕ)) → operands (make path) ≡ path_word path ∷ words
  pub kind_is : (path : List (List ℕ)) → kind_of (make path) ≡ kind
  pub puts : (escape : Option (List (List ℕ))) (path : List (List ℕ)) → with_path escape (make path)
      ≡ make (or_old escape path)
  pub said : (path : List (List ℕ)) → path_of (path_word path) ≡ Ok path → request_said kind (path_word path ∷ words)
      ≡ Ok (make path)
  pub rest : AreOperands words

tells_one : (make : List (List ℕ) → Request) (kind : RequestKind) (words : List (List ℕ)) → Form make kind words
    → (path : List (List ℕ)) → Spelled path → Tells (make path)
tells_one make kind words form path at =
    let field : AreField (path_word path ∷ words) =
    field_more (path_word path) words at.word at.bar (field_of words form.rest) in
    let same : kind_of (make at.root) ≡ kind_of (make path) = form.kind_is at.root ∙ sym (form.kind_is path) in
    let plain : map plain_word (operands (make path)) ≡ operands (make at.root) =
    rw (form.operands_are path, form.operands_are at.root, at.plain, as_they_are words form.rest) refl in
    let said : IsSaid (make at.root) = record {
      words = rw (form.operands_are at.root, at.root_word) (field_of words form.rest).word;
      said = rw (form.operands_are at.root, form.kind_is at.root) (form.said at.root at.read);
    } in
    let put : paths_put (operands (make path)) (make at.root) ≡ Ok (make path) =
    ap (λ ws. paths_put ws (make at.root)) (form.operands_are path)
    ∙ put_one (path_word path) words (make at.root) at.escape at.told form.rest
    ∙ ap Ok (form.puts at.escape at.root ∙ ap make at.whole) in
    record {
      words = rw (form.operands_are path) field;
      back = tells_by (make path) (make at.root) same plain said put;
    }

-- ---- each call

tells_write : (path : List (List ℕ)) (place : Place) (bytes : List ℕ) → Spelled path
    → IsRequest (Write path place bytes) → Tells (Write path place bytes)
tells_write path (At off) bytes at is =
    tells_one (λ p. Write p (At off) bytes) _ (codes "at" ∷ decimal off ∷ bytes_text bytes ∷ [])
    (record {
      operands_are = λ p. refl;
      kind_is = λ p. refl;
      puts = λ e p. refl;
      said = λ p read. rw (read, long_read off is.1, bytes_read_back bytes is.2.bytes is.2.few) refl;
      rest = (
        record { word_is = refl; bar = refl; plain = refl },
        (long_operand off is.1, (bytes_operand bytes is.2, tt)),
      );
    }) path at
tells_write path End bytes at is =
    tells_one (λ p. Write p End bytes) _ (codes "end" ∷ bytes_text bytes ∷ [])
    (record {
      operands_are = λ p. refl;
      kind_is = λ p. refl;
      puts = λ e p. refl;
      said = λ p read. rw (read, bytes_read_back bytes is.2.bytes is.2.few) refl;
      rest = (record { word_is = refl; bar = refl; plain = refl }, (bytes_operand bytes is.2, tt));
    }) path at

tells_rename : (from to : List (List ℕ)) → Spelled from → Spelled to → Tells (Rename from to)
tells_rename from to a b =
    let said : IsSaid (Rename a.root b.root) = record {
      words = rw (a.root_word, b.root_word) refl;
      said = rw (a.read, b.read) refl;
    } in
    record {
      words = field_more (path_word from) (path_word to ∷ []) a.word a.bar
          (field_more (path_word to) [] b.word b.bar field_none);
      back = tells_by (Rename from to) (Rename a.root b.root) refl (rw (a.plain, b.plain) refl) said
          (rw (a.told, b.told, a.whole, b.whole) refl);
    }

tells_level : (level : Level) → Tells (SetLevel level)
tells_level level =
    let one = level_operand level in
    let said : IsSaid (SetLevel level) = record { words = rw one.word_is refl; said = rw (level_read_back level) refl }
    in
    record {
      words = field_more (level_text level) [] one.word_is one.bar field_none;
      back = tells_by (SetLevel level) (SetLevel level) refl (rw one.plain refl) said (rw one.plain refl);
    }

tells_sync : Tells Sync
tells_sync =
    let said : IsSaid Sync = record { words = refl; said = refl } in
    record { words = field_none; back = tells_by Sync Sync refl refl said refl }

-- each call is told
pub tells : (request : Request) → IsRequest request → Tells request
tells (Stat path) is =
    tells_one Stat _ [] (record {
      operands_are = λ p. refl;
      kind_is = λ p. refl;
      puts = λ e p. refl;
      said = λ p read. rw read refl;
      rest = tt;
    }) path (spelled path is)
tells (Read path off len) is =
    tells_one (λ p. Read p off len) _ (decimal off ∷ decimal len ∷ [])
    (record {
      operands_are = λ p. refl;
      kind_is = λ p. refl;
      puts = λ e p. refl;
      said = λ p read. rw (read, long_read off is.1, short_read len is.2) refl;
      rest = (long_operand off is.1, (short_operand len is.2, tt));
    }) path (spelled path is.0)
tells (Write path place bytes) is = tells_write path place bytes (spelled path is.0) is
tells (Names path) is =
    tells_one Names _ [] (record {
      operands_are = λ p. refl;
      kind_is = λ p. refl;
      puts = λ e p. refl;
      said = λ p read. rw read refl;
      rest = tt;
    }) path (spelled path is)
tells (SetLength path len) is =
    tells_one (λ p. SetLength p len) _ (decimal len ∷ [])
    (record {
      operands_are = λ p. refl;
      kind_is = λ p. refl;
      puts = λ e p. refl;
      said = λ p read. rw (read, long_read len is.1) refl;
      rest = (long_operand len is.1, tt);
    }) path (spelled path is.0)
tells (Create path mode) is =
    tells_one (λ p. Create p mode) _ (mode_text mode ∷ [])
    (record {
      operands_are = λ p. refl;
      kind_is = λ p. refl;
      puts = λ e p. refl;
      said = λ p read. rw (read, mode_read mode is.1) refl;
      rest = (mode_operand mode is.1, tt);
    }) path (spelled path is.0)
tells (Mkdir path mode) is =
    tells_one (λ p. Mkdir p mode) _ (mode_text mode ∷ [])
    (record {
      operands_are = λ p. refl;
      kind_is = λ p. refl;
      puts = λ e p. refl;
      said = λ p read. rw (read, mode_read mode is.1) refl;
      rest = (mode_operand mode is.1, tt);
    }) path (spelled path is.0)
tells (Unlink path) is =
    tells_one Unlink _ [] (record {
      operands_are = λ p. refl;
      kind_is = λ p. refl;
      puts = λ e p. refl;
      said = λ p read. rw read refl;
      rest = tt;
    }) path (spelled path is)
tells (Rmdir path) is =
    tells_one Rmdir _ [] (record {
      operands_are = λ p. refl;
      kind_is = λ p. refl;
      puts = λ e p. refl;
      said = λ p read. rw read refl;
      rest = tt;
    }) path (spelled path is)
tells (Rename from to) is = tells_rename from to (spelled from is.0) (spelled to is.1)
tells (Chmod path mode) is =
    tells_one (λ p. Chmod p mode) _ (mode_text mode ∷ [])
    (record {
      operands_are = λ p. refl;
      kind_is = λ p. refl;
      puts = λ e p. refl;
      said = λ p read. rw (read, mode_read mode is.1) refl;
      rest = (mode_operand mode is.1, tt);
    }) path (spelled path is.0)
tells (Chown path uid gid) is =
    tells_one (λ p. Chown p uid gid) _ (decimal uid ∷ decimal gid ∷ [])
    (record {
      operands_are = λ p. refl;
      kind_is = λ p. refl;
      puts = λ e p. refl;
      said = λ p read. rw (read, short_read uid is.1, short_read gid is.2) refl;
      rest = (short_operand uid is.1, (short_operand gid is.2, tt));
    }) path (spelled path is.0)
tells (Chflags path flags) is =
    tells_one (λ p. Chflags p flags) _ (flags_text flags ∷ [])
    (record {
      operands_are = λ p. refl;
      kind_is = λ p. refl;
      puts = λ e p. refl;
      said = λ p read. rw (read, flags_read_back flags is.1.0 is.1.1) refl;
      rest = (flags_operand flags is.1, tt);
    }) path (spelled path is.0)
tells (SetLevel level) is = tells_level level
tells Sync is = tells_sync
