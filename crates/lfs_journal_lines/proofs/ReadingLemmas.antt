-- The steps by which lines are read come to what the specification reads at once: `names_more` to `names_all` for the
-- loop of `names_told`, `plain_first` and `escape_first` for `first_byte`, `cut_there` for `cut_at_bar`, `four_there`
-- and `seven_there` for denials and stats. Names are read from the front, and what was read, with what is left, is the
-- whole; a text is read by its first byte, which is one for itself or a percent sign with two digits. The code counts
-- words where the specification takes lists apart, so each count has its lemma; another number of words in a denial or
-- a stat changes these alone.
use Rattle.std.proofs.Common.{◌≡◌, ℕ, suc, ◌+◌, ◌-◌, ◌<◌, ◌≤◌, ◌==◌, Bool, true, false, cond, List, [], ◌∷◌, ◌++◌}
use Rattle.std.proofs.Common.{length, map, take, drop, get_or, None, Some, Result, Ok, Err, Bor, refl, ap, sym, subst}
use Rattle.std.proofs.Common.{◌∙◌, arith, append_assoc, add-one, length-drop}
use Rattle.std.specs.Prelude.{not, position}
use Rattle.std.specs.List.{prefix_len}
use Rattle.std.proofs.Math.ListN.{drop_of_length-le}
use Rattle.std.proofs.Math.Seq.{drop-cons}
use Rattle.std.proofs.lemmas.List.{append-nil, drop-map, get_or-map, length-map, take-map, take_all}
use Rattle.lfs_words.proofs.InfoLemmas.{shown}
use Rattle.lfs_words.specs.Faults.{ReadsAs, ◌>>=◌}
use Rattle.lfs_words.specs.PathText.{path_of}
use Rattle.lfs_words.specs.declared.fault.FaultKind.{FaultKind}
use Rattle.lfs_words.specs.declared.fault.FaultKind.TheVariants.{Words}
use Rattle.lfs_journal_lines.specs.Answers.{denial_of, denial_told, stat_of, stat_told}
use Rattle.lfs_journal_lines.specs.Escapes.{before, byte_told, bytes_told, escaped_byte, escaped_path, name_told}
use Rattle.lfs_journal_lines.specs.Escapes.{names_told}
use Rattle.lfs_journal_lines.specs.Reading.{cut_at_bar, is_bar}

-- ---- words

-- seven words
pub seven_there : {A : Type 0} (f : A → List ℕ) (words : List A) (d : A) → 7 ≤ length words → length words < 8
    → stat_told (map f words) ≡ stat_of (f (get_or words 0 d)) (f (get_or words 1 d)) (f (get_or words 2 d))
    (f (get_or words 3 d)) (f (get_or words 4 d)) (f (get_or words 5 d)) (f (get_or words 6 d))
seven_there f [] d least most = absurd (omega arith)
seven_there f (a ∷ []) d least most = absurd (omega arith)
seven_there f (a ∷ b ∷ []) d least most = absurd (omega arith)
seven_there f (a ∷ b ∷ c ∷ []) d least most = absurd (omega arith)
seven_there f (a ∷ b ∷ c ∷ e ∷ []) d least most = absurd (omega arith)
seven_there f (a ∷ b ∷ c ∷ e ∷ g ∷ []) d least most = absurd (omega arith)
seven_there f (a ∷ b ∷ c ∷ e ∷ g ∷ h ∷ []) d least most = absurd (omega arith)
seven_there f (a ∷ b ∷ c ∷ e ∷ g ∷ h ∷ i ∷ []) d least most = refl
seven_there f (a ∷ b ∷ c ∷ e ∷ g ∷ h ∷ i ∷ j ∷ more) d least most = absurd (omega arith)

-- four words
pub four_there : {A : Type 0} (f : A → List ℕ) (words : List A) (d : A) → 4 ≤ length words → length words < 5
    → denial_told (map f words) ≡ denial_of (f (get_or words 0 d)) (f (get_or words 1 d)) (f (get_or words 2 d))
    (f (get_or words 3 d))
four_there f [] d least most = absurd (omega arith)
four_there f (a ∷ []) d least most = absurd (omega arith)
four_there f (a ∷ b ∷ []) d least most = absurd (omega arith)
four_there f (a ∷ b ∷ c ∷ []) d least most = absurd (omega arith)
four_there f (a ∷ b ∷ c ∷ e ∷ []) d least most = refl
four_there f (a ∷ b ∷ c ∷ e ∷ g ∷ more) d least most = absurd (omega arith)

pub four_few : {A : Type 0} (f : A → List ℕ) (words : List A) → length words < 4 → denial_told (map f words) ≡ Err Words
four_few f [] most = refl
four_few f (a ∷ []) most = refl
four_few f (a ∷ b ∷ []) most = refl
four_few f (a ∷ b ∷ c ∷ []) most = refl
four_few f (a ∷ b ∷ c ∷ e ∷ more) most = absurd (omega arith)

pub four_many : {A : Type 0} (f : A → List ℕ) (words : List A) → 5 ≤ length words → denial_told (map f words)
    ≡ Err Words
four_many f [] least = absurd (omega arith)
four_many f (a ∷ []) least = absurd (omega arith)
four_many f (a ∷ b ∷ []) least = absurd (omega arith)
four_many f (a ∷ b ∷ c ∷ []) least = absurd (omega arith)
four_many f (a ∷ b ∷ c ∷ e ∷ []) least = absurd (omega arith)
four_many f (a ∷ b ∷ c ∷ e ∷ g ∷ more) least = refl

-- ---- bytes

-- no text
pub no_text : (text : List ℕ) → length text < 1 → bytes_told text ≡ Ok []
unfolding bytes_told
no_text [] few = refl
no_text (c ∷ cs) few = absurd (omega arith)

-- a byte that stands for itself
pub plain_told : (c : ℕ) (cs : List ℕ) → (c == 37) ≡ false → bytes_told (c ∷ cs) ≡ before c (bytes_told cs)
unfolding bytes_told
plain_told c [] differs = rw differs refl
plain_told c (d ∷ []) differs = rw differs refl
plain_told c (d ∷ e ∷ cs) differs = rw differs refl

-- a byte and what is behind it
abbrev pub with_rest : List ℕ → ℕ → ℕ × List ℕ
with_rest cs b = (b, cs)

-- a byte behind a percent sign
pub escape_told : (c : ℕ) (cs : List ℕ) → (c == 37) ≡ true → bytes_told (c ∷ cs)
    ≡ (escaped_byte cs >>= (λ found. before found.0 (bytes_told found.1)))
unfolding bytes_told
escape_told c [] same = rw same refl
escape_told c (d ∷ []) same = rw same refl
escape_told c (d ∷ e ∷ cs) same = rw same (joined (byte_told d e))
  where
    joined : (read : Result ℕ FaultKind) → (read >>= (λ b. before b (bytes_told cs)))
        ≡ ((read >>= (λ b. Ok (with_rest cs b))) >>= (λ found. before found.0 (bytes_told found.1)))
    joined (Ok b) = refl
    joined (Err kind) = refl

-- the same of a text and what is behind its first byte
pub plain_first : (text behind : List ℕ) → 1 ≤ length text → (get_or text 0 0 == 37) ≡ false → behind
    ≡ take (length text - 1) (drop 1 text)
    → bytes_told text ≡ before (get_or text 0 0) (bytes_told behind)
plain_first [] behind some differs is = absurd (omega arith)
plain_first (c ∷ cs) behind some differs is =
    let rest : behind ≡ cs = is ∙ take_all (length (c ∷ cs) - 1) cs (omega arith) in
    plain_told c cs differs ∙ ap (λ bs. before c (bytes_told bs)) (sym rest)

pub escape_first : (text behind : List ℕ) → 1 ≤ length text → (get_or text 0 0 == 37) ≡ true → behind
    ≡ take (length text - 1) (drop 1 text)
    → bytes_told text ≡ (escaped_byte behind >>= (λ found. before found.0 (bytes_told found.1)))
escape_first [] behind some same is = absurd (omega arith)
escape_first (c ∷ cs) behind some same is =
    let rest : behind ≡ cs = is ∙ take_all (length (c ∷ cs) - 1) cs (omega arith) in
    escape_told c cs same ∙ ap (λ bs. escaped_byte bs >>= (λ found. before found.0 (bytes_told found.1))) (sym rest)

-- what is read behind bytes that are there
abbrev pub behind_bytes : List ℕ → Result (List ℕ) FaultKind → Result (List ℕ) FaultKind
behind_bytes done read = read >>= (λ rest. Ok (done ++ rest))

-- ---- names

joined : (read : Result (List (List ℕ)) FaultKind) (done : List (List ℕ)) (name : List ℕ)
    → ((read >>= (λ names. Ok (name ∷ names))) >>= (λ rest. Ok (done ++ rest)))
    ≡ (read >>= (λ rest. Ok ((done ++ name ∷ []) ++ rest)))
joined (Ok rest) done name = rw append_assoc refl
joined (Err kind) done name = refl

first_of : (refs : List (Bor (List ℕ))) (i : ℕ) (d : Bor (List ℕ)) → i < length refs → drop i (shown refs)
    ≡ (get_or refs i d).now ∷ drop (suc i) (shown refs)
first_of refs i d lt =
    let within : i < length (shown refs) = rw length-map lt in
    drop-cons (shown refs) i [] within ∙ rw (get_or-map (λ (x : Bor (List ℕ)). x.now) refs i d [] lt) refl

-- one more name is read
pub names_more : (refs : List (Bor (List ℕ))) (i : ℕ) (d : Bor (List ℕ)) (done : List (List ℕ)) (name : List ℕ)
    → i < length refs → name_told ((get_or refs i d).now) ≡ Ok name → names_told (shown refs)
    ≡ (names_told (drop i (shown refs)) >>= (λ rest. Ok (done ++ rest))) → names_told (shown refs)
    ≡ (names_told (drop (i + 1) (shown refs)) >>= (λ rest. Ok ((done ++ name ∷ []) ++ rest)))
unfolding names_told
names_more refs i d done name lt read so_far =
    so_far ∙ rw (first_of refs i d lt, read, add-one) (joined (names_told (drop (suc i) (shown refs))) done name)

-- a name is refused
pub names_refused : (refs : List (Bor (List ℕ))) (i : ℕ) (d : Bor (List ℕ)) (done : List (List ℕ)) (kind : FaultKind)
    → i < length refs → name_told ((get_or refs i d).now) ≡ Err kind → names_told (shown refs)
    ≡ (names_told (drop i (shown refs)) >>= (λ rest. Ok (done ++ rest))) → names_told (shown refs) ≡ Err kind
unfolding names_told
names_refused refs i d done kind lt read so_far =
    so_far ∙ rw (first_of refs i d lt, read) refl

-- all names are read
pub names_all : (refs : List (Bor (List ℕ))) (i : ℕ) (done : List (List ℕ)) → length refs ≤ i → names_told (shown refs)
    ≡ (names_told (drop i (shown refs)) >>= (λ rest. Ok (done ++ rest))) → names_told (shown refs) ≡ Ok done
unfolding names_told
names_all refs i done le so_far =
    let past : length (shown refs) ≤ i = rw length-map le in
    so_far ∙ rw (drop_of_length-le (shown refs) past, append-nil done) refl

-- ---- bars

prefix_len-map : {X Y : Type 0} (p : Y → Bool) (f : X → Y) (xs : List X) → prefix_len (λ x. p (f x)) xs
    ≡ prefix_len p (map f xs)
prefix_len-map p f [] = refl
prefix_len-map p f (x ∷ xs) = ap (λ n. cond (p (f x)) (1 + n) 0) (prefix_len-map p f xs)

-- the first that passes is found in what the words show
pub position-map : {X Y : Type 0} (p : Y → Bool) (f : X → Y) (xs : List X) → position (λ x. p (f x)) xs
    ≡ position p (map f xs)
position-map p f xs =
    let long = length-map xs f in
    rw (prefix_len-map (λ y. not (p y)) f xs, long) refl

-- words are cut at the first bar
pub cut_there : (refs : List (Bor (List ℕ))) (at : ℕ) → at < length refs → position is_bar (shown refs) ≡ Some at
    → cut_at_bar (shown refs) ≡ Ok (
      map (λ x. x.now) (take at refs),
      map (λ x. x.now) (take (length refs - (at + 1)) (drop (at + 1) refs)),
    )
cut_there refs at lt place =
    let rest : take (length refs - (at + 1)) (drop (at + 1) refs)
    ≡ drop (at + 1) refs = take_all (length refs - (at + 1)) (drop (at + 1) refs) (simp length-drop (omega arith))
    in
    rw (place, rest, take-map, drop-map) refl

pub cut_missed : (refs : List (Bor (List ℕ))) → position is_bar (shown refs) ≡ None → cut_at_bar (shown refs)
    ≡ Err Words
cut_missed refs place = rw place refl

-- ---- paths

-- a path behind a percent sign
pub text_there : (text bytes : List ℕ) (result : Result (List (List ℕ)) FaultKind) → bytes_told text ≡ Ok bytes
    → ReadsAs (path_of bytes) result → ReadsAs (escaped_path text) result
text_there text bytes result told reads = subst (λ read. ReadsAs (read >>= path_of) result) (sym told) reads
