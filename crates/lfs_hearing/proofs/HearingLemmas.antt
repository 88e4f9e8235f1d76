-- What a line says, a lemma for each way through `hear`, `hear_dotted`, `hear_word`, `hear_tree` and `hear_upkeep`:
-- `heard_long`, `heard_dot`, `heard_why` and so on. The functions and `heard_of` test how the line begins in the same
-- order, so each lemma is a rewriting by the tests that the code made: those before weren't met, this one was. What
-- stands behind a word of n bytes is all the rest of the line (`rest_of`, `rest_behind`), and more words than two are
-- none of the server's own (`dot_many`).
use Rattle.std.proofs.Common.{◌≡◌, ℕ, ◌<◌, ◌≤◌, true, false, List, [], ◌∷◌, length, map, Result, Ok, Err, refl}
use Rattle.std.proofs.Common.{Bor, ap, subst, ◌∙◌, arith}
use Rattle.std.specs.Prelude.{◌-◌, codes, drop, nat_eq, take}
use Rattle.std.proofs.Common.{length-drop}
use Rattle.std.proofs.lemmas.List.{take_all}
use Rattle.std.specs.List.{starts_with}
use Rattle.std.proofs.lemmas.Bool.{le-ltb, lt-ltb}
use Rattle.lfs_script.specs.Plans.{line_said}
use Rattle.lfs_script.specs.Requests.{lone_path}
use Rattle.lfs_words.specs.Faults.{ReadsAs}
use Rattle.lfs_words.specs.Lines.{is_printable}
use Rattle.lfs_words.specs.Wording.{words_of}
use Rattle.lfs_words.specs.declared.fault.FaultKind.{FaultKind}
use Rattle.lfs_words.specs.declared.fault.FaultKind.TheVariants.{Words}
use Rattle.lfs_hearing.specs.declared.look.Look.TheVariants.{Listing, Content, Tree}
use Rattle.lfs_hearing.specs.Hearing.{asked_heard, asks_check, asks_save, asks_tree, call_heard, dot_heard, dot_of}
use Rattle.lfs_hearing.specs.Hearing.{dot_said, dotted_heard, heard_of, is_dotted, look_heard}
use Rattle.lfs_hearing.specs.Hearing.{path_said, tree_heard, upkeep_heard, word_heard}
use Rattle.lfs_hearing.specs.declared.fault.LineFault.TheVariants.{TooLong}
use Rattle.lfs_hearing.specs.declared.hearing.Dot.{Dot}
use Rattle.lfs_hearing.specs.declared.hearing.Heard.TheVariants.{Check, Fault, Save}
use Rattle.lfs_hearing.specs.declared.hearing.Inquiry.TheVariants.{Why, Who}

reads-same : (result : Result Dot FaultKind) → ReadsAs result result
reads-same (Ok dot) = refl
reads-same (Err kind) = λ other. refl

-- the words of a printable line were read
pub dot_there : (line text : List ℕ) (words : List (List ℕ)) (result : Result Dot FaultKind) → is_printable line ≡ true
    → text ≡ line → words ≡ words_of text
    → result ≡ dot_of words → ReadsAs (dot_said line) result
dot_there line text words result printable same split is =
    rw printable (subst (λ (r : Result Dot FaultKind). ReadsAs r result) (is ∙ ap dot_of (split ∙ ap words_of same))
    (reads-same result))

-- those of a printable line that is to be a path
pub path_there : (line text : List ℕ) (words : List (List ℕ)) (result : Result (List (List ℕ)) FaultKind)
    → is_printable line ≡ true → text ≡ line → words ≡ words_of text
    → ReadsAs (lone_path words) result → ReadsAs (path_said line) result
path_there line text words result printable same split reads =
    rw printable (subst (λ (w : List (List ℕ)). ReadsAs (lone_path w) result) (split ∙ ap words_of same) reads)

-- a line is too long
pub heard_long : (line : List ℕ) → 65536 < length line → Fault TooLong [] ≡ heard_of line
unfolding heard_of
heard_long line long = rw (lt-ltb 65536 (length line) long) refl

-- a line begins with a dot
pub heard_dot : (line : List ℕ) → length line ≤ 65536 → is_dotted line ≡ true → dotted_heard line ≡ heard_of line
unfolding heard_of
heard_dot line few dotted = rw (le-ltb 65536 (length line) few, dotted) refl

-- each other
pub heard_call : (line : List ℕ) → length line ≤ 65536 → is_dotted line ≡ false → call_heard line (line_said line)
    ≡ heard_of line
unfolding heard_of
heard_call line few dotted = rw (le-ltb 65536 (length line) few, dotted) refl

-- what stands behind `.why ` or `.who `
pub rest_of : (line : List ℕ) → take (length line - 5) (drop 5 line) ≡ drop 5 line
rest_of line = take_all (length line - 5) (drop 5 line) (rw (length-drop 5 line) (omega arith))

-- a line begins with `.why `
pub heard_why : (line : List ℕ) → starts_with nat_eq line (codes ".why ") ≡ true
    → asked_heard Why (drop 5 line) (line_said (drop 5 line)) ≡ dotted_heard line
heard_why line why = rw why refl

-- or with `.who `
pub heard_who : (line : List ℕ) → starts_with nat_eq line (codes ".why ") ≡ false
    → starts_with nat_eq line (codes ".who ") ≡ true
    → asked_heard Who (drop 5 line) (line_said (drop 5 line)) ≡ dotted_heard line
heard_who line other who = rw (other, who) refl

-- or with another dot
pub heard_word : (line : List ℕ) → starts_with nat_eq line (codes ".why ") ≡ false
    → starts_with nat_eq line (codes ".who ") ≡ false → word_heard line ≡ dotted_heard line
heard_word line other none = rw (other, none) refl

-- what stands behind `.ls `
pub rest_behind : (line : List ℕ) (n : ℕ) → take (length line - n) (drop n line) ≡ drop n line
rest_behind line n = take_all (length line - n) (drop n line) (rw (length-drop n line) (omega arith))

-- a line begins with `.ls `
pub heard_ls : (line : List ℕ) → starts_with nat_eq line (codes ".ls ") ≡ true
    → look_heard Listing (path_said (drop 4 line)) ≡ word_heard line
heard_ls line ls = rw ls refl

-- or with `.cat `
pub heard_cat : (line : List ℕ) → starts_with nat_eq line (codes ".ls ") ≡ false
    → starts_with nat_eq line (codes ".cat ") ≡ true → look_heard Content (path_said (drop 5 line)) ≡ word_heard line
heard_cat line other cat = rw (other, cat) refl

-- or with another word
pub heard_other : (line : List ℕ) → starts_with nat_eq line (codes ".ls ") ≡ false
    → starts_with nat_eq line (codes ".cat ") ≡ false → tree_heard line ≡ word_heard line
heard_other line other none = rw (other, none) refl

-- a line begins with `.tree `
pub heard_tree : (line : List ℕ) → starts_with nat_eq line (codes ".tree ") ≡ true
    → look_heard Tree (path_said (drop 6 line)) ≡ tree_heard line
heard_tree line tree = rw tree refl

-- or is that word
pub heard_root : (line : List ℕ) → starts_with nat_eq line (codes ".tree ") ≡ false
    → asks_tree line ≡ true → look_heard Tree (path_said (codes "/")) ≡ tree_heard line
heard_root line other root = rw (other, root) refl

-- or another one
pub heard_upkeep : (line : List ℕ) → starts_with nat_eq line (codes ".tree ") ≡ false
    → asks_tree line ≡ false → upkeep_heard line ≡ tree_heard line
heard_upkeep line other none = rw (other, none) refl

-- which is `.check`
pub heard_check : (line : List ℕ) → asks_check line ≡ true → Check ≡ upkeep_heard line
heard_check line check = rw check refl

-- or `.save`
pub heard_save : (line : List ℕ) → asks_check line ≡ false → asks_save line ≡ true → Save ≡ upkeep_heard line
heard_save line other save = rw (other, save) refl

-- or a word of the server's own
pub heard_lone : (line : List ℕ) → asks_check line ≡ false → asks_save line ≡ false
    → dot_heard (dot_said line) ≡ upkeep_heard line
heard_lone line other none = rw (other, none) refl

-- three words and more are no word of the server's own
pub dot_many : (words : List (Bor (List ℕ))) → 3 ≤ length words → Err Words ≡ dot_of (map (λ x. x.now) words)
dot_many [] many = absurd (omega (arith, many))
dot_many (a ∷ []) many = absurd (omega (arith, many))
dot_many (a ∷ b ∷ []) many = absurd (omega (arith, many))
dot_many (a ∷ b ∷ c ∷ more) many = refl
