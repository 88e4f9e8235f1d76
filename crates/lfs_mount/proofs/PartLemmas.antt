-- A file's bytes, read in parts one behind the other: `read_on`, `read_last` and `room_lacks`, for
-- `leaving::all_shown`. The bytes so far are the front of the file's, so with the rest of the file they are all of it,
-- and the next part is the front of that rest; so it stays that way (`next_part`). A part that is shorter than was
-- asked is all of the rest (`last_part`). If more was read than there is room for, the file is bigger than the room.
use Rattle.std.proofs.Common.{◌≡◌, ℕ, zero, suc, ◌+◌, ◌<◌, List, [], ◌∷◌, ◌++◌, ◌∙◌, length, take, drop, refl, sym, ap}
use Rattle.std.proofs.Common.{subst, arith, append_assoc, length-append}
use Rattle.std.proofs.lemmas.List.{drop-drop}
use Rattle.lfs_types.specs.Caller.{Caller}
use Rattle.lfs_types.specs.Tree.{World}
use Rattle.lfs_mount.specs.Leaving.{IsPiece, IsReadBy, bytes_at}

part_rest : (k : ℕ) (rest : List ℕ) → take k rest ++ drop (length (take k rest)) rest ≡ rest
part_rest zero rest = refl
part_rest (suc k) [] = refl
part_rest (suc k) (x ∷ rest) = ap (λ l. x ∷ l) (part_rest k rest)

short_part : (k : ℕ) (rest : List ℕ) → length (take k rest) < k → take k rest ≡ rest
short_part zero rest short = absurd (omega (arith, short))
short_part (suc k) [] short = refl
short_part (suc k) (x ∷ rest) short = ap (λ l. x ∷ l) (short_part k rest (omega (arith, short)))

-- with one part more the bytes so far and the rest are still all
pub next_part : (bytes piece all : List ℕ) (k : ℕ) → bytes ++ drop (length bytes) all ≡ all
    → piece ≡ take k (drop (length bytes) all)
    → (bytes ++ piece) ++ drop (length (bytes ++ piece)) all ≡ all
next_part bytes piece all k whole is =
    let rest = drop (length bytes) all in
    let left : drop (length (bytes ++ piece)) all ≡ drop (length piece) rest =
    ap (λ n. drop n all) (length-append bytes piece) ∙ sym (drop-drop (length piece) (length bytes) all) in
    let joined : piece ++ drop (length piece) rest ≡ rest =
    subst (λ p. p ++ drop (length p) rest ≡ rest) (sym is) (part_rest k rest) in
    ap (λ l. (bytes ++ piece) ++ l) left ∙ append_assoc bytes piece (drop (length piece) rest)
    ∙ ap (λ l. bytes ++ l) joined ∙ whole

-- a part that is short is the last
pub last_part : (bytes piece all : List ℕ) (k : ℕ) → bytes ++ drop (length bytes) all ≡ all
    → piece ≡ take k (drop (length bytes) all) → length piece < k → bytes ++ piece ≡ all
last_part bytes piece all k whole is short =
    let rest = drop (length bytes) all in
    ap (λ l. bytes ++ l) (is ∙ short_part k rest (subst (λ p. length p < k) is short)) ∙ whole

-- ---- what somebody reads so

-- the last piece is read
pub read_last : (w : World) (caller : Caller) (path : List (List ℕ)) (bytes piece after : List ℕ) (off : ℕ)
    → IsPiece w caller path off piece → off ≡ length bytes
    → bytes ++ drop (length bytes) (bytes_at w path) ≡ bytes_at w path → length piece < 4096
    → after ≡ bytes ++ piece → IsReadBy w caller path after
read_last w caller path bytes piece after off here e whole short is = record {
  allowed = here.allowed;
  all = is ∙ last_part bytes piece (bytes_at w path) 4096 whole
      (here.piece ∙ ap (λ n. take 4096 (drop n (bytes_at w path))) e) short;
}

-- a piece more is read
pub read_on : (w : World) (caller : Caller) (path : List (List ℕ)) (bytes piece after : List ℕ) (off : ℕ)
    → IsPiece w caller path off piece → off ≡ length bytes
    → bytes ++ drop (length bytes) (bytes_at w path) ≡ bytes_at w path → after ≡ bytes ++ piece
    → after ++ drop (length after) (bytes_at w path) ≡ bytes_at w path
read_on w caller path bytes piece after off here e whole is =
    subst (λ l. l ++ drop (length l) (bytes_at w path) ≡ bytes_at w path) (sym is)
    (next_part bytes piece (bytes_at w path) 4096 whole
    (here.piece ∙ ap (λ n. take 4096 (drop n (bytes_at w path))) e))

-- more than there is room for was read already
pub room_lacks : (w : World) (path : List (List ℕ)) (bytes : List ℕ) (room : ℕ)
    → bytes ++ drop (length bytes) (bytes_at w path) ≡ bytes_at w path → room < length bytes
    → room < length (bytes_at w path)
room_lacks w path bytes room whole more =
    let all : length bytes + length (drop (length bytes) (bytes_at w path)) ≡ length (bytes_at w path) =
    sym (length-append bytes (drop (length bytes) (bytes_at w path))) ∙ ap length whole in
    omega (arith, all, more)
