-- A message that is cut from bytes: `first_of`, for `inbox::front`. The length that its first four bytes tell is at
-- least 40, no more than may be read at once, and no more than there are bytes (`whole_in`). Cut to that length it
-- tells the same, as its first bytes are the same (`number_at-take`), so it is a whole message, and fewer bytes are
-- left behind it.
use Rattle.std.proofs.Common.{◌≡◌, ℕ, zero, suc, ◌+◌, ◌≤◌}
use Rattle.std.proofs.Common.{◌++◌, nat_lt, List, length}
use Rattle.std.proofs.Common.{take, drop, slice_index, refl, ap, ◌∙◌, if◌then◌else◌, arith}
use Rattle.std.proofs.lemmas.List.{get_or-take, length-drop, length-take-le, take-append-drop}
use Rattle.byteorder.specs.Endian.{little_from}
use Rattle.lfs_fuse_wire.specs.Numbers.{number_at}
use Rattle.lfs_fuse_wire.specs.Framing.{frame_in, frame_of}
use Rattle.lfs_fuse_wire.specs.declared.framing.Frame.TheVariants.{Whole, Partial}
use Rattle.lfs_fuse_talk.specs.Fronts.{IsFirstOf}
use Rattle.lfs_fuse_talk.specs.declared.inbox.TheConstants.{READ_BYTES}

little_from-take : (i n size : ℕ) (xs : List ℕ) → i + n ≤ size → little_from i n (take size xs) ≡ little_from i n xs
little_from-take i zero size xs low = refl
little_from-take i (suc n) size xs low =
    let byte : slice_index (take size xs) i ≡ slice_index xs i = get_or-take size xs i 0 (omega arith) in
    let rest : little_from (suc i) n (take size xs) ≡ little_from (suc i) n xs =
    little_from-take (suc i) n size xs (omega arith) in
    rw (byte, rest) refl

number_at-take : (size : ℕ) (xs : List ℕ) → 40 ≤ size → number_at (take size xs) 0 4 ≡ number_at xs 0 4
unfolding number_at
number_at-take size xs low = little_from-take 0 4 size xs (omega arith)

-- what is said of a length that is told
pub record IsWhole (most size told found : ℕ) : Type 0 where
  pub same : told ≡ found
  pub least : 40 ≤ told
  pub most_so : told ≤ most
  pub there : told ≤ size

whole_in : (most : ℕ) (bytes : List ℕ) (found : ℕ) → frame_in most bytes ≡ Whole found
    → IsWhole most (length bytes) (number_at bytes 0 4) found
whole_in most bytes found is = grind (arith)

whole_frame : (most n : ℕ) → 40 ≤ n → n ≤ most
    → (if nat_lt n 4 then Partial else frame_of most n n) ≡ Whole n
whole_frame most n least few = grind (arith)

-- the message at the front of bytes, and what is behind it
pub first_of : (bytes : List ℕ) (size : ℕ) (behind : List ℕ) → frame_in READ_BYTES bytes ≡ Whole size
    → behind ≡ drop size bytes → IsFirstOf bytes (take size bytes) behind
first_of bytes size behind is same =
    let whole = whole_in READ_BYTES bytes size is in
    let there : size ≤ length bytes = omega (arith, whole.same, whole.there) in
    let long = length-take-le size bytes there in
    let number = number_at-take size bytes (omega (arith, whole.same, whole.least)) ∙ whole.same in
    record {
      cut = ap (λ l. take size bytes ++ l) same ∙ take-append-drop size bytes;
      whole = rw (long, number) (whole_frame READ_BYTES size (omega (arith, whole.same, whole.least))
          (omega (arith, whole.same, whole.most_so)));
      shorter = rw same (omega (arith, length-drop size bytes, whole.same, whole.least, there));
    }
