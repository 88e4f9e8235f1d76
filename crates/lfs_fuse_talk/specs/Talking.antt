-- Messages that are answered one after another, from the bytes that are read to those that are written.
use Rattle.std.specs.Prelude.{◌≡◌, ⊤, ℕ, Bool, true, List, [], ◌∷◌, ◌++◌, Option}
use Rattle.std.specs.List.{concat}
use Rattle.std.specs.Io.KnownBytes.{Appends, Consumes}
use Rattle.lfs_fuse_wire.specs.declared.framing.Frame.{Frame}
use Rattle.lfs_fuse_talk.specs.Fronts.{IsMessage, frame_of}

-- One who answers messages: what comes of a message, with the bytes of its reply, none where it has no reply; and what
-- is done behind a message.
pub record Answering (M : Type 0) : Type 1 where
  pub answers : M → List ℕ → List ℕ → M → Type 0
  pub rests : M → M → Type 0

abbrev pub answering_of : {M : Type 0} → (M → List ℕ → List ℕ → M → Type 0) → (M → M → Type 0)
    → Answering M
answering_of answers rests = record { answers = answers; rests = rests }

-- messages were answered one after another, each by one reply
abbrev pub AreAnswered : {M : Type 0} → Answering M → M → List (List ℕ) → List (List ℕ) → M → Type 0
AreAnswered r old [] [] new = new ≡ old
AreAnswered r old [] (reply ∷ replies) new = ⊥
AreAnswered r old (message ∷ messages) [] new = ⊥
AreAnswered {M} r old (message ∷ messages) (reply ∷ replies) new =
    (middle : M) × (after : M) × IsMessage message × r.answers old message reply middle
    × r.rests middle after
    × AreAnswered r after messages replies new

-- of each reply a part from its front, or all of it
abbrev pub AreFronts : List (List ℕ) → List (List ℕ) → Type 0
AreFronts [] [] = ⊤
AreFronts [] (reply ∷ replies) = ⊥
AreFronts (part ∷ parts) [] = ⊥
AreFronts (part ∷ parts) (reply ∷ replies) =
    ((rest : List ℕ) × (part ++ rest ≡ reply)) × AreFronts parts replies

-- Replies were written in order, each whole where no write failed; where one did, a part of its reply may be written,
-- and those behind it are written as the others.
pub record AreSent (replies : List (List ℕ)) (is_whole : Bool)
    (start out : Option (List ℕ)) : Type 0 where
  pub parts : List (List ℕ)
  pub fronts : AreFronts parts replies
  pub whole : is_whole ≡ true → parts ≡ replies
  pub written : Appends start out (concat parts)

-- The messages that stand one behind another at the front of bytes were answered, each once and in order, and their
-- replies written; behind them are these bytes, at whose front no whole message stands.
pub record HasAnswered {M : Type 0} (r : Answering M) (left_over : Frame) (old new : M)
    (bytes behind : List ℕ)
    (is_whole : Bool) (start out : Option (List ℕ)) : Type 0 where
  pub messages : List (List ℕ)
  pub replies : List (List ℕ)
  pub cut : concat messages ++ behind ≡ bytes
  pub answered : AreAnswered r old messages replies new
  pub sent : AreSent replies is_whole start out
  pub over : frame_of behind ≡ left_over

-- the same of what was read
pub record HasTalked {M : Type 0} (r : Answering M) (left_over : Frame) (old new : M)
    (is_whole : Bool)
    (known left start out : Option (List ℕ)) : Type 0 where
  pub bytes : List ℕ
  pub behind : List ℕ
  pub taken : Consumes known left bytes
  pub answered : HasAnswered r left_over old new bytes behind is_whole start out
