-- When a journal is what sessions with numbers of their own were told, whenever each began and ended.
use Rattle.std.specs.Prelude.{◌≡◌, ℕ, ◌==◌, ◌⊎◌, Bool, List, [], ◌∷◌, length}
use Rattle.lfs_model.specs.declared.journal.Entry.{Entry}
use Rattle.lfs_settle.specs.Interleaving.{IsCleaners, MadeItsCalls}
use Rattle.lfs_settle.specs.declared.transcripts.Transcript.{Transcript}

-- one of the transcripts is of this session
abbrev pub IsAmong : ℕ → List Transcript → Type 0
IsAmong session [] = ⊥
IsAmong session (t ∷ ts) = (t.session ≡ session) ⊎ IsAmong session ts

-- the session's entries are those of the calls of its transcript, answered so
abbrev pub IsTold : Bool → List Entry → Transcript → Type 0
IsTold is_full journal t = MadeItsCalls is_full journal t.session t.calls.items t.answers.items

-- each session has one transcript, and was told what the journal has of it
abbrev pub AreTold : Bool → List Entry → List Transcript → Type 0
AreTold is_full journal [] = Unit {0}
AreTold is_full journal (t ∷ ts) = (IsAmong t.session ts → ⊥) × IsTold is_full journal t × AreTold is_full journal ts

-- a session has two transcripts, or was told otherwise than the journal has it
abbrev pub IsToldOtherwise : Bool → List Entry → List Transcript → ℕ → Type 0
IsToldOtherwise is_full journal [] session = ⊥
IsToldOtherwise is_full journal (t ∷ ts) session =
    ((t.session ≡ session) × (IsAmong session ts ⊎ (IsTold is_full journal t → ⊥)))
    ⊎ IsToldOtherwise is_full journal ts session

-- the entry is of a session that has a transcript, or of the cleaner: session 255, as user 0
abbrev pub HasTeller : List Transcript → Entry → Type 0
HasTeller ts entry = IsAmong entry.session ts ⊎ ((entry.session ≡ 255) × (entry.cred.uid ≡ 0) × IsCleaners entry.event)

-- so is each entry
abbrev pub HaveTellers : List Transcript → List Entry → Type 0
HaveTellers ts [] = Unit {0}
HaveTellers ts (entry ∷ entries) = HasTeller ts entry × HaveTellers ts entries

-- an entry of this session is neither
abbrev pub IsUntold : List Transcript → List Entry → ℕ → Type 0
IsUntold ts [] session = ⊥
IsUntold ts (entry ∷ entries) session =
    ((entry.session ≡ session) × (HasTeller ts entry → ⊥)) ⊎ IsUntold ts entries session

-- A journal of at most so many entries is an interleaving of what these sessions asked and were answered, and of the
-- cleaner's calls: the entries of each session are those of its calls, in order, and no session has two transcripts.
pub record IsInterleavingOf (journal : List Entry) (limit : ℕ) (ts : List Transcript) : Type 0 where
  pub told : AreTold (length journal == limit) journal ts
  pub tellers : HaveTellers ts journal

-- this session differs: it has two transcripts or was told otherwise, or an entry of it has no transcript
abbrev pub Differs : List Entry → ℕ → List Transcript → ℕ → Type 0
Differs journal limit ts session =
    IsToldOtherwise (length journal == limit) journal ts session ⊎ IsUntold ts journal session
