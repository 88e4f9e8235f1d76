-- What a server leaves that serves round after round.
use Rattle.std.specs.Prelude.{◌≡◌, ◌⊎◌, List, [], ◌∷◌}
use Rattle.lfs_types.specs.StoreStates.{StoreState}
use Rattle.lfs_settle.specs.Settled.{IsInterleavingOf}
use Rattle.lfs_volume.specs.Journals.{IsJournal, Since}
use Rattle.lfs_volume.specs.Seen.{Seen}
use Rattle.lfs_rounds.specs.declared.rounds.Round.{Round}

-- A round between two volumes was settled: its entries are an interleaving of what its sessions asked, with the answers
-- that they got, and of the cleaner's calls; they are a legal run from the tree where the first volume's journal begins
-- to the one where the second's does, which is what its store shows; and that one has no entry yet.
pub record IsSettled {F : Type 0} (state : F → StoreState) (before after : Seen F) (round : Round) : Type 0 where
  pub told : IsInterleavingOf round.entries.items before.limit round.transcripts.items
  pub legal : Since (state before.since) before.since_level (λ from. IsJournal from
      (state after.since) after.since_level round.entries.items before.limit)
  pub store : after.since ≡ after.store
  pub level : after.since_level ≡ after.level
  pub empty : after.journal ≡ []
  pub limit : after.limit ≡ before.limit
  pub shape : (state after.store).shape ≡ (state before.store).shape

-- one who brings clients and keeps what they left: what it is to have been asked for clients, and to have got a round
pub record Keeping (K : Type 0) : Type 1 where
  pub asks : K → K → Type 0
  pub keeps : K → Round → K → Type 0

abbrev pub keeping_of : {K : Type 0} → (K → K → Type 0) → (K → Round → K → Type 0) → Keeping K
keeping_of asks keeps = record { asks = asks; keeps = keeps }

-- round after round, each from where the one before it ended: the keeper was asked for clients, and got what they left,
-- which was settled
abbrev pub GoesOn : {F K : Type 0} → (F → StoreState) → Keeping K → Seen F → K → List Round → Seen F → K → Type 0
GoesOn state k old keeper [] new last = (new ≡ old) × (last ≡ keeper)
GoesOn {F} {K} state k old keeper (round ∷ rounds) new last =
    (middle : Seen F) × (asked : K) × (kept : K) × k.asks keeper asked × IsSettled state old middle round
    × k.keeps asked round kept × GoesOn state k middle kept rounds new last

-- rounds were served from a volume on, up to the one that is left; behind them the keeper was asked once more at most
pub record HasServed {F K : Type 0} (state : F → StoreState) (k : Keeping K) (volume : Seen F) (before : K)
    (rounds : List Round) (left : Seen F) (after : K) : Type 0 where
  pub last : K
  pub went : GoesOn state k volume before rounds left last
  pub asked : (after ≡ last) ⊎ k.asks last after
