-- Rounds behind one another. What led from a volume to another leads on by one more round, as that one begins where those
-- before it ended: so a loop over rounds keeps one fact, which grows at its end.
use Rattle.std.proofs.Common.{◌≡◌, List, [], ◌∷◌, ◌++◌, refl, subst}
use Rattle.lfs_types.specs.StoreStates.{StoreState}
use Rattle.lfs_volume.specs.Seen.{Seen}
use Rattle.lfs_rounds.specs.Rounds.{GoesOn, IsSettled, Keeping}
use Rattle.lfs_rounds.specs.declared.rounds.Round.{Round}

-- what was kept so far, and where it led
pub record LedTo {F K : Type 0} (state : F → StoreState) (k : Keeping K) (volume now : Seen F)
    (before after : K) : Type 0 where
  pub rounds : List Round
  pub went : GoesOn state k volume before rounds now after
  pub empty : now.journal ≡ []

-- one more round
goes_further : {F K : Type 0} (state : F → StoreState) (k : Keeping K) (old middle new : Seen F) (first last asked kept : K)
    (rounds : List Round) (round : Round) → GoesOn state k old first rounds middle last → k.asks last asked
    → IsSettled state middle new round → k.keeps asked round kept
    → GoesOn state k old first (rounds ++ round ∷ []) new kept
goes_further state k old middle new first last asked kept [] round is asks settled keeps = (
  new,
  asked,
  kept,
  subst (λ x. k.asks x asked) is.1 asks,
  subst (λ v. IsSettled state v new round) is.0 settled,
  keeps,
  (refl, refl),
)
goes_further state k old middle new first last asked kept (one ∷ rounds) round led asks settled keeps = (
  led.0,
  led.1,
  led.2,
  led.3,
  led.4,
  led.5,
  goes_further state k led.0 middle new led.2 last asked kept rounds round led.6 asks settled keeps,
)

pub led_further : {F K : Type 0} (state : F → StoreState) (k : Keeping K) (volume middle new : Seen F)
    (before last asked kept : K) (round : Round) → LedTo state k volume middle before last → k.asks last asked
    → IsSettled state middle new round → k.keeps asked round kept → LedTo state k volume new before kept
led_further state k volume middle new before last asked kept round led asks settled keeps = record {
  rounds = led.rounds ++ round ∷ [];
  went = goes_further state k volume middle new before last asked kept led.rounds round led.went asks settled keeps;
  empty = settled.empty;
}
