-- Tests that are asked one after the other: `ask_stops`, `ask_passes` and `ask_ends` for the judges of this crate and
-- of lfs_calls. The code asks a test and goes on or hands its denial back; the rules are a conditional for each test,
-- the next within it. So a test that wasn't met is the answer, and one that was is left out of it; the last is the
-- answer itself. `none_denies` and `some_denies` say so of a rule among those that deny.
use Rattle.std.proofs.Common.{◌≡◌, ℕ, Bool, true, false, cond, [], ◌∷◌, None, Some, Result, Ok, Err, refl, sym, ap, ◌∙◌}
use Rattle.std.proofs.lemmas.Bool.{cond-true, cond-false}
use Rattle.lfs_types.specs.declared.rule.Denial.{Denial}
use Rattle.lfs_types.specs.declared.rule.Rule.{Rule}
use Rattle.lfs_model.specs.Rules.{judged}
use Rattle.lfs_model.proofs.Deciding.{ask_met, ask_unmet}

-- one that wasn't met denies, whatever stands behind it
pub ask_stops : {said met : Bool} (denial told : Denial)
    (rest : Result (Unit {0}) Denial) {result : Result (Unit {0}) Denial}
    → said ≡ met → Err told ≡ judged (record { met = said; denial = denial } ∷ []) → result ≡ Err told → result
    ≡ cond met rest (Err denial)
ask_stops denial told rest same asked is = let unmet = ask_unmet _ denial told asked in is ∙ ap Err unmet.1
    ∙ sym (cond-false _ _ _ (sym same ∙ unmet.0))

-- one that was met leaves the answer to those behind it
pub ask_passes : {said met : Bool} (denial : Denial) (u : Unit {0}) {rest result : Result (Unit {0}) Denial}
    → said ≡ met → Ok u ≡ judged (record { met = said; denial = denial } ∷ []) → result ≡ rest → result
    ≡ cond met rest (Err denial)
ask_passes denial u same asked is = is ∙ sym (cond-true _ _ _ (sym same ∙ ask_met _ denial u asked))

-- the last is the answer
pub ask_ends : {said met : Bool} (denial : Denial) {result : Result (Unit {0}) Denial}
    → said ≡ met → result ≡ cond said (Ok tt) (Err denial) → result ≡ cond met (Ok tt) (Err denial)
ask_ends denial same asked = asked ∙ ap (λ b. cond b (Ok tt) (Err denial)) same

-- a rule that isn't among those that deny was met
pub none_denies : (met : Bool) (rule : Rule) (denial : Denial) (u : Unit {0}) → None ≡ cond met None (Some rule) → Ok u
    ≡ cond met (Ok u) (Err denial)
none_denies true rule denial u h = refl
none_denies false rule denial u h = absurd (cc)

-- the denial of a rule, asked of the object at a component of a path
abbrev pub denied_by : ℕ → ℕ → Rule → Denial
denied_by path at rule = record { rule = rule; path = path; at = at }

-- one that denies wasn't
pub some_denies : (met : Bool) (rule said : Rule) (path at : ℕ) (u : Unit {0}) → Some said ≡ cond met None (Some rule)
    → Err (denied_by path at said) ≡ cond met (Ok u) (Err (denied_by path at rule))
some_denies true rule said path at u h = absurd (cc)
some_denies false rule said path at u h = let same : said
    ≡ rule = cc in ap (λ (r : Rule). Err (denied_by path at r)) same
