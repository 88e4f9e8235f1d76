-- How the calls of a journal were answered: what each number of them counts.
use Rattle.std.specs.Prelude.{ℕ, ◌+◌, ◌-◌, ◌<◌, ◌^◌, All, Bool, true, false, List, [], ◌∷◌, Option, None, Some}
use Rattle.std.specs.Prelude.{count_by, if◌then◌else◌, map}
use Rattle.std.specs.Option.{option_eq}
use Rattle.std.specs.Str.{bytes_eq}
use Rattle.lfs_model.specs.declared.counts.Counts.{Counts}
use Rattle.lfs_model.specs.declared.journal.CleanerOutcome.TheVariants as outcome
use Rattle.lfs_model.specs.declared.journal.Entry.{Entry}
use Rattle.lfs_model.specs.declared.journal.Event.{Event}
use Rattle.lfs_model.specs.declared.journal.Event.TheVariants.{User, Cleaner}
use Rattle.lfs_types.specs.RuleCodes.{rule_code, rules}
use Rattle.lfs_types.specs.declared.answer.Answer.TheVariants as answer
use Rattle.lfs_types.specs.declared.rule.Rule.{Rule}
use Rattle.lfs_types.specs.declared.rule.Rule.TheVariants.{IsSuperuser}

-- whether an event is a user's call that was served
unfoldable pub is_served : Event → Bool
is_served (User request (answer.Served served)) = true
is_served (User request (answer.Denied denial)) = false
is_served (User request (answer.Refused resource)) = false
is_served (Cleaner act done) = false

-- whether it is a user's call that was denied
unfoldable pub is_denied : Event → Bool
is_denied (User request (answer.Served served)) = false
is_denied (User request (answer.Denied denial)) = true
is_denied (User request (answer.Refused resource)) = false
is_denied (Cleaner act done) = false

-- whether it is a user's call that was refused
unfoldable pub is_refused : Event → Bool
is_refused (User request (answer.Served served)) = false
is_refused (User request (answer.Denied denial)) = false
is_refused (User request (answer.Refused resource)) = true
is_refused (Cleaner act done) = false

-- whether it is a cleaner's call
unfoldable pub is_cleaner : Event → Bool
is_cleaner (User request given) = false
is_cleaner (Cleaner act done) = true

-- the rule that denied a call, a user's or a cleaner's
abbrev pub denied_by : Event → Option Rule
denied_by (User request (answer.Served served)) = None
denied_by (User request (answer.Denied denial)) = Some denial.rule
denied_by (User request (answer.Refused resource)) = None
denied_by (Cleaner act outcome.Denied) = Some IsSuperuser
denied_by (Cleaner act (outcome.Fault fault)) = None
denied_by (Cleaner act (outcome.Done number)) = None

-- whether two rules are the same one: each has a code of its own
abbrev pub same_rule : Rule → Rule → Bool
same_rule rule other = bytes_eq (rule_code rule) (rule_code other)

-- whether it is this rule that denied a call
abbrev pub is_denied_by : Rule → Event → Bool
is_denied_by rule event = option_eq same_rule (denied_by event) (Some rule)

-- how many calls a rule denied
abbrev pub denials : Rule → List Entry → ℕ
denials rule entries = count_by (λ entry. is_denied_by rule entry.event) entries

-- the counts over a journal
abbrev pub counts_of : List Entry → Counts
counts_of entries = record {
  served = count_by (λ entry. is_served entry.event) entries;
  denied = count_by (λ entry. is_denied entry.event) entries;
  refused = count_by (λ entry. is_refused entry.event) entries;
  cleaner = count_by (λ entry. is_cleaner entry.event) entries;
  rules = map (λ rule. denials rule entries) rules;
}

-- a number that counts what meets a test, once one more is tested
abbrev pub count_after : Bool → ℕ → ℕ
count_after met number = if met then number + 1 else number

-- the numbers of denials by a list of rules, once a denial is counted too, by a rule or by none
abbrev pub denials_after : Option Rule → List Rule → List ℕ → List ℕ
denials_after denied [] numbers = numbers
denials_after denied (rule ∷ others) [] = []
denials_after denied (rule ∷ others) (number ∷ numbers) =
    count_after (option_eq same_rule denied (Some rule)) number ∷ denials_after denied others numbers

-- counts, once an event is counted too
abbrev pub counts_after : Event → Counts → Counts
counts_after event counts = record {
  served = count_after (is_served event) counts.served;
  denied = count_after (is_denied event) counts.denied;
  refused = count_after (is_refused event) counts.refused;
  cleaner = count_after (is_cleaner event) counts.cleaner;
  rules = denials_after (denied_by event) rules counts.rules;
}

-- each number has one above it that fits 32 bits
pub record AreFew (counts : Counts) : Type 0 where
  pub served : counts.served < 2 ^ 32 - 1
  pub denied : counts.denied < 2 ^ 32 - 1
  pub refused : counts.refused < 2 ^ 32 - 1
  pub cleaner : counts.cleaner < 2 ^ 32 - 1
  pub rules : All (λ number. number < 2 ^ 32 - 1) counts.rules
