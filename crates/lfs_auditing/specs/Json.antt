-- What an audit tells as JSON.
use Rattle.std.specs.Prelude.{◌≡◌, ◌==◌, ◌+◌, ℕ, Bool, true, false, List, [], ◌∷◌, ◌++◌, codes, map, if◌then◌else◌}
use Rattle.std.specs.List.{flat_map, zip}
use Rattle.serde_json.specs.Data.{Data, array, boolean, member, no_members, null, number, object}
use Rattle.serde_json.specs.Data.{string, unsigned}
use Rattle.serde_json.specs.View.{items_of, items_view, view}
use Rattle.serde_json.specs.Written.{compact_text, has_float, items_have_float}
use Rattle.serde_json.specs.declared.value.Value.{Value}
use Rattle.lfs_types.specs.RuleCodes.{rule_code, rules}
use Rattle.lfs_types.specs.declared.rule.Rule.{Rule}
use Rattle.lfs_model.specs.declared.counts.Counts.{Counts}
use Rattle.lfs_auditing.specs.declared.audit.Audit.{Audit}
use Rattle.lfs_auditing.specs.declared.audit.Stop.{Stop}
use Rattle.lfs_auditing.specs.declared.audit.Stop.TheVariants as stops
use Rattle.lfs_auditing.specs.declared.json.Parts.{Parts}

-- a number of an object
abbrev pub count : ℕ → Data
count n = number (unsigned n)

-- a rule that denied calls, and how many; nothing of one that denied none
abbrev pub rule_data : Rule × ℕ → List Data
rule_data (rule, n) =
    if n == 0 then [] else
    object (member (codes "denied") (count n)
    (member (codes "rule") (string (rule_code rule)) no_members)) ∷ []

abbrev pub rules_data : List Rule → List ℕ → Data
rules_data rules numbers = array (items_of (flat_map rule_data (zip rules numbers)))

-- a user, how his calls were answered, and which rules denied them
abbrev pub user_data : ℕ × Counts → Data
user_data (uid, c) =
    object (member (codes "cleaner") (count c.cleaner) (member (codes "denied") (count c.denied)
    (member (codes "refused") (count c.refused) (member (codes "rules") (rules_data rules c.rules)
    (member (codes "served") (count c.served) (member (codes "user") (count uid) no_members))))))

abbrev pub users_data : List (ℕ × Counts) → Data
users_data users = array (items_of (map user_data users))

-- whether a journal is legal up to its end
abbrev pub is_legal : Stop → Bool
is_legal stops.End = true
is_legal (stops.Illegal entry) = false
is_legal (stops.Unread why) = false

-- where an audit of so many legal entries stopped: nowhere; at the entry behind them, with its line
-- and what the rules say; or at a line that tells none, with its fault
abbrev pub IsStopped : ℕ → Stop → Data → Type 0
IsStopped entries stops.End value = value ≡ null
IsStopped entries (stops.Illegal entry) value = (line said : List ℕ)
    × (value ≡ object (member (codes "entry") (count (entries + 1))
    (member (codes "line") (string line)
    (member (codes "rules") (string said) no_members))))
IsStopped entries (stops.Unread why) value = (fault : List ℕ)
    × (value ≡ object (member (codes "entry") (count (entries + 1))
    (member (codes "fault") (string fault) no_members)))

-- what is reported: whether the journal is legal and how many entries are, where the audit stopped,
-- how each user's calls were answered, who changed and who read what last, and who could act by a
-- path
abbrev pub report_data : Bool → ℕ → Parts → Data
report_data legal entries p =
    object (member (codes "changed") (view p.changed) (member (codes "entries") (count entries)
    (member (codes "legal") (boolean legal) (member (codes "read") (view p.read)
    (member (codes "stopped") (view p.stopped) (member (codes "users") (view p.users)
    (member (codes "who") (view p.who) no_members)))))))

-- a text is the JSON, in a line, of an audit that stopped there
pub record IsJson (a : Audit) (stop : Stop) (text : List ℕ) : Type 0 where
  pub parts : Parts
  pub told : text ≡ compact_text (report_data (is_legal stop) a.entries parts) ++ 10 ∷ []
  pub stopped : IsStopped a.entries stop (view parts.stopped)
  pub users : view parts.users ≡ users_data a.users.counts.entries

-- a value has no float, so that its text is known
abbrev pub IsPlain : Value → Type 0
IsPlain v = has_float (view v) ≡ false

abbrev pub ArePlain : List Value → Type 0
ArePlain vs = items_have_float (items_view vs) ≡ false
