use Rattle.std.proofs.Common.{◌≡◌, ◌++◌, map}
use Rattle.serde_json.specs.View.{view}
use Rattle.lfs_auditing.specs.Json.{user_data}
use Rattle.lfs_auditing.proofs.json.users_value.Given as goal

-- the users so far, and those to come
abbrev pub invariant-loop-uid : goal.invariant-loop-uid
invariant-loop-uid l = map view l.values.items ++ map user_data l.uid-iterator ≡ map user_data l.users.counts.entries
