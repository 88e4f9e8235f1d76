use Rattle.std.proofs.Common.{◌≡◌, map, take}
use Rattle.std.specs.List.{flat_map, zip}
use Rattle.serde_json.specs.View.{view}
use Rattle.lfs_auditing.specs.Json.{rule_data}
use Rattle.lfs_auditing.proofs.json.rules_value.Given as goal

-- the rules so far
abbrev pub invariant-loop-place : goal.invariant-loop-place
invariant-loop-place l = map view l.values.items ≡ flat_map rule_data (take l.place (zip l.rules l.numbers))
