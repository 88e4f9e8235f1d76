use Rattle.std.proofs.Common.{◌≡◌, ℕ, Some, sym, ◌∙◌}
use Rattle.lfs_nodes.specs.Maps.{id_at}
use Rattle.lfs_nodes.proofs.StayingLemmas.{ids_rehung, ids_taken, ids_then, taken_number}
use Rattle.lfs_nodes.proofs.parts.Parts.rehang.Goals as goal

pub returns-then-is_some-clause-ids : goal.returns-then-is_some-clause-ids
returns-then-is_some-clause-ids c =
    let parts = c.args.self.now in
    let one = c.unhang-moved.new.self in
    let two = c.unhang.new.self in
    let a = c.unhang-moved.ensures in
    let b = c.unhang.ensures in
    let at : id_at parts.index c.args.from.now ≡ Some c.in-Some.id = sym a.taken ∙ c.in-Some.is in
    ids_rehung parts two c.hang.new.self c.requires.whole c.in-Some.id c.args.from.now c.args.to at
    (ids_then parts one two
    (ids_taken parts one c.unhang-moved.result a.next a.changed a.none)
    (ids_taken one two c.unhang.result b.next b.changed b.none))
    (λ q. taken_number one two c.unhang.result b.changed b.none q
    ∙ taken_number parts one c.unhang-moved.result a.changed a.none q)
    c.hang.ensures.changed c.hang.ensures.next
