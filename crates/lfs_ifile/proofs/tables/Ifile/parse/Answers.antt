use Rattle.std.proofs.Common.{◌≡◌, ◌≤◌, length, arith}
use Rattle.lfs_ifile.specs.Tables.{IsIfile, Tables}
use Rattle.lfs_ifile.specs.Layout.{IsHead, ReadsTables}
use Rattle.lfs_ifile.proofs.LoadingLemmas.{one_ifile, read_formed, read_told, spelled}
use Rattle.lfs_ifile.proofs.tables.Ifile.parse.Goals as goal

abbrev file : (c : goal.In_ok-rows) → Tables
file c = record { live = c.in_ok-live.live.items; states = c.in_ok-states.states.items; rows = c.in_ok-rows.rows.items }

head : (c : goal.In_ok-rows) → IsHead c.args.bytes.now
head c = c.is_head.ensures.0 (cc)

formed : (c : goal.In_ok-rows) → IsIfile (file c)
formed c =
    read_formed c.args.bytes.now c.in_ok-live.live.items c.in_ok-states.states.items c.in_ok-rows.rows.items
    c.number_at-segments.result c.number_at-inodes.result (head c)
    c.number_at-segments.ensures c.number_at-inodes.ensures c.in_ok-live.ensures.long c.in_ok-states.ensures.long
    c.in_ok-rows.ensures.long
    c.in_ok-live.ensures.few c.in_ok-rows.ensures.formed

told : (c : goal.In_ok-rows) → ReadsTables c.args.bytes.now (file c)
told c =
    read_told c.args.bytes.now c.in_ok-live.live.items c.in_ok-states.states.items c.in_ok-rows.rows.items
    c.number_at-segments.result c.number_at-inodes.result (head c)
    c.number_at-segments.ensures c.number_at-inodes.ensures c.in_ok-live.ensures.long c.in_ok-states.ensures.long
    c.in_ok-rows.ensures.long
    c.in_ok-live.ensures.read c.in_ok-states.ensures.read c.in_ok-rows.ensures.read

pub invariant_of-result : goal.invariant_of-result
invariant_of-result c =
    let least = (head c).inodes_least in
    let long : length c.in_ok-rows.rows.items ≡ c.number_at-inodes.result = c.in_ok-rows.ensures.long in
    let is = c.number_at-inodes.ensures in
    let four : 4 ≤ length c.in_ok-rows.rows.items = omega arith in (
      formed c,
      omega arith,
      four,
      λ ino low high. absurd (omega arith),
      omega arith,
      λ seg low high. absurd (omega arith),
    )

pub returns-clause-formed : goal.returns-clause-formed
returns-clause-formed c = formed c

pub returns-clause-spelled : goal.returns-clause-spelled
returns-clause-spelled c = spelled c.args.bytes.now (file c) (formed c) (told c)
    (λ i. let small = c.type_inv.bytes i in omega arith)

pub returns-clause-only : goal.returns-clause-only
returns-clause-only c = λ other is e. one_ifile c.args.bytes.now (file c) other (formed c) (told c) is e
