use Rattle.std.proofs.Common.{◌≡◌, ◌+◌, ◌-◌, ◌*◌, ◌/◌, sym, ap, subst, ◌∙◌, arith}
use Rattle.std.specs.Prelude.{IsSome}
use Rattle.lfs_dirs.specs.Directory.{number_in}
use Rattle.lfs_dirs.specs.Reading.{entries_of}
use Rattle.lfs_known.specs.Says.{says}
use Rattle.lfs_known.proofs.SpotLemmas.{is_put}
use Rattle.lfs_known.proofs.name_changes.put.Goals as goal
use Rattle.lfs_known.proofs.name_changes.put.Goals.{then-k-blocks-2, else-k-blocks-2}

pub returns-after-k-blocks-2-clause-known : goal.returns-after-k-blocks-2-clause-known
returns-after-k-blocks-2-clause-known c =
    let blocks = c.in-Some.blocks in
    let k = c.args.off / 512 in
    let now = c.if-k-blocks-2.now in
    let is = c.in-Some-whole_block.ensures in
    let low = c.if-k-blocks.true in
    let aligned = is.2 in
    let count : 512 * k + 512 + (512 * blocks - (512 * k + 512)) ≡ 512 * now = elim c.if-k-blocks-2.branch [
      | then-k-blocks-2 w ↦ let same = w.if-k-blocks-2.true in let next = w.now-is in omega arith
      | else-k-blocks-2 w ↦ let other = w.if-k-blocks-2.false in let next = w.now-is in omega arith
    ] in
    is_put c.args.table.now c.enter_block.new.self.spots.items c.enter_block.new.self.whole c.args.ino c.args.off
    blocks now k c.args.bytes.now
    (ap (λ w. says w c.args.ino) c.enter_block.ensures.whole ∙ c.enter.ensures.entered)
    (sym c.look.ensures ∙ c.in-Some.is) c.if-blocks-gt0.true is.1 (omega arith) low count
    c.enter_block.ensures.keeps
    (λ name some. c.enter_block.ensures.names name
    (subst (λ b. IsSome (number_in name (entries_of b))) (sym is.0) some))
