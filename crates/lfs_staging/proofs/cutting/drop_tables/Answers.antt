use Rattle.std.proofs.Common.{◌≡◌, ◌+◌, ◌-◌, sym, ap, ◌∙◌, subst, arith}
use Rattle.lfs_bmap.specs.declared.blocks.FileBlock.TheVariants.{Data}
use Rattle.lfs_bmap.specs.Blocks.{code_of, table_of}
use Rattle.lfs_bmap.proofs.HolderLemmas.{table_of-code}
use Rattle.lfs_staging.specs.Cutting.{DropsDown, last_table}
use Rattle.lfs_staging.proofs.DroppingLemmas.{down_none, drops_down, drops_more, drops_same, may_drop}
use Rattle.lfs_staging.proofs.cutting.drop_tables.Goals as goal

pub loop-code-init : goal.loop-code-init
loop-code-init c =
    let p = c.args.parts.now in
    let last : c.code-last.result ≡ code_of (table_of (Data (c.args.blocks - 1))) = c.code-last.ensures
    ∙ ap code_of c.table-2.ensures in
    record {
      down = subst (λ n. DropsDown c.args.ino c.args.left (n + 1) p p) (sym last)
          (down_none p c.args.ino c.args.left c.args.blocks c.requires);
      most = omega (arith, last);
    }

pub drop_table-requires : goal.drop_table-requires
drop_table-requires c =
    let p = c.args.parts.now in let t = c.in-Some.table in
    let first : c.code-first.result ≡ code_of (last_table c.args.left)
    = c.code-first.ensures ∙ ap code_of (c.table.ensures ∙ ap (λ n. table_of (Data n)) c.saturating_sub.ensures) in
    let from = c.max-code-start.ensures in
    let low = c.loop-code-test.true in
    let most = c.loop-code.invariant.most in
    let found = c.in-Some.ensures.found in
    let code = found.1 in
    let bounded = c.requires.bounded in let some = c.requires.some in
    let few = table_of-code (Data (c.args.blocks - 1)) (omega arith) in
    let next : c.loop-code.code ≡ code_of t + 1 = omega arith in
    may_drop p c.args.ino c.args.left c.args.blocks c.requires c.loop-code.parts t found.0 (λ e. omega arith)
    (omega arith) (omega arith) (omega arith)
    (subst (λ n. DropsDown c.args.ino c.args.left n p c.loop-code.parts) next c.loop-code.invariant.down)

pub loop-code-preserved-in-Some : goal.loop-code-preserved-in-Some
loop-code-preserved-in-Some c =
    let p = c.args.parts.now in let t = c.in-Some.table in
    let first : c.code-first.result ≡ code_of (last_table c.args.left)
    = c.code-first.ensures ∙ ap code_of (c.table.ensures ∙ ap (λ n. table_of (Data n)) c.saturating_sub.ensures) in
    let from = c.max-code-start.ensures in
    let low = c.loop-code-test.true in
    let most = c.loop-code.invariant.most in
    let found = c.in-Some.ensures.found in
    let code = found.1 in
    let bounded = c.requires.bounded in let some = c.requires.some in
    let few = table_of-code (Data (c.args.blocks - 1)) (omega arith) in
    let next : c.loop-code.code ≡ code_of t + 1 = omega arith in
    record {
      down = subst (λ n. DropsDown c.args.ino c.args.left n p c.drop_table.new.parts) code
          (drops_more p c.args.ino c.args.left c.args.blocks c.requires c.loop-code.parts c.drop_table.new.parts t found.0
          (λ e. omega arith) (omega arith) (omega arith) (omega arith)
          (subst (λ n. DropsDown c.args.ino c.args.left n p c.loop-code.parts) next c.loop-code.invariant.down)
          c.drop_table.ensures);
      most = omega arith;
    }

pub loop-code-preserved : goal.loop-code-preserved
loop-code-preserved c =
    let p = c.args.parts.now in
    let low = c.loop-code-test.true in
    let most = c.loop-code.invariant.most in
    let next : c.loop-code.code ≡ c.loop-code.code - 1 + 1 = omega arith in
    record {
      down = drops_same p c.args.ino c.args.left c.args.blocks c.requires c.loop-code.parts (c.loop-code.code - 1)
          (λ x is same. c.in_default.not-Some x (c.from_code.ensures.only x is same))
          (subst (λ n. DropsDown c.args.ino c.args.left n p c.loop-code.parts) next c.loop-code.invariant.down);
      most = omega arith;
    }

pub returns : goal.returns
returns c =
    let p = c.args.parts.now in
    let first : c.code-first.result ≡ code_of (last_table c.args.left)
    = c.code-first.ensures ∙ ap code_of (c.table.ensures ∙ ap (λ n. table_of (Data n)) c.saturating_sub.ensures) in
    let from = c.max-code-start.ensures in
    let end = c.loop-code-test.false in
    drops_down p c.args.ino c.args.left c.args.blocks c.requires c.loop-code.parts c.loop-code.code
    (omega arith) c.loop-code.invariant.down
