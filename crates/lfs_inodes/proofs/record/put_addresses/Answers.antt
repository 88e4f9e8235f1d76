use Rattle.std.proofs.Common.{◌∙◌, ◌+◌, ◌*◌, arith}
use borrow.Author.Count.{below_more}
use Rattle.lfs_inodes.proofs.Grammar.{number_at-before}
use Rattle.lfs_inodes.proofs.record.put_addresses.Goals as goal

pub loop-n-preserved : goal.loop-n-preserved
loop-n-preserved c =
    let old = c.loop-n.invariant in
    let put = c.put_u32.ensures in
    record {
      same_length = put.same_length ∙ old.same_length;
      written = below_more _ _ (λ k lt. number_at-before _ _ (36 + 4 * c.loop-n.n) 4 _ (36 + 4 * k) 4 put (omega arith)
          ∙ old.written k lt) put.written;
      before = λ k low high. put.below k (omega arith) (omega arith) ∙ old.before k low high;
      after = λ k low high. put.above k (omega arith) (omega arith) ∙ old.after k low high;
    }

pub returns-clause-addresses : goal.returns-clause-addresses
returns-clause-addresses c =
    let old = c.loop-n.invariant in
    let single = c.put_u32-2.ensures in
    let double = c.put_u32-3.ensures in
    record {
      direct = λ n lt.
          number_at-before _ _ 88 4 _ (36 + 4 * n) 4 double (omega arith)
          ∙ number_at-before _ _ 84 4 _ (36 + 4 * n) 4 single (omega arith) ∙ old.written n (omega arith);
      single = number_at-before _ _ 88 4 _ 84 4 double (omega arith) ∙ single.written;
      double = double.written;
      unnamed = λ k low high.
          double.above k low (omega arith) ∙ single.above k (omega arith) (omega arith)
          ∙ old.after k (omega arith) high ∙ c.requires.unwritten k low high;
    }
