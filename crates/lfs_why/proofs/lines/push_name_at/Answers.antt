use Rattle.std.proofs.Common.{sym, ap, ◌∙◌}
use Rattle.std.proofs.lemmas.Result.{on_ok_weaker}
use Rattle.lfs_why.specs.WhyText.{with_name}
use Rattle.lfs_why.proofs.LineLemmas.{got, not_got}
use Rattle.lfs_why.proofs.lines.push_name_at.Goals as goal

pub returns-then-index-names : goal.returns-then-index-names
returns-then-index-names c =
    on_ok_weaker c.push_name.result
    (λ e. e ∙ ap (with_name c.args.out.now.items)
    (sym (got c.args.names.now c.args.index c.index-names-index.result c.if-index-names.true
    c.index-names-index.is)))
    c.push_name.ensures

pub returns-else-index-names : goal.returns-else-index-names
returns-else-index-names c = ap (with_name c.args.out.now.items)
    (sym (not_got c.args.names.now c.args.index c.if-index-names.false))
