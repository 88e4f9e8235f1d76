use Rattle.std.proofs.Common.{List, ℕ, ap, [], ◌∷◌, ◌++◌, ◌∙◌}
use Rattle.serde_json.specs.Written.{compact_text, has_float}
use Rattle.lfs_auditing.proofs.JsonLemmas.{report_plain}
use Rattle.lfs_auditing.proofs.json.text_of.Goals as goal

pub returns : goal.returns
returns c =
    let r = c.requires in
    let is = c.in_ok-value.ensures in
    let plain = ap has_float is ∙ report_plain c.args.legal c.args.entries c.args.parts r.stopped r.users r.changed
    r.read r.who in
    c.in_ok-push.ensures.items
    ∙ ap (λ (t : List ℕ). t ++ 10 ∷ []) (c.in_ok-text.ensures.text plain ∙ ap compact_text is)
