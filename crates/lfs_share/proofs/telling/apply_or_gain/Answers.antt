use Rattle.std.proofs.Common.{◌∙◌, ap, subst}
use Rattle.lfs_parts.specs.Files.{content_of}
use Rattle.lfs_parts.specs.declared.parts.Parts.{Parts}
use Rattle.lfs_logstore.specs.Gaining.{GainsSpace}
use Rattle.lfs_share.proofs.FullLemmas.{refused_full, refused_same}
use Rattle.lfs_share.proofs.telling.apply_or_gain.Goals as goal

pub returns-in-Ok-clause-refused : goal.returns-in-Ok-clause-refused
returns-in-Ok-clause-refused c = λ other. refused_full c.args.by c.args.changes.now c.args.store.now c.apply.result c.is_ok.result
    c.requires.may c.apply.ensures.lacking c.is_ok.ensures.value c.if-is_ok.false

pub returns-in-Err-clause-refused : goal.returns-in-Err-clause-refused
returns-in-Err-clause-refused c = λ other. refused_full c.args.by c.args.changes.now c.args.store.now c.apply.result
    c.is_ok.result c.requires.may c.apply.ensures.lacking c.is_ok.ensures.value c.if-is_ok.false

pub returns-in-Ok-clause-content : goal.returns-in-Ok-clause-content
returns-in-Ok-clause-content c = λ other. c.in-Ok.ensures.content ∙ ap content_of (refused_same c.args.store.now
    c.apply.new.self c.apply.result c.is_ok.result c.apply.ensures.refused c.is_ok.ensures.value c.if-is_ok.false)

pub returns-in-Ok-clause-gained : goal.returns-in-Ok-clause-gained
returns-in-Ok-clause-gained c = λ is. subst (λ (p : Parts). GainsSpace p c.gain.new.self)
    (refused_same c.args.store.now c.apply.new.self c.apply.result c.is_ok.result c.apply.ensures.refused
    c.is_ok.ensures.value c.if-is_ok.false)
    c.in-Ok.ensures.gained
