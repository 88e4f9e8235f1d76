use Rattle.std.proofs.Common.{◌≡◌, sym, ◌∙◌}
use Rattle.lfs_ifile.specs.declared.fault.IfileFault.TheVariants.{Head, Memory, Row, Segment}
use Rattle.lfs_rescue.specs.Building.{tables_of}
use Rattle.lfs_rescue.proofs.ifile.ifile_of.Goals as goal

pub returns-in-Ok : goal.returns-in-Ok
returns-in-Ok c =
    sym (c.in-Ok.ensures.only (tables_of c.args.live.now c.args.states.now c.args.rows.now) c.requires
    (sym (c.deref.ensures.value ∙ c.in_ok-bytes.ensures)))

pub unreachable-requires : goal.unreachable-requires
unreachable-requires c =
    c.in-Err-Head.ensures.none
    (λ memory. let bad : Head ≡ Memory = sym c.in-Err-Head.field-0-is ∙ memory in cc)
    (tables_of c.args.live.now c.args.states.now c.args.rows.now) c.requires
    (sym (c.deref.ensures.value ∙ c.in_ok-bytes.ensures))

pub unreachable-requires-in-Err-Segment : goal.unreachable-requires-in-Err-Segment
unreachable-requires-in-Err-Segment c =
    c.in-Err-Segment.ensures.none
    (λ memory. let bad : Segment c.in-Err-Segment.field-0-0 ≡ Memory = sym c.in-Err-Segment.field-0-is ∙ memory in cc)
    (tables_of c.args.live.now c.args.states.now c.args.rows.now) c.requires
    (sym (c.deref.ensures.value ∙ c.in_ok-bytes.ensures))

pub unreachable-requires-in-Err-Row : goal.unreachable-requires-in-Err-Row
unreachable-requires-in-Err-Row c =
    c.in-Err-Row.ensures.none
    (λ memory. let bad : Row c.in-Err-Row.field-0-0 ≡ Memory = sym c.in-Err-Row.field-0-is ∙ memory in cc)
    (tables_of c.args.live.now c.args.states.now c.args.rows.now) c.requires
    (sym (c.deref.ensures.value ∙ c.in_ok-bytes.ensures))
