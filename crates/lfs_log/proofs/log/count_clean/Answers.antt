use Rattle.std.proofs.Common.{◌≡◌, ◌+◌, sym, ap, ◌∙◌, arith}
use Rattle.lfs_ifile.specs.declared.segment.SegUse.{SegUse}
use Rattle.lfs_bmap.specs.Log.{clean_unit}
use Rattle.lfs_log.specs.Parts.{state_of}
use Rattle.lfs_log.proofs.PartsLemmas.{clean_count-first, clean_count-more, clean_count-most}
use Rattle.lfs_log.proofs.log.count_clean.Goals as goal

pub loop-segment-init : goal.loop-segment-init
loop-segment-init c = sym (clean_count-first c.args.ifile.now)

pub overflow_add-clean : goal.overflow_add-clean
overflow_add-clean c =
    let t = c.args.ifile.now in
    let n = c.loop-segment.segment in
    let unit : c.clean_unit-clean.result ≡ clean_unit (state_of t n) = c.clean_unit-clean.ensures
    ∙ ap (λ (u : SegUse). clean_unit u.state) c.usage.ensures.value in
    let more = clean_count-more t n in
    let most = clean_count-most t (n + 1) in
    let few = c.usage.ensures.formed.segments_most in
    let so_far = c.loop-segment.invariant in
    omega arith

pub loop-segment-preserved : goal.loop-segment-preserved
loop-segment-preserved c =
    let t = c.args.ifile.now in
    let n = c.loop-segment.segment in
    let unit : c.clean_unit-clean.result ≡ clean_unit (state_of t n) = c.clean_unit-clean.ensures
    ∙ ap (λ (u : SegUse). clean_unit u.state) c.usage.ensures.value in
    let more = clean_count-more t n in
    let so_far = c.loop-segment.invariant in
    omega arith
