use Rattle.std.proofs.Common.{◌≡◌, ◌==◌, ◌+◌, ◌<◌, true, false, List, ◌∷◌, length, map, sym, ap, ◌∙◌, arith}
use Rattle.std.specs.Global.{Vec}
use Rattle.std.proofs.lemmas.Bool.{eqb-false, eqb-true, true≢false}
use Rattle.std.proofs.lemmas.List.{length-map, nil_from_length}
use Rattle.lfs_types.specs.Caller.{Caller}
use Rattle.lfs_types.specs.declared.answer.Answer.{Answer}
use Rattle.lfs_types.specs.declared.request.Request.{Request}
use Rattle.lfs_settle.specs.Interleaving.{AgreesAt}
use Rattle.lfs_settle.proofs.SettleLemmas.{agreed_more, all_agree, left_more, lone_script, lone_transcript}
use Rattle.lfs_settle.proofs.SettleLemmas.{session_agrees}
use Rattle.lfs_settle.proofs.judging.differing_session.Goals as goal

abbrev lists : List (Vec Answer) → List (List Answer)
lists ts = map (λ (t : Vec Answer). t.items) ts

pub returns-in_default-split_first : goal.returns-in_default-split_first
returns-in_default-split_first c =
    let i = c.loop-script.invariant in
    let is = c.in-Some.ensures.cases in
    let few : c.loop-script.settled + 1 < 255 = omega (arith, i.few) in (
      omega arith,
      few,
      i.agreed,
      lone_script c.args.is_full c.args.later.now c.args.scripts.now c.loop-script.asked.now c.in-Some.more_asked.now
          (lists c.args.transcripts.now) (lists c.loop-script.answered.now) c.in-Some.script.now c.loop-script.settled
          is.0
          (ap lists (nil_from_length c.loop-script.answered.now c.in_default-split_first.ensures.cases)) i.scripts
          i.transcripts,
    )

pub returns-then-not-is_settled : goal.returns-then-not-is_settled
returns-then-not-is_settled c =
    let i = c.loop-script.invariant in
    let script : c.as_slice.result.now ≡ c.in-Some.script.now = c.as_slice.ensures in
    let answers : c.as_slice-in-Some.result.now
    ≡ c.in-Some-split_first.answers.now.items = c.as_slice-in-Some.ensures.value in
    let is = c.in-Some.ensures.cases.0 ∙ ap (λ (x : List (Caller × Request)). x ∷ c.in-Some.more_asked.now) (sym script)
    in
    let has = ap lists c.in-Some-split_first.ensures.cases.0
    ∙ ap (λ (x : List Answer). x ∷ lists c.in-Some-split_first.more_answered.now) (sym answers) in
    let both =
    session_agrees c.args.is_full c.args.later.now c.args.scripts.now c.loop-script.asked.now c.in-Some.more_asked.now
    (lists c.args.transcripts.now) (lists c.loop-script.answered.now)
    (lists c.in-Some-split_first.more_answered.now) c.as_slice.result.now c.as_slice-in-Some.result.now
    c.loop-script.settled is has i.scripts i.transcripts in
    let few : c.loop-script.settled + 1 < 255 = omega (arith, i.few) in
    (omega arith, few, i.agreed, λ h. true≢false (sym (c.is_settled.ensures.1 (both.1 h)) ∙ c.if-not-is_settled.true))

pub loop-script-preserved : goal.loop-script-preserved
loop-script-preserved c =
    let i = c.loop-script.invariant in
    let script : c.as_slice.result.now ≡ c.in-Some.script.now = c.as_slice.ensures in
    let answers : c.as_slice-in-Some.result.now
    ≡ c.in-Some-split_first.answers.now.items = c.as_slice-in-Some.ensures.value in
    let is = c.in-Some.ensures.cases.0 ∙ ap (λ (x : List (Caller × Request)). x ∷ c.in-Some.more_asked.now) (sym script)
    in
    let has = ap lists c.in-Some-split_first.ensures.cases.0
    ∙ ap (λ (x : List Answer). x ∷ lists c.in-Some-split_first.more_answered.now) (sym answers) in
    let both =
    session_agrees c.args.is_full c.args.later.now c.args.scripts.now c.loop-script.asked.now c.in-Some.more_asked.now
    (lists c.args.transcripts.now) (lists c.loop-script.answered.now)
    (lists c.in-Some-split_first.more_answered.now) c.as_slice.result.now c.as_slice-in-Some.result.now
    c.loop-script.settled is has i.scripts i.transcripts in
    record {
      scripts = left_more c.loop-script.asked.now c.args.scripts.now c.in-Some.more_asked.now c.as_slice.result.now
          c.loop-script.settled is i.scripts;
      transcripts = left_more (lists c.loop-script.answered.now) (lists c.args.transcripts.now)
          (lists c.in-Some-split_first.more_answered.now) c.as_slice-in-Some.result.now c.loop-script.settled has
          i.transcripts;
      few = omega (arith, i.few, c.in-Some.ensures.cases.1);
      agreed =
          agreed_more (AgreesAt c.args.is_full c.args.later.now c.args.scripts.now (lists c.args.transcripts.now))
          c.loop-script.settled i.agreed
          (both.0 (c.is_settled.ensures.0 c.if-not-is_settled.false));
    }

pub returns-then-not-is_empty : goal.returns-then-not-is_empty
returns-then-not-is_empty c =
    let i = c.loop-script.invariant in
    let some : (length c.loop-script.answered.now == 0) ≡ false = cc in
    let few : c.loop-script.settled + 1 < 255 = omega (arith, i.few) in (
      omega arith,
      few,
      i.agreed,
      lone_transcript c.args.is_full c.args.later.now c.args.scripts.now c.loop-script.asked.now
          (lists c.args.transcripts.now) (lists c.loop-script.answered.now) c.loop-script.settled
          (nil_from_length c.loop-script.asked.now c.in_default.ensures.cases)
          (λ h. eqb-false (length c.loop-script.answered.now) 0 some
          (omega (arith, h, length-map c.loop-script.answered.now (λ (t : Vec Answer). t.items))))
          i.scripts i.transcripts,
    )

pub returns : goal.returns
returns c =
    let i = c.loop-script.invariant in
    let none : (length c.loop-script.answered.now == 0) ≡ true = cc in
    all_agree c.args.is_full c.args.later.now c.args.scripts.now c.loop-script.asked.now (lists c.args.transcripts.now)
    (lists c.loop-script.answered.now) c.loop-script.settled
    (nil_from_length c.loop-script.asked.now c.in_default.ensures.cases)
    (ap lists (nil_from_length c.loop-script.answered.now (eqb-true _ _ none)))
    i.scripts i.transcripts i.agreed
