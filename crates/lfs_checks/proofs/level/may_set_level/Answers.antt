use Rattle.std.proofs.Common.{◌≡◌, Bool, true, false, cond, None, Some, Ok, Err, refl, ap}
use Rattle.std.specs.Prelude.{not}
use Rattle.lfs_types.specs.declared.rule.Denial.{Denial}
use Rattle.lfs_types.specs.declared.rule.Rule.{Rule}
use Rattle.lfs_checks.proofs.TestLemmas.{denied_by}
use Rattle.lfs_checks.proofs.level.may_set_level.Goals as goal

-- neither of two rules denies
both_met : (first second : Bool) (rule other : Rule) (denial denied : Denial) (u : Unit {0}) → None
    ≡ cond (not first) (Some rule) (cond second None (Some other))
    → Ok u ≡ cond first (cond second (Ok u) (Err denied)) (Err denial)
both_met true true rule other denial denied u h = refl
both_met true false rule other denial denied u h = absurd (cc)
both_met false second rule other denial denied u h = absurd (cc)

-- one of two rules denies
one_unmet : (first second : Bool) (rule other said : Rule) (u : Unit {0}) → Some said
    ≡ cond (not first) (Some rule) (cond second None (Some other))
    → Err (denied_by 0 0 said) ≡ cond first (cond second (Ok u) (Err (denied_by 0 0 other))) (Err (denied_by 0 0 rule))
one_unmet true true rule other said u h = absurd (cc)
one_unmet true false rule other said u h = let same : said ≡ other = cc in ap (λ (r : Rule). Err (denied_by 0 0 r)) same
one_unmet false second rule other said u h = let same : said
    ≡ rule = cc in ap (λ (r : Rule). Err (denied_by 0 0 r)) same

pub returns-in-None : goal.returns-in-None
returns-in-None c = both_met _ _ _ _ _ _ tt c.in-None.ensures

pub returns-in-Some : goal.returns-in-Some
returns-in-Some c = one_unmet _ _ _ _ c.in-Some.rule tt c.in-Some.ensures
