use Rattle.std.proofs.Common.{ap, is_some}
use Rattle.lfs_types.specs.Tree.{opening_world}
use Rattle.lfs_auditing.proofs.BeginLemmas.{begun_of, of_fresh}
use Rattle.lfs_auditing.proofs.beginning.begin.Goals as goal

pub returns-in_default : goal.returns-in_default
returns-in_default g c =
    let made = c.in_ok-audit.ensures in
    record {
      from = opening_world;
      begins = of_fresh c.args.options.now.from g.F.File.Read.remaining c.args.options.now _ _ c.in_default.is made.numbers
          made.segments;
      read = made.fresh;
      denials = made.denials;
    }

pub returns-in-Ok : goal.returns-in-Ok
returns-in-Ok g c =
    begun_of g.F.File.Read.remaining c.args.options.now c.from_image.result (ap (λ o. is_some o) c.in-Some.is) c.in-Ok.file
    c.from_image.ensures.begun c.from_image.ensures.denials
