use Rattle.std.proofs.lemmas.Result.{IfOk-weaker}
use Rattle.lfs_rescue.proofs.PlacingLemmas.{found_verdict}
use Rattle.lfs_rescue.proofs.telling.finding.Goals as goal

pub found-requires : goal.found-requires
found-requires g c =
    let is = c.in-Ok.ensures in
    record {
      found = is.found;
      is_stored = is.stored;
      labelled = is.labelled;
      flushed = is.flushed;
      world = is.world;
      content = is.content;
      findable = is.findable;
    }

pub returns-in-Ok-clause-told : goal.returns-in-Ok-clause-told
returns-in-Ok-clause-told g c =
    let options = c.args.options.now in
    IfOk-weaker c.found.result _ _
    (λ told is. found_verdict g.F.File.Write.contents g.F.File.Read.remaining options.save c.args.bytes.now told.status
    told.text.items options.journal is)
    c.found.ensures.told
