use Rattle.std.proofs.Common.{◌≡◌, ◌∙◌, ap, subst, sym, arith}
use Rattle.lfs_inodes.specs.Attributes.{Attributes}
use Rattle.lfs_log.specs.Parts.{IsParts, LogParts}
use Rattle.lfs_log.specs.Parts as log
use Rattle.lfs_bmap.specs.Log.{Renews}
use Rattle.lfs_parts.specs.Keys.{log_state}
use Rattle.lfs_parts.specs.Waiting.{without}
use Rattle.lfs_staging.proofs.NewFileLemmas.{made_content, made_log, made_staged, made_versions, nothing_before}
use Rattle.lfs_staging.proofs.NewFileLemmas.{waiting_more, GivesOutFile}
use Rattle.lfs_parts.proofs.WaitingLemmas.{length-without, others_kept, without-staged}
use Rattle.lfs_staging.proofs.making.make.Goals as goal

pub stage_record-requires-clause-room : goal.stage_record-requires-clause-room
stage_record-requires-clause-room c =
    let fewer = length-without c.args.parts.now.waiting c.new.result.number in
    omega arith

makes : (c : goal.After-stage_record) → GivesOutFile c.args.ino c.give_out-version.result c.args.attrs.now c.new.result
    c.args.parts.now c.stage_record.new.parts
makes c = record {
  memory = ap (λ (l : LogParts). l.memory) c.stage_record.ensures.log ∙ c.give_out-version.ensures.memory;
  tables = ap (λ (l : LogParts). l.tables) c.stage_record.ensures.log ∙ c.give_out-version.ensures.given;
  clean = ap (λ (l : LogParts). l.clean) c.stage_record.ensures.log ∙ c.give_out-version.ensures.clean;
  parts = subst IsParts (sym c.stage_record.ensures.log) c.give_out-version.ensures.kept;
  cache = c.stage_record.ensures.cache;
  waiting = c.stage_record.ensures.waiting;
  here = c.stage_record.ensures.here;
  attributes = c.new.ensures.attributes;
  addresses = c.new.ensures.addresses;
}

pub returns-clause-staged : goal.returns-clause-staged
returns-clause-staged c =
    let old = c.args.parts.now in
    let new = c.stage_record.new.parts in
    let args = nothing_before c.args.ino c.give_out-version.result c.args.attrs.now c.new.result old new (makes c)
    c.requires.least c.requires.in_range c.requires.free c.requires.staged.whole in
    let step = c.give_out-version.ensures.step (log_state old).at (λ code below. args code) in
    made_staged c.args.ino c.give_out-version.result c.args.attrs.now c.new.result old new (makes c)
    c.requires.least c.requires.in_range c.requires.free c.requires.staged.whole c.requires.staged
    (subst (λ l. Renews (log.log_state old.log (log_state old).at) (log.log_state l (log_state old).at) c.args.ino)
    (sym c.stage_record.ensures.log) step)
    c.requires.records

pub returns-clause-versions : goal.returns-clause-versions
returns-clause-versions c =
    made_versions c.args.ino c.give_out-version.result c.args.attrs.now c.new.result c.args.parts.now
    c.stage_record.new.parts (makes c)
    c.requires.least c.requires.in_range c.requires.free c.requires.staged.whole c.give_out-version.ensures.version

pub returns-clause-content : goal.returns-clause-content
returns-clause-content c =
    made_content c.args.ino c.give_out-version.result c.args.attrs.now c.new.result c.args.parts.now
    c.stage_record.new.parts (makes c)
    c.requires.least c.requires.in_range c.requires.free c.requires.staged.whole

pub returns-clause-log : goal.returns-clause-log
returns-clause-log c =
    made_log c.args.ino c.give_out-version.result c.args.attrs.now c.new.result c.args.parts.now c.stage_record.new.parts
    (makes c)
    c.requires.least c.requires.in_range c.requires.free c.requires.staged.whole

pub returns-clause-waiting : goal.returns-clause-waiting
returns-clause-waiting c =
    waiting_more c.args.ino c.give_out-version.result c.args.attrs.now c.new.result c.args.parts.now
    c.stage_record.new.parts (makes c)
    c.requires.least c.requires.in_range c.requires.free c.requires.staged.whole

pub returns-clause-others : goal.returns-clause-others
returns-clause-others c =
    let p = c.args.parts.now in
    let new = c.stage_record.new.parts in
    others_kept c.args.ino p.waiting new.waiting
    (subst (λ n. without n new.waiting ≡ without n p.waiting)
    (ap (λ (a : Attributes). a.number) c.new.ensures.attributes)
    (ap (without c.new.result.number) c.stage_record.ensures.waiting
    ∙ without-staged c.new.result (without c.new.result.number p.waiting)))
