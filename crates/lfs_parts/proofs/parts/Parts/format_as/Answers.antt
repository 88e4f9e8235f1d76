use Rattle.std.proofs.Common.{◌≡◌, length, sym, ap, ◌∙◌, subst, arith}
use Rattle.std.proofs.lemmas.List.{length-replicate}
use Rattle.lfs_segments.specs.Memory.{SegmentMemory, block_at}
use Rattle.lfs_log.specs.Parts.{IsParts, LogParts}
use Rattle.lfs_ifile.specs.Inode.{fresh_row}
use Rattle.lfs_ifile.specs.Tables.{Tables}
use Rattle.lfs_parts.specs.Opening.{HasRootBlock, HasRootRow, fresh_used}
use Rattle.lfs_parts.proofs.OpeningLemmas.{opening_shown, opening_store}
use Rattle.lfs_parts.proofs.parts.Parts.format_as.Goals as goal

pub enter_root-requires-clause-fresh : goal.enter_root-requires-clause-fresh
enter_root-requires-clause-fresh c =
    let t = c.write_root.new.log.tables in
    let same = c.write_root.ensures.tables ∙ ap (λ (l : LogParts). l.tables) c.in_ok-log.ensures.fresh in
    let live = ap (λ (t : Tables). length t.live) same ∙ length-replicate c.args.segments 0 in
    let rows = ap (λ (t : Tables). length t.rows) same ∙ length-replicate c.args.inodes fresh_row in
    subst (λ n. t ≡ fresh_used n (length t.rows)) (sym live)
    (subst (λ n. t ≡ fresh_used c.args.segments n) (sym rows) same)

pub returns-clause-opening : goal.returns-clause-opening
returns-clause-opening c = record {
  memory = subst (λ (l : LogParts). HasRootBlock c.args.serial l.memory) (sym c.in_ok-over.ensures.log)
      (subst (λ (m : SegmentMemory). HasRootBlock c.args.serial m) (sym c.enter_root.ensures.memory)
      (subst (λ (l : LogParts). HasRootBlock l.memory.serial c.write_root.new.log.memory) c.in_ok-log.ensures.fresh
      c.write_root.ensures.written));
  label = ap (λ (l : LogParts). block_at l.memory 0) c.in_ok-over.ensures.log
      ∙ ap (λ (m : SegmentMemory). block_at m 0) c.enter_root.ensures.memory ∙ c.write_root.ensures.label
      ∙ ap (λ (l : LogParts). block_at l.memory 0) c.in_ok-log.ensures.fresh;
  size = ap (λ (l : LogParts). l.memory.segments) c.in_ok-over.ensures.log
      ∙ ap (λ (m : SegmentMemory). m.segments) c.enter_root.ensures.memory ∙ c.write_root.ensures.size
      ∙ ap (λ (l : LogParts). l.memory.segments) c.in_ok-log.ensures.fresh;
  parts = subst IsParts (sym c.in_ok-over.ensures.log) c.enter_root.ensures.kept;
  tables = (let same = c.write_root.ensures.tables ∙ ap (λ (l : LogParts). l.tables) c.in_ok-log.ensures.fresh in
      let live = ap (λ (t : Tables). length t.live) same ∙ length-replicate c.args.segments 0 in
      let rows = ap (λ (t : Tables). length t.rows) same ∙ length-replicate c.args.inodes fresh_row in
      subst (λ (l : LogParts). HasRootRow c.args.segments c.args.inodes l.tables) (sym c.in_ok-over.ensures.log)
      (subst (λ n. HasRootRow n c.args.inodes c.enter_root.new.log.tables) live
      (subst (λ n. HasRootRow (length c.write_root.new.log.tables.live) n c.enter_root.new.log.tables) rows
      c.enter_root.ensures.entered)));
  cache = c.in_ok-over.ensures.cache;
  no_record = c.in_ok-over.ensures.no_record;
  clean = (let clean = ap (λ (l : LogParts). l.clean) c.in_ok-over.ensures.log ∙ c.enter_root.ensures.clean
      ∙ c.write_root.ensures.clean ∙ ap (λ (l : LogParts). l.clean) c.in_ok-log.ensures.fresh in
      let same = c.write_root.ensures.tables ∙ ap (λ (l : LogParts). l.tables) c.in_ok-log.ensures.fresh in
      let live = ap (λ (t : Tables). length t.live) same ∙ length-replicate c.args.segments 0 in
      let some = c.write_root.ensures.kept.formed.segments_least in
      omega (arith, clean, live, some));
}

pub returns-clause-content : goal.returns-clause-content
returns-clause-content c = opening_shown c.args.serial c.args.segments c.args.inodes c.args.frames _ (returns-clause-opening c)

pub returns-clause-store : goal.returns-clause-store
returns-clause-store c = opening_store c.args.serial c.args.segments c.args.inodes c.args.frames _
    (returns-clause-opening c) c.in_ok-over.ensures.formed
