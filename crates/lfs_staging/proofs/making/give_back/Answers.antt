use Rattle.std.proofs.Common.{◌≡◌, ◌∙◌, ap, inl, inr, length, refl, sym, arith}
use Rattle.lfs_ifile.specs.declared.inode.InodeRow.{InodeRow}
use Rattle.lfs_ifile.specs.Tables.{Tables, row_of}
use Rattle.std.proofs.lemmas.Bool.{cases_eq}
use Rattle.std.proofs.lemmas.List.{length-set}
use Rattle.lfs_parts.specs.View.{version_of}
use Rattle.lfs_bmap.specs.Counting.{placed}
use Rattle.lfs_log.specs.Parts.{record_place}
use Rattle.lfs_parts.specs.Keys.{log_state}
use Rattle.lfs_staging.proofs.OtherNumbers.{Forgets}
use Rattle.lfs_parts.specs.declared.parts.Parts.{Parts}
use Rattle.lfs_parts.proofs.KeyLemmas.{place-record, unplaced}
use Rattle.lfs_staging.proofs.TakingLemmas.{empty_no_block, last_log, last_none, last_others, may_give, released_at}
use Rattle.lfs_staging.proofs.TakingLemmas.{released_other, taken_content, taken_log, taken_staged}
use Rattle.lfs_staging.proofs.making.give_back.Goals as goal
use Rattle.lfs_staging.proofs.MakingLemmas.{HasNoBlock}

pub place_record-requires-clause-moves : goal.place_record-requires-clause-moves
place_record-requires-clause-moves c = may_give c.args.parts.now c.args.ino c.requires.staged c.requires.in_range
    c.requires.in_use c.requires.empty

no_block : (c : goal.After-release) → HasNoBlock c.args.parts.now c.args.ino
no_block c = empty_no_block c.args.parts.now c.args.ino c.requires.staged c.requires.in_range c.requires.in_use
    c.requires.empty

abbrev after : goal.After-release → Parts
after c = record { log = c.release.new.self; cache = c.args.parts.now.cache; waiting = c.remove.new.self }

forgets : (c : goal.After-release) → Forgets c.args.ino c.args.parts.now (after c)
forgets c =
    let between = c.place_record.new.self in
    let low = c.requires.in_range in
    let many = c.place_record.ensures.inodes in
    let row : row_of c.release.new.self.tables c.args.ino
    ≡ _ = released_at c.args.ino between c.release.new.self (omega arith) c.release.ensures.released in
    record {
      memory = c.release.ensures.memory ∙ c.place_record.ensures.memory;
      states = ap (λ (t : Tables). t.states) c.release.ensures.released ∙ c.place_record.ensures.states;
      clean = c.release.ensures.clean ∙ c.place_record.ensures.clean;
      parts = c.release.ensures.kept;
      numbers = ap (λ (t : Tables). length t.rows) c.release.ensures.released ∙ length-set _ _ _
          ∙ c.place_record.ensures.inodes;
      rows = λ n other. released_other c.args.ino between c.release.new.self c.release.ensures.released n other
          ∙ c.place_record.ensures.rows n other;
      unused = ap (λ (r : InodeRow). r.used) row;
      unplaced = ap (λ (r : InodeRow). r.address) row;
      cache = refl;
      waiting = c.remove.ensures;
    }

pub returns-clause-staged : goal.returns-clause-staged
returns-clause-staged c =
    let p = c.args.parts.now in
    let number = c.args.ino in
    let between = c.place_record.new.self in
    let none : record_place between.tables number
    ≡ 0 = unplaced between.tables number (ap (λ (r : InodeRow). r.address) c.place_record.ensures.row) in
    let last = placed (log_state p).at number 0 (record_place between.tables number) in
    let nothing = last_none number p between c.release.new.self (no_block c) c.requires.staged c.requires.in_range none
    in
    taken_staged number p (after c) (forgets c) c.requires.in_range (no_block c) c.requires.staged last
    nothing (last_others number p between c.release.new.self (no_block c) c.requires.staged c.requires.in_range none)
    (last_log number p between c.release.new.self (no_block c) c.requires.staged c.requires.in_range none
    (c.place_record.ensures.step (log_state p).at (place-record p number))
    (c.release.ensures.step last (λ code below. nothing code)))

pub returns-clause-versions : goal.returns-clause-versions
returns-clause-versions c n =
    let p = c.args.parts.now in
    let between = c.place_record.new.self in
    let low = c.requires.in_range in
    let many = c.place_record.ensures.inodes in
    elim (cases_eq n c.args.ino) [
      | inl e ↦
          let row = released_at c.args.ino between c.release.new.self (omega arith) c.release.ensures.released in
          ap (version_of (after c)) e ∙ ap (λ (r : InodeRow). r.version) row
          ∙ ap (λ (r : InodeRow). r.version) c.place_record.ensures.row
          ∙ ap (version_of p) (sym e)
      | inr ne ↦ ap (λ (r : InodeRow). r.version) ((forgets c).rows n ne)
    ]

pub returns-clause-content : goal.returns-clause-content
returns-clause-content c =
    taken_content c.args.ino c.args.parts.now (after c) (forgets c) c.requires.in_range (no_block c) c.requires.staged

pub returns-clause-log : goal.returns-clause-log
returns-clause-log c =
    taken_log c.args.ino c.args.parts.now (after c) (forgets c) c.requires.in_range (no_block c) c.requires.staged
