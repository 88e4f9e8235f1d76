use Rattle.std.proofs.Common.{rules, ◌≡◌, ◌<◌, ℕ, length, get_or, ap, sym, subst, ◌∙◌, arith}
use Rattle.std.proofs.lemmas.List.Elements.{All-get_or}
use Rattle.lfs_ifile.specs.Inode.{IsRow, fresh_row}
use Rattle.lfs_ifile.specs.declared.inode.InodeRow.{InodeRow}
use Rattle.lfs_ifile.specs.Tables.{Tables, blocks_of, row_of}
use Rattle.lfs_bmap.specs.Counting.{place_of, weight_of}
use Rattle.lfs_log.specs.Parts.{LogParts, live_of, record_place}
use Rattle.lfs_log.proofs.LiveLemmas.{Assigns-parts, IsParts-moved, SameButLive-trans, versions-placed, weight-record}
use Rattle.lfs_log.proofs.log.Log.place_record.Goals as goal

pub invariant_of-self : goal.invariant_of-self
invariant_of-self c =
    let p : LogParts = record {
      memory = c.self.inside.segments;
      tables = c.self.inside.ifile;
      clean = c.self.inside.clean;
    } in
    let same = SameButLive-trans c.self.inside.ifile c.gain.new.ifile c.lose.new.ifile c.gain.ensures.others
    c.lose.ensures.others in
    IsParts-moved p c.set_place.new.self c.self.invariant (ap (λ xs. length xs) c.set_place.ensures.kept.live
    ∙ same.segments) (c.set_place.ensures.kept.states ∙ same.states) c.set_place.ensures.formed

pub returns-clause-kept : goal.returns-clause-kept
returns-clause-kept c = invariant_of-self c

pub returns-clause-live : goal.returns-clause-live
returns-clause-live c = λ s.
    let view : c.self.inside.ifile ≡ c.args.self.now.tables = ap (λ (q : LogParts). q.tables) c.self.view_is in
    let old = c.args.self.now.tables in
    let new = c.set_place.new.self in
    let number = c.args.number in
    let row_old = All-get_or (IsRow (blocks_of c.self.inside.ifile)) c.self.inside.ifile.rows number fresh_row
    (subst (λ (t : Tables). number < length t.rows) (sym view) c.requires.in_range) c.self.invariant.formed.each_row
    in
    let low_old : (row_of old number).slot < 4 = subst (λ (t : Tables). (row_of t number).slot < 4) view row_old.slot in
    let row = c.set_place.ensures.row in
    let low_new : (row_of new number).slot < 4 = subst (λ (r : InodeRow). r.slot < 4) (sym row) c.requires.slot in
    let was = weight-record old number s low_old in
    let is = weight-record new number s low_new in
    let gained = c.gain.ensures.live s in
    let lost = c.lose.ensures.live s in
    let here : live_of new s ≡ live_of c.lose.new.ifile s = ap (λ xs. get_or xs s 0) c.set_place.ensures.kept.live in
    let first : live_of c.self.inside.ifile s ≡ live_of old s = ap (λ t. live_of t s) view in
    let from : weight_of (place_of c.record_address-from.result) s 0
    ≡ weight_of (place_of (row_of old number).address) s 0 =
    ap (λ (a : ℕ). weight_of (place_of a) s 0) (c.record_address-from.ensures
    ∙ ap (λ t. (row_of t number).address) view) in
    let to : weight_of (place_of (row_of new number).address) s 0
    ≡ weight_of (place_of c.args.address) s 0 = ap (λ (r : InodeRow). weight_of (place_of r.address) s 0) row in
    omega arith

pub returns-clause-step : goal.returns-clause-step
returns-clause-step c = λ at here.
    let view = c.self.view_is in
    let new = c.set_place.new.self in
    let number = c.args.number in
    let q : LogParts = record { memory = c.self.inside.segments; tables = new; clean = c.self.inside.clean } in
    let same = SameButLive-trans c.self.inside.ifile c.gain.new.ifile c.lose.new.ifile c.gain.ensures.others
    c.lose.ensures.others in
    let rows : c.lose.new.ifile.rows ≡ c.args.self.now.tables.rows = same.rows
    ∙ ap (λ (p : LogParts). p.tables.rows) view in
    Assigns-parts c.args.self.now q at number 0 (record_place new number)
    (ap (λ (p : LogParts). p.memory) view)
    (c.set_place.ensures.kept.states ∙ same.states ∙ ap (λ (p : LogParts). p.tables.states) view)
    (c.set_place.ensures.kept.inodes ∙ ap (λ xs. length xs) rows)
    (λ n. versions-placed c.lose.new.ifile new number c.args.address c.args.slot c.set_place.ensures.row
    c.set_place.ensures.kept.rows n
    ∙ ap (λ xs. (get_or xs n fresh_row).version) rows)
    (ap (λ (p : LogParts). p.clean) view)
    (λ s. rw here (returns-clause-live c s))

pub returns-clause-row : goal.returns-clause-row
returns-clause-row c = search rules
