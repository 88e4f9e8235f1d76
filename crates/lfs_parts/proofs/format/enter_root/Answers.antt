use Rattle.std.proofs.Common.{◌≡◌, length, ap, ◌∙◌, arith}
use Rattle.lfs_ifile.specs.Inode.{given_row, raised_version}
use Rattle.lfs_ifile.specs.Tables.{Tables, row_of, with_row}
use Rattle.lfs_parts.proofs.OpeningLemmas.{fresh_version, root_entered}
use Rattle.lfs_parts.proofs.format.enter_root.Goals as goal

pub returns-clause-entered : goal.returns-clause-entered
returns-clause-entered c =
    let segments = length c.args.log.now.tables.live in
    let inodes = length c.args.log.now.tables.rows in
    let first : c.give_out.result ≡ 1 = c.give_out.ensures.version
    ∙ ap (λ (t : Tables). raised_version (row_of t 2).version) c.requires.fresh ∙ fresh_version inodes in
    let given = c.give_out.ensures.given ∙ ap (λ v. with_row c.args.log.now.tables 2 (given_row v)) first
    ∙ ap (λ t. with_row t 2 (given_row 1)) c.requires.fresh in
    root_entered segments inodes c.give_out.new.self c.place_record.new.self
    (omega (arith, c.requires.formed.formed.inodes_least))
    (omega (arith, c.requires.formed.formed.segments_least)) given c.give_out.ensures.kept c.place_record.ensures.kept
    c.place_record.ensures.memory c.place_record.ensures.row c.place_record.ensures.rows c.place_record.ensures.inodes
    c.place_record.ensures.live c.place_record.ensures.states
