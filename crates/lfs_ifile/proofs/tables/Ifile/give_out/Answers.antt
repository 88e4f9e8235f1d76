use Rattle.std.proofs.Common.{ap, ◌∙◌}
use Rattle.std.proofs.lemmas.List.{get_or-set_same}
use Rattle.lfs_ifile.specs.Inode.{fresh_row, given_row}
use Rattle.lfs_ifile.specs.Tables.{Tables, row_of, with_row}
use Rattle.lfs_ifile.proofs.tables.Ifile.give_out.Goals as goal

pub returns-clause-after : goal.returns-clause-after
returns-clause-after c = ap (λ (t : Tables). with_row t c.args.ino (given_row c.raised_version-version.result))
    c.self.view_is

pub returns-clause-row : goal.returns-clause-row
returns-clause-row c =
    ap (λ (t : Tables). row_of t c.args.ino) (returns-clause-after c)
    ∙ get_or-set_same c.args.self.now.rows c.args.ino
    (given_row c.raised_version-version.result) fresh_row c.requires.in_range
