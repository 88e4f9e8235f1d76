use Rattle.std.proofs.Common.{◌≡◌, ◌≢◌, ℕ, ◌+◌, ◌≤◌, Option, None, Some, sym, ap, ◌∙◌, arith}
use Rattle.std.specs.Prelude.{min}
use Rattle.lfs_nodes.specs.declared.node.Hang.TheVariants.{At}
use Rattle.lfs_nodes.specs.Maps.{node_at, id_at}
use Rattle.lfs_nodes.specs.Reads.{hang_in, number_in, children_in}
use Rattle.lfs_nodes.proofs.TableLemmas.{rehung_here, rehung_else, rehung_rows, recounted_here, recounted_else}
use Rattle.lfs_nodes.proofs.TableLemmas.{read_there, there_read}
use Rattle.lfs_nodes.proofs.WholeLemmas.{whole_hung}
use Rattle.lfs_nodes.proofs.parts.Parts.hang.Goals as goal

pub returns-clause-whole : goal.returns-clause-whole
returns-clause-whole c =
    let parts = c.args.self.now in
    let F = node_at parts.table in
    let G = node_at c.hang.new.self in
    let E = node_at c.add_child.new.self in
    let p = c.args.place.parent in
    let g = λ (n : ℕ). min (n + 1) 0xFFFF_FFFF_FFFF_FFFF in
    let first = c.hang.ensures.changed in
    let second = c.add_child.ensures.changed in
    whole_hung (λ q. hang_in (F q)) (λ q. number_in (F q)) (λ q. children_in (F q))
    (id_at parts.index) parts.next c.requires.whole
    c.args.place c.args.id c.requires.gone c.requires.free (there_read (λ n. n.hang) (F p) c.requires.parent)
    (λ q. hang_in (E q)) (λ q. number_in (E q)) (λ q. children_in (E q)) (id_at c.put.new.self)
    (rehung_here F G E c.args.id p (At c.args.place) g first second
    (read_there (λ n. n.hang) (F c.args.id) _ c.requires.gone))
    (rehung_else F G E c.args.id p (At c.args.place) g first second)
    (rehung_rows F G E c.args.id p (At c.args.place) g first second)
    (recounted_here F G E c.args.id p (At c.args.place) g first second)
    (recounted_else F G E c.args.id p (At c.args.place) g first second)
    (ap (id_at c.put.new.self) (sym c.requires.same) ∙ c.put.ensures.there)
    (λ q apart. c.put.ensures.others q (λ e. apart (e ∙ c.requires.same)))
