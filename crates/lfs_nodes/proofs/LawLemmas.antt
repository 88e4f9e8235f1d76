-- Nodes stay true of a tree in which no name moves: `nodes_kept`, and by it `nodes_changed` where a file was changed
-- and `nodes_grown` where a row was made. Nodes say of a tree only which row hangs under which name, so it is enough
-- that each name which is there stays with its row. A changed row has its parent and name still, and a new one has a
-- number that no row had, so each row of before is there.
use Rattle.std.proofs.Common.{◌≡◌, ◌≢◌, ℕ, List, Option, None, Some, refl, sym, ap, ◌∙◌, ⊎_elim}
use Rattle.std.specs.FinMap as map
use Rattle.std.proofs.lemmas.Bool.{cases_eq}
use Rattle.lfs_types.specs.Tree.{File, Row, World}
use Rattle.lfs_types.proofs.Maps.{get-insert_same, get-insert_other}
use Rattle.lfs_types.proofs.Somewhere.{some_and, is_some_and}
use Rattle.lfs_model.specs.Effects.{with_file}
use Rattle.lfs_model.specs.World.{Rows, IsChild}
use Rattle.lfs_nodes.specs.declared.node.Node.{Node}
use Rattle.lfs_nodes.specs.Nodes.{AreNodes, live_row}

-- each name that is there stays
pub nodes_kept : (rows after : Rows) (K : ℕ → Option Node)
    → ((p : ℕ) (name : List ℕ) (n : ℕ) → IsChild rows p name n → IsChild after p name n) → AreNodes rows K
    → AreNodes after K
nodes_kept rows after K keeps are = record {
  hung = λ q place n e f.
      let up = some_and (live_row (K place.parent)) (λ p. IsChild rows p place.name n) (are.hung q place n e f) in
      is_some_and (λ p. IsChild after p place.name n) up.is (keeps up.value place.name n up.holds);
  apart = are.apart;
}

-- the file of a row changes
pub nodes_changed : (w : World) (n : ℕ) (change : File → File) (K : ℕ → Option Node) (o : Option Row) → map.get w.rows n
    ≡ o → AreNodes w.rows K → AreNodes (with_file o n change w).rows K
nodes_changed w n change K None e are = are
nodes_changed w n change K (Some r) e are =
    nodes_kept w.rows (map.insert w.rows n (record r { file = change r.file })) K
    (λ p name m c. ⊎_elim
    (λ same.
    let one : r ≡ c.row = cc (e, c.there, ap (map.get w.rows) same) in
    record {
      row = record r { file = change r.file };
      there = ap (map.get (map.insert w.rows n (record r { file = change r.file }))) same
          ∙ get-insert_same w.rows n (record r { file = change r.file });
      below = c.below;
      hangs = ap (λ (x : Row). x.parent) one ∙ c.hangs;
      named = ap (λ (x : Row). x.name) one ∙ c.named;
    })
    (λ ne. record {
      row = c.row;
      there = get-insert_other w.rows n (record r { file = change r.file }) m ne ∙ c.there;
      below = c.below;
      hangs = c.hangs;
      named = c.named;
    })
    (cases_eq m n)) are

-- a new row
pub nodes_grown : (rows : Rows) (n : ℕ) (r : Row) (K : ℕ → Option Node) → map.get rows n ≡ None → AreNodes rows K
    → AreNodes (map.insert rows n r) K
nodes_grown rows n r K absent are = nodes_kept rows (map.insert rows n r) K
    (λ p name m c.
    let ne : m ≢ n = λ same. let wrong : None ≡ Some c.row = sym absent ∙ ap (map.get rows) (sym same)
    ∙ c.there in absurd (cc) in
    record {
      row = c.row;
      there = get-insert_other rows n r m ne ∙ c.there;
      below = c.below;
      hangs = c.hangs;
      named = c.named;
    }) are
