use Rattle.std.proofs.Common.{◌≡◌, ◌+◌, ◌*◌, List, length, ℕ, sym, ap, ◌∙◌, subst, arith}
use Rattle.lfs_ifile.specs.Tables.{Tables, IsIfile, usage_of}
use Rattle.lfs_ifile.specs.Layout.{ifile_bytes, ReadsUse}
use Rattle.lfs_ifile.proofs.LayoutLemmas.{bytes_told, length-ifile_bytes, use-ifile_bytes}
use Rattle.lfs_ifile.proofs.tables.Ifile.bytes.Goals as goal

written : (c : goal.In_ok-push_rows) → c.push_rows.new.bytes.items ≡ ifile_bytes c.args.self.now
written c =
    let file = c.self.inside in
    let tables : Tables = record { live = file.live.items; states = file.states.items; rows = file.rows.items } in
    bytes_told tables c.len-segments.result c.len-inodes.result c.deref.result.now c.deref-2.result.now
    c.deref-3.result.now
    c.in_ok-bytes.bytes.items c.push_u32.new.bytes.items c.push_u32-2.new.bytes.items c.push_u32-3.new.bytes.items
    c.push_segments.new.bytes.items c.push_rows.new.bytes.items
    (c.len-segments.ensures ∙ file.live.ok.0) (c.len-inodes.ensures
    ∙ file.rows.ok.0) c.deref.ensures.value c.deref-2.ensures.value c.deref-3.ensures.value
    c.in_ok-bytes.ensures.items c.in_ok-push_u32.ensures c.in_ok-push_u32-2.ensures c.in_ok-push_u32-3.ensures
    c.in_ok-push_segments.ensures c.in_ok-push_rows.ensures
    ∙ ap ifile_bytes c.self.view_is

pub returns-clause-layout : goal.returns-clause-layout
returns-clause-layout c = written c

pub returns-clause-len : goal.returns-clause-len
returns-clause-len c =
    let file = c.args.self.now in
    let formed : IsIfile file = subst IsIfile c.self.view_is c.self.invariant.0 in
    let long : length c.push_rows.new.bytes.items ≡ 12 + 8 * length file.live + 12 * length file.rows =
    ap length (written c) ∙ length-ifile_bytes file formed.states_length in
    omega (arith, c.push_rows.new.bytes.ok)

pub returns-clause-read_back : goal.returns-clause-read_back
returns-clause-read_back c = λ seg within.
    let file = c.args.self.now in
    let formed : IsIfile file = subst IsIfile c.self.view_is c.self.invariant.0 in
    subst (λ (bytes : List ℕ). ReadsUse bytes seg (usage_of file seg)) (sym (written c))
    (use-ifile_bytes file seg formed within)
