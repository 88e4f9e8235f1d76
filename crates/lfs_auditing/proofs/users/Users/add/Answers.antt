use Rattle.std.proofs.Common.{◌≡◌, ℕ, cond, Some, sym, ap, subst, ◌∙◌}
use Rattle.std.specs.BTreeMap.{get, is_at}
use Rattle.std.specs.Ordering.{nat_cmp}
use Rattle.lfs_model.specs.Counts.{AreFew, counts_after}
use Rattle.lfs_auditing.specs.Users.{counts_in}
use Rattle.lfs_auditing.proofs.UserLemmas.{counted_more, users_few}
use Rattle.lfs_auditing.proofs.users.Users.add.Goals as goal

pub add-requires : goal.add-requires
add-requires c =
    let t = c.requires.few in
    record {
      few = subst AreFew (sym c.of-counts.ensures)
          (users_few c.args.self.now.counts t.0 c.uid-uid.result t.1 t.2);
    }

pub returns : goal.returns
returns c es counted =
    let old = c.args.self.now.counts in
    let new = c.insert.new.self in
    let e = c.args.entry.now in
    counted_more old new es e c.add.new.self counted
    (subst (λ u. (q : ℕ) → get nat_cmp new q
    ≡ cond (is_at (nat_cmp u) q) (Some c.add.new.self) (get nat_cmp old q)) c.uid-uid.ensures
    c.in_ok-insert.ensures.updates.0)
    (c.add.ensures ∙ ap (counts_after e.event) (c.of-counts.ensures ∙ ap (counts_in old) c.uid-uid.ensures))
