use Rattle.std.proofs.Common.{Result, Ok, Err, OnErr, OnOk, ◌≡◌, rules, sym, subst}
use Rattle.std.specs.Result.{is_ok}
use Rattle.std.proofs.lemmas.Bool.{false≢true}
use Rattle.lfs_segwrite.specs.Applying.{HasRoomFor, MakesChanges}
use Rattle.lfs_parts.specs.declared.parts.Parts.{Parts}
use Rattle.lfs_found.specs.Written.{IsRecoverable}
use Rattle.lfs_segwrite.specs.Ordered.{IsOrdered}
use Rattle.lfs_logstore.proofs.RecoverableLemmas.{made_ordered, made_recoverable}
use Rattle.lfs_logstore.proofs.files.LogStoreFileStore.apply.Goals as goal

pub returns-clause-applies : goal.returns-clause-applies
returns-clause-applies c = search rules

pub returns-clause-makes : goal.returns-clause-makes
returns-clause-makes c = search rules

on_ok : {T E F : Type 0} (r : Result T E) (s : Result T F) (P : Type 0) → is_ok s ≡ is_ok r → OnOk r P → OnOk s P
on_ok (Ok x) (Ok y) P same p = p
on_ok (Ok x) (Err f) P same p = tt
on_ok (Err e) (Ok y) P same p = absurd (false≢true (sym same))
on_ok (Err e) (Err f) P same p = tt

pub returns-clause-fits : goal.returns-clause-fits
returns-clause-fits c =
    subst (λ (p : Parts). OnOk c.map_err.result (HasRoomFor c.args.by c.args.changes.now p)) c.self.view_is
    (on_ok c.apply.result c.map_err.result _ c.map_err.ensures.variant c.apply.ensures.fits)

on_err : {T E F : Type 0} (r : Result T E) (s : Result T F) (P : Type 0) → is_ok s ≡ is_ok r → OnErr r P → OnErr s P
on_err (Ok x) (Ok y) P same p = tt
on_err (Ok x) (Err f) P same p = absurd (false≢true same)
on_err (Err e) (Ok y) P same p = tt
on_err (Err e) (Err f) P same p = p

pub returns-clause-made : goal.returns-clause-made
returns-clause-made c = record {
  makes = subst (λ (p : Parts). OnOk c.map_err.result (MakesChanges c.args.by c.args.changes.now p c.apply.new.parts))
      c.self.view_is
      (on_ok c.apply.result c.map_err.result _ c.map_err.ensures.variant c.apply.ensures.made);
  fits = returns-clause-fits c;
  refused = subst (λ (p : Parts). OnErr c.map_err.result (c.apply.new.parts ≡ p)) c.self.view_is
      (on_err c.apply.result c.map_err.result _ c.map_err.ensures.variant c.apply.ensures.refused);
  lacking = subst (λ (p : Parts). OnErr c.map_err.result (HasRoomFor c.args.by c.args.changes.now p → ⊥)) c.self.view_is
      (on_err c.apply.result c.map_err.result _ c.map_err.ensures.variant c.apply.ensures.lacking);
}

pub returns-clause-whole : goal.returns-clause-whole
returns-clause-whole c =
    subst (λ (p : Parts). IsRecoverable p.log.memory → IsRecoverable c.apply.new.parts.log.memory) c.self.view_is
    (made_recoverable c.apply.result c.args.by c.args.changes.now c.self.inside.parts c.apply.new.parts c.apply.ensures.made
    c.apply.ensures.refused)

pub returns-clause-ordered : goal.returns-clause-ordered
returns-clause-ordered c =
    subst (λ (p : Parts). IsRecoverable p.log.memory → IsOrdered p.log → IsOrdered c.apply.new.parts.log) c.self.view_is
    (made_ordered c.apply.result c.args.by c.args.changes.now c.self.inside.parts c.apply.new.parts c.apply.ensures.made
    c.apply.ensures.refused)
