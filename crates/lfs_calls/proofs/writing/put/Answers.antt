use Rattle.std.proofs.Common.{List, [], ◌∷◌, ℕ, refl}
use Rattle.std.proofs.lemmas.Result.{IfOk-weaker}
use Rattle.lfs_types.specs.Splicing.{splice}
use Rattle.lfs_types.specs.declared.store.Change.TheVariants.{Put, SetAttrs}
use Rattle.lfs_calls.proofs.AskedLemmas.{asks_now}
use Rattle.lfs_calls.proofs.ListedNames.{bytes_keep_names}
use Rattle.lfs_calls.proofs.ChangeLemmas.{changes_bytes}
use Rattle.lfs_calls.proofs.WriteLemmas.{can_put}
use Rattle.lfs_calls.proofs.writing.put.Goals as goal

pub apply-requires-clause-can : goal.apply-requires-clause-can
apply-requires-clause-can g c =
    can_put (g.F.FileStore.state c.args.store.now).content c.args.file.now.number c.args.file.now.attrs c.requires.shown
    c.args.cred.now c.args.start c.args.bytes
    c.requires.regular c.requires.few c.requires.size c.requires.fits
    (g.F.FileStore.state c.args.store.now).shape.numbers c.mode_after-mode.result

pub returns-clause-changes : goal.returns-clause-changes
returns-clause-changes g c = record {
  ok = IfOk-weaker c.apply.result _ _ (λ _ h. changes_bytes
      (g.F.FileStore.state c.args.store.now).content c.args.file.now.number c.args.file.now.attrs c.requires.shown
      c.args.cred.now
      (λ (old : List ℕ). splice old c.args.start c.args.bytes.now) c.mode_after-mode.result c.mode_after-mode.ensures
      (g.F.FileStore.state c.apply.new.self).content h) c.apply.ensures.applies.ok;
  err = c.apply.ensures.applies.err;
  refused = c.apply.ensures.applies.refused;
  follows = c.apply.ensures.applies.follows;
}

pub apply-requires-clause-keeps : goal.apply-requires-clause-keeps
apply-requires-clause-keeps g c =
    let before = (g.F.FileStore.state c.args.store.now).content in
    let file = c.args.file.now in
    bytes_keep_names before _ file.number file.attrs c.requires.shown c.requires.regular c.args.cred.now
    (λ (old : List ℕ). splice old c.args.start c.args.bytes.now)
    (changes_bytes before file.number file.attrs c.requires.shown c.args.cred.now
    (λ (old : List ℕ). splice old c.args.start c.args.bytes.now) c.mode_after-mode.result c.mode_after-mode.ensures
    _ refl)

pub returns-clause-asked : goal.returns-clause-asked
returns-clause-asked g c =
    let before = (g.F.FileStore.state c.args.store.now).content in
    let file = c.args.file.now in
    let attrs = record file.attrs { mode = c.mode_after-mode.result } in
    asks_now g.F.FileStore.state g.F.FileStore.made (Put file.number c.args.start c.args.bytes)
    (SetAttrs file.number attrs ∷ []) c.of.ensures refl c.apply.ensures.made c.apply.ensures.applies.base
    (changes_bytes before file.number file.attrs c.requires.shown c.args.cred.now
    (λ (old : List ℕ). splice old c.args.start c.args.bytes.now) c.mode_after-mode.result c.mode_after-mode.ensures
    _ refl)
