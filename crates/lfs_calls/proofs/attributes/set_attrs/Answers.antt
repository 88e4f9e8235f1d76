use Rattle.std.proofs.Common.{[], refl}
use Rattle.lfs_types.specs.declared.store.Change.TheVariants.{SetAttrs}
use Rattle.lfs_calls.proofs.AskedLemmas.{asks_now}
use Rattle.lfs_calls.proofs.ListedNames.{attrs_keep_names}
use Rattle.lfs_calls.proofs.AttributeLemmas.{sets_attrs}
use Rattle.std.proofs.lemmas.Result.{IfOk-weaker}
use Rattle.lfs_calls.proofs.attributes.set_attrs.Goals as goal

pub returns-clause-changes : goal.returns-clause-changes
returns-clause-changes g c = record {
  ok = IfOk-weaker c.apply.result _ _ (λ _ h. sets_attrs
      (g.F.FileStore.state c.args.store.now).content c.args.number c.args.attrs c.requires.kind
      (g.F.FileStore.state c.apply.new.self).content h) c.apply.ensures.applies.ok;
  err = c.apply.ensures.applies.err;
  refused = c.apply.ensures.applies.refused;
  follows = c.apply.ensures.applies.follows;
}

pub apply-requires-clause-keeps : goal.apply-requires-clause-keeps
apply-requires-clause-keeps g c =
    let before = (g.F.FileStore.state c.args.store.now).content in
    attrs_keep_names before _ c.args.number c.args.attrs c.requires.kind
    (sets_attrs before c.args.number c.args.attrs c.requires.kind _ refl)

pub returns-clause-asked : goal.returns-clause-asked
returns-clause-asked g c =
    asks_now g.F.FileStore.state g.F.FileStore.made
    (SetAttrs c.args.number c.args.attrs) [] refl refl c.apply.ensures.made c.apply.ensures.applies.base
    (sets_attrs (g.F.FileStore.state c.args.store.now).content c.args.number c.args.attrs c.requires.kind _ refl)
