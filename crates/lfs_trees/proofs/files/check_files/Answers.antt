use Rattle.std.proofs.Common.{◌≡◌, length, None, Some, sym, subst, ◌∙◌, ⊎_elim, arith}
use Rattle.std.proofs.lemmas.Bool.{cases_eq}
use Rattle.std.specs.FinMap as map
use Rattle.lfs_types.proofs.Somewhere.{present}
use Rattle.lfs_trees.specs.Files.{MayStand}
use Rattle.lfs_trees.proofs.FileLemmas.{attrs_here, stands_here}
use Rattle.lfs_trees.proofs.files.check_files.Goals as goal
use Rattle.lfs_trees.proofs.files.check_files.Goals.{in-Some+in_ok-check_file, in_default}

pub loop-number-preserved : goal.loop-number-preserved
loop-number-preserved g c = λ n f e below. ⊎_elim
    (λ same.
    let content = (g.F.FileStore.state c.args.store.now).content in
    let number = c.loop-number.number in
    let there : map.get content number ≡ Some f = subst (λ k. map.get content k ≡ Some f) same e in
    elim c.match-attrs.branch [
      | in-Some+in_ok-check_file w ↦
          subst (λ k. MayStand k f.kind (length f.bytes)) (sym same)
          (stands_here content number w.in-Some.attrs (sym w.in-Some.is
          ∙ c.attrs.ensures) w.in_ok-check_file.ensures.ok f there)
      | in_default w ↦ absurd (cc (attrs_here content number f None (sym w.in_default.is ∙ c.attrs.ensures) there))
    ])
    (λ apart. c.loop-number.invariant n f e (omega arith))
    (cases_eq n c.loop-number.number)

pub returns-clause-ok : goal.returns-clause-ok
returns-clause-ok g c = λ n f e. c.loop-number.invariant n f e (let low = c.requires n (present e) in omega arith)
