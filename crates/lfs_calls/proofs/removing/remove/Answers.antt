use Rattle.std.proofs.Common.{Err, Ok, sym, subst}
use Rattle.std.proofs.lemmas.Result.{err_from_is_err_and}
use Rattle.lfs_types.specs.declared.answer.Served.TheVariants.{Done}
use Rattle.lfs_calls.specs.declared.call_fault.CallFault.TheVariants.{Denied, Refused}
use Rattle.lfs_types.specs.StoreStates.{StoreState}
use Rattle.lfs_types.specs.declared.answer.Answer.TheVariants as answers
use Rattle.lfs_model.specs.Effects.{effect}
use Rattle.lfs_calls.specs.Asked.{IsAsked}
use Rattle.lfs_calls.specs.Calls.{IsCallAt, resource_of}
use Rattle.lfs_calls.specs.Volumes.{InWorld, IsVolume}
use Rattle.lfs_calls.specs.Removes.{HangsAs, TakesRow, removal_request}
use Rattle.lfs_calls.proofs.AskedLemmas.{asked_refused, asked_served, on_change}
use Rattle.lfs_calls.proofs.CallLemmas.{denied, done, refused, still}
use Rattle.lfs_calls.proofs.EntryLemmas.{closes_up}
use Rattle.lfs_calls.proofs.RemoveOutcomes.{remove_after, remove_answer, remove_changing, remove_entries, remove_looks}
use Rattle.lfs_calls.proofs.RemoveOutcomes.{remove_serves}
use Rattle.lfs_calls.proofs.RowLemmas.{row_hangs, row_taken}
use Rattle.lfs_calls.proofs.StateLemmas.{same_content}
use Rattle.lfs_calls.proofs.removing.remove.Goals as goal
use Rattle.lfs_calls.proofs.removing.remove.Goals.{After-last_name}

pub returns-in_err-removal-clause-call : goal.returns-in_err-removal-clause-call
returns-in_err-removal-clause-call g c level =
    let p = err_from_is_err_and c.from_residual.result c.from_residual.ensures.1 in
    let old = g.F.FileStore.state c.args.store.now in
    let new = g.F.FileStore.state c.judge_removal.new.store in
    let denial = c.in_err-removal.field-0.0 in
    rw (p.1, p.2) (subst (λ path. IsCallAt level old new c.args.cred.now (removal_request c.args.kind path)
    (Err (Denied denial))) c.names-names.ensures.value
    (denied level c.judge_removal.ensures.state denial (λ w v at. c.in_err-removal.ensures.judge w v)))

pub last_name-requires : goal.last_name-requires
last_name-requires g c = let t = c.requires in (c.in_ok-removal.ensures.judge t.0 t.1).1.is.some

pub take_row-requires : goal.take_row-requires
take_row-requires g c =
    let t = c.requires in
    let names = c.names-names.result.now in
    let removal = c.in_ok-removal.removal in
    let hangs = row_hangs (g.F.FileStore.state c.args.store.now).content t.0 t.1.shows t.1.tree names removal
    (c.in_ok-removal.ensures.judge t.0 t.1).1 in
    let content = sym (same_content c.judge_removal.ensures.state) in
    let named = subst (λ name. HangsAs (g.F.FileStore.state c.args.store.now).content t.0.rows removal name)
    (sym c.last_name.ensures.name) hangs in
    record {
      world = (
        t.0,
        (
          still c.judge_removal.ensures.state t.1,
          subst (λ x. HangsAs x t.0.rows removal c.last_name.result.now) content named,
          (c.in_ok-removal.ensures.judge t.0 t.1).1.childless,
        ),
      );
    }

pub returns-in_err-take_row-clause-call : goal.returns-in_err-take_row-clause-call
returns-in_err-take_row-clause-call g c level =
    let p = err_from_is_err_and c.from_residual-in_err-take_row.result c.from_residual-in_err-take_row.ensures.1 in
    let old = g.F.FileStore.state c.args.store.now in
    let new = g.F.FileStore.state c.take_row.new.store in
    let names = c.names-names.result.now in
    let refusal = c.in_err-take_row.field-0.0 in
    rw (p.1, p.2) (subst (λ path. IsCallAt level old new c.args.cred.now (removal_request c.args.kind path)
    (Err (Refused (resource_of refusal)))) c.names-names.ensures.value
    (refused level c.judge_removal.ensures.state refusal (remove_changing names c.args.kind)
    (λ w v at. remove_serves names old w c.args.cred.now c.args.kind (c.in_ok-removal.ensures.judge w v).0)
    c.in_err-take_row.ensures.changes))

pub returns-clause-call : goal.returns-clause-call
returns-clause-call g c level =
    let old = g.F.FileStore.state c.args.store.now in
    let new = g.F.FileStore.state c.take_row.new.store in
    let names = c.names-names.result.now in
    let took = subst (λ name. TakesRow (g.F.FileStore.state c.judge_removal.new.store).content new.content
    c.in_ok-removal.removal name) c.last_name.ensures.name c.in_ok-take_row.ensures.changes.ok in
    subst (λ path. IsCallAt level old new c.args.cred.now (removal_request c.args.kind path) (Ok Done))
    c.names-names.ensures.value
    (done level c.judge_removal.ensures.state (remove_looks names old new c.args.kind)
    (λ w v at. remove_serves names old w c.args.cred.now c.args.kind (c.in_ok-removal.ensures.judge w v).0)
    (λ w. remove_answer names w c.args.kind)
    (λ w v. subst (IsVolume new) (remove_after names old.shape.numbers w c.args.cred.now c.args.kind)
    (row_taken new names c.in_ok-removal.removal c.judge_removal.ensures.state
    (λ w v. (c.in_ok-removal.ensures.judge w v).1) took w v))
    (λ w v. remove_entries names old.content new.content w.rows c.args.kind
    (closes_up new names c.in_ok-removal.removal c.judge_removal.ensures.state
    (λ w v. (c.in_ok-removal.ensures.judge w v).1) took w v))
    c.in_ok-take_row.ensures.changes.follows)

-- the changes make the call
makes : (g : _) (c : After-last_name g) (s : StoreState)
    → TakesRow (g.F.FileStore.state c.judge_removal.new.store).content s.content c.in_ok-removal.removal
    c.last_name.result.now
    → InWorld (g.F.FileStore.state c.args.store.now)
    (λ w. IsVolume s (effect (g.F.FileStore.state c.args.store.now).shape.numbers w c.args.cred.now
    (removal_request c.args.kind c.names-names.result.now)))
makes g c s takes w v =
    let names = c.names-names.result.now in
    let took = subst (λ name. TakesRow (g.F.FileStore.state c.judge_removal.new.store).content s.content
    c.in_ok-removal.removal name) c.last_name.ensures.name takes in
    subst (IsVolume s) (remove_after names (g.F.FileStore.state c.args.store.now).shape.numbers w c.args.cred.now
    c.args.kind)
    (row_taken s names c.in_ok-removal.removal c.judge_removal.ensures.state
    (λ w v. (c.in_ok-removal.ensures.judge w v).1) took w v)

pub returns-in_err-removal-clause-asked : goal.returns-in_err-removal-clause-asked
returns-in_err-removal-clause-asked g c =
    let p = err_from_is_err_and c.from_residual.result c.from_residual.ensures.1 in
    rw (p.1, p.2) (on_change (removal_request c.args.kind c.args.path.now) tt)

pub returns-in_err-take_row-clause-asked : goal.returns-in_err-take_row-clause-asked
returns-in_err-take_row-clause-asked g c =
    let k = (goal.at.returns-in_err-take_row-clause-asked g c).After-last_name in
    let p = err_from_is_err_and c.from_residual-in_err-take_row.result c.from_residual-in_err-take_row.ensures.1 in
    let refusal = c.in_err-take_row.field-0.0 in
    rw (p.1, p.2) (subst (λ path. IsAsked g.F.FileStore.state g.F.FileStore.made c.args.store.now c.args.cred.now
    (removal_request c.args.kind path) (answers.Refused (resource_of refusal)) c.take_row.new.store)
    c.names-names.ensures.value
    (asked_refused g.F.FileStore.state g.F.FileStore.made
    (removal_request c.args.kind c.names-names.result.now) c.args.cred.now c.judge_removal.ensures.state
    c.of.ensures (makes g k) refusal c.in_err-take_row.ensures.asked))

pub returns-clause-asked : goal.returns-clause-asked
returns-clause-asked g c =
    let k = (goal.at.returns-clause-asked g c).After-last_name in
    subst (λ path. IsAsked g.F.FileStore.state g.F.FileStore.made c.args.store.now c.args.cred.now
    (removal_request c.args.kind path) (answers.Served Done) c.take_row.new.store) c.names-names.ensures.value
    (asked_served g.F.FileStore.state g.F.FileStore.made
    (removal_request c.args.kind c.names-names.result.now) c.args.cred.now c.judge_removal.ensures.state
    c.of.ensures (makes g k) c.in_ok-take_row.ensures.asked)
