use Rattle.std.proofs.Common.{◌≡◌, ℕ, ap, rules, subst, sym}
use Rattle.lfs_types.specs.StoreStates.{Shape, StoreState}
use Rattle.lfs_logstore.specs.States.{state_of}
use Rattle.lfs_parts.specs.declared.parts.Parts.{Parts}
use Rattle.lfs_server.specs.Fresh.{IsFreshLog}
use Rattle.lfs_server.specs.Unserved.{OnLeft}
use Rattle.lfs_server.proofs.ServeLemmas.{legal_from_opening, on_left, on_ok, serve_faults, layout_fault}
use Rattle.lfs_server.proofs.serve.serve.Goals as goal

pub returns-in_err-check_sessions-clause-fault : goal.returns-in_err-check_sessions-clause-fault
returns-in_err-check_sessions-clause-fault g c = search rules

pub returns-in_err-volume-clause-fault : goal.returns-in_err-volume-clause-fault
returns-in_err-volume-clause-fault g c =
    let p = c.args.params in
    let fault = layout_fault _ p.segments p.inodes p.frames c.in_err-volume.field-0.0
    c.in_ok-check_sessions.ensures.count c.in_err-volume.ensures.fault in search rules

pub returns-clause-fault : goal.returns-clause-fault
returns-clause-fault g c = serve_faults _ _ _ _ c.serve_over.result c.in_ok-volume.ensures.ranges
    c.serve_over.ensures.fault

pub returns-clause-settled : goal.returns-clause-settled
returns-clause-settled g c = c.serve_over.ensures.settled

pub returns-clause-legal : goal.returns-clause-legal
returns-clause-legal g c =
    let over = c.serve_over.ensures in
    legal_from_opening state_of (λ closed. closed.volume) c.serve_over.result c.in_ok-volume.volume
    c.in_ok-volume.ensures.begins over.since over.since_level over.legal

-- the journal began over the store that was laid out
pub returns-clause-fresh : goal.returns-clause-fresh
returns-clause-fresh g c =
    let p = c.args.params in
    let laid_out : IsFreshLog p.segments p.inodes p.frames c.in_ok-volume.volume.since =
    subst (λ (store : Parts). IsFreshLog p.segments p.inodes p.frames store) (sym c.in_ok-volume.ensures.since)
    c.in_ok-volume.ensures.fresh.2 in
    on_left c.serve_over.result
    (λ closed same. subst (λ (store : Parts). IsFreshLog p.segments p.inodes p.frames store) (sym same) laid_out)
    c.serve_over.ensures.since

pub returns-clause-limit : goal.returns-clause-limit
returns-clause-limit g c =
    subst (λ (limit : ℕ). OnLeft c.serve_over.result (λ closed. closed.volume.limit ≡ limit))
    c.in_ok-volume.ensures.fresh.1 c.serve_over.ensures.limit

pub returns-clause-shape : goal.returns-clause-shape
returns-clause-shape g c =
    subst (λ (shape : Shape). OnLeft c.serve_over.result (λ closed. (state_of closed.volume.store).shape ≡ shape))
    (ap (λ (s : StoreState). s.shape) c.in_ok-volume.ensures.fresh.2.opening) c.serve_over.ensures.shape

pub returns-clause-ranges : goal.returns-clause-ranges
returns-clause-ranges g c = on_ok c.serve_over.result c.in_ok-volume.ensures.ranges

pub returns-clause-sessions : goal.returns-clause-sessions
returns-clause-sessions g c = c.serve_over.ensures.sessions
