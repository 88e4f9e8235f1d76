use Rattle.std.proofs.Common.{◌≢◌, ◌<◌, ◌≤◌, ℕ, List, get_or, sym, subst, ◌∙◌, arith}
use Rattle.std.specs.Prelude.{IfErr}
use Rattle.std.proofs.lemmas.Result.{err_from_is_err_and}
use Rattle.lfs_rescue.specs.Building.{IsBuildFault}
use Rattle.lfs_rescue.proofs.BuildLemmas.{built_as}
use Rattle.lfs_rescue.proofs.FoundLemmas.{all_full, files_fault, finds_all, stands}
use Rattle.lfs_rescue.proofs.StoredLemmas.{counts_most}
use Rattle.lfs_rescue.proofs.counting.live_of.Goals as goal

pub narrowed-requires : goal.narrowed-requires
narrowed-requires c = λ s.
    subst (λ (xs : List ℕ). get_or xs s 0 ≤ 32768) (sym c.deref-2.ensures.value)
    (counts_most c.in_ok-draft.draft c.in_ok-counts.counts.items c.in_ok-counts.ensures.counted s)

pub returns-in_err-counts-clause-fault : goal.returns-in_err-counts-clause-fault
returns-in_err-counts-clause-fault c =
    let found = c.args.found in
    let m = found.memory.now in
    let full = c.in_ok-full.full.items in
    let draft = c.in_ok-draft.draft in
    let built = built_as found.memory.now found.last found.places.now found.marks.now
    found.inodes c.requires.found c.deref.result.now full draft c.deref.ensures.value c.in_ok-draft.ensures in
    let some : (s : ℕ) → s < m.segments → get_or full s 0 ≢ 0 =
    λ s low. let many = c.segments.ensures.segments in
    all_full full c.segments.result (c.in_ok-full.ensures.items_if_clones_equal (λ y e. e)) s (omega arith) in
    let p = err_from_is_err_and c.from_residual-in_err-counts.result c.from_residual-in_err-counts.ensures.1 in
    subst (λ r. IfErr r (IsBuildFault m)) (sym p.1)
    (subst (IsBuildFault m) (sym p.2)
    (files_fault found.memory.now found.last found.places.now found.marks.now
    found.inodes c.requires.found full draft built some _ c.in_err-counts.ensures.fault))

pub returns-clause-few : goal.returns-clause-few
returns-clause-few c = λ s.
    subst (λ (xs : List ℕ). get_or xs s 0 ≤ 32768) (sym (c.in_ok-live.ensures ∙ c.deref-2.ensures.value))
    (counts_most c.in_ok-draft.draft c.in_ok-counts.counts.items c.in_ok-counts.ensures.counted s)

pub returns-clause-stored : goal.returns-clause-stored
returns-clause-stored c = λ l is.
    let found = c.args.found in
    let counts = c.in_ok-counts.counts.items in
    let draft = c.in_ok-draft.draft in
    let full = c.deref.result.now in
    let some : (s : ℕ) → s < found.memory.now.segments → get_or full s 0 ≢ 0 =
    λ s low. let many = c.segments.ensures.segments in
    all_full full c.segments.result
    (c.deref.ensures.value ∙ c.in_ok-full.ensures.items_if_clones_equal (λ y e. e)) s (omega arith) in
    stands found.memory.now found.last found.places.now found.marks.now
    found.inodes c.requires.found full counts draft l some c.in_ok-draft.ensures
    (built_as found.memory.now found.last found.places.now found.marks.now
    found.inodes c.requires.found c.in_ok-live.live.items counts l (c.in_ok-live.ensures ∙ c.deref-2.ensures.value) is)
    c.in_ok-counts.ensures.end c.in_ok-counts.ensures.counted c.in_ok-counts.ensures.files

pub returns-clause-content : goal.returns-clause-content
returns-clause-content c = λ l is.
    let found = c.args.found in
    let counts = c.in_ok-counts.counts.items in
    let draft = c.in_ok-draft.draft in
    let full = c.deref.result.now in
    let some : (s : ℕ) → s < found.memory.now.segments → get_or full s 0 ≢ 0 =
    λ s low. let many = c.segments.ensures.segments in
    all_full full c.segments.result
    (c.deref.ensures.value ∙ c.in_ok-full.ensures.items_if_clones_equal (λ y e. e)) s (omega arith) in
    finds_all found.memory.now found.last found.places.now found.marks.now
    found.inodes c.requires.found full counts draft l some c.in_ok-draft.ensures
    (built_as found.memory.now found.last found.places.now found.marks.now
    found.inodes c.requires.found c.in_ok-live.live.items counts l (c.in_ok-live.ensures ∙ c.deref-2.ensures.value) is)
    c.in_ok-counts.ensures.end c.in_ok-counts.ensures.counted c.in_ok-counts.ensures.files
