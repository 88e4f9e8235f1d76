use Rattle.std.proofs.Common.{Err, IsSome, ap, inl, inr, refl, subst, sym, ◌∙◌}
use Rattle.lfs_types.specs.declared.cleaner.CleanFault.TheVariants.{NotGainful}
use Rattle.lfs_parts.specs.declared.parts.Parts.{Parts}
use Rattle.lfs_segwrite.specs.Gaining.{IsGainful, NoneIsGainful}
use Rattle.lfs_disk_store.specs.CleanerCalls.{GainsRoom}
use Rattle.lfs_disk_store.specs.Keeping.{OnDisk}
use Rattle.lfs_disk_store.proofs.GainLemmas.{eights_none, gains_none, gains_on_disk, same_disk, served}
use Rattle.lfs_disk_store.proofs.StateLemmas.{none_of, some_of}
use Rattle.lfs_disk_store.proofs.cleaning.DiskStoreCleanedStore.gain_room.Goals as goal

pub returns-then-is_some-clause-given : goal.returns-then-is_some-clause-given
returns-then-is_some-clause-given g c =
    let d = g.D.BlockDisk in
    gains_none d.time d.left_since c.args.self.now c.sync-synced.new.self c.sync-synced.ensures.comes
    (subst (λ (s : OnDisk _). IsSome s.fault) c.self.view_is
    (some_of c.self.inside.fault c.is_some.result c.is_some.ensures c.if-is_some.true))

pub returns-in_default-clause-given : goal.returns-in_default-clause-given
returns-in_default-clause-given g c =
    let d = g.D.BlockDisk in
    let synced = c.sync-synced.new.self in
    let none = sym (ap (λ (s : OnDisk _). s.fault) c.self.view_is)
    ∙ none_of c.self.inside.fault c.is_some.result c.is_some.ensures c.if-is_some.false in
    let settles = served d.time d.left_since c.args.self.now synced c.sync-synced.ensures.comes none in
    let is = c.parts.ensures.parts ∙ c.log.ensures.log ∙ ap (λ (s : OnDisk _). s.store.store) c.self.view_is in
    inr (gains_on_disk d.time d.left_since c.args.self.now synced synced synced settles
    (eights_none d.time d.left_since synced settles.settles.settles.base) (same_disk synced) refl (Err NotGainful) tt refl
    (inr (inl (subst NoneIsGainful is c.in_default.ensures))))

pub returns-then-not-empty_segment-clause-given : goal.returns-then-not-empty_segment-clause-given
returns-then-not-empty_segment-clause-given g c =
    let d = g.D.BlockDisk in
    let synced = c.sync-synced.new.self in
    let emptied = c.empty_segment.new.store in
    let none = sym (ap (λ (s : OnDisk _). s.fault) c.self.view_is)
    ∙ none_of c.self.inside.fault c.is_some.result c.is_some.ensures c.if-is_some.false in
    let settles = served d.time d.left_since c.args.self.now synced c.sync-synced.ensures.comes none in
    inr (gains_on_disk d.time d.left_since c.args.self.now synced emptied emptied settles
    c.empty_segment.ensures.0 (same_disk emptied) refl (Err NotGainful) tt refl (inr (inr c.empty_segment.ensures.1)))

pub returns-in-Ok-clause-given : goal.returns-in-Ok-clause-given
returns-in-Ok-clause-given g c =
    let d = g.D.BlockDisk in
    let synced = c.sync-synced.new.self in
    let given = c.in-Ok.ensures.given in
    let none = sym (ap (λ (s : OnDisk _). s.fault) c.self.view_is)
    ∙ none_of c.self.inside.fault c.is_some.result c.is_some.ensures c.if-is_some.false in
    let settles = served d.time d.left_since c.args.self.now synced c.sync-synced.ensures.comes none in
    let is = c.parts.ensures.parts ∙ c.log.ensures.log ∙ ap (λ (s : OnDisk _). s.store.store) c.self.view_is in
    inr (gains_on_disk d.time d.left_since c.args.self.now synced c.empty_segment.new.store c.segclean.new.self
    settles c.empty_segment.ensures.0 given.disk given.reclaims.log.ok.memory _
    (c.in-Some.segment, subst (λ (p : Parts). IsGainful p c.in-Some.segment) is c.in-Some.ensures, given) tt tt)

pub returns-in-Err-clause-given : goal.returns-in-Err-clause-given
returns-in-Err-clause-given g c =
    let d = g.D.BlockDisk in
    let synced = c.sync-synced.new.self in
    let emptied = c.empty_segment.new.store in
    let none = sym (ap (λ (s : OnDisk _). s.fault) c.self.view_is)
    ∙ none_of c.self.inside.fault c.is_some.result c.is_some.ensures c.if-is_some.false in
    let settles = served d.time d.left_since c.args.self.now synced c.sync-synced.ensures.comes none in
    subst (GainsRoom d.time d.left_since c.args.self.now (Err NotGainful)) (sym c.in-Err.ensures.refused)
    (inr (gains_on_disk d.time d.left_since c.args.self.now synced emptied emptied settles
    c.empty_segment.ensures.0 (same_disk emptied) refl (Err NotGainful) tt refl (inr (inr c.empty_segment.ensures.1))))
