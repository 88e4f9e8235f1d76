use Rattle.std.proofs.Common.{◌≡◌, ◌<◌, ◌∙◌, ap, arith, get_or, length, subst}
use Rattle.std.proofs.Math.ListN.{set}
use Rattle.lfs_types.specs.declared.cleaner.BlockInfo.{BlockInfo}
use Rattle.lfs_parts.specs.Keys.{log_state}
use Rattle.lfs_segwrite.proofs.NamedLemmas.{named_address}
use Rattle.lfs_logstore.specs.Cleaning.{with_address}
use Rattle.lfs_logstore.proofs.AddressLemmas.{mapped_all, mapped_more, mapped_none}
use Rattle.lfs_logstore.proofs.cleaning.LogStoreCleanedStore.bmapv.Goals as goal

-- an info that names nothing
abbrev nothing : BlockInfo
nothing = record { ino = 0; version = 0; lbn = 0; addr = 0 }

pub loop-info-init : goal.loop-info-init
loop-info-init c = mapped_none (with_address c.args.self.now) c.args.infos.now

pub loop-info-preserved : goal.loop-info-preserved
loop-info-preserved c =
    let inside : c.loop-info.info-index < length c.loop-info.info-items = omega arith in
    let info = get_or c.loop-info.info-items c.loop-info.info-index nothing in
    let given = c.present_address-info.ensures in
    let at = named_address (log_state c.self.inside.parts) info c.present_address-info.result given.known given.unknown
    in
    let is : record info { addr = c.present_address-info.result } ≡ with_address c.args.self.now info =
    subst (λ p. record info { addr = c.present_address-info.result } ≡ with_address p info) c.self.view_is
    (ap (λ (a : _). record info { addr = a }) at) in
    ap (λ x. set c.loop-info.info-items c.loop-info.info-index x) is
    ∙ mapped_more (with_address c.args.self.now) c.loop-info.info-index _ c.args.infos.now c.loop-info.info-items
    nothing c.loop-info.invariant inside (omega arith)

pub returns-clause-given : goal.returns-clause-given
returns-clause-given c = c.loop-info.invariant
    ∙ mapped_all (with_address c.args.self.now) c.loop-info.info-index c.args.infos.now (omega arith)
