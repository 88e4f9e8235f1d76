use Rattle.std.proofs.Common.{All, false, ◌≡◌, subst, sym}
use Rattle.lfs_types.specs.Naming.{stops}
use Rattle.lfs_types.proofs.Cuts.{clean_any}
use Rattle.lfs_types.proofs.name.ShortBytes.is_name.Goals as goal

pub fault_of_part-requires : goal.fault_of_part-requires
fault_of_part-requires c =
    let clean = clean_any _ (subst (All (λ b. stops b ≡ false)) (sym c.as_slice.ensures) c.requires) in
    record { no_slash = clean.0; no_nul = clean.1 }
