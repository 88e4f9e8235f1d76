use Rattle.std.proofs.Common.{◌≡◌, None, get_or, ap, ◌∙◌, arith}
use Rattle.std.proofs.lemmas.Grind.{common_steps}
use Rattle.lfs_known.specs.Places.{place_of}
use Rattle.lfs_known.specs.NamesSaid.{says}
use Rattle.lfs_known.specs.NameSlots.{kept_of, slot_says}
use Rattle.lfs_known.proofs.SlotLemmas.{kept_none}
use Rattle.lfs_known.proofs.names.NameCache.new.Goals as goal

pub returns : goal.returns
unfolding says
returns c dir name =
    let empty : get_or c.in_ok-slots.slots.items (place_of dir name) None
    ≡ None = grind (arith, common_steps, c.in_ok-slots.ensures.items_if_clones_equal) in
    ap (λ s. kept_of name (slot_says s dir name)) empty ∙ kept_none name
