use Rattle.std.proofs.Common.{◌≡◌, None, get_or, ap, sym, ◌∙◌, arith}
use Rattle.std.proofs.lemmas.List.{get_or_read_under}
use Rattle.lfs_known.specs.NamesSaid.{says}
use Rattle.lfs_known.specs.NameSlots.{said, slot_says}
use Rattle.lfs_known.proofs.SlotLemmas.{kept_long, kept_short}
use Rattle.lfs_known.proofs.names.NameCache.look.Goals as goal

pub returns-then-name-gt-KEPT_BYTES : goal.returns-then-name-gt-KEPT_BYTES
unfolding says
returns-then-name-gt-KEPT_BYTES c =
    sym (ap (said c.args.self.now.slots.items c.args.dir) (sym c.as_bytes-name.ensures.value)
    ∙ kept_long c.as_bytes-name.result.now _ (omega arith))

pub returns : goal.returns
unfolding says
returns c =
    let slots = c.args.self.now.slots in
    let name = c.as_bytes-name.result.now in
    let read : c.index.result.now ≡ get_or slots.items c.place_of.result None =
    get_or_read_under slots.items c.place_of.result slots.len c.index.result.now None c.index.ensures
    (omega arith) slots.ok.0 in
    c.found_in.ensures ∙ ap (λ s. slot_says s c.args.dir name) (read
    ∙ ap (λ p. get_or slots.items p None) c.place_of.ensures.value)
    ∙ sym (kept_short name _ (omega arith))
    ∙ ap (said slots.items c.args.dir) c.as_bytes-name.ensures.value
