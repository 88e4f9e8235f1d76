use Rattle.std.proofs.Common.{[], ◌∷◌, ◌++◌, ap, append-nil, refl, sym, ◌∙◌}
use Rattle.lfs_browse.specs.declared.visit.Visit.TheVariants.{Names}
use Rattle.lfs_browse.proofs.WalkLemmas.{entry_taken, led_directory, led_nowhere, row_told}
use Rattle.lfs_browse.proofs.walk.Walk.take_entry.Goals as goal

pub returns-in_ok-push : goal.returns-in_ok-push
returns-in_ok-push c =
    let path = c.args.path.now in
    let pending = c.args.self.now.pending.items in
    entry_taken c.args.self.now (record c.args.self.now { pending = c.push.new.self; text = c.push_row.new.out }) path
    c.args.name.now c.args.answer.now (Names path ∷ []) refl
    (led_directory path c.args.name.now c.args.answer.now
    (sym c.shows_directory.ensures ∙ c.if-shows_directory.true)) refl
    (c.in_ok-push.ensures.items
    ∙ ap (λ p. pending ++ Names p ∷ []) c.in_ok-directory.ensures)
    (row_told c.args.self.now.root path c.names.result.now c.saturating_sub-below.result c.saturating_sub.result
    c.args.name.now c.args.answer.now c.args.self.now.text.items c.push_indent.new.out.items c.push_row.new.out.items
    c.names.ensures.value c.saturating_sub-below.ensures c.saturating_sub.ensures c.in_ok-push_indent.ensures
    c.in_ok-push_row.ensures)

pub returns-else-shows_directory : goal.returns-else-shows_directory
returns-else-shows_directory c =
    let path = c.args.path.now in
    let pending = c.args.self.now.pending.items in
    entry_taken c.args.self.now (record c.args.self.now { text = c.push_row.new.out }) path
    c.args.name.now c.args.answer.now [] refl
    (led_nowhere path c.args.name.now c.args.answer.now
    (sym c.shows_directory.ensures ∙ c.if-shows_directory.false)) refl (sym (append-nil pending))
    (row_told c.args.self.now.root path c.names.result.now c.saturating_sub-below.result c.saturating_sub.result
    c.args.name.now c.args.answer.now c.args.self.now.text.items c.push_indent.new.out.items c.push_row.new.out.items
    c.names.ensures.value c.saturating_sub-below.ensures c.saturating_sub.ensures c.in_ok-push_indent.ensures
    c.in_ok-push_row.ensures)
