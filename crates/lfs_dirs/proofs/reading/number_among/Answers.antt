use Rattle.std.proofs.Common.{◌≡◌, ℕ, List, refl, sym, ap, ◌∙◌, rules, Bor}
use Rattle.std.specs.Prelude.{find, option_map}
use Rattle.std.proofs.lemmas.Iterator.Consumers.{YieldsList-from_first}
use Rattle.std.proofs.lemmas.Iterator.Search.{find_from_yields_List}
use Rattle.lfs_dirs.specs.Directory.{Entry, has_name, number_in}
use Rattle.lfs_dirs.proofs.reading.number_among.Goals as goal

-- an item of the iterator as an entry
abbrev entry_of : ℕ × Bor (List ℕ) → Entry
entry_of item = (item.0, item.1.now)

pub returns-in_err-number : goal.returns-in_err-number
unfolding number_in
returns-in_err-number c =
    let found : option_map entry_of c.find.result ≡ find (has_name c.args.name.now) c.args.entries =
    find_from_yields_List (has_name c.args.name.now) _ _ c.find.result c.find.ensures.ran
    (YieldsList-from_first entry_of (λ (s : List Entry). s) c.args.entries refl)
    (λ x b q k. search rules) in
    c.from_residual.ensures
    ∙ sym (ap (λ r. option_map (λ (e : Entry). e.0) (option_map entry_of r)) c.in_err-number.was)
    ∙ ap (option_map (λ (e : Entry). e.0)) found

pub returns : goal.returns
unfolding number_in
returns c =
    let found : option_map entry_of c.find.result ≡ find (has_name c.args.name.now) c.args.entries =
    find_from_yields_List (has_name c.args.name.now) _ _ c.find.result c.find.ensures.ran
    (YieldsList-from_first entry_of (λ (s : List Entry). s) c.args.entries refl)
    (λ x b q k. search rules) in
    sym (ap (λ r. option_map (λ (e : Entry). e.0) (option_map entry_of r)) c.in_ok-number.was)
    ∙ ap (option_map (λ (e : Entry). e.0)) found
