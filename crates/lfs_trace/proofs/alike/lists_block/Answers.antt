use Rattle.std.proofs.Common.{◌≡◌, [], ◌∷◌, ◌++◌, List, Some, sym, ap, subst, ◌∙◌, append_assoc}
use Rattle.std.proofs.lemmas.List.Elements.{All-push}
use Rattle.lfs_types.specs.StoreStates.{StoreState}
use Rattle.lfs_types.specs.Stored.{bytes_of}
use Rattle.lfs_dirs.specs.Directory.{AreEntries, Entry, number_in}
use Rattle.lfs_calls.specs.Content.{all_entries}
use Rattle.lfs_trace.specs.Checking.{plain_state}
use Rattle.lfs_trace.proofs.alike.lists_block.Goals as goal

pub loop-number-preserved : goal.loop-number-preserved
loop-number-preserved c =
    let invariant = c.loop-number.invariant in
    let mine = bytes_of (plain_state c.args.plain.now).content c.args.directory in
    let e : Entry = (c.in-Some.number, c.in-Some.name.now) in
    let steps : c.loop-number.number-iterator ≡ e ∷ c.next.new.self = c.in-Some.ensures.steps in
    let done = invariant.listed.0 in
    let is = c.in_ok-lists_entry.ensures.listed.0 c.if-not-branch.false in
    let here : number_in e.1 (all_entries mine) ≡ Some e.0 =
    subst (λ (s : StoreState). number_in e.1 (all_entries (bytes_of s.content c.args.directory)) ≡ Some e.0)
    invariant.state is in
    record {
      can_next = tt;
      is_finite = tt;
      left = (subst AreEntries steps invariant.left).2;
      listed = (
        done ++ e ∷ [],
        invariant.listed.1 ∙ ap (λ (es : List Entry). done ++ es) steps ∙ sym (append_assoc done (e ∷ []) c.next.new.self),
        All-push (λ (x : Entry). number_in x.1 (all_entries mine) ≡ Some x.0) done e invariant.listed.2 here,
      );
      state = c.lists_entry.ensures.plain ∙ invariant.state;
    }
