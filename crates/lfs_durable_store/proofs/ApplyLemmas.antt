-- What changes of a durable store come to that were made (`came`), what it keeps behind them (`came_kept`), and its
-- state (`came_applies`).
use Rattle.std.proofs.Common.{◌≡◌, ◌⊎◌, Bool, true, false, List, All, Ok, Err, sym, ap, subst, inl, inr, ◌∙◌, arith}
use Rattle.std.proofs.lemmas.Bool.{false≢true}
use Rattle.lfs_types.specs.StoreStates.{Applies, StoreState}
use Rattle.lfs_types.specs.declared.store.Change.{Change}
use Rattle.lfs_types.specs.declared.store.Reserve.{Reserve}
use Rattle.lfs_types.specs.declared.store.StoreRefusal.{StoreRefusal}
use Rattle.lfs_segments.specs.Memory.{room_of}
use Rattle.lfs_staging.specs.Changing.{StaysInLog}
use Rattle.lfs_staging.proofs.StagedLemmas.{stays-refl}
use Rattle.lfs_parts.specs.declared.parts.Parts.{Parts}
use Rattle.lfs_parts.specs.Store.{IsFlushed}
use Rattle.lfs_segwrite.specs.Applying.{IsInReach, MakesChanges}
use Rattle.lfs_logstore.specs.Answering as log
use Rattle.lfs_logstore.specs.States.{state_of}
use Rattle.lfs_durable.proofs.KeptLemmas.{writes_can_be_found}
use Rattle.lfs_durable_store.specs.Answering.{ComesTo, SettlesIfPast, WritesFirst}
use Rattle.lfs_durable_store.specs.Fitting.{Fits, FitsWith}
use Rattle.lfs_durable_store.specs.declared.mark.Mark.{Mark}
use Rattle.lfs_durable_store.specs.Keeping.{Durably, IsKept, durable_state, settled}
use Rattle.lfs_durable_store.proofs.CallLemmas.{came_base, durable_applies, settled_state, written_applies}
use Rattle.lfs_durable_store.proofs.FitLemmas.{made_fits, made_stays}
use Rattle.lfs_durable_store.proofs.KeepLemmas.{kept_since, kept_written}

module _ (changes : List Change) (by : Reserve) (old before : Durably) (p : Parts) (new : Durably)
    (reach : All IsInReach changes) (kept : IsKept before) (way : WritesFirst changes old before)
    (comes : log.ComesTo before.store changes by (Ok tt) p) (was : Bool)
    (behind : SettlesIfPast p before.base was new.store new.base)
    (mark : new.mark ≡ record { is_whole = was; turn = before.mark.turn }) where
  makes : MakesChanges by changes before.store p
  makes = comes.makes

  ready : FitsWith changes before.store ⊎ IsFlushed before.store
  ready = elim way [
    | inl nothing ↦ inl (subst (λ (d : Durably). FitsWith changes d.store) (sym nothing.1) nothing.0)
    | inr wrote ↦ inr wrote.1.settles.written.flushed
  ]

  stays : StaysInLog before.store p
  stays = made_stays changes by before.store p makes reach ready

  -- the store where nothing was written behind the changes
  abbrev left : Durably
  left = record { store = p; base = before.base; mark = record { is_whole = false; turn = before.mark.turn } }

  left_is : new.store ≡ p → new.base ≡ before.base → was ≡ false → new ≡ left
  left_is store base none = λ i. record {
    store = store i;
    base = base i;
    mark = (mark ∙ ap (λ (w : Bool). record { is_whole = w; turn = before.mark.turn }) none) i;
  }

  -- and where what waited was
  own_is : new.base ≡ new.store → was ≡ true → new ≡ settled new.mark.turn new.store
  own_is base told = λ i. record {
    store = new.store;
    base = base i;
    mark = record { is_whole = (ap (λ (m : Mark). m.is_whole) mark ∙ told) i; turn = new.mark.turn };
  }

  pub came_kept : IsKept new
  came_kept =
      let found = writes_can_be_found before.store p makes.log kept.found in
      let left_room = ap room_of stays.memory in
      elim behind [
        | inl nothing ↦
            let fits = nothing.0 in
            subst IsKept (sym (left_is nothing.1 nothing.2 nothing.3))
            (kept_since before kept p left.mark stays.memory found (omega arith) (λ told. absurd (false≢true told)))
        | inr wrote ↦ subst IsKept (sym (own_is wrote.2 wrote.3))
            (kept_written new.mark.turn p new.store found wrote.1)
      ]

  pub came : ComesTo old changes by (Ok tt) new
  came = record {
    before = before;
    first = way;
    staged = p;
    comes = comes;
    stays = stays;
    behind = elim behind [
      | inl nothing ↦ inl (nothing.0, left_is nothing.1 nothing.2 nothing.3)
      | inr past ↦ elim way [
        | inl nothing ↦
            let fit = subst (λ (d : Durably). FitsWith changes d.store) (sym nothing.1) nothing.0 in
            let few = made_fits changes by before.store p makes reach fit in
            let short = past.0 in
            absurd (omega arith)
        | inr wrote ↦ inr (record {
          flushed = wrote.1.settles.written.flushed;
          own = wrote.1.settles.base;
          short = past.0;
          settles = record { written = past.1; base = own_is past.2 past.3 };
        })
      ]
    ];
    refused = tt;
  }

  -- from the store that way was made to
  pub came_from : (at : Durably) → before ≡ at → (c : ComesTo old changes by (Ok tt) new) × (c.before ≡ at)
  unfolding came
  came_from at same = (came, same)

  pub came_applies : Applies (state_of before.store) changes (Ok tt) (state_of p)
      → Applies (durable_state old) changes (Ok tt) (durable_state new)
  came_applies applies =
      let same : state_of before.store ≡ state_of old.store = elim way [
        | inl nothing ↦ ap (λ (d : Durably). state_of d.store) nothing.1
        | inr wrote ↦ settled_state old before wrote.1
      ] in
      let from = subst (λ (s : StoreState). Applies s changes (Ok tt) (state_of p)) same applies in
      durable_applies old new changes (Ok tt) (elim behind [
        | inl nothing ↦ subst (λ (q : Parts). Applies (state_of old.store) changes (Ok tt) (state_of q))
            (sym nothing.1) from
        | inr wrote ↦ written_applies old.store changes p new.store wrote.1 from
      ]) (came_base old new changes by (Ok tt) came)

-- What changes come to that were refused: all is as it was behind what was written first.
module _ (changes : List Change) (by : Reserve) (old before : Durably) (refusal : StoreRefusal) (p : Parts)
    (kept : IsKept before) (way : WritesFirst changes old before)
    (comes : log.ComesTo before.store changes by (Err refusal) p) where
  abbrev left_so : Durably
  left_so = record { store = p; base = before.base; mark = before.mark }

  pub refused_from : (new at : Durably) → new ≡ left_so → before ≡ at
      → (c : ComesTo old changes by (Err refusal) new) × (c.before ≡ at)
  refused_from new at is same =
      let stood : p ≡ before.store = comes.refused in (
        record {
          before = before;
          first = way;
          staged = p;
          comes = comes;
          stays = subst (StaysInLog before.store) (sym stood) (stays-refl before.store);
          behind = inl (subst Fits (sym stood) kept.fits, is);
          refused = is ∙ (λ i. record { store = stood i; base = before.base; mark = before.mark });
        },
        same,
      )
