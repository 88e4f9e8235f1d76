use Rattle.std.proofs.Common.{◌≡◌, ◌<◌, ◌/◌, ℕ, true, false, List, [], ◌∷◌, length, Option, None, Some, is_some, refl}
use Rattle.std.proofs.Common.{sym, ap, subst, ◌∙◌, arith}
use Rattle.lfs_calls.proofs.DirBlockLemmas.{blocks_still, read_still, still_behind, still_first}
use Rattle.std.specs.Prelude.{MatchOption}
use Rattle.std.specs.Borrow.{Bor}
use Rattle.lfs_types.specs.Stored.{bytes_of}
use Rattle.lfs_dirs.specs.Directory.{Entry}
use Rattle.lfs_dirs.specs.Reading.{entries_of}
use Rattle.lfs_calls.specs.Content.{entries_below}
use Rattle.lfs_calls.specs.declared.directory.DirBlocks.{DirBlocks}
use Rattle.lfs_calls.proofs.Listings.{nothing_at_first, nothing_further, nothing_in_block}
use Rattle.lfs_calls.proofs.directory.is_empty_directory.Goals as goal

-- the first of entries, if there is one
abbrev IsFirst : Option (ℕ × Bor (List ℕ)) → List Entry → List Entry → Type 0
IsFirst o es rest = MatchOption o ((es ≡ []) × (rest ≡ [])) (λ e. es ≡ (e.0, e.1.now) ∷ rest)

no_first : (o : Option (ℕ × Bor (List ℕ))) (es rest : List Entry) → IsFirst o es rest → is_some o ≡ false → es ≡ []
no_first None es rest h e = h.0
no_first (Some x) es rest h e = absurd (cc)

some_first : (o : Option (ℕ × Bor (List ℕ))) (es rest : List Entry) → IsFirst o es rest → is_some o ≡ true → es ≡ [] → ⊥
some_first None es rest h e = absurd (cc)
some_first (Some x) es rest h e = λ none. absurd (cc)

pub next-requires : goal.next-requires
next-requires g c = blocks_still c.loop-stored.invariant.still c.requires

pub loop-stored-init : goal.loop-stored-init
loop-stored-init g c =
    let first = ap (λ (b : DirBlocks). b.next) c.new-blocks.ensures in
    let bytes = bytes_of (g.F.FileStore.state c.args.store.now).content c.args.dir in
    record {
      nothing = ap (entries_below bytes) first ∙ nothing_at_first bytes;
      within = omega (arith, first);
      still = still_first c.new-blocks.ensures refl;
    }

pub loop-stored-preserved : goal.loop-stored-preserved
loop-stored-preserved g c =
    let bytes = bytes_of (g.F.FileStore.state c.args.store.now).content c.args.dir in
    let invariant = c.loop-stored.invariant in
    let read = read_still invariant.still c.in-Some.ensures.next in
    let none = no_first c.next-in-Some.result c.entries.result c.next-in-Some.new.self c.next-in-Some.ensures.steps
    (sym c.is_some.ensures ∙ c.if-is_some.false) in
    record {
      nothing = ap (entries_below bytes) read.next ∙ nothing_further bytes c.loop-stored.blocks.next invariant.nothing
          (ap entries_of (sym read.is) ∙ sym c.entries.ensures.value ∙ none);
      within = omega (arith, read.next, read.within);
      still = still_behind invariant.still c.in-Some.ensures.next c.next.ensures.state;
    }

pub returns-then-is_some-clause-empty : goal.returns-then-is_some-clause-empty
returns-then-is_some-clause-empty g c =
    let bytes = bytes_of (g.F.FileStore.state c.args.store.now).content c.args.dir in
    let read = read_still c.loop-stored.invariant.still c.in-Some.ensures.next in
    let within : c.loop-stored.blocks.next < length bytes / 512 =
    subst (λ n. c.loop-stored.blocks.next < n / 512) c.requires.sized read.within in (
      λ h. absurd (cc),
      λ none. absurd (some_first c.next-in-Some.result c.entries.result c.next-in-Some.new.self
          c.next-in-Some.ensures.steps (sym c.is_some.ensures ∙ c.if-is_some.true)
          (c.entries.ensures.value ∙ ap entries_of read.is
          ∙ nothing_in_block bytes c.loop-stored.blocks.next within none)),
    )

pub returns-clause-empty : goal.returns-clause-empty
returns-clause-empty g c =
    let bytes = bytes_of (g.F.FileStore.state c.args.store.now).content c.args.dir in
    let invariant = c.loop-stored.invariant in
    let past = c.in_default.ensures.next.0 in
    let all : length bytes / 512 ≡ c.loop-stored.blocks.next =
    omega (arith, c.requires.sized, invariant.within, invariant.still.sized, past) in (
      λ h. ap (entries_below bytes) all ∙ invariant.nothing,
      λ none. refl,
    )
