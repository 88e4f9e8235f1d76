use Rattle.std.proofs.Common.{◌≡◌, ◌/◌, ◌<◌, ◌≤◌, length, refl, sym, ap, subst, ◌∙◌}
use Rattle.lfs_types.specs.StoreStates.{StoreState}
use Rattle.lfs_types.specs.Stored.{bytes_of}
use Rattle.lfs_types.specs.declared.limits.TheConstants.{FILE_BYTES}
use Rattle.lfs_dirs.specs.Directory.{IsDirectoryBlock}
use Rattle.lfs_dirs.specs.Reading.{entries_of}
use Rattle.lfs_calls.specs.Content.{block_at}
use Rattle.lfs_trace.specs.Alike.{AreListed}
use Rattle.lfs_trace.specs.Checking.{plain_state}
use Rattle.lfs_trace.proofs.ListedLemmas.{block_listed, dir_block, dir_bounded, dir_whole, more_listed, none_listed}
use Rattle.lfs_trace.proofs.alike.lists_all.Goals as goal

pub loop-index-init : goal.loop-index-init
loop-index-init g c = record {
  listed = none_listed (bytes_of (plain_state c.args.plain.now).content c.args.directory.number)
      (bytes_of (g.F.FileStore.state c.args.store.now).content c.args.directory.number);
  plain = refl;
  state = refl;
}

pub block_of-block-requires-clause-bounded : goal.block_of-block-requires-clause-bounded
block_of-block-requires-clause-bounded g c =
    let world = c.requires.world in
    subst (λ (s : StoreState). length (bytes_of s.content c.args.directory.number) ≤ FILE_BYTES)
    (sym c.loop-index.invariant.state)
    (dir_bounded (g.F.FileStore.state c.args.store.now).content world.0 world.1.shows c.args.directory.number
    c.requires.other)

pub lists_block-requires-clause-block : goal.lists_block-requires-clause-block
lists_block-requires-clause-block g c =
    let world = c.requires.world in
    let bytes = bytes_of (g.F.FileStore.state c.args.store.now).content c.args.directory.number in
    let within : c.loop-index.index < length bytes / 512 =
    subst (λ n. c.loop-index.index < n) c.requires.blocks c.loop-index-test.true in
    subst (λ b. IsDirectoryBlock b (entries_of b)) (sym (c.block_of-block.ensures.block
    ∙ ap (λ (s : StoreState). block_at (bytes_of s.content c.args.directory.number) c.loop-index.index)
    c.loop-index.invariant.state))
    (dir_block (g.F.FileStore.state c.args.store.now).content world.0 world.1.shows c.args.directory.number
    c.requires.other c.loop-index.index within)

pub loop-index-preserved : goal.loop-index-preserved
loop-index-preserved g c =
    let number = c.args.directory.number in
    let k = c.loop-index.index in
    let mine = bytes_of (plain_state c.args.plain.now).content number in
    let bytes = bytes_of (g.F.FileStore.state c.args.store.now).content number in
    let same : bytes_of (plain_state c.loop-index.plain).content number ≡ mine =
    ap (λ (s : StoreState). bytes_of s.content number) c.loop-index.invariant.plain in
    let block : c.block_of-block.result ≡ block_at bytes k = c.block_of-block.ensures.block
    ∙ ap (λ (s : StoreState). block_at (bytes_of s.content number) k) c.loop-index.invariant.state in
    let is = c.in_ok-lists_block.ensures.listed.0 c.if-not-branch.false in
    record {
      listed = more_listed mine bytes k c.loop-index.invariant.listed
          (subst (λ b. AreListed mine (entries_of b)) block
          (subst (λ m. AreListed m (entries_of c.block_of-block.result)) same is));
      plain = c.lists_block.ensures.plain ∙ c.loop-index.invariant.plain;
      state = c.block_of-block.ensures.state ∙ c.loop-index.invariant.state;
    }

pub returns-then-not-branch-clause-listed : goal.returns-then-not-branch-clause-listed
returns-then-not-branch-clause-listed g c = (
  λ t. absurd (cc),
  λ all.
      let world = c.requires.world in
      let number = c.args.directory.number in
      let k = c.loop-index.index in
      let mine = bytes_of (plain_state c.args.plain.now).content number in
      let bytes = bytes_of (g.F.FileStore.state c.args.store.now).content number in
      let same : bytes_of (plain_state c.loop-index.plain).content number ≡ mine =
      ap (λ (s : StoreState). bytes_of s.content number) c.loop-index.invariant.plain in
      let block : c.block_of-block.result ≡ block_at bytes k = c.block_of-block.ensures.block
      ∙ ap (λ (s : StoreState). block_at (bytes_of s.content number) k) c.loop-index.invariant.state in
      let within : k < length bytes / 512 = subst (λ n. k < n) c.requires.blocks c.loop-index-test.true in
      let whole = dir_whole (g.F.FileStore.state c.args.store.now).content world.0 world.1.shows number c.requires.other
      in
      let here = block_listed mine bytes k whole within all in
      let listed = c.in_ok-lists_block.ensures.listed.1
      (subst (λ m. AreListed m (entries_of c.block_of-block.result)) (sym same)
      (subst (λ b. AreListed mine (entries_of b)) (sym block) here)) in
      let no = c.if-not-branch.true in
      absurd (cc),
)
