use Rattle.std.proofs.Common.{◌≡◌, ℕ, zero, suc, ◌<◌, [], ◌∷◌, None, Some, inl, refl, sym, ap, subst, ◌∙◌, arith}
use Rattle.std.specs.List.{slice_get}
use Rattle.std.specs.Option.{option_map}
use Rattle.lfs_segments.specs.Log.{entry_at}
use Rattle.lfs_segments.specs.Memory.{block_at}
use Rattle.lfs_segments.specs.Serial.{IsSummaryWith}
use Rattle.lfs_inodes.specs.Attributes.{attributes_from}
use Rattle.lfs_inodes.specs.declared.inode.Inode.{Inode}
use Rattle.lfs_inodes.specs.Reading.{fields_in, fields_of}
use Rattle.lfs_inodes.specs.Slots.{slot_of}
use Rattle.lfs_parts.specs.Opening.{inodes_entry}
use Rattle.lfs_parts.proofs.format.write_root.Goals as goal

-- a list of one has nothing behind its first
none_behind : (v : Inode) (k : ℕ) → 0 < k → slice_get (v ∷ []) k ≡ None
none_behind v zero behind = absurd (omega arith)
none_behind v (suc k) behind = refl

pub returns-clause-written : goal.returns-clause-written
returns-clause-written c =
    let memory = c.put.new.self.memory in
    let serial = c.args.log.now.memory.serial in
    let active : memory.active ≡ 0 = c.put.ensures.extends.active ∙ c.begin.ensures.extends.active
    ∙ c.requires.active in
    let between : c.begin.new.self.memory.active ≡ 0 = c.begin.ensures.extends.active ∙ c.requires.active in
    let first : c.put.result ≡ 2 = omega (
      arith,
      c.requires.active,
      c.requires.filled,
      c.begin.ensures.next,
      c.put.ensures.address,
    ) in
    let began = c.begin.new.self.memory in
    let start : c.begin.result ≡ 1 = omega (arith, c.requires.active, c.requires.filled, c.begin.ensures.address) in
    let kept : block_at memory 1 ≡ block_at began c.begin.result =
    c.put.ensures.extends.blocks 1 (inl (omega (
      arith,
      between,
      c.requires.filled,
      c.requires.active,
      c.begin.ensures.next,
    ))) ∙ ap (block_at began) (sym start) in
    let names = c.put.ensures.names inodes_entry [] c.begin.ensures.expects in
    let attributes = c.new-root.ensures.attributes ∙ ap (λ a. attributes_from 2 1 a 0) c.root_attrs.ensures in
    let addresses = c.new-root.ensures.addresses in
    record {
      active = active;
      filled = omega (arith, c.requires.active, c.requires.filled, c.begin.ensures.next, c.put.ensures.next);
      ready = c.put.ensures.expects inodes_entry [] c.begin.ensures.expects;
      next = c.put.ensures.serial ∙ c.begin.ensures.serial;
      summary = subst (λ b. IsSummaryWith serial b 0 1 (inodes_entry ∷ [])) (sym kept)
          (subst (λ s. IsSummaryWith serial (block_at began c.begin.result) s 1 (inodes_entry ∷ [])) c.requires.active
          (subst (λ o. IsSummaryWith serial (block_at began c.begin.result) c.args.log.now.memory.active o
          (inodes_entry ∷ [])) c.requires.filled c.begin.ensures.summary));
      entry = ap (entry_at memory) (sym first) ∙ names;
      root = ap (λ a. fields_in (slot_of (block_at memory a) 0)) (sym first)
          ∙ ap (λ b. fields_in (slot_of b 0)) c.put.ensures.block ∙ c.packed.ensures.reading 0 (omega arith)
          ∙ (λ i. Some (record { attributes = attributes i; addresses = addresses i }));
      alone = λ k behind below. ap (λ a. fields_in (slot_of (block_at memory a) k)) (sym first)
          ∙ ap (λ b. fields_in (slot_of b k)) c.put.ensures.block ∙ c.packed.ensures.reading k below
          ∙ ap (option_map fields_of) (none_behind c.new-root.result k behind);
    }

pub returns-clause-rising : goal.returns-clause-rising
returns-clause-rising c = λ rising.
    c.put.ensures.rising inodes_entry [] c.begin.ensures.expects (c.begin.ensures.rising rising)

pub returns-clause-label : goal.returns-clause-label
returns-clause-label c =
    let filled = c.requires.filled in
    let active = c.requires.active in
    let next = c.begin.ensures.next in
    c.put.ensures.extends.blocks 0 (inl (omega arith)) ∙ c.begin.ensures.extends.blocks 0 (inl (omega arith))
