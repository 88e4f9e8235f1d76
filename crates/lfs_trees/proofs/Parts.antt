-- A block of a directory is read entry by entry: `part_more` and `part_fault`, for `read_block`. The invariant HasPart
-- says that what was read and what is left is the block, that the names so far are those kept, and that the walk
-- reaches a tree with the rows read (IsReading); an entry more is a row more (Entering). What an entry is refused for
-- is a fault of the content itself (`part_fault`): the entry is listed only if its name is none of those before it, so
-- a name found twice is told before anything else.
use Rattle.std.proofs.Common.{◌≡◌, ◌+◌, ◌<◌, ℕ, true, false, List, [], ◌∷◌, ◌++◌, length, take, get_or, None, Some, sym}
use Rattle.std.proofs.Common.{ap, subst, ◌∙◌, arith, append_assoc, length-append}
use Rattle.std.specs.Prelude.{bytes_eq, ◌||◌}
use Rattle.std.proofs.lemmas.List.{get_or_append_left}
use Rattle.std.specs.FinMap as map
use Rattle.lfs_types.specs.Stored.{bytes_of}
use Rattle.lfs_types.specs.Tree.{Content}
use Rattle.lfs_types.proofs.Somewhere.{not_some, there_of}
use Rattle.lfs_dirs.specs.Directory.{Entry, AreEntries, IsEntry, number_in}
use Rattle.lfs_dirs.proofs.Changes.{AreEntries-added}
use Rattle.lfs_model.proofs.Children.{child-answer}
use Rattle.lfs_calls.specs.Content.{all_entries}
use Rattle.lfs_calls.specs.Names.{Lists}
use Rattle.lfs_trees.specs.declared.fault.TreeFault.{TreeFault}
use Rattle.lfs_trees.specs.declared.fault.TreeFault.TheVariants.{Root, Reserved, Length, Block, NameTwice, RootListed}
use Rattle.lfs_trees.specs.declared.fault.TreeFault.TheVariants.{Unused, NumberTwice, Unreached, Memory}
use Rattle.lfs_trees.specs.declared.names.Names.{Names}
use Rattle.lfs_trees.specs.declared.walk.Walk.{Walk}
use Rattle.lfs_trees.specs.Faults.{IsBelow, IsTreeFaultOf}
use Rattle.lfs_trees.specs.Marks.{is_among}
use Rattle.lfs_trees.specs.Walks.{HasNames, IsEntered, IsEntryFault, IsReading, Reaches, done_of, has}
use Rattle.lfs_trees.proofs.Entering.{entered}
use Rattle.lfs_trees.proofs.Listing.{found_behind, named_behind}
use Rattle.lfs_trees.proofs.Numbers.{among-place, read_same}
use Rattle.lfs_trees.proofs.Turning.{so_far-here}

-- entries of a directory of which some were read, and these are left up to a place
pub record HasPart (c : Content) (old new : Walk) (names : Names) (dir : ℕ) (all left : List Entry) : Type 0 where
  pub read : List Entry
  pub parts : read ++ left ≡ all
  pub reading : IsReading c old new dir read
  pub named : HasNames names read
  pub entries : AreEntries left

module _ (c : Content) (old walk : Walk) (names : Names) (dir : ℕ) (all left rest behind : List Entry) (e : Entry)
    (h : HasPart c old walk names dir all left) (first : left ≡ e ∷ rest) (whole : all_entries (bytes_of c dir) ≡ all
    ++ behind) where
  -- the directory lists the entry behind those that were read
  listed : all_entries (bytes_of c dir) ≡ h.read ++ e ∷ (rest ++ behind)
  listed = whole ∙ ap (λ es. es ++ behind) (sym h.parts ∙ ap (λ es. h.read ++ es) first)
      ∙ append_assoc h.read (e ∷ rest) behind

  no_name : has names e.1 ≡ false → number_in e.1 h.read ≡ None
  no_name new_name = not_some _ (sym (h.named e.1) ∙ new_name)

  lists : has names e.1 ≡ false → Lists c dir e.1 e.0
  lists new_name = record {
    directory = h.reading.directory;
    listed = ap (number_in e.1) listed ∙ found_behind e h.read (rest ++ behind) (no_name new_name);
  }

  -- an entry's fault is one of the content
  pub part_fault : (fault : TreeFault) → IsEntryFault c walk names dir e fault → IsTreeFaultOf c fault
  part_fault Root w = absurd w
  part_fault (Reserved n) w = absurd w
  part_fault (Length n) w = absurd w
  part_fault (Block d k) w = absurd w
  part_fault (NameTwice d n) w =
      subst (λ x. IsTreeFaultOf c (NameTwice x n)) (sym w.0) (subst (λ m. IsTreeFaultOf c (NameTwice dir m)) (sym w.1) (
        h.reading.directory,
        record {
          name = e.1;
          before = h.read;
          behind = rest ++ behind;
          parts = listed;
          again = sym (h.named e.1) ∙ w.2;
        },
      ))
  part_fault (RootListed d) w =
      subst (λ x. IsTreeFaultOf c (RootListed x)) (sym w.0) (e.1, subst (Lists c dir e.1) w.1 (lists w.2))
  part_fault (Unused d n) w =
      subst (λ x. IsTreeFaultOf c (Unused x n)) (sym w.0) ((e.1, subst (Lists c dir e.1) (sym w.1) (lists w.3)), w.2)
  part_fault (NumberTwice n) w =
      let rows = h.reading.reaches.0 in
      let reached = h.reading.reaches.1 in
      let row = there_of (map.get rows n) (reached.reached n ∙ w.1) in
      record {
        one = row.value.parent;
        one_name = row.value.name;
        other = dir;
        other_name = e.1;
        first = reached.listed n row.value row.is w.2;
        second = subst (Lists c dir e.1) (sym w.0) (lists w.3);
        apart = λ parents named.
            let found = child-answer rows reached.tree.unique dir e.1 (Some n)
            (record { row = row.value; there = row.is; below = w.2; hangs = parents; named = named }) in
            let none = reached.later dir h.reading.apart e.1 ∙ ap (number_in e.1) (so_far-here dir h.read)
            ∙ no_name w.3 in
            absurd (cc);
      }
  part_fault (Unreached n) w = absurd w
  part_fault Memory w = tt

  module _ (new : Walk) (after : Names) (w : IsEntered c walk names e new after) where
    is : IsEntry e × (number_in e.1 rest ≡ None) × AreEntries rest
    is = subst AreEntries first h.entries

    reached_dir : is_among walk.order.items dir ≡ true
    reached_dir = subst (λ n. is_among walk.order.items n ≡ true) h.reading.next
        (among-place walk.order.items walk.done h.reading.within)

    same_done : done_of new ≡ done_of walk
    same_done =
        ap (λ k. take k new.order.items) w.done ∙ ap (take walk.done) w.order
        ∙ read_same walk.order.items walk.done e.0 (let inside = h.reading.within in omega arith)

    reaches : Reaches c new.order.items (done_of new) dir (h.read ++ e ∷ [])
    reaches =
        let rows = h.reading.reaches.0 in
        let f = there_of (map.get c e.0) w.used in
        let one = entered c walk.order.items (done_of walk) dir h.read rows h.reading.reaches.1
        h.reading.directory reached_dir h.reading.apart e f.value f.is
        ((h.reading.files e.0 f.value f.is).numbered w.below) w.below w.new_number (no_name w.new_name)
        (lists w.new_name) in
        subst (λ ns. Reaches c ns (done_of new) dir (h.read ++ e ∷ [])) (sym w.order)
        (subst (λ ns. Reaches c (walk.order.items ++ e.0 ∷ []) ns dir (h.read ++ e ∷ [])) (sym same_done) (_, one))

    within : new.done < length new.order.items
    within =
        let inside = h.reading.within in
        let long : length new.order.items ≡ length walk.order.items + 1 = ap length w.order
        ∙ length-append walk.order.items (e.0 ∷ []) in
        let same = w.done in
        omega arith

    -- the entry is read
    pub part_more : HasPart c old new after dir all rest
    part_more = record {
      read = h.read ++ e ∷ [];
      parts = append_assoc h.read (e ∷ []) rest ∙ ap (λ es. h.read ++ es) (sym first) ∙ h.parts;
      reading = record {
        bounded = subst (λ n. IsBelow n c) (sym w.numbers) h.reading.bounded;
        files = h.reading.files;
        directory = h.reading.directory;
        within = within;
        next = ap (λ k. get_or new.order.items k 0) w.done ∙ ap (λ ns. get_or ns walk.done 0) w.order
            ∙ get_or_append_left walk.order.items (e.0 ∷ []) 0 walk.done h.reading.within ∙ h.reading.next;
        apart = ap (λ ns. is_among ns dir) same_done ∙ h.reading.apart;
        entries = AreEntries-added h.read e h.reading.entries is.0 (no_name w.new_name);
        reaches = reaches;
        done = w.done ∙ h.reading.done;
        numbers = w.numbers ∙ h.reading.numbers;
      };
      named = λ name. w.names name ∙ ap (λ b. bytes_eq e.1 name || b) (h.named name) ∙ sym (named_behind name e h.read);
      entries = is.2;
    }
