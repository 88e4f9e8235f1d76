-- A walk goes from number to number until all that it reached are read: `stands_first` and `all_read` for `reach_all`,
-- `reads_next`, `passes_file` and `passes_directory` for `read_number`. Numbers are read in the order in which they
-- were reached, so those read are the front of that list, and the next is at its place; a file is passed by, a
-- directory when all its entries were read (Turning). Where no next number comes, all were read; the walk ends as each
-- number is reached once, and there are only so many.
use Rattle.std.proofs.Common.{◌≡◌, ◌+◌, ◌<◌, ◌≤◌, ℕ, false, List, [], ◌∷◌, ◌++◌, length, take, get_or, None, Some, refl}
use Rattle.std.proofs.Common.{sym, ap, subst, ◌∙◌, ⊎_elim}
use Rattle.std.specs.Prelude.{slice_get}
use Rattle.std.proofs.lemmas.Bool.{cases_lt}
use Rattle.std.proofs.lemmas.List.{take_all}
use Rattle.std.proofs.lemmas.Option.{get_or_from_slice_get, slice_get-get_or, slice_get_within}
use Rattle.lfs_types.specs.Stored.{bytes_of}
use Rattle.lfs_types.specs.Tree.{Content, root}
use Rattle.lfs_dirs.specs.Directory.{Entry}
use Rattle.lfs_calls.specs.Content.{IsDirectoryAt, AreBlocks, all_entries}
use Rattle.lfs_trees.specs.declared.walk.Walk.{Walk}
use Rattle.lfs_trees.specs.Faults.{IsBelow}
use Rattle.lfs_trees.specs.Files.{AreFiles}
use Rattle.lfs_trees.specs.Marks.{is_among}
use Rattle.lfs_trees.specs.Walks.{HasRead, IsReading, Reaches, Stands, Steps, done_of}
use Rattle.lfs_trees.proofs.Numbers.{among-before, read_more}
use Rattle.lfs_trees.proofs.Rooting.{reaches_root}
use Rattle.lfs_trees.proofs.Turning.{pass_directory, pass_file, turn}

-- a walk that reached the root alone, and read nothing
pub stands_first : (c : Content) (w : Walk) → IsDirectoryAt c root → w.order.items ≡ root ∷ [] → w.done ≡ 0 → Stands c w
stands_first c w directory alone none =
    let before : done_of w ≡ [] = ap (λ k. take k w.order.items) none in
    subst (λ ns. Reaches c ns (done_of w) 0 []) (sym alone)
    (subst (λ ns. Reaches c (root ∷ []) ns 0 []) (sym before) (reaches_root c directory))

-- where no number comes next, all were read
pub all_read : (c : Content) (w : Walk) → slice_get w.order.items w.done ≡ None → Stands c w → HasRead c w
all_read c w none stands =
    let past : length w.order.items ≤ w.done = ⊎_elim
    (λ within. let some = slice_get-get_or w.order.items w.done 0 within in absurd (cc))
    (λ past. past)
    (cases_lt w.done (length w.order.items)) in
    subst (λ ns. Reaches c w.order.items ns 0 []) (take_all w.done w.order.items past) stands

-- a walk that reads a directory began to read it
pub from_here : (c : Content) (old new : Walk) (dir : ℕ) (es : List Entry) → IsReading c old new dir es
    → IsReading c new new dir es
from_here c old new dir es h = record {
  bounded = h.bounded;
  files = h.files;
  directory = h.directory;
  within = h.within;
  next = h.next;
  apart = h.apart;
  entries = h.entries;
  reaches = h.reaches;
  done = refl;
  numbers = refl;
}

-- one that goes on reads it since it began
pub further : (c : Content) (old mid new : Walk) (dir : ℕ) (es fs : List Entry)
    → IsReading c old mid dir es → IsReading c mid new dir fs → IsReading c old new dir fs
further c old mid new dir es fs h k = record {
  bounded = k.bounded;
  files = k.files;
  directory = k.directory;
  within = k.within;
  next = k.next;
  apart = k.apart;
  entries = k.entries;
  reaches = k.reaches;
  done = k.done ∙ h.done;
  numbers = k.numbers ∙ h.numbers;
}

module _ (c : Content) (w : Walk) (number : ℕ) (stands : Stands c w) (next : slice_get w.order.items w.done
    ≡ Some number) where
  inside : w.done < length w.order.items
  inside = slice_get_within w.order.items w.done number next

  here : get_or w.order.items w.done 0 ≡ number
  here = get_or_from_slice_get w.order.items w.done number 0 next

  -- a directory that comes next is read
  pub reads_next : IsBelow (length w.marks.items) c → AreFiles c → IsDirectoryAt c number → IsReading c w w number []
  reads_next bounded files directory = record {
    bounded = bounded;
    files = files;
    directory = directory;
    within = inside;
    next = here;
    apart = subst (λ n. is_among (done_of w) n ≡ false) here
        (among-before w.order.items w.done w.marked.distinct inside);
    entries = tt;
    reaches = turn c w.order.items (done_of w) 0 number stands;
    done = refl;
    numbers = refl;
  }

  -- what comes next and is no directory is passed by
  pub passes_file : (new : Walk) → (IsDirectoryAt c number → ⊥) → new.done ≡ w.done + 1 → new.order.items
      ≡ w.order.items
      → length new.marks.items ≡ length w.marks.items → Steps c w new
  passes_file new none done order numbers = record {
    stands =
        let before : done_of new ≡ done_of w ++ number ∷ [] =
        ap (λ k. take k new.order.items) done ∙ ap (take (w.done + 1)) order
        ∙ read_more w.order.items w.done number inside here in
        subst (λ ns. Reaches c ns (done_of new) 0 []) (sym order)
        (subst (λ ns. Reaches c w.order.items ns 0 []) (sym before)
        (pass_file c w.order.items (done_of w) number none stands));
    done = done;
    numbers = numbers;
  }

-- a directory of which all was read is passed by
pub passes_directory : (c : Content) (old w new : Walk) (dir : ℕ) → IsReading c old w dir (all_entries (bytes_of c dir))
    → AreBlocks (bytes_of c dir)
    → new.done ≡ w.done + 1 → new.order.items ≡ w.order.items → length new.marks.items ≡ length w.marks.items
    → Steps c old new
passes_directory c old w new dir h blocks done order numbers = record {
  stands =
      let before : done_of new ≡ done_of w ++ dir ∷ [] =
      ap (λ k. take k new.order.items) done ∙ ap (take (w.done + 1)) order
      ∙ read_more w.order.items w.done dir h.within h.next in
      subst (λ ns. Reaches c ns (done_of new) 0 []) (sym order)
      (subst (λ ns. Reaches c w.order.items ns 0 []) (sym before)
      (pass_directory c w.order.items (done_of w) dir h.apart blocks h.entries h.reaches));
  done = done ∙ ap (λ n. n + 1) h.done;
  numbers = numbers ∙ h.numbers;
}
