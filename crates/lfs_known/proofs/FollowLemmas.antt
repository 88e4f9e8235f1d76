-- What a table says after the slot of a number was put, and what changes of a content leave: `true_put`,
-- `changed-others` and `applied_next`, for each table that follows changes. A change touches the file of one number,
-- and the put the slot of that number, so what is said of another number was said before, of a file that is the same.
-- So only what is put has to be true, and what is said of the number then is what was put (`kept_only`), or nothing.
use Rattle.std.proofs.Common.{◌≡◌, ◌≢◌, ℕ, ◌+◌, ◌<◌, Bool, true, false, cond, List, [], ◌∷◌, ◌++◌, length, take, Option}
use Rattle.std.proofs.Common.{None, Some, refl, sym, ap, subst, ◌∙◌, ⊎_elim}
use Rattle.std.specs.Prelude.{get_or, nat_lt}
use Rattle.std.specs.FinMap as map
use Rattle.std.proofs.lemmas.Bool.{cases_eq}
use Rattle.std.proofs.lemmas.List.{take_more}
use Rattle.lfs_types.specs.Changes.{applied, changed, changed_at}
use Rattle.lfs_types.specs.Tree.{Content, File}
use Rattle.lfs_types.specs.declared.store.Change.{Change}
use Rattle.lfs_types.proofs.Maps.{get-insert_other}
use Rattle.lfs_known.specs.Says.{SaysTheSame, kept_of, says}
use Rattle.lfs_known.specs.declared.slots.Slots.{Slots}

-- changes and further ones are made one after the other
pub applied-append : (before after : List Change) (c : Content) → applied (before ++ after) c
    ≡ applied after (applied before c)
applied-append [] after c = refl
applied-append (change ∷ before) after c = applied-append before after (changed change c)

-- the first changes and the next one are the first ones, and then that one
pub applied_next : (changes : List Change) (i : ℕ) (change : Change) (c : Content) → i < length changes → change
    ≡ get_or changes i change
    → applied (take (i + 1) changes) c ≡ changed change (applied (take i changes) c)
applied_next changes i change c within is =
    ap (λ xs. applied xs c) (take_more changes i change within) ∙ applied-append (take i changes) _ c
    ∙ ap (λ x. changed x (applied (take i changes) c)) (sym is)

-- a change at a number leaves the others
pub changed-others : (c : Content) (number : ℕ) (o : Option File) (change : File → File) (n : ℕ) → n ≢ number
    → map.get (changed_at o number change c) n ≡ map.get c n
changed-others c number None change n apart = refl
changed-others c number (Some f) change n apart = get-insert_other c number (change f) n apart

module _ {T : Type 0} where
  -- what is kept of a number was put there
  pub kept_only : (number : ℕ) (value : Option T) (v : T) → kept_of number value ≡ Some v → value ≡ Some v
  kept_only number value v = at (nat_lt number 4096) where
    at : (b : Bool) → cond b value None ≡ Some v → value ≡ Some v
    at true kept = kept
    at false kept = absurd (cc)

  -- what is said after the slot of a number was put is true of the files, where a change touches that number's alone
  -- and what is said of it is true
  pub true_put : (P : Option File → T → Type 0) (old new : Slots T) (number : ℕ) (c after : Content)
      → SaysTheSame old new number
      → ((n : ℕ) → n ≢ number → map.get after n ≡ map.get c n)
      → ((v : T) → says new number ≡ Some v → P (map.get after number) v)
      → ((n : ℕ) (v : T) → says old n ≡ Some v → P (map.get c n) v) → (n : ℕ) (v : T) → says new n ≡ Some v
      → P (map.get after n) v
  true_put P old new number c after others kept here was n v said = ⊎_elim
      (λ same. subst (λ k. P (map.get after k) v) (sym same) (here v (sym (ap (says new) same) ∙ said)))
      (λ apart. subst (λ o. P o v) (sym (kept n apart)) (was n v (sym (others n apart) ∙ said)))
      (cases_eq n number)
