-- A journal that goes on twice goes on: the further entries of the second stand behind those of the first, and where it
-- was a legal run it is one after the first, and so after the second. A call of the cleaner has it go on by at most one
-- entry, as the volume says; of the store it changes no number, whether it made a segment clean or not.
use Rattle.std.proofs.Common.{◌≡◌, ℕ, List, [], ◌++◌, ◌∙◌, refl, sym, ap, subst, append_assoc, append-nil}
use Rattle.lfs_types.specs.Caller.{Caller}
use Rattle.lfs_types.specs.StoreStates.{StoreState}
use Rattle.lfs_types.specs.declared.cleaner.CleanerCall.{CleanerCall}
use Rattle.lfs_model.specs.declared.journal.CleanerAnswer.{CleanerAnswer}
use Rattle.lfs_model.specs.declared.journal.CleanerAnswer.TheVariants.{Refused, Denied, Fault, Ifile, Infos, Bmapv}
use Rattle.lfs_model.specs.declared.journal.CleanerAnswer.TheVariants.{Marked, Cleaned, Gained}
use Rattle.lfs_model.specs.declared.journal.Entry.{Entry}
use Rattle.lfs_model.specs.Runs.{kept_cleaning}
use Rattle.lfs_volume.specs.Cleanings.{CleansOnly}
use Rattle.lfs_volume.specs.Seen.{Seen}
use Rattle.lfs_mount.specs.Runs.{GoesOn, IsRun}

cleans_shape : (answer : CleanerAnswer) (old new : StoreState) → CleansOnly answer old new → new.shape ≡ old.shape
cleans_shape Cleaned old new is = ap (λ (s : StoreState). s.shape) is
cleans_shape (Refused resource) old new follows = follows.shape
cleans_shape (Denied denial) old new follows = follows.shape
cleans_shape (Fault fault) old new follows = follows.shape
cleans_shape (Ifile bytes) old new follows = follows.shape
cleans_shape (Infos infos) old new follows = follows.shape
cleans_shape (Bmapv infos) old new follows = follows.shape
cleans_shape (Marked count) old new follows = follows.shape
cleans_shape Gained old new follows = follows.shape

module _ {F : Type 0} (state : F → StoreState) where
  pub goes_on_none : (old new : Seen F) → new ≡ old → GoesOn state old new
  goes_on_none old new same = subst (λ (v : Seen F). GoesOn state old v) (sym same) (record {
    more = [];
    entered = sym (append-nil old.journal);
    since = refl;
    since_level = refl;
    limit = refl;
    shape = refl;
    legal = λ run. run;
  })

  pub goes_on_again : (old between new : Seen F) → GoesOn state old between → GoesOn state between new
      → GoesOn state old new
  goes_on_again old between new first second = record {
    more = first.more ++ second.more;
    entered = second.entered ∙ ap (λ (it : List Entry). it ++ second.more) first.entered
        ∙ append_assoc old.journal first.more second.more;
    since = second.since ∙ first.since;
    since_level = second.since_level ∙ first.since_level;
    limit = second.limit ∙ first.limit;
    shape = second.shape ∙ first.shape;
    legal = λ run. second.legal (first.legal run);
  }

  pub cleaned_goes : (session : ℕ) (caller : Caller) (call : CleanerCall) (answer : CleanerAnswer) (old new : Seen F)
      → new.journal ≡ old.journal ++ kept_cleaning session caller call answer → IsRun state new
      → CleansOnly answer (state old.store) (state new.store) → new.since ≡ old.since
      → new.since_level ≡ old.since_level → new.limit ≡ old.limit → GoesOn state old new
  cleaned_goes session caller call answer old new entered legal cleans since since_level limit = record {
    more = kept_cleaning session caller call answer;
    entered = entered;
    since = since;
    since_level = since_level;
    limit = limit;
    shape = cleans_shape answer (state old.store) (state new.store) cleans;
    legal = λ _. legal;
  }
