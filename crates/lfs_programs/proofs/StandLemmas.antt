-- What a store over a log store is kept as, and how a volume over it begins: `fresh_over` for `laid_out`, `image_over` for
-- `over`, `all_fresh` and `all_found` for those of `on_disk`, `saved_below` for `save`. An image of the log store that is
-- flushed keeps what the store shows at present, as both contain the same (`same_volume` of lfs_stands).
use Rattle.std.proofs.Common.{◌≡◌, ℕ, ◌∙◌, Bool, ap, sym, subst, [], Result, Ok, Err, IfErr, IfOk, IfSome, None, Some, Option, List}
use Rattle.lfs_types.specs.StoreStates.{StoreState}
use Rattle.lfs_types.specs.Tree.{opening_world}
use Rattle.lfs_types.specs.declared.level.Level.{Level}
use Rattle.lfs_types.specs.declared.level.Level.TheVariants.{HighlySecure, Insecure}
use Rattle.lfs_parts.specs.Store.{IsFlushed}
use Rattle.lfs_parts.specs.declared.parts.Parts.{Parts}
use Rattle.lfs_logstore.specs.States.{opening_state, state_of}
use Rattle.lfs_volume.specs.Journals.{AtPresent, Begins}
use Rattle.lfs_volume.specs.Seen.{Seen}
use Rattle.lfs_checking.specs.Files.{HasImage, IsFreshStore, IsLoaded}
use Rattle.lfs_disk_start.specs.Finding.{IsFoundOf, memory_of}
use Rattle.lfs_stands.specs.Stands.{Stand}
use Rattle.lfs_stands.proofs.OverLemmas.{same_volume}
use Rattle.lfs_programs.specs.Volumes.{HasSaved, IsFresh, IsOfDisk, IsOfImage}
use Rattle.lfs_programs.specs.declared.options.ShellOptions.{ShellOptions}

-- what holds anyway holds where there is something
pub if_some : {A : Type 0} (P : Type 0) (o : Option A) → P → IfSome o (λ _. P)
if_some P None holds = tt
if_some P (Some a) holds = holds

-- what holds of the value of a result that is Ok, or of its fault
pub ok_of : {A E : Type 0} (P : A → Type 0) (made : Result A E) (a : A) → made ≡ Ok a → IfOk made P → P a
ok_of {A} {E} P made a is holds = subst (λ (r : Result A E). IfOk r P) is holds

pub err_of : {A E : Type 0} (P : E → Type 0) (made : Result A E) (e : E) → made ≡ Err e → IfErr made P → P e
err_of {A} {E} P made e is holds = subst (λ (r : Result A E). IfErr r P) is holds

-- a volume over a store, at the beginning of its journal
abbrev pub first_seen : {S : Type 0} → S → Level → ℕ → Seen S
first_seen s level limit =
    record { store = s; level = level; since = s; since_level = level; journal = []; limit = limit }

-- a fresh one
pub fresh_over : {S : Type 0} (state : S → StoreState) (stand : Stand S) (serials : Bool) (options : ShellOptions)
    (log : Parts) (s : S) (v : Seen S) → stand.parts s ≡ log
    → state_of log ≡ opening_state options.params.segments options.params.inodes
    → IsFreshStore serials options.params log → v ≡ first_seen s Insecure options.params.journal
    → Begins (state v.since) v.since_level opening_world → IsFresh state stand serials options v
fresh_over {S} state stand serials options log s v on opening laid_out is begins =
    let at : stand.parts v.store ≡ log = ap (λ (x : Seen S). stand.parts x.store) is ∙ on in
    record {
      opening = ap state_of at ∙ opening;
      laid_out = subst (λ (p : Parts). IsFreshStore serials options.params p) (sym at) laid_out;
      empty = ap (λ (x : Seen S). x.journal) is;
      begins = begins;
      room = ap (λ (x : Seen S). x.limit) is;
    }

pub within_over : {S : Type 0} (stand : Stand S) (s : S) (v : Seen S) (level : Level) (limit : ℕ)
    → v ≡ first_seen s level limit → stand.within s → stand.within v.store
within_over {S} stand s v level limit is within =
    subst (λ (x : S). stand.within x) (sym (ap (λ (y : Seen S). y.store) is)) within

-- one of an image
pub image_over : {S : Type 0} (stand : Stand S) (options : ShellOptions) (log : Parts) (s : S) (level : Level)
    (v : Seen S) → stand.parts s ≡ log → IsLoaded options.params.frames log level
    → v ≡ first_seen s level options.params.journal → IsOfImage stand options v
image_over {S} stand options log s level v on loaded is =
    let at : stand.parts v.store ≡ log = ap (λ (x : Seen S). stand.parts x.store) is ∙ on in
    let leveled : v.level ≡ level = ap (λ (x : Seen S). x.level) is in
    record {
      loaded = subst (λ (l : Level). IsLoaded options.params.frames (stand.parts v.store) l) (sym leveled)
          (subst (λ (p : Parts). IsLoaded options.params.frames p level) (sym at) loaded);
      empty = ap (λ (x : Seen S). x.journal) is;
      room = ap (λ (x : Seen S). x.limit) is;
      since = ap (λ (x : Seen S). x.since) is ∙ sym (ap (λ (x : Seen S). x.store) is);
      since_level = ap (λ (x : Seen S). x.since_level) is ∙ sym leveled;
    }

-- one of a disk's blocks
pub found_over : {S : Type 0} (stand : Stand S) (options : ShellOptions) (blocks : List (List ℕ)) (log : Parts) (s : S)
    (v : Seen S) → stand.parts s ≡ log → IsFoundOf (memory_of blocks) options.params.frames log
    → v ≡ first_seen s HighlySecure options.params.journal → IsOfDisk stand options v
found_over {S} stand options blocks log s v on found is =
    let at : stand.parts v.store ≡ log = ap (λ (x : Seen S). stand.parts x.store) is ∙ on in
    record {
      blocks = blocks;
      found = subst (λ (p : Parts). IsFoundOf (memory_of blocks) options.params.frames p) (sym at) found;
      level = ap (λ (x : Seen S). x.level) is;
      empty = ap (λ (x : Seen S). x.journal) is;
      room = ap (λ (x : Seen S). x.limit) is;
      since = ap (λ (x : Seen S). x.since) is ∙ sym (ap (λ (x : Seen S). x.store) is);
      since_level = ap (λ (x : Seen S). x.since_level) is ∙ sym (ap (λ (x : Seen S). x.level) is);
    }

-- so of each that is made
pub all_stores : {S E : Type 0} (s : S) (level : Level) (limit : ℕ) (made : Result (Seen S) E)
    → IfOk made (λ v. v ≡ first_seen s level limit) → IfOk made (λ v. v.store ≡ s)
all_stores {S} s level limit (Ok v) is = ap (λ (x : Seen S). x.store) is
all_stores s level limit (Err fault) is = tt

pub all_fresh : {S E : Type 0} (state : S → StoreState) (stand : Stand S) (serials : Bool) (options : ShellOptions)
    (log : Parts) (s : S) (made : Result (Seen S) E) → stand.parts s ≡ log
    → state_of log ≡ opening_state options.params.segments options.params.inodes
    → IsFreshStore serials options.params log
    → IfOk made (λ v. v ≡ first_seen s Insecure options.params.journal)
    → IfOk made (λ v. Begins (state v.since) v.since_level opening_world)
    → IfOk made (IsFresh state stand serials options)
all_fresh state stand serials options log s (Ok v) on opening laid_out is begins =
    fresh_over state stand serials options log s v on opening laid_out is begins
all_fresh state stand serials options log s (Err fault) on opening laid_out is begins = tt

pub all_found : {S E : Type 0} (stand : Stand S) (options : ShellOptions) (blocks : List (List ℕ)) (log : Parts) (s : S)
    (made : Result (Seen S) E) → stand.parts s ≡ log → IsFoundOf (memory_of blocks) options.params.frames log
    → IfOk made (λ v. v ≡ first_seen s HighlySecure options.params.journal) → IfOk made (IsOfDisk stand options)
all_found stand options blocks log s (Ok v) on found is = found_over stand options blocks log s v on found is
all_found stand options blocks log s (Err fault) on found is = tt

-- what a talk left is kept where a file got the image of its log store
pub saved_below : {F S : Type 0} (contents : F → Option (List ℕ)) (state : S → StoreState) (stand : Stand S)
    (left : Seen S) (s : S) (log : Parts) (level : Level) → log ≡ stand.parts s
    → (state s).content ≡ (state_of (stand.parts s)).content → IsFlushed (stand.parts s)
    → AtPresent state left (Begins (state s) level) → HasImage contents log.log level → HasSaved contents state left
saved_below contents state stand left s log level is contains flushed shown image = record {
  store = stand.parts s;
  level = level;
  flushed = flushed;
  shown = λ from begun.
      let b = shown from begun in
      record { shown = same_volume (state s) (state_of (stand.parts s)) _ contains b.shown; at_level = b.at_level };
  image = subst (λ (p : Parts). HasImage contents p.log level) is image;
}
