-- What a table of names says stays so behind changes of which it is known what they name (`placed_besides`, for
-- `follow_besides`): how many blocks directories have is followed change by change (`sized_forgotten`, `sized_attrs`,
-- `sized_put`, for `follow_size`), and where names stand is told of all changes together. A directory that wasn't known
-- isn't known then, so each that is known had its names placed before.
use Rattle.std.proofs.Common.{◌≡◌, ◌≢◌, ℕ, ◌*◌, ◌/◌, ⊎_elim, List, length, Option, None, Some, refl, sym}
use Rattle.std.proofs.Common.{subst, ◌∙◌, arith}
use Rattle.std.specs.Prelude.{IfSome, IsSome}
use Rattle.std.specs.FinMap as map
use Rattle.std.proofs.lemmas.Bool.{cases_eq}
use Rattle.lfs_types.specs.Changes.{changed_at}
use Rattle.lfs_types.specs.Splicing.{splice}
use Rattle.lfs_types.specs.Stored.{bytes_of, bytes_of_file}
use Rattle.lfs_types.specs.Tree.{Content, File, file_of}
use Rattle.lfs_types.specs.declared.attrs.Attrs.{Attrs}
use Rattle.lfs_known.specs.Says.{SaysTheSame, says}
use Rattle.lfs_known.specs.Spots.{ArePlaced, AreSized, IsGrown, IsPlaced, MayStand, StandsBesides}
use Rattle.lfs_known.specs.declared.name_table.NameTable.{NameTable}
use Rattle.lfs_known.specs.declared.slots.Slots.{Slots}
use Rattle.lfs_known.specs.declared.spot.Spot.{Spot}
use Rattle.lfs_known.proofs.FollowLemmas.{changed-others, true_put}
use Rattle.lfs_known.proofs.FullLemmas.{changed-bytes}
use Rattle.lfs_known.proofs.PutLemmas.{length_put}
use Rattle.lfs_known.proofs.SpotLemmas.{Keeps}

-- what bytes that were put leave of a directory's size
abbrev pub IsSizedBy : Slots ℕ → ℕ → ℕ → ℕ → ℕ → Type 0
IsSizedBy old ino off long now = (blocks : ℕ) × ((says old ino ≡ Some blocks) × IsGrown blocks off long now)

-- ---- sizes

-- of no number more is something said, where that goes for one and the others say the same
pub fewer_at : (old new : Slots ℕ) (ino : ℕ) → SaysTheSame old new ino
    → (IsSome (says new ino) → IsSome (says old ino)) → (d : ℕ) → IsSome (says new d) → IsSome (says old d)
fewer_at old new ino others here d some = ⊎_elim
    (λ same. subst (λ x. IsSome (says old x)) (sym same) (here (subst (λ x. IsSome (says new x)) same some)))
    (λ apart. subst IsSome (others d apart) some)
    (cases_eq d ino)

-- so where it is forgotten
pub fewer_forgotten : (old new : Slots ℕ) (ino : ℕ) → SaysTheSame old new ino → says new ino ≡ None → (d : ℕ)
    → IsSome (says new d) → IsSome (says old d)
fewer_forgotten old new ino others forgotten = fewer_at old new ino others (λ some. absurd (cc))

-- and where bytes were put
pub fewer_put : (old new : Slots ℕ) (ino off long : ℕ) → SaysTheSame old new ino
    → IfSome (says new ino) (IsSizedBy old ino off long) → (d : ℕ) → IsSome (says new d) → IsSome (says old d)
fewer_put old new ino off long others known = fewer_at old new ino others (at (says new ino) refl) where
  at : (o : Option ℕ) → says new ino ≡ o → IsSome (says new ino) → IsSome (says old ino)
  at None e some = absurd (cc)
  at (Some now) e some =
      let is : IsSizedBy old ino off long now = subst (λ o. IfSome o (IsSizedBy old ino off long)) e known in
      subst IsSome (sym is.1.0) refl

-- what is said after the slot of a number was put is so, where a change touches that number alone and it is so there
sized_at : (old new : Slots ℕ) (ino : ℕ) (c after : Content) → SaysTheSame old new ino
    → ((q : ℕ) → q ≢ ino → map.get after q ≡ map.get c q)
    → ((blocks : ℕ) → says new ino ≡ Some blocks → length (bytes_of after ino) ≡ 512 * blocks)
    → AreSized old c → AreSized new after
sized_at = true_put (λ o blocks. length (bytes_of_file o) ≡ 512 * blocks)

-- a number was forgotten, and nothing else was changed than its file
pub sized_forgotten : (old new : Slots ℕ) (ino : ℕ) (c after : Content) → SaysTheSame old new ino → says new ino ≡ None
    → ((q : ℕ) → q ≢ ino → map.get after q ≡ map.get c q) → AreSized old c → AreSized new after
sized_forgotten old new ino c after others forgotten kept = sized_at old new ino c after others kept
    (λ blocks said. absurd (cc))

-- attributes leave bytes
pub sized_attrs : (whole : Slots ℕ) (ino : ℕ) (attrs : Attrs) (c : Content) → AreSized whole c
    → AreSized whole (changed_at (map.get c ino) ino (λ f. file_of attrs f.bytes) c)
sized_attrs whole ino attrs c was = sized_at whole whole ino c _ (λ n apart. refl)
    (changed-others c ino (map.get c ino) (λ f. file_of attrs f.bytes))
    (λ blocks said. changed-bytes c ino (λ f. file_of attrs f.bytes) (λ bytes. length bytes ≡ 512 * blocks)
    (λ f e. subst (λ o. length (bytes_of_file o) ≡ 512 * blocks) e (was ino blocks said))
    (λ e. subst (λ o. length (bytes_of_file o) ≡ 512 * blocks) e (was ino blocks said)))
    was

-- a block that is put leaves a directory with as many blocks as were counted
length_grown : (bytes : List ℕ) (off : ℕ) (block : List ℕ) (blocks now : ℕ) → IsGrown blocks off (length block) now
    → length bytes ≡ 512 * blocks → length (splice bytes off block) ≡ 512 * now
length_grown bytes off block blocks now grown long =
    length_put bytes (off / 512) off block grown.block (omega (arith, grown.aligned))
    (omega (arith, grown.within, long))
    ∙ omega (arith, long, grown.count, grown.aligned)

-- bytes were put into a file
pub sized_put : (old new : Slots ℕ) (ino : ℕ) (c : Content) (off : ℕ) (bytes : List ℕ) → SaysTheSame old new ino
    → IfSome (says new ino) (IsSizedBy old ino off (length bytes))
    → AreSized old c → AreSized new (changed_at (map.get c ino) ino
    (λ f. record f { bytes = splice f.bytes off bytes }) c)
sized_put old new ino c off bytes others known was = sized_at old new ino c _ others
    (changed-others c ino (map.get c ino) put)
    (λ now said.
    let is : IsSizedBy old ino off (length bytes) now =
    subst (λ o. IfSome o (IsSizedBy old ino off (length bytes))) said known in
    let here : length (bytes_of c ino) ≡ 512 * is.0 = was ino is.0 is.1.0 in
    changed-bytes c ino put (λ bs. length bs ≡ 512 * now)
    (λ f e. length_grown f.bytes off bytes is.0 now is.1.1
    (subst (λ o. length (bytes_of_file o) ≡ 512 * is.0) e here))
    (λ e.
    let none : 0 ≡ 512 * is.0 = subst (λ o. length (bytes_of_file o) ≡ 512 * is.0) e here in
    absurd (omega (arith, none, is.1.1.some))))
    was where
      put : File → File
      put f = record f { bytes = splice f.bytes off bytes }

-- ---- where names stand

-- a name was entered where it may stand besides, and sizes were followed
pub placed_besides : (old : NameTable) (spots : List Spot) (mid new : Slots ℕ) (c after : Content) (dir : ℕ)
    (name : List ℕ) (k : ℕ)
    → mid ≡ old.whole → Keeps old.spots.items spots
    → (IsSome (says old.whole dir) → MayStand spots dir name k)
    → (AreSized mid c → AreSized new after)
    → ((d : ℕ) → IsSome (says new d) → IsSome (says mid d))
    → ArePlaced old c → StandsBesides c after dir name k
    → (d blocks : ℕ) → says new d ≡ Some blocks → IsPlaced spots d (bytes_of after d) blocks
placed_besides old spots mid new c after dir name k same keeps entered sized fewer was besides d blocks said =
    at (says old.whole d) refl
  where
    knew : IsSome (says old.whole d)
    knew = subst (λ (w : Slots ℕ). IsSome (says w d)) same (fewer d (subst IsSome (sym said) refl))

    sizes : AreSized mid c
    sizes = subst (λ (w : Slots ℕ). AreSized w c) (sym same) (λ q b e. (was q b e).long)

    at : (o : Option ℕ) → says old.whole d ≡ o → IsPlaced spots d (bytes_of after d) blocks
    at None e = let some : IsSome (says old.whole d) = knew in absurd (cc)
    at (Some before) e = record {
      long = sized sizes d blocks said;
      stands = λ n j stands. ⊎_elim
          (λ stood. keeps d n j ((was d before e).stands n j stood))
          (λ it.
          subst (λ x. MayStand spots x n j) (sym it.0)
          (subst (λ x. MayStand spots dir x j) (sym it.1)
          (subst (MayStand spots dir name) (sym it.2)
          (entered (subst (λ x. IsSome (says old.whole x)) it.0 knew)))))
          (besides d n j stands);
    }
