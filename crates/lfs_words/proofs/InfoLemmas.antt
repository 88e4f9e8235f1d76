-- Infos are read one by one: `infos_more`, `infos_refused`, `infos_all` and `infos_few`, for the loop of `info::infos`.
-- All infos are those read so far with whatever the rest of the words is read as, or the rest's fault; so a further
-- info moves from the rest to them, a word that is none is the fault of the whole, and with no word left they are all.
use Rattle.std.proofs.Common.{◌≡◌, ℕ, suc, ◌+◌, ◌<◌, ◌≤◌, List, [], ◌∷◌, ◌++◌, length, map, drop, get_or, Result, Ok}
use Rattle.std.proofs.Common.{Err, Bor, refl, ◌∙◌, append_assoc, add-one}
use Rattle.std.proofs.Math.ListN.{drop_of_length-le}
use Rattle.std.proofs.Math.Seq.{drop-cons}
use Rattle.std.proofs.lemmas.Bool.{le-ltb}
use Rattle.std.proofs.lemmas.List.{append-nil, get_or-map, length-map}
use Rattle.lfs_types.specs.declared.cleaner.BlockInfo.{BlockInfo}
use Rattle.lfs_words.specs.Infos.{info_of, infos_of, infos_within}
use Rattle.lfs_words.specs.Faults.{◌>>=◌}
use Rattle.lfs_words.specs.declared.fault.FaultKind.{FaultKind}

joined : (read : Result (List BlockInfo) FaultKind) (done : List BlockInfo) (info : BlockInfo)
    → ((read >>= (λ infos. Ok (info ∷ infos))) >>= (λ rest. Ok (done ++ rest)))
    ≡ (read >>= (λ rest. Ok ((done ++ info ∷ []) ++ rest)))
joined (Ok rest) done info = rw append_assoc refl
joined (Err kind) done info = refl

-- the words behind references
abbrev pub shown : List (Bor (List ℕ)) → List (List ℕ)
shown refs = map (λ x. x.now) refs

first_of : (refs : List (Bor (List ℕ))) (i : ℕ) (d : Bor (List ℕ)) → i < length refs → drop i (shown refs)
    ≡ (get_or refs i d).now ∷ drop (suc i) (shown refs)
first_of refs i d lt =
    let within : i < length (shown refs) = rw length-map lt in
    drop-cons (shown refs) i [] within ∙ rw (get_or-map (λ (x : Bor (List ℕ)). x.now) refs i d [] lt) refl

-- one more info is read
pub infos_more : (refs : List (Bor (List ℕ))) (i : ℕ) (d : Bor (List ℕ)) (done : List BlockInfo) (info : BlockInfo)
    → i < length refs → info_of ((get_or refs i d).now) ≡ Ok info → infos_of (shown refs)
    ≡ (infos_of (drop i (shown refs)) >>= (λ rest. Ok (done ++ rest))) → infos_of (shown refs)
    ≡ (infos_of (drop (i + 1) (shown refs)) >>= (λ rest. Ok ((done ++ info ∷ []) ++ rest)))
unfolding infos_of
infos_more refs i d done info lt read so_far =
    so_far ∙ rw (first_of refs i d lt, read, add-one) (joined (infos_of (drop (suc i) (shown refs))) done info)

-- an info is refused
pub infos_refused : (refs : List (Bor (List ℕ))) (i : ℕ) (d : Bor (List ℕ)) (done : List BlockInfo) (kind : FaultKind)
    → i < length refs → info_of ((get_or refs i d).now) ≡ Err kind → infos_of (shown refs)
    ≡ (infos_of (drop i (shown refs)) >>= (λ rest. Ok (done ++ rest))) → infos_of (shown refs) ≡ Err kind
unfolding infos_of
infos_refused refs i d done kind lt read so_far =
    so_far ∙ rw (first_of refs i d lt, read) refl

-- all infos are read
pub infos_all : (refs : List (Bor (List ℕ))) (i : ℕ) (done : List BlockInfo) → length refs ≤ i → infos_of (shown refs)
    ≡ (infos_of (drop i (shown refs)) >>= (λ rest. Ok (done ++ rest))) → infos_of (shown refs) ≡ Ok done
unfolding infos_of
infos_all refs i done le so_far =
    let past : length (shown refs) ≤ i = rw length-map le in
    so_far ∙ rw (drop_of_length-le (shown refs) past, append-nil done) refl

-- there are not too many
pub infos_few : (refs : List (Bor (List ℕ))) (most : ℕ) → length refs ≤ most → infos_within most (shown refs)
    ≡ infos_of (shown refs)
infos_few refs most le =
    let few : length (shown refs) ≤ most = rw length-map le in
    rw (le-ltb most (length (shown refs)) few) refl
