use Rattle.std.proofs.Common.{ap, ◌≡◌, ℕ, Bor, List, [], ◌∷◌, refl, arith, vec_len}
use Rattle.lfs_types.specs.Changes.{CanApply}
use Rattle.lfs_types.specs.Tree.{Content, opening_content}
use Rattle.lfs_types.specs.declared.attrs.Attrs.{Attrs}
use Rattle.lfs_types.specs.declared.attrs.Kind.TheVariants.{File as Regular}
use Rattle.lfs_types.specs.declared.store.Change.TheVariants.{Make, Put}
use Rattle.lfs_flatfiles.specs.FlatFiles.{content_of}
use Rattle.lfs_layer_tests.proofs.FirstChanges.{numbers_of, contents_of}
use Rattle.lfs_layer_tests.proofs.FirstChanges.{made_and_put}
use Rattle.lfs_layer_tests.proofs.tests.stores.flatfiles.gives_out_a_removed_number.Goals as goal

asked : (n : ℕ) (c : Content) (a : Attrs) (p : Bor (List ℕ)) → n ≡ 16 → c ≡ opening_content → a.kind ≡ Regular → p.now
    ≡ 97 ∷ 98 ∷ 99 ∷ [] → CanApply n (Make 4 a ∷ Put 4 0 p ∷ []) c
asked n c a p is_n is_c is_a is_p = record {
  few = omega arith;
  few_puts = omega arith;
  few_lengths = omega arith;
  few_bytes = rw is_p (omega arith);
  each = made_and_put n c a p is_n is_c is_a (rw is_p (omega arith)) [] tt;
}

pub apply-requires : goal.apply-requires
apply-requires g c =
    let store = c.fresh-store.result in
    asked (vec_len store.places) (content_of store.places.items) c.attrs_of-made.result _
    (ap numbers_of c.fresh-store.ensures) (ap contents_of c.fresh-store.ensures) c.attrs_of-made.ensures refl
