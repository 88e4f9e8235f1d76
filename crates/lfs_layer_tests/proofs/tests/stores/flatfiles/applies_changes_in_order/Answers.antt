use Rattle.std.proofs.Common.{ap, ◌≡◌, ℕ, Bor, List, [], ◌∷◌, length, refl, sym, ◌∙◌, arith, vec_len}
use Rattle.std.specs.FinMap as map
use Rattle.lfs_types.specs.Tree.{File, Content, opening_content}
use Rattle.lfs_types.specs.Splicing.{splice}
use Rattle.lfs_types.specs.Changes.{CanApply, IsLength}
use Rattle.lfs_types.specs.declared.attrs.Attrs.{Attrs}
use Rattle.lfs_types.specs.declared.attrs.Kind.TheVariants.{File as Regular}
use Rattle.lfs_types.specs.declared.store.Change.TheVariants.{Make, SetAttrs, Put}
use Rattle.lfs_flatfiles.specs.FlatFiles.{content_of, with_bytes}
use Rattle.lfs_layer_tests.proofs.FirstChanges.{numbers_of, contents_of}
use Rattle.lfs_layer_tests.proofs.FirstChanges.{at_file, after, first_file, with_first, made_and_put}
use Rattle.lfs_layer_tests.proofs.tests.stores.flatfiles.applies_changes_in_order.Goals as goal

asked : (n : ℕ) (c : Content) (a b : Attrs) (p q : Bor (List ℕ)) → n ≡ 16 → c ≡ opening_content → a.kind ≡ Regular
    → b.kind ≡ Regular → p.now ≡ 97 ∷ 98 ∷ 99 ∷ [] → q.now ≡ 120 ∷ 121 ∷ []
    → CanApply n (Make 4 a ∷ Put 4 0 p ∷ Put 4 5 q ∷ SetAttrs 4 b ∷ []) c
asked n c a b p q is_n is_c is_a is_b is_p is_q =
    let first : File = first_file a p.now in
    let second : File = with_bytes 5 q.now first in
    let c2 : Content = with_first c a p.now in
    let fits_second : IsLength a.kind (length (splice (splice [] 0 p.now) 5 q.now)) =
    rw (is_a, is_p, is_q) (omega arith) in
    record {
      few = omega arith;
      few_puts = omega arith;
      few_lengths = omega arith;
      few_bytes = rw (is_p, is_q) (omega arith);
      each = made_and_put n c a p is_n is_c is_a (rw is_p (omega arith)) (Put 4 5 q ∷ SetAttrs 4 b ∷ []) (
        at_file _ 4 first (λ f. IsLength f.kind (length (splice f.bytes 5 q.now))) fits_second,
        after n _ 4 first (with_bytes 5 q.now) (SetAttrs 4 b ∷ [])
            (at_file c2 4 second (λ f. f.kind ≡ b.kind) (is_a ∙ sym is_b), tt),
      );
    }

pub apply-requires : goal.apply-requires
apply-requires g c =
    let store = c.fresh-store.result in
    asked (vec_len store.places) (content_of store.places.items) c.attrs_of-made.result c.attrs_of-set.result _ _
    (ap numbers_of c.fresh-store.ensures) (ap contents_of c.fresh-store.ensures) c.attrs_of-made.ensures
    c.attrs_of-set.ensures refl refl
