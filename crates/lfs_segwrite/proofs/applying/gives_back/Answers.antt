use Rattle.std.proofs.Common.{◌≡◌, Option, None, Some, length, nat_lt, option_map, refl, sym, ap, ◌∙◌, arith}
use Rattle.std.proofs.lemmas.Bool.{le-ltb}
use Rattle.std.proofs.lemmas.Option.{none-some, same_Some}
use Rattle.lfs_types.specs.Stored.{bytes_of_file}
use Rattle.lfs_types.specs.Tree.{File, attrs_of}
use Rattle.lfs_types.specs.declared.attrs.Attrs.{Attrs}
use Rattle.lfs_inodes.specs.Facts.{block_count}
use Rattle.lfs_segwrite.specs.Applying.{gives_back}
use Rattle.lfs_parts.specs.Files.{content_of}
use Rattle.lfs_segwrite.proofs.applying.gives_back.Goals as goal

-- the size of a file is the number of its bytes
long : (o : Option File) (a : Attrs) → option_map attrs_of o ≡ Some a → length (bytes_of_file o) ≡ a.size
long None a e = absurd (none-some a e)
long (Some f) a e = ap (λ (b : Attrs). b.size) (same_Some _ _ e)

pub returns-in-Some : goal.returns-in-Some
returns-in-Some c =
    c.takes_fewer_blocks.ensures
    ∙ sym (ap (gives_back (content_of c.args.parts.now)) c.in-SetLength.is
    ∙ ap (λ n. nat_lt (block_count c.in-SetLength.len) (block_count n))
    (long _ c.in-Some.attrs (sym c.attrs.ensures ∙ c.in-Some.is)))

-- a file that is not there has no bytes
empty : (o : Option File) → option_map attrs_of o ≡ None → length (bytes_of_file o) ≡ 0
empty None e = refl
empty (Some f) e = absurd (none-some _ (sym e))

pub returns-in-Remove : goal.returns-in-Remove
returns-in-Remove c = sym (ap (gives_back (content_of c.args.parts.now)) c.in-Remove.is)

pub returns-in-None : goal.returns-in-None
returns-in-None c =
    sym (ap (gives_back (content_of c.args.parts.now)) c.in-SetLength.is
    ∙ ap (λ n. nat_lt (block_count c.in-SetLength.len) (block_count n))
    (empty _ (sym c.attrs.ensures ∙ c.in-None.is))
    ∙ le-ltb (block_count c.in-SetLength.len) 0 (omega arith))
