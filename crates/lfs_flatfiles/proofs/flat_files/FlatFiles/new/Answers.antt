use Rattle.std.proofs.Common.{◌<◌, [], length, None, is_some, ap, ◌∙◌, arith}
use Rattle.std.specs.FinMap as map
use Rattle.lfs_types.specs.Tree.{file_of}
use Rattle.lfs_flatfiles.specs.FlatFiles.{shape_of}
use Rattle.lfs_types.specs.Ranges.{most_segments}
use Rattle.lfs_flatfiles.proofs.FlatFilesContent.{file_in-set_other, content_of-set, content_of-none}
use Rattle.lfs_flatfiles.proofs.flat_files.FlatFiles.new.Goals as goal

pub invariant_of-result-clause-free : goal.invariant_of-result-clause-free
invariant_of-result-clause-free c =
    let places = c.in_ok-places.places in
    λ h. ap is_some (file_in-set_other places.items 2 4 c.make.new.self (λ e. omega arith)
    ∙ c.in_ok-places.ensures.none 4)

pub returns-clause-opening : goal.returns-clause-opening
returns-clause-opening c =
    let places = c.in_ok-places.places in
    let within : 2 < length places.items = omega (arith, places.ok.0, c.in_ok-places.ensures.count) in
    let content =
    content_of-set places.items 2 c.make.new.self (file_of c.root_attrs.result []) within c.make.ensures.file
    ∙ ap (λ m. map.insert m 2 (file_of c.root_attrs.result []))
    (content_of-none places.items c.in_ok-places.ensures.none)
    ∙ ap (λ a. map.insert map.empty 2 (file_of a [])) c.root_attrs.ensures in
    λ i. record {
      content = content i;
      clean = most_segments;
      shape = shape_of (c.in_ok-places.ensures.count i);
      base = None;
    }
