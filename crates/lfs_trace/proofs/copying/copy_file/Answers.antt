use Rattle.std.proofs.Common.{ap}
use Rattle.std.proofs.lemmas.Result.{on_ok_weaker}
use Rattle.std.specs.Vec.{vec_len}
use Rattle.lfs_types.specs.declared.attrs.Attrs.{Attrs}
use Rattle.lfs_flatfiles.specs.FlatFiles.{content_of}
use Rattle.lfs_trace.proofs.CopyLemmas.{copied_over, is_begun, may_begin, none_copied, shown}
use Rattle.lfs_trace.proofs.copying.copy_file.Goals as goal

pub returns-in-None-clause-copied : goal.returns-in-None-clause-copied
returns-in-None-clause-copied g c =
    none_copied (vec_len c.args.files.now.places) c.args.number (g.F.FileStore.state c.args.store.now).content
    (content_of c.args.files.now.places.items) c.requires.can c.requires.fresh c.in-None.ensures

pub begin_file-requires : goal.begin_file-requires
begin_file-requires g c =
    let from = (g.F.FileStore.state c.args.store.now).content in
    may_begin (vec_len c.args.files.now.places) c.args.number from
    (content_of c.args.files.now.places.items) c.requires.can c.requires.fresh c.in-Some.attrs
    (shown from c.args.number c.in-Some.attrs c.in-Some.ensures)

pub put_file-requires : goal.put_file-requires
put_file-requires g c =
    let from = (g.F.FileStore.state c.args.store.now).content in
    let s = shown from c.args.number c.in-Some.attrs c.in-Some.ensures in
    record {
      file = (
        s.file,
        s.is,
        ap (λ (a : Attrs). a.size) s.attrs_are,
        c.requires.can.sizes c.args.number s.file s.is,
        is_begun (vec_len c.args.files.now.places) c.args.number from (content_of c.args.files.now.places.items)
            c.requires.can c.requires.fresh c.in-Some.attrs s (content_of c.begin_file.new.files.places.items)
            (content_of c.begin_file.new.files.places.items) c.in_ok-begin_file-in-Some.ensures.begun,
      );
    }

pub returns-in_ok-begin_file-in-Some-clause-copied : goal.returns-in_ok-begin_file-in-Some-clause-copied
returns-in_ok-begin_file-in-Some-clause-copied g c =
    let from = (g.F.FileStore.state c.args.store.now).content in
    let s = shown from c.args.number c.in-Some.attrs c.in-Some.ensures in
    on_ok_weaker c.put_file.result
    (copied_over (vec_len c.args.files.now.places) c.args.number from (content_of c.args.files.now.places.items)
    c.requires.can c.requires.fresh c.in-Some.attrs s (content_of c.begin_file.new.files.places.items)
    (content_of c.put_file.new.files.places.items) c.in_ok-begin_file-in-Some.ensures.begun) c.put_file.ensures.copied
