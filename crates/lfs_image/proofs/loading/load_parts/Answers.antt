use Rattle.lfs_image.proofs.ImageLemmas.{one_image}
use Rattle.lfs_image.proofs.LoadingLemmas.{image_of}
use Rattle.lfs_image.proofs.loading.load_parts.Goals as goal

pub check_label-requires : goal.check_label-requires
check_label-requires c =
    image_of c.in_ok-log.log c.in_ok-head.head c.args.bytes.now
    c.in_ok-log.ensures.parts c.in_ok-head.ensures.told c.in_ok-log.ensures.head c.in_ok-log.ensures.body

pub check_store-requires : goal.check_store-requires
check_store-requires c =
    image_of c.in_ok-log.log c.in_ok-head.head c.args.bytes.now
    c.in_ok-log.ensures.parts c.in_ok-head.ensures.told c.in_ok-log.ensures.head c.in_ok-log.ensures.body

pub returns-clause-image : goal.returns-clause-image
returns-clause-image c =
    let image = image_of c.in_ok-log.log c.in_ok-head.head c.args.bytes.now
    c.in_ok-log.ensures.parts c.in_ok-head.ensures.told c.in_ok-log.ensures.head c.in_ok-log.ensures.body in
    rw c.in_ok-store.ensures image

pub returns-clause-only : goal.returns-clause-only
returns-clause-only c = λ l level is.
    let image = image_of c.in_ok-log.log c.in_ok-head.head c.args.bytes.now
    c.in_ok-log.ensures.parts c.in_ok-head.ensures.told c.in_ok-log.ensures.head c.in_ok-log.ensures.body in
    rw c.in_ok-store.ensures (one_image c.args.bytes.now l c.in_ok-log.log level c.in_ok-head.head.level is image)

pub returns-clause-stored : goal.returns-clause-stored
returns-clause-stored c = rw c.in_ok-store.ensures c.in_ok-check_store.ensures.ok
