use Rattle.lfs_words.proofs.Appended.{name_all, name_more}
use Rattle.lfs_words.proofs.append.push_name_text.Goals as goal

pub loop-byte-preserved : goal.loop-byte-preserved
loop-byte-preserved c =
    name_more c.args.out.now.items c.loop-byte.out.items c.args.name.now c.as_bytes-byte-items.result.now
    c.push_name_byte.new.out.items c.loop-byte.byte-index
    c.as_bytes-byte-items.ensures.value c.loop-byte-test.true c.loop-byte.invariant c.in_ok-push_name_byte.ensures

pub returns : goal.returns
returns c =
    name_all c.args.out.now.items c.loop-byte.out.items c.args.name.now c.as_bytes-byte-items.result.now
    c.loop-byte.byte-index
    c.as_bytes-byte-items.ensures.value c.loop-byte-test.false c.loop-byte.invariant
