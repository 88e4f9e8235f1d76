use Rattle.lfs_words.proofs.PathBack.{spells_more}
use Rattle.lfs_words.proofs.spelling.can_spell.Goals as goal

pub loop-name-preserved : goal.loop-name-preserved
loop-name-preserved c =
    spells_more c.args.names.now c.loop-name.name-index c.name-item.result c.has_word_bytes_alone.result
    c.loop-name-test.true c.name-item.is
    c.loop-name.invariant c.has_word_bytes_alone.ensures.value c.if-not-has_word_bytes_alone.false
    c.has_word_bytes_alone.ensures.valid
