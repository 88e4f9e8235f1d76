use Rattle.std.proofs.Common.{◌≡◌, Some, sym, ap, ◌∙◌, subst, arith}
use Rattle.std.proofs.lemmas.Option.{same_Some}
use Rattle.std.specs.Prelude.{option_copied}
use Rattle.lfs_parts.specs.Keys.{log_state}
use Rattle.lfs_segwrite.specs.Landing.{AppendsBlock}
use Rattle.lfs_segwrite.proofs.PutLemmas.{appends}
use Rattle.lfs_segwrite.proofs.landing.append_waiting.Goals as goal

pub put-requires : goal.put-requires
put-requires c = let fit = c.requires.expected.expects.fit in omega arith

pub returns-clause-put : goal.returns-clause-put
returns-clause-put c = λ bytes there.
    let p = c.args.parts.now in let e = c.requires.expected in let put = c.put.ensures in
    let same : Some c.in-Some.bytes.now ≡ Some bytes =
    sym (ap option_copied c.in-Some.is) ∙ c.dirty.ensures.value ∙ there in
    subst (AppendsBlock p _ c.put.result) (same_Some c.in-Some.bytes.now bytes same)
    (appends p c.put.new.self c.put.result c.in-Some.bytes.now c.requires.parts c.requires.log e put.address put.block
    put.tables put.extends (put.rising e.entry e.rest e.expects) put.next (put.expects e.entry e.rest e.expects)
    (put.step (log_state p).at))
