use Rattle.lfs_script.proofs.script.parse_script.Goals as goal

pub returns : goal.returns
returns c =
    let script = c.args.script.now in
    c.finish.ensures script (c.take_lines-left.ensures.taken script (c.new-lines.ensures.taken script))
    c.take_lines-left.ensures.unended
