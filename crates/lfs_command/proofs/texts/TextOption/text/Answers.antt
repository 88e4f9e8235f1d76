use Rattle.lfs_command.proofs.texts.TextOption.text.Goals as goal

pub returns : goal.returns
returns c = c.get_str.ensures
