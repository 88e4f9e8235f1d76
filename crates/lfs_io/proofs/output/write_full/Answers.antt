use Rattle.std.proofs.Common.{rules}
use Rattle.std.proofs.KnownBytes.{append_known-moved}
use Rattle.lfs_io.proofs.output.write_full.Goals as goal

pub returns-in_ok-write_text : goal.returns-in_ok-write_text
returns-in_ok-write_text g c =
    append_known-moved _ _ _ c.clear.new.self.items c.args.text.now.items c.in_ok-write_text.ensures (search rules)
