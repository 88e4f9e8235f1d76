use Rattle.lfs_types.proofs.attrs.Kind.is_directory.Goals as goal

pub returns-in-File : goal.returns-in-File
returns-in-File c = rw c.in-File.is

pub returns-in-Directory : goal.returns-in-Directory
returns-in-Directory c = rw c.in-Directory.is
