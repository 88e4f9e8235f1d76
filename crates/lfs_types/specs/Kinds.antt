-- What a file is.
use Rattle.std.specs.Prelude.{Bool, true, false}
use Rattle.lfs_types.specs.declared.attrs.Kind.{Kind}
use Rattle.lfs_types.specs.declared.attrs.Kind.TheVariants.{File, Directory}

abbrev pub is_directory_kind : Kind → Bool
is_directory_kind File = false
is_directory_kind Directory = true
