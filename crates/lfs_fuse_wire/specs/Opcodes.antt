-- The kinds of messages, by their numbers (the FUSE protocol's fuse.h).
use Rattle.std.specs.Prelude.{ℕ, ◌==◌, if◌then◌else◌, Option, Some, None}
use Rattle.lfs_fuse_wire.specs.declared.opcode.Opcode.{Opcode}
use Rattle.lfs_fuse_wire.specs.declared.opcode.Opcode.TheVariants as opcode
use Rattle.lfs_fuse_wire.specs.declared.opcode.Unserved.{Unserved}
use Rattle.lfs_fuse_wire.specs.declared.opcode.Unserved.TheVariants as unserved

-- the kind of a number, if it is one that is read
unfoldable pub opcode_in : ℕ → Option Opcode
opcode_in number =
    if number == 1 then Some opcode.Lookup else
    (if number == 2 then Some opcode.Forget else
    (if number == 3 then Some opcode.GetAttr else
    (if number == 4 then Some opcode.SetAttr else
    (if number == 8 then Some opcode.Mknod else
    (if number == 9 then Some opcode.Mkdir else
    (if number == 10 then Some opcode.Unlink else
    (if number == 11 then Some opcode.Rmdir else
    (if number == 12 then Some opcode.Rename else
    (if number == 14 then Some opcode.Open else
    (if number == 15 then Some opcode.Read else
    (if number == 16 then Some opcode.Write else
    (if number == 17 then Some opcode.Statfs else
    (if number == 18 then Some opcode.Release else
    (if number == 20 then Some opcode.Fsync else
    (if number == 25 then Some opcode.Flush else
    (if number == 26 then Some opcode.Init else
    (if number == 27 then Some opcode.Opendir else
    (if number == 28 then Some opcode.Readdir else
    (if number == 29 then Some opcode.Releasedir else
    (if number == 30 then Some opcode.Fsyncdir else
    (if number == 34 then Some opcode.Access else
    (if number == 35 then Some opcode.Create else
    (if number == 36 then Some opcode.Interrupt else
    (if number == 38 then Some opcode.Destroy else
    (if number == 39 then Some opcode.Ioctl else
    (if number == 42 then Some opcode.BatchForget else
    (if number == 44 then Some opcode.Readdirplus else
    (if number == 45 then Some opcode.Rename2 else
    None))))))))))))))))))))))))))))

-- the kind of a number, if it is one of which nothing else is read
unfoldable pub unserved_in : ℕ → Option Unserved
unserved_in number =
    if number == 5 then Some unserved.Readlink else
    (if number == 6 then Some unserved.Symlink else
    (if number == 13 then Some unserved.Link else
    (if number == 21 then Some unserved.Setxattr else
    (if number == 22 then Some unserved.Getxattr else
    (if number == 23 then Some unserved.Listxattr else
    (if number == 24 then Some unserved.Removexattr else
    (if number == 31 then Some unserved.Getlk else
    (if number == 32 then Some unserved.Setlk else
    (if number == 33 then Some unserved.Setlkw else
    (if number == 37 then Some unserved.Bmap else
    (if number == 40 then Some unserved.Poll else
    (if number == 41 then Some unserved.NotifyReply else
    (if number == 43 then Some unserved.Fallocate else
    (if number == 46 then Some unserved.Lseek else
    (if number == 47 then Some unserved.CopyFileRange else
    (if number == 48 then Some unserved.SetupMapping else
    (if number == 49 then Some unserved.RemoveMapping else
    (if number == 50 then Some unserved.Syncfs else
    (if number == 51 then Some unserved.Tmpfile else
    None)))))))))))))))))))
