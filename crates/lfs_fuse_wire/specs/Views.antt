-- What a message says, as bytes.
use Rattle.lfs_fuse_wire.specs.declared.message.Message.{Message}
use Rattle.lfs_fuse_wire.specs.declared.message.Message.TheVariants.{Init, Destroy, Lookup, Forget, BatchForget}
use Rattle.lfs_fuse_wire.specs.declared.message.Message.TheVariants.{Interrupt, GetAttr, SetAttr, Access, Mknod, Mkdir}
use Rattle.lfs_fuse_wire.specs.declared.message.Message.TheVariants.{Create, Unlink, Rmdir, Rename, Open, Read, Write}
use Rattle.lfs_fuse_wire.specs.declared.message.Message.TheVariants.{Flush, Release, Fsync, Opendir, Readdir}
use Rattle.lfs_fuse_wire.specs.declared.message.Message.TheVariants.{Readdirplus, Releasedir, Fsyncdir, Statfs, Ioctl}
use Rattle.lfs_fuse_wire.specs.declared.message.Message.TheVariants.{Unserved, Unknown}
use Rattle.lfs_fuse_wire.specs.Said.{Said, init, destroy, lookup, forget, batch_forget, interrupt, getattr, setattr}
use Rattle.lfs_fuse_wire.specs.Said.{access, mknod, mkdir, create, unlink, rmdir, rename, opening, read, write, flush}
use Rattle.lfs_fuse_wire.specs.Said.{release, fsync, opendir, readdir, readdirplus, releasedir, fsyncdir, statfs, ioctl}
use Rattle.lfs_fuse_wire.specs.Said.{unserved, unknown}

abbrev pub view : Message → Said
view (Init fields) = init fields
view Destroy = destroy
view (Lookup name) = lookup name.now
view (Forget fields) = forget fields
view (BatchForget nodes) = batch_forget nodes.bytes.now
view (Interrupt number) = interrupt number
view (GetAttr fields) = getattr fields
view (SetAttr fields) = setattr fields
view (Access fields) = access fields
view (Mknod fields name) = mknod fields name.now
view (Mkdir fields name) = mkdir fields name.now
view (Create fields name) = create fields name.now
view (Unlink name) = unlink name.now
view (Rmdir name) = rmdir name.now
view (Rename fields name new_name) = rename fields name.now new_name.now
view (Open fields) = opening fields
view (Read fields) = read fields
view (Write fields bytes) = write fields bytes.now
view (Flush fields) = flush fields
view (Release fields) = release fields
view (Fsync fields) = fsync fields
view (Opendir fields) = opendir fields
view (Readdir fields) = readdir fields
view (Readdirplus fields) = readdirplus fields
view (Releasedir fields) = releasedir fields
view (Fsyncdir fields) = fsyncdir fields
view Statfs = statfs
view (Ioctl fields) = ioctl fields
view (Unserved kind) = unserved kind
view (Unknown number) = unknown number
