-- What the bytes of a message say: a message's fields, names and data, each from its own place.
use Rattle.std.specs.Prelude.{ℕ, ◌*◌, List, Bool, true, false, drop, Option, Some, None}
use Rattle.std.specs.Option.{option_map, option_and_then}
use Rattle.lfs_fuse_wire.specs.declared.opcode.Opcode.{Opcode}
use Rattle.lfs_fuse_wire.specs.declared.opcode.Opcode.TheVariants as opcode
use Rattle.lfs_fuse_wire.specs.declared.header.TheConstants.{HEADER_SIZE}
use Rattle.lfs_fuse_wire.specs.declared.ioctl.Fields.{Fields}
use Rattle.lfs_fuse_wire.specs.declared.attributes.Access.{Access}
use Rattle.lfs_fuse_wire.specs.declared.attributes.GetAttr.{GetAttr}
use Rattle.lfs_fuse_wire.specs.declared.attributes.SetAttr.{SetAttr}
use Rattle.lfs_fuse_wire.specs.declared.forgetting.Forget.{Forget}
use Rattle.lfs_fuse_wire.specs.declared.handles.Flush.{Flush}
use Rattle.lfs_fuse_wire.specs.declared.handles.Fsync.{Fsync}
use Rattle.lfs_fuse_wire.specs.declared.handles.Open.{Open}
use Rattle.lfs_fuse_wire.specs.declared.handles.Read.{Read}
use Rattle.lfs_fuse_wire.specs.declared.handles.Release.{Release}
use Rattle.lfs_fuse_wire.specs.declared.handles.Write.{Write}
use Rattle.lfs_fuse_wire.specs.declared.init.Init.{Init}
use Rattle.lfs_fuse_wire.specs.declared.ioctl.Ioctl.{Ioctl}
use Rattle.lfs_fuse_wire.specs.declared.naming.Create.{Create}
use Rattle.lfs_fuse_wire.specs.declared.naming.Mkdir.{Mkdir}
use Rattle.lfs_fuse_wire.specs.declared.naming.Mknod.{Mknod}
use Rattle.lfs_fuse_wire.specs.declared.naming.Rename.{Rename}
use Rattle.lfs_fuse_wire.specs.declared.opcode.Unserved.{Unserved}
use Rattle.lfs_fuse_wire.specs.declared.opcode.Unserved.TheVariants.{NotifyReply}
use Rattle.lfs_fuse_wire.specs.Attributes.{access_asked_in, getattr_in, setattr_in}
use Rattle.lfs_fuse_wire.specs.Forgetting.{forget_in}
use Rattle.lfs_fuse_wire.specs.Handles.{flush_in, fsync_in, open_in, read_in, release_in, write_in}
use Rattle.lfs_fuse_wire.specs.Header.{message_in}
use Rattle.lfs_fuse_wire.specs.Init.{init_in}
use Rattle.lfs_fuse_wire.specs.Ioctl.{command_in, fields_in}
use Rattle.lfs_fuse_wire.specs.Names.{first_in, name_in, two_names_in}
use Rattle.lfs_fuse_wire.specs.Naming.{create_in, mkdir_in, mknod_in, rename2_in, rename_in}
use Rattle.lfs_fuse_wire.specs.Numbers.{at_least, number_at}
use Rattle.lfs_fuse_wire.specs.Opcodes.{opcode_in, unserved_in}

-- a message, with the bytes of its names and data
pub data Said : Type 0 where
  init : Init → Said
  destroy : Said
  lookup : List ℕ → Said
  forget : Forget → Said
  batch_forget : List ℕ → Said
  interrupt : ℕ → Said
  getattr : GetAttr → Said
  setattr : SetAttr → Said
  access : Access → Said
  mknod : Mknod → List ℕ → Said
  mkdir : Mkdir → List ℕ → Said
  create : Create → List ℕ → Said
  unlink : List ℕ → Said
  rmdir : List ℕ → Said
  rename : Rename → List ℕ → List ℕ → Said
  opening : Open → Said
  read : Read → Said
  write : Write → List ℕ → Said
  flush : Flush → Said
  release : Release → Said
  fsync : Fsync → Said
  opendir : Open → Said
  readdir : Read → Said
  readdirplus : Read → Said
  releasedir : Release → Said
  fsyncdir : Fsync → Said
  statfs : Said
  ioctl : Ioctl → Said
  unserved : Unserved → Said
  unknown : ℕ → Said

-- a name, and what is said of it
abbrev pub named : (List ℕ → Said) → List ℕ → Option Said
named say bytes = option_map (λ p. say p.0) (name_in bytes)

-- two names, one behind the other
abbrev pub moved : Rename → List ℕ → Option Said
moved fields bytes = option_map (λ p. rename fields p.0 p.1) (two_names_in bytes)

-- as many bytes as the fields say
abbrev pub written : Write → List ℕ → Option Said
written fields bytes = option_map (write fields) (first_in fields.size bytes)

-- a control call, with as many bytes as its fields say
abbrev pub call_of : Fields → List ℕ → Ioctl
call_of fields carried = record {
  handle = fields.handle;
  directory = fields.directory;
  command = command_in fields.number carried;
  out_size = fields.out_size;
}

abbrev pub called : Fields → List ℕ → Option Said
called fields bytes = option_map (λ carried. ioctl (call_of fields carried)) (first_in fields.in_size bytes)

-- how many nodes are forgotten, and then 16 bytes for each
abbrev pub batch_in : List ℕ → Option Said
batch_in bytes = option_and_then (λ count. option_map batch_forget (first_in (16 * count) (drop 8 bytes)))
    (at_least 8 (λ b. number_at b 0 4) bytes)

-- what the bytes behind a header say
unfoldable pub said_in : Opcode → List ℕ → Option Said
said_in opcode.Lookup bytes = named lookup bytes
said_in opcode.Forget bytes = option_map forget (forget_in bytes)
said_in opcode.GetAttr bytes = option_map getattr (getattr_in bytes)
said_in opcode.SetAttr bytes = option_map setattr (setattr_in bytes)
said_in opcode.Mknod bytes = option_and_then (λ fields. named (mknod fields) (drop 16 bytes)) (mknod_in bytes)
said_in opcode.Mkdir bytes = option_and_then (λ fields. named (mkdir fields) (drop 8 bytes)) (mkdir_in bytes)
said_in opcode.Unlink bytes = named unlink bytes
said_in opcode.Rmdir bytes = named rmdir bytes
said_in opcode.Rename bytes = option_and_then (λ fields. moved fields (drop 8 bytes)) (rename_in bytes)
said_in opcode.Open bytes = option_map opening (open_in bytes)
said_in opcode.Read bytes = option_map read (read_in bytes)
said_in opcode.Write bytes = option_and_then (λ fields. written fields (drop 40 bytes)) (write_in bytes)
said_in opcode.Statfs bytes = Some statfs
said_in opcode.Release bytes = option_map release (release_in bytes)
said_in opcode.Fsync bytes = option_map fsync (fsync_in bytes)
said_in opcode.Flush bytes = option_map flush (flush_in bytes)
said_in opcode.Init bytes = option_map init (init_in bytes)
said_in opcode.Opendir bytes = option_map opendir (open_in bytes)
said_in opcode.Readdir bytes = option_map readdir (read_in bytes)
said_in opcode.Releasedir bytes = option_map releasedir (release_in bytes)
said_in opcode.Fsyncdir bytes = option_map fsyncdir (fsync_in bytes)
said_in opcode.Access bytes = option_map access (access_asked_in bytes)
said_in opcode.Create bytes = option_and_then (λ fields. named (create fields) (drop 16 bytes)) (create_in bytes)
said_in opcode.Interrupt bytes = at_least 8 (λ b. interrupt (number_at b 0 8)) bytes
said_in opcode.Destroy bytes = Some destroy
said_in opcode.Ioctl bytes = option_and_then (λ fields. called fields (drop 32 bytes)) (fields_in bytes)
said_in opcode.BatchForget bytes = batch_in bytes
said_in opcode.Readdirplus bytes = option_map readdirplus (read_in bytes)
said_in opcode.Rename2 bytes = option_and_then (λ fields. moved fields (drop 16 bytes)) (rename2_in bytes)

-- a message of which nothing but the kind is read
abbrev pub unread_as : ℕ → Option Unserved → Said
unread_as number (Some kind) = unserved kind
unread_as number None = unknown number

abbrev pub said_unread : ℕ → Said
said_unread number = unread_as number (unserved_in number)

-- a message's kind, where it is one that is read, and the bytes behind its header
abbrev pub said_as : ℕ → Option Opcode → List ℕ → Option Said
said_as number (Some kind) body = said_in kind body
said_as number None body = Some (said_unread number)

-- what a whole message says: no more bytes, and no fewer
abbrev pub said_whole : List ℕ → Option Said
said_whole message = said_as (number_at message 4 4) (opcode_in (number_at message 4 4)) (drop HEADER_SIZE message)

-- what bytes say: the message at their front, and nothing behind it
abbrev pub said : List ℕ → Option Said
said bytes = option_and_then said_whole (message_in bytes)

-- whether the kernel waits for a reply
abbrev pub has_reply : Said → Bool
has_reply (forget fields) = false
has_reply (batch_forget nodes) = false
has_reply (interrupt number) = false
has_reply (unserved NotifyReply) = false
has_reply _ = true
