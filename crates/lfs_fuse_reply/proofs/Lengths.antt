-- How many bytes replies have: `length-entry`, `length-attr_body`, `length-init` and so on for `Reply::body_size`,
-- `length-dirent` and `length-looked_up` for the entries of listings. A body is fields of two, four and eight bytes one
-- behind the other, so its length is the sum of theirs; a directory's entry is 24 bytes, its name and the padding.
-- `reply_length`: a reply is as long as its head tells.
use Rattle.std.proofs.Common.{◌≡◌, ℕ, ◌+◌, [], ◌∷◌, length, replicate, Option, Some, None, arith, length-append, sym}
use Rattle.std.proofs.Common.{ap, ◌∙◌}
use Rattle.std.proofs.lemmas.List.{length-replicate}
use Rattle.byteorder.specs.Numbers.{length-bytes_low_first}
use Rattle.lfs_fuse_reply.specs.declared.attr.Attr.{Attr}
use Rattle.lfs_fuse_reply.specs.declared.attr.Entry.{Entry}
use Rattle.lfs_fuse_reply.specs.declared.listing.DirEntry.{DirEntry}
use Rattle.lfs_fuse_reply.specs.declared.reply.InitReply.{InitReply}
use Rattle.lfs_fuse_reply.specs.declared.reply.Opened.{Opened}
use Rattle.lfs_fuse_reply.specs.declared.reply.Reply.{Reply}
use Rattle.lfs_fuse_reply.specs.declared.reply.Statfs.{Statfs}
use Rattle.lfs_fuse_reply.specs.Attrs.{entry_bytes}
use Rattle.lfs_fuse_reply.specs.Listings.{dirent_bytes, looked_up_bytes, missing}
use Rattle.lfs_fuse_reply.specs.Numbers.{half, long, word, words}
use Rattle.lfs_fuse_reply.specs.Replies.{attr_body, body_of, create_body, init_body, open_body, reply_bytes}
use Rattle.lfs_fuse_reply.specs.Replies.{statfs_body, told_length}

length-half : (n : ℕ) → length (half n) ≡ 2
unfolding half
length-half n = length-bytes_low_first 0 2 n

length-word : (n : ℕ) → length (word n) ≡ 4
unfolding word
length-word n = length-bytes_low_first 0 4 n

length-long : (n : ℕ) → length (long n) ≡ 8
unfolding long
length-long n = length-bytes_low_first 0 8 n

pub length-entry : (e : Entry) → length (entry_bytes e) ≡ 128
length-entry e = simp (length-append, length-long, length-word)

pub length-attr_body : (a : Attr) → length (attr_body a) ≡ 104
length-attr_body a = simp (length-append, length-long, length-word)

pub length-open : (o : Opened) → length (open_body o) ≡ 16
length-open o = simp (length-append, length-long, length-word)

pub length-create : (e : Entry) (o : Opened) → length (create_body e o) ≡ 144
length-create e o = omega (arith, length-append (entry_bytes e) (open_body o), length-entry e, length-open o)

pub length-statfs : (s : Statfs) → length (statfs_body s) ≡ 80
length-statfs s = simp (length-append, length-long, length-word)

pub length-init : (i : InitReply) → length (init_body i) ≡ 64
length-init i = simp (length-append, length-half, length-word)

pub length-count : (n : ℕ) → length (words (n ∷ 0 ∷ [])) ≡ 8
length-count n = simp (length-append, length-word)

pub length-ioctl : length (words (replicate 4 0)) ≡ 16
length-ioctl = simp (length-append, length-word)

pub length-flags : (n : ℕ) → length (words (0 ∷ 0 ∷ 0 ∷ 0 ∷ n ∷ [])) ≡ 20
length-flags n = simp (length-append, length-word)

pub length-extended : (n : ℕ) → length (words (0 ∷ 0 ∷ 0 ∷ 0 ∷ n ∷ 0 ∷ 0 ∷ 0 ∷ 0 ∷ 0 ∷ 0 ∷ [])) ≡ 44
length-extended n = simp (length-append, length-word)

-- the size of a reply that is known
pub size_is : (r s : Reply) (n : ℕ) → r ≡ s → length (body_of s) ≡ n → n ≡ length (body_of r)
size_is r s n same size = sym (ap (λ (x : Reply). length (body_of x)) same ∙ size)

pub length-dirent : (e : DirEntry) (p : ℕ) → p ≡ missing (length e.name.now) → 24 + length e.name.now + p
    ≡ length (dirent_bytes e)
length-dirent e p padded = simp (length-append, length-long, length-word, length-replicate) (omega arith)

pub length-looked_up : (o : Option Entry) → length (looked_up_bytes o) ≡ 128
length-looked_up None = simp (length-append, length-long)
length-looked_up (Some e) = length-entry e

-- a reply is as long as its head tells
pub reply_length : (unique : ℕ) (r : Reply) → length (reply_bytes unique r) ≡ told_length r
reply_length unique r = simp (length-append, length-long, length-word)
