use Rattle.std.proofs.Common.{◌≡◌, ℕ, List, false, refl, sym}
use Rattle.std.proofs.lemmas.Bool.{false_from_ne_true}
use Rattle.std.proofs.lemmas.Slice.Eq.{bytes_eq-Decides}
use Rattle.std.specs.Str.{bytes_eq}
use Rattle.lfs_script.proofs.verb.Verb.of.Goals as goal

unlike : (text word : List ℕ) → (word ≡ text → ⊥) → bytes_eq text word ≡ false
unlike text word other = false_from_ne_true _ (λ same. other (sym ((bytes_eq-Decides text word).0 same)))

-- A word that is none of those of verbs names none.
pub returns-in_default : goal.returns-in_default
returns-in_default c =
    let word = c.args.word.now in
    let is = c.in_default in
    rw (
      unlike _ word is.not-write,
      unlike _ word is.not-read,
      unlike _ word is.not-stat,
      unlike _ word is.not-create,
      unlike _ word is.not-unlink,
      unlike _ word is.not-rename,
      unlike _ word is.not-as,
      unlike _ word is.not-list,
      unlike _ word is.not-length,
      unlike _ word is.not-mkdir,
      unlike _ word is.not-rmdir,
      unlike _ word is.not-chmod,
      unlike _ word is.not-chown,
      unlike _ word is.not-chflags,
      unlike _ word is.not-level,
      unlike _ word is.not-sync,
      unlike _ word is.not-session,
      unlike _ word is.not-ifile,
      unlike _ word is.not-infos,
      unlike _ word is.not-bmapv,
      unlike _ word is.not-markv,
      unlike _ word is.not-segclean,
      unlike _ word is.not-gain,
      unlike _ word is.not-pass,
    ) refl
