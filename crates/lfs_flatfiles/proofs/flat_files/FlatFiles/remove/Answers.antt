use Rattle.std.proofs.Common.{◌≡◌, ◌<◌, length, inl, inr, arith}
use Rattle.std.proofs.lemmas.Bool.{cases_lt}
use Rattle.lfs_flatfiles.proofs.FlatFilesContent.{content_of-gone, grows_at, used_besides, free_still}
use Rattle.lfs_flatfiles.proofs.flat_files.FlatFiles.remove.Goals as goal

pub invariant_of-self-clause-used : goal.invariant_of-self-clause-used
invariant_of-self-clause-used c =
    let store = c.args.self.now in
    λ k low high. used_besides store.places.items c.args.ino c.remove.new.self k (λ e. omega arith)
    (store.used k low (omega arith))

pub invariant_of-self-clause-free : goal.invariant_of-self-clause-free
invariant_of-self-clause-free c =
    let store = c.args.self.now in
    let within : c.args.ino < length store.places.items = omega (arith, store.places.ok.0) in
    λ h. elim (cases_lt store.least_free c.args.ino) [
      | inl below ↦
          let same : c.min-self.result ≡ store.least_free = omega arith in
          rw same (free_still store.places.items c.args.ino c.remove.new.self store.least_free within
          c.remove.ensures.file (λ apart. store.free (omega arith)))
      | inr above ↦
          let same : c.min-self.result ≡ c.args.ino = omega arith in
          rw same (free_still store.places.items c.args.ino c.remove.new.self c.args.ino within c.remove.ensures.file
          (λ apart. absurd (omega (arith, apart))))
    ]

pub invariant_of-self-else-ino-ge-FIRST_FILE-clause-used : goal.invariant_of-self-else-ino-ge-FIRST_FILE-clause-used
invariant_of-self-else-ino-ge-FIRST_FILE-clause-used c =
    let store = c.args.self.now in
    λ k low high. used_besides store.places.items c.args.ino c.remove.new.self k (λ e. omega arith)
    (store.used k low high)

pub invariant_of-self-else-ino-ge-FIRST_FILE-clause-free : goal.invariant_of-self-else-ino-ge-FIRST_FILE-clause-free
invariant_of-self-else-ino-ge-FIRST_FILE-clause-free c =
    let store = c.args.self.now in
    let within : c.args.ino < length store.places.items = omega (arith, store.places.ok.0) in
    λ h. free_still store.places.items c.args.ino c.remove.new.self store.least_free within c.remove.ensures.file
    (λ apart. store.free h)

pub returns-then-ino-ge-FIRST_FILE-clause-content : goal.returns-then-ino-ge-FIRST_FILE-clause-content
returns-then-ino-ge-FIRST_FILE-clause-content c =
    let places = c.args.self.now.places in
    content_of-gone places.items c.args.ino c.remove.new.self (omega (arith, places.ok.0)) c.remove.ensures.file

pub returns-then-ino-ge-FIRST_FILE-clause-grows : goal.returns-then-ino-ge-FIRST_FILE-clause-grows
returns-then-ino-ge-FIRST_FILE-clause-grows c =
    let places = c.args.self.now.places in
    grows_at places.items c.args.ino _ _ (omega (arith, places.ok.0)) c.index_mut.ensures.value c.remove.ensures.grows

pub returns-else-ino-ge-FIRST_FILE-clause-content : goal.returns-else-ino-ge-FIRST_FILE-clause-content
returns-else-ino-ge-FIRST_FILE-clause-content c =
    let places = c.args.self.now.places in
    content_of-gone places.items c.args.ino c.remove.new.self (omega (arith, places.ok.0)) c.remove.ensures.file

pub returns-else-ino-ge-FIRST_FILE-clause-grows : goal.returns-else-ino-ge-FIRST_FILE-clause-grows
returns-else-ino-ge-FIRST_FILE-clause-grows c =
    let places = c.args.self.now.places in
    grows_at places.items c.args.ino _ _ (omega (arith, places.ok.0)) c.index_mut.ensures.value c.remove.ensures.grows
