use Rattle.std.proofs.Common.{◌<◌, ℕ, sym, subst, ◌∙◌}
use Rattle.std.specs.Prelude.{IsSome}
use Rattle.std.specs.FinMap as map
use Rattle.lfs_types.specs.StoreStates.{StoreState}
use Rattle.lfs_calls.specs.Volumes.{HasWorld}
use Rattle.lfs_trace.specs.Checking.{numbers_of}
use Rattle.lfs_auditing.proofs.PlaceLemmas.{LooksAt, begun, goes_on, placed}
use Rattle.lfs_auditing.proofs.audit.Audit.find_place.Goals as goal

pub loop-init : goal.loop-init
loop-init g c = record {
  found = λ from read.
      begun (g.R.Read.remaining c.args.reader.now) from (g.F.FileStore.state c.args.store.now) c.args.self.now
      c.look.new.audit c.new-search.result.behind c.look.new.self.behind c.new-search.ensures read
      c.look.ensures.audit c.in_ok-look.ensures.looked;
  same = record {
    numbers = c.look.ensures.audit.checker.numbers;
    segments = c.look.ensures.audit.checker.segments;
    denials = c.look.ensures.audit.denials;
  };
  state = c.look.ensures.state;
}

pub next-requires : goal.next-requires
next-requires g c =
    let from = c.requires.fresh.0 in
    let so = (c.loop.invariant.found from c.requires.fresh.1).so in
    (from, so.more, so.read)

pub look-requires-in-None-clause-world : goal.look-requires-in-None-clause-world
look-requires-in-None-clause-world g c = subst HasWorld (sym c.loop.invariant.state) c.requires.world

pub look-requires-in-None-clause-within : goal.look-requires-in-None-clause-within
look-requires-in-None-clause-within g c =
    let same = c.next.ensures.same.numbers ∙ c.loop.invariant.same.numbers in
    subst (λ (k : ℕ). (n : ℕ) → IsSome (map.get (g.F.FileStore.state c.loop.store).content n) → n < k) (sym same)
    (subst (λ (s : StoreState). (n : ℕ) → IsSome (map.get s.content n) → n < numbers_of c.args.self.now.checker)
    (sym c.loop.invariant.state) c.requires.within)

pub loop-preserved : goal.loop-preserved
loop-preserved g c = record {
  found = λ from read.
      let known = g.R.Read.remaining c.args.reader.now in
      let state = g.F.FileStore.state c.args.store.now in
      let was = c.loop.invariant.found from read in
      let line = rw c.in-None.is at c.in_ok-next.ensures.read from was.so.more was.so.read in
      goes_on known (g.R.Read.remaining c.loop.reader) (g.R.Read.remaining c.next.new.reader) from state c.loop.self
      c.next.new.self c.loop.search.behind was c.next.ensures.same c.look-in-None.new.audit
      c.look-in-None.new.self.behind line c.look-in-None.ensures.audit
      (subst (λ (s : StoreState). LooksAt s c.next.new.self c.loop.search.behind c.look-in-None.new.self.behind)
      c.loop.invariant.state c.in_ok-look-in-None.ensures.looked);
  same = record {
    numbers = c.look-in-None.ensures.audit.checker.numbers ∙ c.next.ensures.same.numbers
        ∙ c.loop.invariant.same.numbers;
    segments = c.look-in-None.ensures.audit.checker.segments ∙ c.next.ensures.same.segments
        ∙ c.loop.invariant.same.segments;
    denials = c.look-in-None.ensures.audit.denials ∙ c.next.ensures.same.denials ∙ c.loop.invariant.same.denials;
  };
  state = c.look-in-None.ensures.state ∙ c.loop.invariant.state;
}

pub returns-in-Some-clause-placed : goal.returns-in-Some-clause-placed
returns-in-Some-clause-placed g c from read =
    let known = g.R.Read.remaining c.args.reader.now in
    let was = c.loop.invariant.found from read in
    let at = rw c.in-Some.is at c.in_ok-next.ensures.read from was.so.more was.so.read in
    placed known (g.R.Read.remaining c.loop.reader) (g.R.Read.remaining c.next.new.reader) from
    (g.F.FileStore.state c.args.store.now) c.loop.self c.next.new.self c.loop.search.behind was c.next.ensures.same
    c.in-Some.stop at.0 at.1
