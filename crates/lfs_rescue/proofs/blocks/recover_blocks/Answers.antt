use Rattle.lfs_rescue.proofs.BlocksLemmas.{findable_in, finds_all_in, none_of}
use Rattle.lfs_rescue.proofs.blocks.recover_blocks.Goals as goal

pub returns-in-Ok-clause-found : goal.returns-in-Ok-clause-found
returns-in-Ok-clause-found c = record {
  memory = c.in_ok-memory.memory;
  blocks = c.in_ok-memory.ensures.memory;
  recovered = c.in-Ok.ensures.recovered;
}

pub returns-in-Ok-clause-content : goal.returns-in-Ok-clause-content
returns-in-Ok-clause-content c =
    finds_all_in c.args.bytes.now c.in_ok-memory.memory c.in-Ok.store c.in_ok-memory.ensures.memory c.in-Ok.ensures.content

pub returns-in-Ok-clause-findable : goal.returns-in-Ok-clause-findable
returns-in-Ok-clause-findable c =
    findable_in c.args.bytes.now c.in_ok-memory.memory c.in-Ok.store c.in_ok-memory.ensures.memory
    c.in-Ok.ensures.findable

pub returns-clause-none : goal.returns-clause-none
returns-clause-none c = λ other.
    none_of c.args.bytes.now c.in_ok-memory.memory c.in_ok-memory.ensures.memory (c.in-Err.ensures.none other)
