use Rattle.std.proofs.Common.{rules, refl}
use Rattle.lfs_calls.proofs.BaseLemmas.{same_base}
use Rattle.lfs_volume.proofs.cleaning.done.Goals as goal

pub returns-in-Some-clause-done : goal.returns-in-Some-clause-done
returns-in-Some-clause-done g c = search rules

pub returns-in-Some-clause-cleaned : goal.returns-in-Some-clause-cleaned
returns-in-Some-clause-cleaned g c caller root = search rules

pub returns-in-None-clause-done : goal.returns-in-None-clause-done
returns-in-None-clause-done g c = search rules

pub returns-in-Ok-clause-done : goal.returns-in-Ok-clause-done
returns-in-Ok-clause-done g c = search rules

pub returns-in-Ok-clause-cleaned : goal.returns-in-Ok-clause-cleaned
returns-in-Ok-clause-cleaned g c caller root = search rules

pub returns-in-Err-clause-done : goal.returns-in-Err-clause-done
returns-in-Err-clause-done g c = search rules

pub returns-in-Err-clause-cleaned : goal.returns-in-Err-clause-cleaned
returns-in-Err-clause-cleaned g c caller root = search rules

pub returns-in-Bmapv-clause-done : goal.returns-in-Bmapv-clause-done
returns-in-Bmapv-clause-done g c = search rules

pub returns-in-Bmapv-clause-cleaned : goal.returns-in-Bmapv-clause-cleaned
returns-in-Bmapv-clause-cleaned g c caller root = search rules

pub returns-in-Ok-markv-clause-done : goal.returns-in-Ok-markv-clause-done
returns-in-Ok-markv-clause-done g c = search rules

pub returns-in-Ok-markv-clause-cleaned : goal.returns-in-Ok-markv-clause-cleaned
returns-in-Ok-markv-clause-cleaned g c caller root = search rules

pub returns-in-Err-markv-clause-done : goal.returns-in-Err-markv-clause-done
returns-in-Err-markv-clause-done g c = search rules

pub returns-in-Err-markv-clause-cleaned : goal.returns-in-Err-markv-clause-cleaned
returns-in-Err-markv-clause-cleaned g c caller root = search rules

pub returns-in-Some-clause-base : goal.returns-in-Some-clause-base
returns-in-Some-clause-base g c = let state = g.F.FileStore.state c.args.store.now in same_base state state refl

pub returns-in-None-clause-base : goal.returns-in-None-clause-base
returns-in-None-clause-base g c = let state = g.F.FileStore.state c.args.store.now in same_base state state refl

pub returns-in-Ok-clause-base : goal.returns-in-Ok-clause-base
returns-in-Ok-clause-base g c = let state = g.F.FileStore.state c.args.store.now in same_base state state refl

pub returns-in-Err-clause-base : goal.returns-in-Err-clause-base
returns-in-Err-clause-base g c = let state = g.F.FileStore.state c.args.store.now in same_base state state refl

pub returns-in-Bmapv-clause-base : goal.returns-in-Bmapv-clause-base
returns-in-Bmapv-clause-base g c = let state = g.F.FileStore.state c.args.store.now in same_base state state refl
