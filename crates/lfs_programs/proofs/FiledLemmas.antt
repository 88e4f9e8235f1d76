-- How a run ends whose entries go to a file: `begun_of`, `filed_alone`, `broken_alone` and `broken_late` for
-- `run_alone`, `filed_together` and `broken_together` for `run_together`. The promise has a part for a run on the
-- caller's thread and one for threads; the options ask for one, and the other is absurd (`apart`). The volume was laid
-- out by the numbers of the options (`fresh_as`, `unfit_as`), and its journal began at the opening tree. The sink's
-- next line is number 1, so where it took all entries the file has the numbered lines of all.
use Rattle.std.proofs.Common.{◌≡◌, ℕ, Bool, true, false, List, [], Option, None, Some, Result, Err, IfSome}
use Rattle.std.proofs.Common.{refl, sym, subst, ◌≤◌, arith}
use Rattle.std.specs.Io.KnownBytes.{Appends, Keeps}
use Rattle.lfs_types.specs.Tree.{opening_world}
use Rattle.lfs_types.specs.declared.fault.FormatFault.{FormatFault}
use Rattle.lfs_logstore.specs.States.{state_of}
use Rattle.lfs_model.specs.Counts.{counts_of}
use Rattle.lfs_model.specs.declared.journal.Entry.{Entry}
use Rattle.lfs_script.specs.PlanTypes.{Planned}
use Rattle.lfs_script.specs.declared.plan.Step.{Step}
use Rattle.lfs_server.specs.Fresh.{IsFormatFault, IsFreshLog}
use Rattle.lfs_server.specs.Serving.{IsInRange}
use Rattle.lfs_sinks.specs.Numbered.{numbered_text}
use Rattle.lfs_sinks.specs.Refusals.{refusals_of}
use Rattle.lfs_parts.specs.declared.parts.Parts.{Parts}
use Rattle.lfs_volume.specs.Journals.{Begins}
use Rattle.lfs_volume.specs.Seen.{Seen}
use Rattle.lfs_audit.specs.Faults.{IsRead, MayHaveWritten}
use Rattle.lfs_audit.specs.FiledRuns.{IsFiledOutput, IsFiledRun, IsFiledThreads}
use Rattle.lfs_audit.specs.Filing.{Filed, IsBegun, Takes}
use Rattle.lfs_audit.specs.Scripts.{IsScriptFault, log_cleaner}
use Rattle.lfs_audit.specs.Threads.{IsThreadsFault, MayHaveWrittenThreads}
use Rattle.lfs_audit.specs.declared.fault.RunFault.{RunFault}
use Rattle.lfs_audit.specs.declared.fault.ThreadsFault.{ThreadsFault}
use Rattle.lfs_audit.specs.declared.fault.ThreadsFault.TheVariants as threads
use Rattle.lfs_audit.proofs.FaultLemmas.{has_plan, late_script_faults}
use Rattle.lfs_audit.proofs.ScriptLemmas.{filed_output}
use Rattle.lfs_programs.specs.Asked.{HasGotFiled, IsBroken}
use Rattle.lfs_programs.specs.declared.fault.ServerFault.TheVariants.{Run}
use Rattle.lfs_programs.specs.declared.options.Options.{Options}

apart : (b : Bool) → b ≡ true → b ≡ false → ⊥
apart b is not = absurd (cc)

-- nothing was written
pub keeps_same : (known : Option (List ℕ)) → Keeps known known
keeps_same None = tt
keeps_same (Some bytes) = refl

-- what is known of a script that may be known
known_so : (known : Option (List ℕ)) (p q : List ℕ → Type 0) → IfSome known p → ((bytes : List ℕ) → p bytes → q bytes)
    → IfSome known q
known_so None p q is then = tt
known_so (Some bytes) p q is then = then bytes is

-- a volume whose entries go to a sink from now on
abbrev pub made_of : {F J : Type 0} → Seen F → J → Filed F J
made_of volume sink = record {
  volume = volume;
  sink = sink;
  told = counts_of [];
  refusals = refusals_of [];
  is_open = true;
}

-- a fresh volume begins a run, where its journal has room
pub begun_of : {J : Type 0} (v : Seen Parts) (sink : J) (filed : Filed Parts J) (limit : ℕ)
    → filed ≡ made_of v sink → v.journal ≡ []
    → v.limit ≡ limit → 128 ≤ limit → Begins (state_of v.since) v.since_level opening_world
    → IsBegun state_of filed
begun_of {J} v sink filed limit is empty limited room begins =
    subst (λ (f : Filed Parts J). IsBegun state_of f) (sym is)
    (record {
      opened = refl;
      untold = refl;
      unrefused = refl;
      empty = empty;
      room = omega (arith, limited, room);
      tree = (opening_world, begins);
    })

-- what a sink took of a run's text and entries
abbrev pub Ran : {F J : Type 0} → (F → Option (List ℕ)) → (J → F) → (J → ℕ) → Filed Parts J → Filed Parts J → List Step
    → Bool → Option (List ℕ) → Option (List ℕ) → Type 0
Ran contents writer next old new steps is_whole start out =
    (text : List ℕ) × (entries : List Entry)
    × IsFiledRun log_cleaner (Begins (state_of old.volume.since) old.volume.since_level) old.volume.store steps is_whole
    entries text
    × Appends start out text × (is_whole ≡ true → Takes (λ j. contents (writer j)) next old.sink new.sink entries)

-- a run on the caller's thread
pub filed_alone : {F J : Type 0} (contents : F → Option (List ℕ)) (writer : J → F) (next : J → ℕ) (options : Options)
    (known start out : Option (List ℕ)) (plan : Planned) (steps : List Step) (v : Seen Parts) (sink : J)
    (old new : Filed Parts J) (is_whole : Bool) → options.threads ≡ false → IfSome known (λ script. IsRead script plan)
    → steps ≡ plan.steps
    → IsFreshLog options.params.segments options.params.inodes options.params.frames v.store
    → Begins (state_of v.since) v.since_level opening_world → next sink ≡ 1
    → old ≡ made_of v sink
    → Ran contents writer next old new steps is_whole start out
    → HasGotFiled contents options is_whole known start out
filed_alone {F} {J} contents writer next options known start out plan steps v sink old new is_whole alone read asked
    fresh begins first is ran0 =
    let made : Filed Parts J = made_of v sink in
    let ran : Ran contents writer next made new steps is_whole start out =
    subst (λ (f : Filed Parts J). Ran contents writer next f new steps is_whole start out) is ran0 in
    let p = options.params in
    record {
      text = ran.0;
      entries = ran.1;
      before = writer sink;
      after = writer new.sink;
      run = known_so known
          (λ script. IsFiledOutput script p.segments p.inodes p.frames is_whole ran.1 ran.0) _
          (filed_output known plan steps (state_of v.since) v.since_level v.store p.segments p.inodes p.frames is_whole
          ran.1 ran.0 begins read asked fresh ran.2)
          (λ script is. record { alone = λ _. is; together = λ both. absurd (apart options.threads both alone) });
      printed = ran.3;
      filed = λ whole. subst (λ (n : ℕ). Appends (contents (writer sink)) (contents (writer new.sink))
          (numbered_text n ran.1)) first (ran.4 whole).lines;
    }

-- the numbers that were asked for
pub fresh_as : (segments inodes frames s i f : ℕ) (store : Parts) → s ≡ segments → i ≡ inodes → f ≡ frames
    → IsFreshLog s i f store → IsFreshLog segments inodes frames store
fresh_as segments inodes frames s i f store same_s same_i same_f fresh =
    subst (λ (n : ℕ). IsFreshLog n inodes frames store) same_s
    (subst (λ (n : ℕ). IsFreshLog s n frames store) same_i (subst (λ (n : ℕ). IsFreshLog s i n store) same_f fresh))

pub unfit_as : (segments inodes frames s i f : ℕ) (fault : FormatFault) → s ≡ segments → i ≡ inodes → f ≡ frames
    → IsFormatFault s i f fault → IsFormatFault segments inodes frames fault
unfit_as segments inodes frames s i f fault same_s same_i same_f unfit =
    subst (λ (n : ℕ). IsFormatFault n inodes frames fault) same_s
    (subst (λ (n : ℕ). IsFormatFault s n frames fault) same_i
    (subst (λ (n : ℕ). IsFormatFault s i n fault) same_f unfit))

ranges_as : (segments inodes frames s i f : ℕ) → s ≡ segments → i ≡ inodes → f ≡ frames → IsInRange s i f
    → IsInRange segments inodes frames
ranges_as segments inodes frames s i f same_s same_i same_f ranges =
    subst (λ (n : ℕ). IsInRange n inodes frames) same_s
    (subst (λ (n : ℕ). IsInRange s n frames) same_i (subst (λ (n : ℕ). IsInRange s i n) same_f ranges))

-- the fault of such a run
pub broken_alone : {F W : Type 0} (contents : F → Option (List ℕ)) (options : Options)
    (known start out : Option (List ℕ)) (out_before out_after : W) (fault : RunFault) → options.threads ≡ false
    → IsScriptFault known options.params.segments options.params.inodes options.params.frames fault
    → ((MayHaveWritten fault → ⊥) → Keeps start out)
    → IsBroken contents options known start out out_before out_after (Run (threads.Run fault))
broken_alone contents options known start out out_before out_after fault alone cause unwritten =
    (record { alone = λ _. cause; together = λ both. absurd (apart options.threads both alone) }, unwritten)

-- the same once something may have been written
pub broken_late : {F W : Type 0} (contents : F → Option (List ℕ)) (options : Options) (known start out : Option (List ℕ))
    (out_before out_after : W) (fault : RunFault) (plan : Planned) (s i f : ℕ) → options.threads ≡ false
    → IfSome known (λ script. IsRead script plan) → s ≡ options.params.segments → i ≡ options.params.inodes
    → f ≡ options.params.frames → IsInRange s i f → MayHaveWritten fault
    → IsBroken contents options known start out out_before out_after (Run (threads.Run fault))
broken_late contents options known start out out_before out_after fault plan s i f alone read same_s same_i same_f
    ranges may =
    let p = options.params in
    let failed : Result Bool RunFault = Err fault in
    broken_alone contents options known start out out_before out_after fault alone
    (late_script_faults known p.segments p.inodes p.frames failed (has_plan known plan read)
    (ranges_as p.segments p.inodes p.frames s i f same_s same_i same_f ranges) may)
    (λ not. absurd (not may))

-- a run on threads
pub filed_together : {F J : Type 0} (contents : F → Option (List ℕ)) (writer : J → F) (next : J → ℕ)
    (options : Options) (known start out : Option (List ℕ)) (old new : J) (text : List ℕ) (entries : List Entry)
    (is_whole : Bool) → options.threads ≡ true
    → IfSome known (λ script. IsFiledThreads script options.params.segments options.params.inodes
    options.params.journal entries text) → Appends start out text → next old ≡ 1
    → (is_whole ≡ true → Takes (λ j. contents (writer j)) next old new entries)
    → HasGotFiled contents options is_whole known start out
filed_together contents writer next options known start out old new text entries is_whole both run printed first taken =
    record {
      text = text;
      entries = entries;
      before = writer old;
      after = writer new;
      run = known_so known _ _ run
          (λ script is. record { alone = λ alone. absurd (apart options.threads both alone); together = λ _. is });
      printed = printed;
      filed = λ whole. subst (λ (n : ℕ). Appends (contents (writer old)) (contents (writer new))
          (numbered_text n entries)) first (taken whole).lines;
    }

pub broken_together : {F W : Type 0} (contents : F → Option (List ℕ)) (options : Options)
    (known start out : Option (List ℕ)) (out_before out_after : W) (fault : ThreadsFault) → options.threads ≡ true
    → IsThreadsFault known options.params.segments options.params.inodes options.params.frames fault
    → ((MayHaveWrittenThreads fault → ⊥) → Keeps start out)
    → IsBroken contents options known start out out_before out_after (Run fault)
broken_together contents options known start out out_before out_after fault both cause unwritten =
    (record { alone = λ alone. absurd (apart options.threads both alone); together = λ _. cause }, unwritten)
