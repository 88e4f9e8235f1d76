-- How `lfs_shell` ends, by how its talk did: `ends_talk` and `ends_unmade` for `talk_on`, `ends_unbegun` for `talk_in`,
-- `ends_file` and `ends_unopened` for `talk_of`, `ends_asked` for `talk_over`. `EndsTalk` says something for each status, so with the
-- status known one of it is to be shown, and each other contradicts the number (`ends_broken`). Status 0 comes of an
-- outcome without any fault, so the talk is one whose entries and volume are kept (`whole`) and whose film is written;
-- status 1 of a fault, which tells what was talked until then: a failed read, the file of the journal, the image, the
-- film, or a faulty line. No talk that has begun has a fault of beginning (`talk_cause`), and one that hasn't has no
-- other (`unbegun_cause`).
use Rattle.std.proofs.Common.{◌≡◌, ℕ, Bool, true, false, List, Option, Result, Ok, Err, IfErr, IfOk, IsSome, inl, inr}
use Rattle.std.proofs.Common.{IfSome, None, Some, is_some, refl, sym}
use Rattle.std.proofs.Common.{ap, subst, ◌∙◌, arith}
use Rattle.std.specs.Prelude.{MatchResult}
use Rattle.lfs_audit.specs.declared.fault.RunFault.{RunFault}
use Rattle.lfs_audit.specs.declared.fault.RunFault.TheVariants.{Read}
use Rattle.lfs_audit.specs.declared.fault.RunFault.TheVariants as run
use Rattle.lfs_film.specs.Films.{Reel}
use Rattle.lfs_live.specs.Faults.{IsTalkFault}
use Rattle.lfs_live.specs.Scripts.{IsLogFault}
use Rattle.lfs_programs.specs.Talks.{EndsAsked, EndsShell, EndsTalk, Finishes, HasBrokenOff, HasTalked, HasTalkedSoFar}
use Rattle.lfs_programs.specs.Talks.{IsFilmOf, IsFilmed, IsShellFault, IsToBeKept, whole_with}
use Rattle.lfs_programs.specs.declared.fault.ShellFault.{ShellFault}
use Rattle.lfs_programs.specs.declared.fault.ShellFault.TheVariants.{Disk, Film, Image, Journal, Line, Talk}
use Rattle.lfs_programs.specs.declared.fault.ShellFault.TheVariants.{Unfit as NoStand}
use Rattle.lfs_programs.specs.declared.fault.ShellFault.TheVariants.{Unsaved}
use Rattle.lfs_stands.specs.declared.unfit.Unfit.{Unfit}
use Rattle.lfs_programs.specs.Volumes.{IsUnbegun, Kind, disk_kind, durable_kind, log_kind, share_kind}
use Rattle.lfs_parts.specs.declared.parts.Parts.{Parts}
use Rattle.lfs_programs.specs.declared.filming.Ending.{Ending}
use Rattle.lfs_programs.specs.declared.filming.Heard.{Heard}
use Rattle.lfs_programs.specs.declared.options.ShellOptions.{ShellOptions}

-- a talk that ended in a fault
ends_broken : {R W D F S : Type 0} (contents : F → Option (List ℕ)) (kind : Kind S) (options : ShellOptions)
    (known start out : Option (List ℕ)) (status : ℕ) (in_before in_after : R) (out_before out_after : W)
    (err_before err_after : D) → status ≡ 1 → HasBrokenOff contents kind options known start out
    → EndsTalk contents kind options known start out status in_before in_after out_before out_after err_before err_after
ends_broken contents kind options known start out status in_before in_after out_before out_after err_before
    err_after one broken = record {
      either = omega (arith, one);
      done = λ none. absurd (omega (arith, one, none));
      filmed = λ none. absurd (omega (arith, one, none));
      failed = λ _. broken;
      unmade = λ two. absurd (omega (arith, one, two));
    }

-- the fault of a talk
broken_talk : {F S : Type 0} (contents : F → Option (List ℕ)) (kind : Kind S) (options : ShellOptions)
    (known start out : Option (List ℕ)) (fault : RunFault) (told : ShellFault) → told ≡ Talk fault
    → (fault ≡ Read → HasTalkedSoFar contents kind options known start out)
    → IsLogFault options.params.segments options.params.inodes options.params.frames fault
    → HasBrokenOff contents kind options known start out
broken_talk contents kind options known start out fault told is so_far cause = record {
  fault = told;
  cause = subst (λ (f : ShellFault). IsShellFault kind.stand.refuses options f) (sym is) cause;
  so_far = λ read. let same : fault ≡ Read = cc in so_far same;
  answered = λ why film. absurd (cc);
  unkept = λ journal. absurd (cc);
  unsaved = λ image. absurd (cc);
  faulty = λ line. absurd (cc);
}

-- a talk that has no volume to begin with
unbegun_cause : (refuses : Unfit → Parts → Type 0) (options : ShellOptions) (fault : ShellFault) → IsUnbegun refuses options fault
    → IsShellFault refuses options fault
unbegun_cause refuses options (Talk (run.Format fault)) cause = cause
unbegun_cause refuses options (Talk run.Memory) cause = tt
unbegun_cause refuses options (Talk run.Read) cause = absurd cause
unbegun_cause refuses options (Talk run.TooLong) cause = absurd cause
unbegun_cause refuses options (Talk run.Write) cause = absurd cause
unbegun_cause refuses options (Talk (run.Script fault)) cause = absurd cause
unbegun_cause refuses options (Image fault) cause = cause
unbegun_cause refuses options (Disk fault) cause = cause
unbegun_cause refuses options (NoStand why) cause = cause
unbegun_cause refuses options (Film fault) cause = absurd cause
unbegun_cause refuses options Journal cause = absurd cause
unbegun_cause refuses options Unsaved cause = absurd cause
unbegun_cause refuses options Line cause = absurd cause

unbegun_other : (refuses : Unfit → Parts → Type 0) (options : ShellOptions) (fault other : ShellFault)
    → IsUnbegun refuses options fault → fault ≡ other → IsUnbegun refuses options other
unbegun_other refuses options fault other cause same = subst (IsUnbegun refuses options) same cause

pub ends_unbegun : {R W D F S : Type 0} (contents : F → Option (List ℕ)) (kind : Kind S) (options : ShellOptions)
    (known start out : Option (List ℕ)) (status : ℕ) (in_before in_after : R) (out_before out_after : W)
    (err_before err_after : D) (fault : ShellFault) → IsUnbegun kind.stand.refuses options fault → status ≡ 1
    → EndsTalk contents kind options known start out status in_before in_after out_before out_after err_before err_after
ends_unbegun contents kind options known start out status in_before in_after out_before out_after err_before err_after fault
    cause is =
    ends_broken contents kind options known start out status in_before in_after out_before out_after err_before err_after is
    (record {
      fault = fault;
      cause = unbegun_cause kind.stand.refuses options fault cause;
      so_far = λ read. absurd (unbegun_other kind.stand.refuses options fault (Talk Read) cause read);
      answered = λ why film. absurd (unbegun_other kind.stand.refuses options fault (Film why) cause film);
      unkept = λ journal. absurd (unbegun_other kind.stand.refuses options fault Journal cause journal);
      unsaved = λ image. absurd (unbegun_other kind.stand.refuses options fault Unsaved cause image);
      faulty = λ line. absurd (unbegun_other kind.stand.refuses options fault Line cause line);
    })

-- the fault of a talk is one of a talk over a volume that is laid out
talk_cause : (options : ShellOptions) (fault : RunFault) → IsTalkFault fault
    → IsLogFault options.params.segments options.params.inodes options.params.frames fault
talk_cause options run.Read cause = cause
talk_cause options run.TooLong cause = cause
talk_cause options (run.Script fault) cause = cause
talk_cause options (run.Format fault) cause = absurd cause
talk_cause options run.Memory cause = cause
talk_cause options run.Write cause = cause

-- the file of the journal has each entry, and the volume is kept
whole : {F S : Type 0} (contents : F → Option (List ℕ)) (kind : Kind S) (options : ShellOptions) (known start out : Option (List ℕ))
    (ending : Ending) (has_fault : Bool) → ending.is_kept ≡ true → ending.is_saved ≡ true
    → ending.has_fault ≡ has_fault → HasTalked contents kind options ending known start out
    → HasTalked contents kind options (whole_with has_fault) known start out
whole contents kind options known start out ending has_fault kept saved faulty talked =
    let is : ending ≡ whole_with has_fault =
    ap (λ (b : Bool). record ending { is_kept = b }) kept
    ∙ ap (λ (b : Bool). record ending { is_kept = true; is_saved = b }) saved
    ∙ ap (λ (b : Bool). whole_with b) faulty in
    subst (λ (e : Ending). HasTalked contents kind options e known start out) is talked

-- the film that watched a talk is some film
some_film : {F : Type 0} (contents : F → Option (List ℕ)) (film : Option Reel) → IsFilmOf contents film
    → IsFilmed contents
some_film contents None page = absurd page
some_film contents (Some reel) page = (reel, page)

asked_film : {A F : Type 0} (contents : F → Option (List ℕ)) (path : Option A) (film : Option Reel)
    → IfSome path (λ _. IsFilmOf contents film) → IfSome path (λ _. IsFilmed contents)
asked_film contents None film page = tt
asked_film contents (Some path) film page = some_film contents film page

-- a talk, what it has besides, and the status that is told of it
pub ends_talk : {R W D F S : Type 0} (contents : F → Option (List ℕ)) (kind : Kind S) (options : ShellOptions)
    (known start out : Option (List ℕ)) (status : ℕ) (in_before in_after : R) (out_before out_after : W)
    (err_before err_between err_after : D) (heard : Result Heard RunFault) (outcome : Result (Unit {0}) ShellFault)
    → IfOk heard (λ h. HasTalked contents kind options h.ending known start out)
    → IfOk heard (λ h. h.ending.is_kept ≡ true → h.ending.is_saved ≡ true → err_between ≡ err_before)
    → IfOk heard (λ h. h.ending.is_kept ≡ false → IsSome options.journal_out)
    → IfOk heard (λ h. h.ending.is_saved ≡ false → IsToBeKept options)
    → IfErr heard (λ fault. fault ≡ Read → HasTalkedSoFar contents kind options known start out)
    → IfErr heard IsTalkFault
    → Finishes contents options heard outcome
    → MatchResult outcome (λ _. status ≡ 0) (λ _. status ≡ 1) → IfOk outcome (λ _. err_after ≡ err_between)
    → EndsTalk contents kind options known start out status in_before in_after out_before out_after err_before err_after
ends_talk contents kind options known start out status in_before in_after out_before out_after err_before err_between
    err_after (Err fault) (Ok done) talked silent kept saved so_far cause finishes is untold = absurd (cc)
ends_talk contents kind options known start out status in_before in_after out_before out_after err_before err_between
    err_after (Err fault) (Err told) talked silent kept saved so_far cause finishes is untold =
    let same : told ≡ Talk fault = cc in
    ends_broken contents kind options known start out status in_before in_after out_before out_after err_before err_after is
    (broken_talk contents kind options known start out fault told same so_far (talk_cause options fault cause))
ends_talk contents kind options known start out status in_before in_after out_before out_after err_before err_between
    err_after (Ok heard) (Ok done) talked silent kept saved so_far cause finishes is untold = record {
      either = omega (arith, is);
      done = λ _. (
        heard.ending.has_fault,
        whole contents kind options known start out heard.ending heard.ending.has_fault finishes.0 finishes.1 refl talked,
        finishes.3,
        untold ∙ silent finishes.0 finishes.1,
      );
      filmed = λ _. asked_film contents options.film heard.film finishes.2;
      failed = λ one. absurd (omega (arith, is, one));
      unmade = λ two. absurd (omega (arith, is, two));
    }
ends_talk contents kind options known start out status in_before in_after out_before out_after err_before err_between
    err_after (Ok heard) (Err (Talk fault)) talked silent kept saved so_far cause finishes is untold = absurd finishes
ends_talk contents kind options known start out status in_before in_after out_before out_after err_before err_between
    err_after (Ok heard) (Err (Image fault)) talked silent kept saved so_far cause finishes is untold = absurd finishes
ends_talk contents kind options known start out status in_before in_after out_before out_after err_before err_between
    err_after (Ok heard) (Err (NoStand why)) talked silent kept saved so_far cause finishes is untold = absurd finishes
ends_talk contents kind options known start out status in_before in_after out_before out_after err_before err_between
    err_after (Ok heard) (Err (Disk fault)) talked silent kept saved so_far cause finishes is untold = absurd finishes
ends_talk contents kind options known start out status in_before in_after out_before out_after err_before err_between
    err_after (Ok heard) (Err (Film why)) talked silent kept saved so_far cause finishes is untold =
    ends_broken contents kind options known start out status in_before in_after out_before out_after err_before err_after is
    (record {
      fault = Film why;
      cause = finishes;
      so_far = λ talk. absurd (cc);
      answered = λ _ _. (heard.ending, talked);
      unkept = λ journal. absurd (cc);
      unsaved = λ image. absurd (cc);
      faulty = λ line. absurd (cc);
    })
ends_talk contents kind options known start out status in_before in_after out_before out_after err_before err_between
    err_after (Ok heard) (Err Journal) talked silent kept saved so_far cause finishes is untold =
    ends_broken contents kind options known start out status in_before in_after out_before out_after err_before err_after is
    (record {
      fault = Journal;
      cause = kept finishes;
      so_far = λ talk. absurd (cc);
      answered = λ why film. absurd (cc);
      unkept = λ _. (heard.ending, finishes, talked);
      unsaved = λ image. absurd (cc);
      faulty = λ line. absurd (cc);
    })
ends_talk contents kind options known start out status in_before in_after out_before out_after err_before err_between
    err_after (Ok heard) (Err Unsaved) talked silent kept saved so_far cause finishes is untold =
    ends_broken contents kind options known start out status in_before in_after out_before out_after err_before err_after is
    (record {
      fault = Unsaved;
      cause = saved finishes.1;
      so_far = λ talk. absurd (cc);
      answered = λ why film. absurd (cc);
      unkept = λ journal. absurd (cc);
      unsaved = λ _. (heard.ending, finishes.0, finishes.1, talked);
      faulty = λ line. absurd (cc);
    })
ends_talk contents kind options known start out status in_before in_after out_before out_after err_before err_between
    err_after (Ok heard) (Err Line) talked silent kept saved so_far cause finishes is untold =
    ends_broken contents kind options known start out status in_before in_after out_before out_after err_before err_after is
    (record {
      fault = Line;
      cause = finishes.2;
      so_far = λ talk. absurd (cc);
      answered = λ why film. absurd (cc);
      unkept = λ journal. absurd (cc);
      unsaved = λ image. absurd (cc);
      faulty = λ _. whole contents kind options known start out heard.ending true finishes.0 finishes.1 finishes.3 talked;
    })

-- a talk whose journal's file is not made
pub ends_unmade : {R W D F S : Type 0} (contents : F → Option (List ℕ)) (kind : Kind S) (options : ShellOptions)
    (known start out : Option (List ℕ)) (status : ℕ) (here : R) (there : W) (err_before err_after : D)
    → status ≡ 2 → IsSome options.journal_out
    → EndsTalk contents kind options known start out status here here there there err_before err_after
ends_unmade contents kind options known start out status here there err_before err_after is named = record {
  either = omega (arith, is);
  done = λ none. absurd (omega (arith, is, none));
  filmed = λ none. absurd (omega (arith, is, none));
  failed = λ one. absurd (omega (arith, is, one));
  unmade = λ _. (inl named, refl, refl);
}

-- a talk whose lines' file is not opened
unopened : {R W D F S : Type 0} (contents : F → Option (List ℕ)) (kind : Kind S) (options : ShellOptions)
    (known start out : Option (List ℕ)) (here : R) (there : W) (err_before err_after : D) → IsSome options.script
    → EndsTalk contents kind options known start out 2 here here there there err_before err_after
unopened contents kind options known start out here there err_before err_after named = record {
  either = omega arith;
  done = λ none. absurd (omega (arith, none));
  filmed = λ none. absurd (omega (arith, none));
  failed = λ one. absurd (omega (arith, one));
  unmade = λ _. (inr named, refl, refl);
}

unopened_asked : {R W D F : Type 0} (contents : F → Option (List ℕ)) (on_disk shares serials : Bool)
    (options : ShellOptions) (known start out : Option (List ℕ)) (here : R) (there : W) (err_before err_after : D)
    → IsSome options.script
    → EndsAsked contents on_disk shares serials options known start out 2 here here there there err_before err_after
unopened_asked contents true shares serials options known start out here there err_before err_after named =
    unopened contents (disk_kind contents) options known start out here there err_before err_after named
unopened_asked contents false true serials options known start out here there err_before err_after named =
    unopened contents (share_kind contents) options known start out here there err_before err_after named
unopened_asked contents false false true options known start out here there err_before err_after named =
    unopened contents (durable_kind contents) options known start out here there err_before err_after named
unopened_asked contents false false false options known start out here there err_before err_after named =
    unopened contents (log_kind contents) options known start out here there err_before err_after named

pub ends_unopened : {R W D F : Type 0} (contents : F → Option (List ℕ)) (options : ShellOptions)
    (known start out : Option (List ℕ)) (here : R) (there : W) (err_before err_after : D) → IsSome options.script
    → EndsShell contents options known start out 2 here here there there err_before err_after
ends_unopened contents options known start out here there err_before err_after named = record {
  bytes = known;
  own = λ none. refl;
  talk = unopened_asked contents (is_some options.disk) options.shares options.serials options known start out here there
      err_before err_after named;
}

-- a talk over another reader, of which nothing is told
pub ends_elsewhere : {R T W D F S : Type 0} (contents : F → Option (List ℕ)) (kind : Kind S) (options : ShellOptions)
    (known start out : Option (List ℕ)) (status : ℕ) (there_before there_after : T) (here : R)
    (out_before out_after : W) (err_before err_after : D)
    → EndsTalk contents kind options known start out status there_before there_after out_before out_after err_before
    err_after
    → EndsTalk contents kind options known start out status here here out_before out_after err_before err_after
ends_elsewhere contents kind options known start out status there_before there_after here out_before out_after err_before
    err_after ends = record {
      either = ends.either;
      done = ends.done;
      filmed = ends.filmed;
      failed = ends.failed;
      unmade = λ two. let u = ends.unmade two in (u.0, refl, u.2);
    }

asked_elsewhere : {R T W D F : Type 0} (contents : F → Option (List ℕ)) (on_disk shares serials : Bool)
    (options : ShellOptions) (known start out : Option (List ℕ)) (status : ℕ) (there_before there_after : T) (here : R)
    (out_before out_after : W) (err_before err_after : D)
    → EndsAsked contents on_disk shares serials options known start out status there_before there_after out_before
    out_after err_before err_after
    → EndsAsked contents on_disk shares serials options known start out status here here out_before out_after err_before
    err_after
asked_elsewhere contents true shares serials options known start out status there_before there_after here out_before
    out_after err_before err_after ends =
    ends_elsewhere contents (disk_kind contents) options known start out status there_before there_after here
    out_before out_after err_before err_after ends
asked_elsewhere contents false true serials options known start out status there_before there_after here out_before
    out_after err_before err_after ends =
    ends_elsewhere contents (share_kind contents) options known start out status there_before there_after here
    out_before out_after err_before err_after ends
asked_elsewhere contents false false true options known start out status there_before there_after here out_before
    out_after err_before err_after ends =
    ends_elsewhere contents (durable_kind contents) options known start out status there_before there_after here
    out_before out_after err_before err_after ends
asked_elsewhere contents false false false options known start out status there_before there_after here out_before
    out_after err_before err_after ends =
    ends_elsewhere contents (log_kind contents) options known start out status there_before there_after here
    out_before out_after err_before err_after ends

-- ---- which lines are answered

-- those of a file
pub ends_file : {R T W D F : Type 0} (contents : F → Option (List ℕ)) (options : ShellOptions)
    (known start out : Option (List ℕ)) (status : ℕ) (there_before there_after : T) (here : R)
    (out_before out_after : W) (err_before err_after : D) (bytes : Option (List ℕ))
    → true ≡ is_some options.script
    → EndsAsked contents (is_some options.disk) options.shares options.serials options bytes start out status there_before
    there_after out_before out_after err_before err_after
    → EndsShell contents options known start out status here here out_before out_after err_before err_after
ends_file contents options known start out status there_before there_after here out_before out_after err_before
    err_after
    bytes named ends = record {
      bytes = bytes;
      own = λ none. let other : true ≡ false = rw none at named in absurd (cc);
      talk = asked_elsewhere contents (is_some options.disk) options.shares options.serials options bytes start out status
          there_before there_after here out_before out_after err_before err_after ends;
    }

-- ---- over which kind of store

-- the one that is asked for
pub ends_asked : {R W D F : Type 0} (contents : F → Option (List ℕ)) (on_disk shares serials : Bool)
    (options : ShellOptions) (known start out : Option (List ℕ)) (status : ℕ) (in_before in_after : R)
    (out_before out_after : W) (err_before err_after : D) → is_some options.disk ≡ on_disk → options.shares ≡ shares
    → options.serials ≡ serials
    → EndsAsked contents on_disk shares serials options known start out status in_before in_after out_before out_after
    err_before err_after
    → EndsAsked contents (is_some options.disk) options.shares options.serials options known start out status in_before
    in_after out_before out_after err_before err_after
ends_asked contents on_disk shares serials options known start out status in_before in_after out_before out_after
    err_before err_after disk shared told ends =
    subst (λ (b : Bool). EndsAsked contents b options.shares options.serials options known start out status in_before
    in_after out_before out_after err_before err_after) (sym disk)
    (subst (λ (b : Bool). EndsAsked contents on_disk b options.serials options known start out status in_before in_after
    out_before out_after err_before err_after) (sym shared)
    (subst (λ (b : Bool). EndsAsked contents on_disk shares b options known start out status in_before in_after
    out_before out_after err_before err_after) (sym told) ends))
