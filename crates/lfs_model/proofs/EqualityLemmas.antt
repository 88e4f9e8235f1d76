-- `==` of requests, answers and callers is true only of the same ones (`requests_same`, `answers_same`,
-- `callers_same`), for `Entry::is_call`, by which a journal is compared. Each goes variant by variant and field by
-- field; two different variants are `==` false by computing. A caller's groups lie in sixteen places of which `==`
-- compares all: those past the length are zeros in both, so the lists are the same (`groups_same`); a variant or a
-- field more needs its line here.
use Rattle.std.proofs.Common.{◌≡◌, ℕ, ◌-◌, Bool, true, false, not, List, ◌++◌, ◌&&◌, length, take, replicate, refl, sym}
use Rattle.std.proofs.Common.{ap, subst, ◌∙◌}
use Rattle.std.proofs.lemmas.Bool.{and_parts, not-false, true≢false}
use Rattle.std.proofs.Math.Seq.{take-append_seam}
use Rattle.std.specs.Cmp.Lexicographic.{pointwise}
use Rattle.std.specs.Bool.{beq}
use Rattle.std.specs.Cmp.{booleans_Decides}
use Rattle.std.specs.Prelude.{nat_eq}
use Rattle.std.proofs.lemmas.Slice.Eq.{slice_eq-Decides}
use Rattle.std.proofs.lemmas.Bool.Decides.{Decides-eqb}
use Rattle.lfs_types.specs.Caller.{Caller}
use Rattle.lfs_types.specs.declared.answer.Answer.{Answer}
use Rattle.lfs_types.specs.declared.answer.Answer.TheVariants.{Served, Denied, Refused}
use Rattle.lfs_types.specs.declared.answer.Resource.{Resource}
use Rattle.lfs_types.specs.declared.answer.Resource.TheVariants as resources
use Rattle.lfs_types.specs.declared.answer.Served.{Served as Shown}
use Rattle.lfs_types.specs.declared.answer.Served.TheVariants as shown
use Rattle.lfs_types.specs.declared.attrs.Attrs.{Attrs}
use Rattle.lfs_types.specs.declared.attrs.Kind.{Kind}
use Rattle.lfs_types.specs.declared.attrs.Kind.TheVariants as kinds
use Rattle.lfs_types.specs.declared.level.Level.{Level}
use Rattle.lfs_types.specs.declared.level.Level.TheVariants as levels
use Rattle.lfs_types.specs.declared.request.Place.{Place}
use Rattle.lfs_types.specs.declared.request.Place.TheVariants.{At, End}
use Rattle.lfs_types.specs.declared.request.Request.{Request}
use Rattle.lfs_types.specs.declared.request.Request.TheVariants.{Stat, Read, Write, List as Names, SetLength, Create}
use Rattle.lfs_types.specs.declared.request.Request.TheVariants.{Mkdir, Unlink, Rmdir, Rename, Chmod, Chown, Chflags}
use Rattle.lfs_types.specs.declared.request.Request.TheVariants.{SetLevel, Sync}
use Rattle.lfs_types.specs.declared.rule.Denial.{Denial}
use Rattle.lfs_types.specs.declared.rule.Rule.{Rule}
use Rattle.lfs_types.specs.declared.rule.Rule.TheVariants as rules
use Rattle.lfs_types.specs.contracts.answer.AnswerPartialEq.TheImpl as answer-eq
use Rattle.lfs_types.specs.contracts.answer.AnswerEq.TheImpl.Laws as answer-laws
use Rattle.lfs_types.specs.contracts.answer.ResourcePartialEq.TheImpl as resource-eq
use Rattle.lfs_types.specs.contracts.answer.ServedPartialEq.TheImpl as shown-eq
use Rattle.lfs_types.specs.contracts.attrs.AttrsPartialEq.TheImpl as attrs-eq
use Rattle.lfs_types.specs.contracts.attrs.KindPartialEq.TheImpl as kind-eq
use Rattle.lfs_types.specs.contracts.level.LevelPartialEq.TheImpl as level-eq
use Rattle.lfs_types.specs.contracts.request.PlacePartialEq.TheImpl as place-eq
use Rattle.lfs_types.specs.contracts.request.RequestPartialEq.TheImpl as request-eq
use Rattle.lfs_types.specs.contracts.request.RequestEq.TheImpl.Laws as request-laws
use Rattle.lfs_types.specs.contracts.rule.DenialPartialEq.TheImpl as denial-eq
use Rattle.lfs_types.specs.contracts.rule.RulePartialEq.TheImpl as rule-eq
use Rattle.lfs_model.specs.declared.journal.Event.{Event}
use Rattle.lfs_model.specs.declared.journal.Event.TheVariants.{User, Cleaner}

nats : (m n : ℕ) → nat_eq m n ≡ true → m ≡ n
nats m n h = (Decides-eqb m n).0 h

bytes : (xs ys : List ℕ) → pointwise nat_eq xs ys ≡ true → xs ≡ ys
bytes xs ys h = (slice_eq-Decides Decides-eqb xs ys (pointwise nat_eq xs ys) refl).0 h

names : (p q : List (List ℕ)) → pointwise (pointwise nat_eq) p q ≡ true → p ≡ q
names p q h =
    (slice_eq-Decides (λ xs ys. slice_eq-Decides Decides-eqb xs ys (pointwise nat_eq xs ys) refl) p q
    (pointwise (pointwise nat_eq) p q) refl).0 h

levels_same : (a b : Level) → level-eq.ghosts.eq a b ≡ true → a ≡ b
levels_same levels.PermanentlyInsecure levels.PermanentlyInsecure h = refl
levels_same levels.Insecure levels.Insecure h = refl
levels_same levels.Secure levels.Secure h = refl
levels_same levels.HighlySecure levels.HighlySecure h = refl
levels_same a b h = absurd (true≢false (sym h))

kinds_same : (a b : Kind) → kind-eq.ghosts.eq a b ≡ true → a ≡ b
kinds_same kinds.File kinds.File h = refl
kinds_same kinds.Directory kinds.Directory h = refl
kinds_same a b h = absurd (true≢false (sym h))

resources_same : (a b : Resource) → resource-eq.ghosts.eq a b ≡ true → a ≡ b
resources_same resources.NoMemory resources.NoMemory h = refl
resources_same resources.NoSpace resources.NoSpace h = refl
resources_same resources.NoInodes resources.NoInodes h = refl
resources_same resources.DirectoryFull resources.DirectoryFull h = refl
resources_same resources.JournalFull resources.JournalFull h = refl
resources_same a b h = absurd (true≢false (sym h))

rules_same : (a b : Rule) → rule-eq.ghosts.eq a b ≡ true → a ≡ b
rules_same rules.IsDirectory rules.IsDirectory h = refl
rules_same rules.GrantsSearch rules.GrantsSearch h = refl
rules_same rules.NameThere rules.NameThere h = refl
rules_same rules.NameFree rules.NameFree h = refl
rules_same rules.IsNoDirectory rules.IsNoDirectory h = refl
rules_same rules.IsEmpty rules.IsEmpty h = refl
rules_same rules.IsNotRoot rules.IsNotRoot h = refl
rules_same rules.IsNotBeneathItself rules.IsNotBeneathItself h = refl
rules_same rules.IsMutable rules.IsMutable h = refl
rules_same rules.IsNotAppendOnly rules.IsNotAppendOnly h = refl
rules_same rules.GrantsRead rules.GrantsRead h = refl
rules_same rules.GrantsWrite rules.GrantsWrite h = refl
rules_same rules.PassesSticky rules.PassesSticky h = refl
rules_same rules.IsOwner rules.IsOwner h = refl
rules_same rules.MaySetOwner rules.MaySetOwner h = refl
rules_same rules.IsSuperuser rules.IsSuperuser h = refl
rules_same rules.MaySetFlags rules.MaySetFlags h = refl
rules_same rules.KeepsSystemLocks rules.KeepsSystemLocks h = refl
rules_same rules.MaySetLevel rules.MaySetLevel h = refl
rules_same rules.FitsFile rules.FitsFile h = refl
rules_same a b h = absurd (true≢false (sym h))

places_same : (a b : Place) → place-eq.ghosts.eq a b ≡ true → a ≡ b
places_same (At m) (At n) h = ap At (nats m n h)
places_same End End h = refl
places_same a b h = absurd (true≢false (sym h))

-- two facts of a path and a number
two : {A : Type 0} (f : List (List ℕ) → ℕ → A) (p q : List (List ℕ)) (m n : ℕ)
    → (pointwise (pointwise nat_eq) p q && nat_eq m n) ≡ true → f p m ≡ f q n
two f p q m n h =
    let both = and_parts (pointwise (pointwise nat_eq) p q) (nat_eq m n) h in
    ap (λ x. f x m) (names p q both.0) ∙ ap (f q) (nats m n both.1)

three : {A : Type 0} (f : List (List ℕ) → ℕ → ℕ → A) (p q : List (List ℕ)) (m n k l : ℕ)
    → (pointwise (pointwise nat_eq) p q && (nat_eq m n && nat_eq k l)) ≡ true → f p m k ≡ f q n l
three f p q m n k l h =
    let first = and_parts (pointwise (pointwise nat_eq) p q) (nat_eq m n && nat_eq k l) h in
    let rest = and_parts (nat_eq m n) (nat_eq k l) first.1 in
    ap (λ x. f x m k) (names p q first.0) ∙ ap (λ x. f q x k) (nats m n rest.0) ∙ ap (f q n) (nats k l rest.1)

written : (p q : List (List ℕ)) (at to : Place) (b c : List ℕ)
    → (pointwise (pointwise nat_eq) p q && (place-eq.ghosts.eq at to && pointwise nat_eq b c)) ≡ true → Write p at b
    ≡ Write q to c
written p q at to b c h =
    let first = and_parts (pointwise (pointwise nat_eq) p q) (place-eq.ghosts.eq at to && pointwise nat_eq b c) h in
    let rest = and_parts (place-eq.ghosts.eq at to) (pointwise nat_eq b c) first.1 in
    ap (λ x. Write x at b) (names p q first.0) ∙ ap (λ x. Write q x b) (places_same at to rest.0)
    ∙ ap (Write q to) (bytes b c rest.1)

renamed : (p q r s : List (List ℕ)) → (pointwise (pointwise nat_eq) p q && pointwise (pointwise nat_eq) r s) ≡ true
    → Rename p r ≡ Rename q s
renamed p q r s h =
    let both = and_parts (pointwise (pointwise nat_eq) p q) (pointwise (pointwise nat_eq) r s) h in
    ap (λ x. Rename x r) (names p q both.0) ∙ ap (Rename q) (names r s both.1)

pub requests_same : (a b : Request) → request-eq.ghosts.eq a b ≡ true → a ≡ b
requests_same (Stat p) (Stat q) h = ap Stat (names p q h)
requests_same (Read p off len) (Read q o l) h = three Read p q off o len l h
requests_same (Write p at b) (Write q to c) h = written p q at to b c h
requests_same (Names p) (Names q) h = ap Names (names p q h)
requests_same (SetLength p m) (SetLength q n) h = two SetLength p q m n h
requests_same (Create p m) (Create q n) h = two Create p q m n h
requests_same (Mkdir p m) (Mkdir q n) h = two Mkdir p q m n h
requests_same (Unlink p) (Unlink q) h = ap Unlink (names p q h)
requests_same (Rmdir p) (Rmdir q) h = ap Rmdir (names p q h)
requests_same (Rename p r) (Rename q s) h = renamed p q r s h
requests_same (Chmod p m) (Chmod q n) h = two Chmod p q m n h
requests_same (Chown p m k) (Chown q n l) h = three Chown p q m n k l h
requests_same (Chflags p m) (Chflags q n) h = two Chflags p q m n h
requests_same (SetLevel a) (SetLevel b) h = ap SetLevel (levels_same a b h)
requests_same Sync Sync h = refl
requests_same a b h = absurd (true≢false (sym h))

attrs_same : (a b : Attrs) → attrs-eq.ghosts.eq a b ≡ true → a ≡ b
attrs_same a b h =
    let kind = kind-eq.ghosts.eq a.kind b.kind in
    let mode = nat_eq a.mode b.mode && kind in
    let flags = nat_eq a.flags b.flags && mode in
    let gid = nat_eq a.gid b.gid && flags in
    let uid = nat_eq a.uid b.uid && gid in
    let h0 = and_parts (nat_eq a.size b.size) uid h in
    let h1 = and_parts (nat_eq a.uid b.uid) gid h0.1 in
    let h2 = and_parts (nat_eq a.gid b.gid) flags h1.1 in
    let h3 = and_parts (nat_eq a.flags b.flags) mode h2.1 in
    let h4 = and_parts (nat_eq a.mode b.mode) kind h3.1 in
    λ i. record {
      size = nats a.size b.size h0.0 i;
      uid = nats a.uid b.uid h1.0 i;
      gid = nats a.gid b.gid h2.0 i;
      flags = nats a.flags b.flags h3.0 i;
      mode = nats a.mode b.mode h4.0 i;
      kind = kinds_same a.kind b.kind h4.1 i;
    }

denials_same : (a b : Denial) → denial-eq.ghosts.eq a b ≡ true → a ≡ b
denials_same a b h =
    let at = nat_eq a.at b.at in
    let path = nat_eq a.path b.path && at in
    let h0 = and_parts (rule-eq.ghosts.eq a.rule b.rule) path h in
    let h1 = and_parts (nat_eq a.path b.path) at h0.1 in
    λ i. record { rule = rules_same a.rule b.rule h0.0 i; path = nats a.path b.path h1.0 i; at = nats a.at b.at h1.1 i }

shown_same : (a b : Shown) → shown-eq.ghosts.eq a b ≡ true → a ≡ b
shown_same (shown.Stat m a) (shown.Stat n b) h =
    let both = and_parts (nat_eq m n) (attrs-eq.ghosts.eq a b) h in
    ap (λ x. shown.Stat x a) (nats m n both.0) ∙ ap (shown.Stat n) (attrs_same a b both.1)
shown_same (shown.Bytes a) (shown.Bytes b) h = ap shown.Bytes (bytes a b h)
shown_same (shown.Names a) (shown.Names b) h = ap shown.Names (names a b h)
shown_same shown.Done shown.Done h = refl
shown_same a b h = absurd (true≢false (sym h))

pub answers_same : (a b : Answer) → answer-eq.ghosts.eq a b ≡ true → a ≡ b
answers_same (Served a) (Served b) h = ap Served (shown_same a b h)
answers_same (Denied a) (Denied b) h = ap Denied (denials_same a b h)
answers_same (Refused a) (Refused b) h = ap Refused (resources_same a b h)
answers_same a b h = absurd (true≢false (sym h))

-- ---- callers

-- what `==` of two credentials compares
abbrev pub caller_eq : Caller → Caller → Bool
caller_eq a b =
    nat_eq a.uid b.uid && (pointwise nat_eq (a.groups ++ replicate (16 - length a.groups) 0) (b.groups
    ++ replicate (16 - length b.groups) 0) && (nat_eq (length a.groups) (length b.groups) && beq a.init b.init))

groups_same : (xs ys pad end : List ℕ) → length xs ≡ length ys → xs ++ pad ≡ ys ++ end → xs ≡ ys
groups_same xs ys pad end many same =
    sym (take-append_seam xs pad) ∙ ap (λ n. take n (xs ++ pad)) many ∙ ap (take (length ys)) same
    ∙ take-append_seam ys end

pub callers_same : (a b : Caller) → false ≡ not (caller_eq a b) → a ≡ b
callers_same a b none =
    let init = beq a.init b.init in
    let padded = pointwise nat_eq (a.groups ++ replicate (16 - length a.groups) 0) (b.groups
    ++ replicate (16 - length b.groups) 0) in
    let h = not-false (caller_eq a b) (sym none) in
    let many = nat_eq (length a.groups) (length b.groups) in
    let h0 = and_parts (nat_eq a.uid b.uid) (padded && (many && init)) h in
    let h1 = and_parts padded (many && init) h0.1 in
    let h2 = and_parts many init h1.1 in
    let groups = groups_same a.groups b.groups _ _ (nats _ _ h2.0) (bytes _ _ h1.0) in
    λ i. record { uid = nats a.uid b.uid h0.0 i; groups = groups i; init = (booleans_Decides a.init b.init).0 h2.1 i }

-- ---- entries

-- the request and the answer of a user's call
asked : Request → Event → Request
asked none (User request answer) = request
asked none (Cleaner act outcome) = none

given : Answer → Event → Answer
given none (User request answer) = answer
given none (Cleaner act outcome) = none

pub same_request : (a b : Request) (x y : Answer) → User a x ≡ User b y → request-eq.ghosts.eq a b ≡ true
unfolding asked
same_request a b x y h = subst (λ r. request-eq.ghosts.eq a r ≡ true) (ap (asked a) h) (request-laws.laws-law.refl a)

pub same_answer : (a b : Request) (x y : Answer) → User a x ≡ User b y → answer-eq.ghosts.eq x y ≡ true
unfolding given
same_answer a b x y h = subst (λ r. answer-eq.ghosts.eq x r ≡ true) (ap (given x) h) (answer-laws.laws-law.refl x)
