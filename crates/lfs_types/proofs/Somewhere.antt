-- What is known of a value that is there, or isn't, for all crates above: `present` and `is_some_and` say that it is
-- there because it is known, `there_of` and `some_and` give the value with what is known of it, and `none_there` and
-- `not_some` are about one that isn't. Each takes the two cases of an Option apart, so that whoever knows more than
-- that needn't.
use Rattle.std.proofs.Common.{◌≡◌, false, Option, None, Some, refl, sym, subst}
use Rattle.std.specs.Prelude.{is_some, IsSome, IsSomeAnd}

-- what is a value is there
pub present : {A : Type 0} {o : Option A} {x : A} → o ≡ Some x → IsSome o
present e = subst IsSome (sym e) refl

-- a value with a fact
pub record Some_and {A : Type 0} (o : Option A) (P : A → Type 0) : Type 0 where
  pub value : A
  pub is : o ≡ Some value
  pub holds : P value

-- the value of which something is known
pub some_and : {A : Type 0} (o : Option A) (P : A → Type 0) → IsSomeAnd o P → Some_and o P
some_and None P h = absurd h
some_and (Some x) P h = record { value = x; is = refl; holds = h }

-- what is known of a value that is there
pub is_some_and : {A : Type 0} {o : Option A} (P : A → Type 0) {x : A} → o ≡ Some x → P x → IsSomeAnd o P
is_some_and P e h = subst (λ o. IsSomeAnd o P) (sym e) h

pub record There {A : Type 0} (o : Option A) : Type 0 where
  pub value : A
  pub is : o ≡ Some value

-- the value that is there
pub there_of : {A : Type 0} (o : Option A) → IsSome o → There o
there_of None h = absurd (cc)
there_of (Some x) h = record { value = x; is = refl }

-- a value isn't there and there
pub none_there : {A : Type 0} {X : Type 0} (o : Option X) (x : X) → o ≡ None → o ≡ Some x → A
none_there o x none there = absurd (cc)

-- what something is known of is there
pub some_from : {A : Type 0} (o : Option A) (P : A → Type 0) → IsSomeAnd o P → IsSome o
some_from None P h = absurd h
some_from (Some x) P h = refl

-- a value that isn't there
pub not_some : {A : Type 0} (o : Option A) → is_some o ≡ false → o ≡ None
not_some None h = refl
not_some (Some x) h = absurd (cc)
