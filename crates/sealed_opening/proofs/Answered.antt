-- Answers that say as much as others.
use Rattle.std.proofs.Common.{Result, Ok, Err, Option, Some, None}
use Rattle.std.specs.Prelude.{IfNone, IfOk, IfSome}

-- of what is there
pub some_as : {Z E : Type 0} (result : Result (Option Z) E) (P Q : Z → Type 0) → ((z : Z) → P z → Q z) → IfOk result (λ o. IfSome o P) → IfOk result (λ o. IfSome o Q)
some_as (Ok (Some z)) P Q says is = says z is
some_as (Ok None) P Q says is = tt
some_as (Err e) P Q says is = tt

-- that there is none
pub none_as : {Z E : Type 0} (result : Result (Option Z) E) (A B : Type 0) → (A → B) → IfOk result (λ o. IfNone o A) → IfOk result (λ o. IfNone o B)
none_as (Ok (Some z)) A B says is = tt
none_as (Ok None) A B says is = says is
none_as (Err e) A B says is = tt
