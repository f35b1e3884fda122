-- A filler's refusal.
use Rattle.std.proofs.Common.{Option, Result, Ok, Err, IfErr, IfNone, OnOk}
use Rattle.std.specs.Prelude.{IfSome}
use Rattle.std.specs.Result.{result_err}

-- what is said of an error is said of the refusal that is kept of it
pub some_of_err : {X E : Type 0} (P : E → Type 0) (answer : Result X E) → IfErr answer P → IfSome (result_err answer) P
some_of_err P (Ok x) p = tt
some_of_err P (Err e) p = p

-- what is said where there is none, where none is kept
pub none_of_err : {X E : Type 0} (P : Type 0) (answer : Result X E) → OnOk answer P → IfNone (result_err answer) P
none_of_err P (Ok x) p = p
none_of_err P (Err e) p = tt
