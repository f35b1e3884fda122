-- What holds of an outcome.
use Rattle.std.proofs.Common.{◌≡◌, ◌∙◌, Result, Ok, Err, OnOk, ap, sym, subst}
use Rattle.std.specs.Prelude.{IsErrAnd}
use Rattle.std.proofs.lemmas.Result.{err_from_is_err_and}

pub on_ok2 : {T E P Q R : Type 0} (r : Result T E) → (P → Q → R) → OnOk r P → OnOk r Q → OnOk r R
on_ok2 (Ok x) f p q = f p q
on_ok2 (Err e) f p q = tt

pub on_ok3 : {T E P Q R S : Type 0} (r : Result T E) → (P → Q → R → S) → OnOk r P → OnOk r Q → OnOk r R → OnOk r S
on_ok3 (Ok x) f p q s = f p q s
on_ok3 (Err e) f p q s = tt

-- what holds of a refusal with a fault holds of an outcome that is that refusal
pub at_err : {X E : Type 0} (Rel : Result X E → Type 0) (result : Result X E) (e : E) → IsErrAnd result (λ f. f ≡ e) → Rel (Err e) → Rel result
at_err Rel result e is h = let p = err_from_is_err_and result is in subst Rel (sym (p.1 ∙ ap Err p.2)) h
