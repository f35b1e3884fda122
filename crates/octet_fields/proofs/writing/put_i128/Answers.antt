use Rattle.std.proofs.Common.{◌≡◌, List, ℕ, Result, Ok, Err, cond, OnOk}
use Rattle.std.specs.Result.{is_ok}
use Rattle.std.specs.Int.{w128}
use Rattle.std.proofs.lemmas.Int.{to_z-of_z}
use Rattle.octet_fields.specs.Spelling.{number, signed}
use Rattle.octet_fields.proofs.writing.put_i128.Goals as goal

if_ok : {T E : Type 0} (r : Result T E) (now then_ else_ : List ℕ) → now ≡ cond (is_ok r) then_ else_ → OnOk r (now ≡ then_)
if_ok (Ok x) now then_ else_ e = e
if_ok (Err x) now then_ else_ e = tt

pub returns-clause-ok : goal.returns-clause-ok
unfolding number signed
returns-clause-ok c =
    let e = rw (c.to_be_bytes.ensures, to_z-of_z w128 c.args.value c.ranges.value) at c.extend_from_slice.ensures.items in
    if_ok c.extend_from_slice.result _ _ _ e
