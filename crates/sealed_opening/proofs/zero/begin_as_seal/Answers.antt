use Rattle.std.proofs.Common.{◌≡◌, ℕ, Option, Some, None, false, true≢false}
use Rattle.std.specs.Prelude.{◌==◌}
use Rattle.sealed_opening.proofs.SealKind.{no_seal_record}
use Rattle.sealed_opening.proofs.zero.begin_as_seal.Goals as goal

pub returns-in-Some : goal.returns-in-Some
returns-in-Some c isnt seal same =
    no_seal_record c.args.octets.now (Some c.in-Some.kind.now) seal c.in-Some.ensures.value (λ is. true≢false (let four : c.in-Some.kind.now ≡ 4 = cc in let no : (c.in-Some.kind.now == 4) ≡ false = isnt in rw four at no)) same

pub returns-in-None : goal.returns-in-None
returns-in-None c isnt seal same =
    no_seal_record c.args.octets.now None seal c.in-None.ensures.value (λ is. let bad : ◌≡◌ {A = Option ℕ} None (Some 4) = is in cc) same
