use Rattle.std.proofs.Common.{◌≡◌, ℕ, List, leb, true, sym, ◌∙◌, subst, arith}
use Rattle.std.proofs.lemmas.Bool.Decides.{nat_tests}
use Rattle.seal_codec.specs.declared.seal.Seal.{Seal}
use Rattle.sealed_opening.specs.Zero.{IsLastOf}
use Rattle.sealed_opening.proofs.SealsBehind.{one_more, one_was}
use Rattle.sealed_opening.proofs.ZeroTaken.{none_if, some_if}
use Rattle.sealed_opening.proofs.zero.ZeroRecords.may_stand.Goals as goal

pub returns-then-is_none-clause-no : goal.returns-then-is_none-clause-no
returns-then-is_none-clause-no c some may = absurd (none_if c.args.self.now.made c.is_none.result c.is_none.ensures c.if-is_none.true some)

pub returns-then-is_grown-clause-made : goal.returns-then-is_grown-clause-made
returns-then-is_grown-clause-made c said = some_if c.args.self.now.made c.is_none.result c.is_none.ensures c.if-is_none.false

pub returns-then-is_grown-clause-follows : goal.returns-then-is_grown-clause-follows
returns-then-is_grown-clause-follows c said =
    let log : ℕ = c.last_of-file.result.0 in
    let rows : ℕ = c.last_of-file.result.1 in
    let last = subst (λ (l : List Seal). IsLastOf l log rows) c.as_slice.ensures.value c.last_of-file.ensures in
    let grown = c.if-is_grown.true in
    one_more c.args.seal.now c.args.self.now.seals.items log rows last c.requires.kept.follow c.requires.fits (grind (arith, nat_tests, grown)) (sym c.names_above.ensures ∙ said)

pub returns-then-is_grown-clause-no : goal.returns-then-is_grown-clause-no
returns-then-is_grown-clause-no c some may =
    let log : ℕ = c.last_of-file.result.0 in
    let rows : ℕ = c.last_of-file.result.1 in
    let last = subst (λ (l : List Seal). IsLastOf l log rows) c.as_slice.ensures.value c.last_of-file.ensures in
    c.names_above.ensures ∙ (one_was c.args.seal.now c.args.self.now.seals.items log rows last may).1

pub returns-else-is_grown-clause-made : goal.returns-else-is_grown-clause-made
returns-else-is_grown-clause-made c said =
    let grown : leb c.last_of-file.result.1 c.args.seal.now.rows ≡ true = said in
    let short = c.if-is_grown.false in
    absurd (grind (arith, nat_tests, grown, short))

pub returns-else-is_grown-clause-follows : goal.returns-else-is_grown-clause-follows
returns-else-is_grown-clause-follows c said =
    let grown : leb c.last_of-file.result.1 c.args.seal.now.rows ≡ true = said in
    let short = c.if-is_grown.false in
    absurd (grind (arith, nat_tests, grown, short))

pub returns-else-is_grown-clause-no : goal.returns-else-is_grown-clause-no
returns-else-is_grown-clause-no c some may =
    let log : ℕ = c.last_of-file.result.0 in
    let rows : ℕ = c.last_of-file.result.1 in
    let last = subst (λ (l : List Seal). IsLastOf l log rows) c.as_slice.ensures.value c.last_of-file.ensures in
    let was = (one_was c.args.seal.now c.args.self.now.seals.items log rows last may).0 in
    let short = c.if-is_grown.false in
    absurd (grind (arith, nat_tests, was, short))
