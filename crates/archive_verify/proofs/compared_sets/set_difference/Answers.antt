use Rattle.std.proofs.Common.{◌≡◌, ◌∙◌, ℕ, ◌+◌, ◌<◌, ◌≤◌, length, Bool, true, false, nat_lt, ap, refl, sym, subst, arith}
use Rattle.std.proofs.lemmas.Bool.Decides.{nat_tests}
use Rattle.std.specs.Prelude.{List, IfNone}
use Rattle.mdb_items.specs.Database.{Database}
use Rattle.param_segments.specs.Cells.{set_cells}
use Rattle.param_segments.specs.Rows.{SetRow}
use Rattle.archive_verify.proofs.Cells.{no_cells}
use Rattle.archive_verify.proofs.compared_sets.set_difference.Goals as goal

pub returns-then-equals-clause-none : goal.returns-then-equals-clause-none
returns-then-equals-clause-none c = λ q. ap (set_cells c.args.mdb.now q) (c.equals.ensures.0 c.if-equals.true)

-- what holds of the numbers below one, and of that one, holds of those below the next
one_more : (P : ℕ → Type 0) (n : ℕ) → ((q : ℕ) → q < n → P q) → P n → (q : ℕ) → q < n + 1 → P q
one_more P n before here q lt = go (nat_lt q n) refl
  where
    go : (b : Bool) → nat_lt q n ≡ b → P q
    go true e = before q (grind (arith, nat_tests, e))
    go false e = let same : n ≡ q = grind (arith, nat_tests, e, lt) in subst P same here

-- the parameters passed so far, and this one
pub loop-parameter-preserved : goal.loop-parameter-preserved
loop-parameter-preserved c =
    let n = c.loop-parameter.parameter in
    let Same = λ (q : ℕ). set_cells c.args.mdb.now q c.args.stored.now ≡ set_cells c.args.mdb.now q c.args.replayed.now in
    one_more Same n c.loop-parameter.invariant (subst (λ o. IfNone o (Same n)) c.in_default.is c.in_ok-cells.ensures.none)

-- sets agree in all parameters where they agree in those of the database: of no other they have cells
all_parameters : (db : Database) (n : ℕ) (stored replayed : List SetRow) → ((q : ℕ) → q < n → set_cells db q stored ≡ set_cells db q replayed)
    → ((q : ℕ) → n ≤ q → set_cells db q stored ≡ set_cells db q replayed) → (q : ℕ) → set_cells db q stored ≡ set_cells db q replayed
all_parameters db n stored replayed before past q = go (nat_lt q n) refl
  where
    go : (b : Bool) → nat_lt q n ≡ b → set_cells db q stored ≡ set_cells db q replayed
    go true e = before q (grind (arith, nat_tests, e))
    go false e = past q (grind (arith, nat_tests, e))

-- a parameter that the database lacks has no cells
pub returns-clause-none : goal.returns-clause-none
returns-clause-none c =
    let db = c.args.mdb.now in
    let n = c.loop-parameter.parameter in
    all_parameters db n c.args.stored.now c.args.replayed.now c.loop-parameter.invariant
    (λ q past. let lacks : length db.parameters ≤ q = omega (arith, past, c.loop-parameter-test.false, c.parameters-parameter-end.ensures) in
    no_cells db q c.args.stored.now lacks c.requires.stored_values ∙ sym (no_cells db q c.args.replayed.now lacks c.requires.replayed_values))
