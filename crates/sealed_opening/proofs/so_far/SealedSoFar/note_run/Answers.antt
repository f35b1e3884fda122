use Rattle.std.proofs.Common.{◌≡◌, ◌++◌, [], ◌∷◌, ℕ, true, refl, sym, ◌∙◌, ap}
use Rattle.std.specs.Prelude.{◌==◌}
use Rattle.std.proofs.lemmas.Bool.{eqb-true}
use Rattle.std.proofs.lemmas.Cmp.{nat_eq_equiv}
use Rattle.run_files.specs.Run.{run_table}
use Rattle.sealed_opening.specs.declared.so_far.SealedSoFar.{SealedSoFar}
use Rattle.sealed_opening.proofs.NotedRows.{no_rows_noted, placed_as}
use Rattle.sealed_opening.proofs.so_far.SealedSoFar.note_run.Goals as goal

pub returns-in_err-push-clause-placed : goal.returns-in_err-push-clause-placed
returns-in_err-push-clause-placed c =
    placed_as ((c.table.result == c.args.table) ≡ true) (run_table c.args.run ≡ c.args.table) c.args.self.now c.note_places.new.self
    (λ said. sym c.table.ensures ∙ eqb-true c.table.result c.args.table said)
    (λ is. ap (λ (n : ℕ). n == c.args.table) (c.table.ensures ∙ is) ∙ nat_eq_equiv.refl c.args.table)
    c.note_places.ensures.placed

pub returns-in_err-push-clause-noted : goal.returns-in_err-push-clause-noted
returns-in_err-push-clause-noted c = no_rows_noted c.args.self.now c.note_places.new.self _ c.note_places.ensures.rest refl refl refl refl refl

pub returns-clause-runs : goal.returns-clause-runs
returns-clause-runs c = c.in_ok-push.ensures.items ∙ ap (λ (s : SealedSoFar). s.runs.items ++ c.args.run ∷ []) c.note_places.ensures.rest

pub returns-clause-placed : goal.returns-clause-placed
returns-clause-placed c =
    placed_as ((c.table.result == c.args.table) ≡ true) (run_table c.args.run ≡ c.args.table) c.args.self.now c.note_places.new.self
    (λ said. sym c.table.ensures ∙ eqb-true c.table.result c.args.table said)
    (λ is. ap (λ (n : ℕ). n == c.args.table) (c.table.ensures ∙ is) ∙ nat_eq_equiv.refl c.args.table)
    c.note_places.ensures.placed

pub returns-clause-noted : goal.returns-clause-noted
returns-clause-noted c = no_rows_noted c.args.self.now c.note_places.new.self _ c.note_places.ensures.rest refl refl refl refl refl
