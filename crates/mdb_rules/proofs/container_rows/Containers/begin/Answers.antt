use Rattle.std.proofs.Common.{◌≡◌, ◌∙◌, ◌++◌, ◌∷◌, [], List, ℕ, ap, arith, sym}
use Rattle.mdb_items.specs.declared.container.Container.{Container}
use Rattle.mdb_rules.specs.declared.container_rows.PathTotals.{PathTotals}
use Rattle.mdb_items.specs.ContainerRows.{path_up}
use Rattle.mdb_items.specs.Paths.{path_at, paths_of}
use Rattle.mdb_items.specs.ParameterRows.{referenced_number}
use Rattle.mdb_rules.specs.Totals.{totals_at, totals_of}
use Rattle.mdb_rules.proofs.ContainerSteps.{begun_depth, begun_parent}
use Rattle.mdb_rules.proofs.TotalsSteps.{in_path_begun, totals_is}
use Rattle.mdb_rules.proofs.container_rows.Containers.begin.Goals as goal

pub overflow_add-up : goal.overflow_add-up
overflow_add-up c =
    let old = c.args.self.now in
    let up = path_up old.items.items c.args.begun in
    let is = c.totals-up.ensures ∙ ap (totals_at old.all_totals.items) c.number_of-parent.ensures ∙ totals_is c.requires.path.0 old.items.items old.all_totals.items (referenced_number c.args.begun.parent) c.requires.path.1.all_totals in
    let same : c.totals-up.result.containers ≡ up.containers = ap (λ (s : PathTotals). s.containers) is in
    let deep = begun_depth old.items.items up c.args.begun c.requires.sound in
    omega arith

pub returns-clause-path : goal.returns-clause-path
returns-clause-path c = λ ps path.
    let old = c.args.self.now in
    let made : Container = record { name = c.args.begun.name; parent = c.number_of-parent.result; archive = c.unwrap_or.result; condition = c.condition_or_empty.result; entries = c.new.result } in
    let is : c.totals-up.result ≡ totals_of ps (path_at (paths_of old.items.items) c.number_of-parent.result) = c.totals-up.ensures ∙ totals_is ps old.items.items old.all_totals.items c.number_of-parent.result path.all_totals in
    let names : c.add.new.self ≡ old.names ++ c.args.begun.name ∷ [] = c.in_ok-add.ensures.added ∙ ap (λ (n : List ℕ). old.names ++ n ∷ []) (c.in_ok-from_slice.ensures.items ∙ c.as_bytes.ensures) in
    in_path_begun ps old _ made c.totals-up.result path c.new.ensures is
    (λ p e. begun_parent old.items.items (path_up old.items.items c.args.begun) c.args.begun c.requires.sound p (sym c.number_of-parent.ensures ∙ e)) c.in_ok-push-2.ensures.items names c.in_ok-push.ensures.items
