use Rattle.std.proofs.Common.{◌≡◌, ◌↔◌, ℕ, nat_eq, Contains, refl}
use Rattle.std.specs.List.{IsDistinct}
use Rattle.stream_graph.specs.Routes.{AreInOrder, Reaches}
use Rattle.stream_graph.specs.RouteTables.{route_of}
use Rattle.stream_graph.proofs.ReachedTables.{route_in_order, route_once, route_reached}
use Rattle.stream_graph.proofs.StatementPass.{of_pass}
use Rattle.stream_graph.proofs.graph.Graph.route.Goals as goal

pub returns-clause-reached : goal.returns-clause-reached
returns-clause-reached c =
    let route = c.args.self.now in
    let row = c.args.row.now in
    of_pass (λ tables. (table : ℕ) → Contains tables table ↔ Reaches route row table) route c.statements.result.now row c.tables_of_row.result c.statements.ensures c.tables_of_row.ensures (route_reached route row)

pub returns-clause-once : goal.returns-clause-once
returns-clause-once c =
    let route = c.args.self.now in
    let row = c.args.row.now in
    of_pass (λ tables. IsDistinct nat_eq tables) route c.statements.result.now row c.tables_of_row.result c.statements.ensures c.tables_of_row.ensures (route_once route row)

pub returns-clause-in_order : goal.returns-clause-in_order
returns-clause-in_order c =
    let route = c.args.self.now in
    let row = c.args.row.now in
    of_pass (λ tables. AreInOrder route row tables) route c.statements.result.now row c.tables_of_row.result c.statements.ensures c.tables_of_row.ensures (route_in_order route row)

pub returns-clause-route : goal.returns-clause-route
returns-clause-route c =
    let route = c.args.self.now in
    let row = c.args.row.now in
    of_pass (λ tables. tables ≡ route_of route row) route c.statements.result.now row c.tables_of_row.result c.statements.ensures c.tables_of_row.ensures refl
