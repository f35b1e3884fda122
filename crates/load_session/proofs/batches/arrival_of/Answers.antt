use Rattle.std.proofs.Common.{◌≡◌, ◌∙◌, ℕ, w64, [], ap, refl, sym}
use Rattle.std.proofs.lemmas.Int.{to_z-of_z}
use Rattle.arch_types.specs.Arrivals.{row_of}
use Rattle.container_extract.specs.Chain.{packet_name_of}
use Rattle.stream_graph.specs.RouteTables.{route_of}
use Rattle.load_session.specs.Receiving.{received_pname, receiving}
use Rattle.load_session.proofs.NameNumbers.{own_number}
use Rattle.load_session.proofs.batches.arrival_of.Goals as goal

pub returns : goal.returns
returns c =
    let r = receiving c.args.head.now [] c.args.graph.now c.args.link c.args.moment in
    let same : c.packet_name-pname.result ≡ received_pname r c.args.packet = c.packet_name-pname.ensures ∙ ap (packet_name_of c.args.head.now.mdb) c.as_slice.ensures ∙ sym (own_number c.args.head.now.mdb c.args.packet c.requires.database) in
    let received : c.received_row-row.result ≡ row_of c.args.link c.args.moment (λ p. c.packet_name-pname.result) c.args.packet 0 = rw (to_z-of_z w64 c.args.moment c.ranges.moment) at c.received_row-row.ensures in
    let row_is = received ∙ ap (λ (pname : ℕ). row_of c.args.link c.args.moment (λ p. pname) c.args.packet 0) same in
    let tables_are = c.in_ok-tables.ensures.route ∙ ap (route_of c.args.graph.now) row_is in
    rw (tables_are, row_is) refl
