-- The rows of packets are their link's.
use Rattle.std.proofs.Common.{◌≡◌, ℕ, List, [], ◌∷◌, map, refl}
use Rattle.std.specs.Prelude.{flat_map}
use Rattle.std.specs.List.{AllByRecursion}
use Rattle.arch_types.specs.declared.row.Row.{Row}
use Rattle.arch_types.specs.Arrivals.{kept, row_of}
use Rattle.load_session.specs.Receiving.{Receiving, received_pname, rows_received, tables_of_packet}
use Rattle.shared_history.proofs.Members.{all_append}

abbrev OfLink : ℕ → List Row → Type 0
OfLink link rows = AllByRecursion (λ row. row.link ≡ link) rows

pub received_of_link : (r : Receiving) (packets : List (List ℕ)) → OfLink r.link (rows_received r packets)
received_of_link r packets = each (kept packets)
  where
    in_tables : (packet : List ℕ) (tables : List ℕ) → OfLink r.link (map (row_of r.link r.moment (received_pname r) packet) tables)
    in_tables packet [] = tt
    in_tables packet (table ∷ tables) = (refl, in_tables packet tables)

    each : (packets : List (List ℕ)) → OfLink r.link (flat_map (λ p. map (row_of r.link r.moment (received_pname r) p) (tables_of_packet r p)) packets)
    each [] = tt
    each (p ∷ ps) = all_append (λ (row : Row). row.link ≡ r.link) _ _ (in_tables p (tables_of_packet r p)) (each ps)
