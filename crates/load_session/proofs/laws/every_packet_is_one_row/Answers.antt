use Rattle.std.proofs.Common.{◌≡◌, ℕ, suc, List, [], ◌∷◌, length, flat_map, refl, ap}
use Rattle.arch_types.specs.declared.row.Row.{Row}
use Rattle.arch_types.specs.Arrivals.{kept}
use Rattle.load_session.proofs.laws.every_packet_is_one_row.Goals as goal

one_each : (row : List ℕ → Row) (packets : List (List ℕ)) → length (flat_map (λ p. row p ∷ []) packets) ≡ length packets
one_each row [] = refl
one_each row (packet ∷ packets) = ap suc (one_each row packets)

pub returns : goal.returns
returns c = λ head history link moment packets. one_each _ (kept packets)
