-- The rows of packets that come in, with one packet more.
use Rattle.std.proofs.Common.{◌≡◌, ℕ, ℤ, ◌+◌, ◌*◌, ◌<◌, ◌≤◌, List, [], ◌∷◌, ◌++◌, length, map, Bool, true, false, not, cond, refl, sym, ap, subst, ◌∙◌, arith, append-nil, length-append}
use Rattle.std.specs.Prelude.{flat_map, if◌then◌else◌}
use Rattle.std.specs.List.{AllByRecursion}
use Rattle.std.proofs.lemmas.Grind.{flat_map-append}
use Rattle.std.proofs.lemmas.List.{length-map}
use Rattle.std.proofs.lemmas.List.Elements.{filter-append}
use Rattle.arch_types.specs.declared.row.Row.{Row}
use Rattle.arch_types.specs.Arrivals.{row_of, kept}
use Rattle.arch_types.specs.Packet.{IsPacket, is_idle}
use Rattle.history_items.specs.Databases.{names_in}
use mathlib.Core.List.{IsPrefix}
use Rattle.text_forms.specs.ClockTime.{IsClockTime}
use Rattle.archive_store.specs.declared.batch.Arrival.{Arrival}
use Rattle.archive_store.specs.declared.batch.Batch.{Batch}
use Rattle.history_items.specs.declared.items.Item.{Item}
use Rattle.archive_store.specs.Batches.{arrival_rows, IsArrival}
use Rattle.archive_store.proofs.RowsAlone.{named_more}
use Rattle.archive_history.proofs.Steps.{few_filter}
use Rattle.stream_graph.specs.Laws.{AreTablesBelow}
use Rattle.stream_graph.proofs.ReachedTables.{tables_named}
use Rattle.load_session.specs.Receiving.{Receiving, IsRouteOver, arrived, received_pname, rows_received, tables_of_packet}
use Rattle.load_session.specs.Batches.{arrival_from, arrivals_with, IsBatchOf}
use Rattle.refusals.specs.declared.refusal.Which.TheVariants.{Links, Tables}
use Rattle.refusals.specs.Limits.{limit_of}

-- ---- rows

-- the row of a packet in a table
abbrev row_in : Receiving → List ℕ → ℕ → Row
row_in r p = row_of r.link r.moment (received_pname r) p

-- the rows of one packet
abbrev rows_of_packet : Receiving → List ℕ → List Row
rows_of_packet r p = map (row_in r p) (tables_of_packet r p)

pub kept-append : (first second : List (List ℕ)) → kept (first ++ second) ≡ kept first ++ kept second
kept-append first second = filter-append (λ p. not (is_idle p)) first second

pub rows-append : (r : Receiving) (first second : List (List ℕ)) → rows_received r (first ++ second) ≡ rows_received r first ++ rows_received r second
rows-append r first second = ap (flat_map (rows_of_packet r)) (kept-append first second) ∙ flat_map-append (rows_of_packet r) (kept first) (kept second)

pub arrived-append : (first second : List (List ℕ)) → arrived (first ++ second) ≡ arrived first + arrived second
arrived-append first second = ap length (kept-append first second) ∙ length-append (kept first) (kept second)

-- no more arrive than there are
pub few_arrived : (packets : List (List ℕ)) → arrived packets ≤ length packets
few_arrived packets = few_filter (λ p. not (is_idle p)) packets

-- a packet goes into tables that the head has
tables_there : (r : Receiving) (packet : List ℕ) → IsRouteOver r.head r.route → AreTablesBelow (length r.head.tables) (tables_of_packet r packet)
tables_there r packet over = tables_named (length r.head.tables) r.route (row_in r packet 0) over

-- and there are no more than 16 rows for each that arrives
pub few_rows : (r : Receiving) (packets : List (List ℕ)) → length r.head.tables ≤ 16 → IsRouteOver r.head r.route → length (rows_received r packets) ≤ 16 * arrived packets
few_rows r packets most over = each (kept packets)
  where
    each : (ps : List (List ℕ)) → length (flat_map (rows_of_packet r) ps) ≤ 16 * length ps
    each [] = omega arith
    each (p ∷ ps) =
        let here = length-append (rows_of_packet r p) (flat_map (rows_of_packet r) ps) in
        let one = length-map (tables_of_packet r p) (row_in r p) in
        let there = tables_there r p over in
        let few = there.few in
        let others = each ps in
        omega (arith, here, one, few, most, others)

-- ---- a batch

pub all_push : {X : Type 0} (P : X → Type 0) (xs : List X) (x : X) → AllByRecursion P xs → P x → AllByRecursion P (xs ++ x ∷ [])
all_push P [] x all h = (h, tt)
all_push P (y ∷ xs) x all h = (all.0, all_push P xs x all.1 h)

-- Packets can be received so: there is such a link, their names are among those that there are, and the tables that the route names are
-- among at most 16.
pub record CanReceive (r : Receiving) : Type 0 where
  pub link_low : 1 ≤ r.link
  pub link_high : r.link ≤ limit_of Links
  pub named : (packet : List ℕ) → received_pname r packet < length (names_in r.head.mdb r.history)
  pub few : length r.head.tables ≤ 16
  pub over : IsRouteOver r.head r.route

within_limit : (count most : ℕ) → count ≤ most → most ≤ 16 → count ≤ limit_of Tables
within_limit count most few at_most = let bound : count ≤ 16 = omega (arith, few, at_most) in bound

arrival_fits : (r : Receiving) (history : List Item) (packet : List ℕ) → CanReceive r → IsPrefix r.history history → IsPacket packet → is_idle packet ≡ false → IsArrival r.head history r.moment (arrival_from r packet)
arrival_fits r history packet can begins whole carries =
    let there = tables_there r packet can.over in
    let few = there.few in
    let most = can.few in record {
      link_low = can.link_low;
      link_high = can.link_high;
      packet = whole;
      carries = carries;
      received = refl;
      key = refl;
      pname = subst (λ (later : List Item). received_pname r packet < length (names_in r.head.mdb later)) begins.1
          (named_more r.head.mdb r.history begins.0 (received_pname r packet) (can.named packet));
      few_tables = within_limit _ _ few most;
      tables = there.each;
    }

-- no packet yet
pub batch_none : (r : Receiving) (batch : Batch) → batch.rectime ≡ r.moment → batch.arrivals ≡ [] → IsClockTime r.moment → IsBatchOf r [] batch
batch_none r batch at none time = record {
  received = at;
  takes = λ history begins. record { few = rw none (omega arith); rectime = rw at time; each = rw none tt };
  rows = rw none refl;
  count = rw none refl;
}

rows-push : (before : List Arrival) (a : Arrival) → flat_map arrival_rows (before ++ a ∷ []) ≡ flat_map arrival_rows before ++ (arrival_rows a ++ [])
rows-push before a = flat_map-append arrival_rows before (a ∷ [])

batch_kept : (r : Receiving) (packets : List (List ℕ)) (packet : List ℕ) (old new : Batch) → CanReceive r → length packets < 64 → IsPacket packet
    → is_idle packet ≡ false → IsBatchOf r packets old → new.rectime ≡ old.rectime → new.arrivals ≡ old.arrivals ++ arrival_from r packet ∷ [] → IsBatchOf r (packets ++ packet ∷ []) new
batch_kept r packets packet old new can few whole carries b at grown =
    let one : kept (packet ∷ []) ≡ packet ∷ [] = ap (λ (i : Bool). cond (not i) (packet ∷ []) []) carries in
    let len : length new.arrivals ≡ length old.arrivals + 1 = ap length grown ∙ length-append old.arrivals (arrival_from r packet ∷ []) in
    let more : arrived (packets ++ packet ∷ []) ≡ arrived packets + 1 = arrived-append packets (packet ∷ []) ∙ ap (λ (l : List (List ℕ)). arrived packets + length l) one in
    let less = few_arrived packets in
    let count = b.count in
    record {
      received = at ∙ b.received;
      takes = λ history begins. record {
        few = omega (arith, len, count, less, few);
        rectime = subst IsClockTime (sym at) (b.takes history begins).rectime;
        each = subst (λ (t : ℤ). AllByRecursion (IsArrival r.head history t) new.arrivals) (sym at) (subst (AllByRecursion (IsArrival r.head history old.rectime)) (sym grown) (all_push (IsArrival r.head history old.rectime) old.arrivals (arrival_from r packet) (b.takes history begins).each (subst (λ (t : ℤ). IsArrival r.head history t (arrival_from r packet)) (sym b.received) (arrival_fits r history packet can begins whole carries))));
      };
      rows =
          ap (λ (l : List Arrival). flat_map arrival_rows l) grown
          ∙ rows-push old.arrivals (arrival_from r packet)
          ∙ ap (λ (l : List Row). l ++ (arrival_rows (arrival_from r packet) ++ [])) b.rows
          ∙ ap (λ (l : List (List ℕ)). rows_received r packets ++ flat_map (rows_of_packet r) l) (sym one)
          ∙ sym (rows-append r packets (packet ∷ []));
      count = omega (arith, len, count, more);
    }

batch_idle : (r : Receiving) (packets : List (List ℕ)) (packet : List ℕ) (old new : Batch) → is_idle packet ≡ true → IsBatchOf r packets old → new.rectime ≡ old.rectime → new.arrivals ≡ old.arrivals
    → IsBatchOf r (packets ++ packet ∷ []) new
batch_idle r packets packet old new idle b at same =
    let none : kept (packet ∷ []) ≡ [] = ap (λ (i : Bool). cond (not i) (packet ∷ []) []) idle in
    let alike : kept (packets ++ packet ∷ []) ≡ kept packets = kept-append packets (packet ∷ []) ∙ ap (λ (l : List (List ℕ)). kept packets ++ l) none ∙ append-nil (kept packets) in
    record {
      received = at ∙ b.received;
      takes = λ history begins. record { few = rw same (b.takes history begins).few; rectime = rw at (b.takes history begins).rectime; each = rw (same, at) (b.takes history begins).each };
      rows = ap (λ (l : List Arrival). flat_map arrival_rows l) same ∙ b.rows
          ∙ ap (flat_map (rows_of_packet r)) (sym alike);
      count = ap length same ∙ b.count ∙ ap length (sym alike);
    }

-- one packet more
pub batch_more : (r : Receiving) (packets : List (List ℕ)) (packet : List ℕ) (old new : Batch) → CanReceive r → length packets < 64 → IsPacket packet
    → IsBatchOf r packets old → new.rectime ≡ old.rectime → new.arrivals ≡ arrivals_with r old.arrivals packet → IsBatchOf r (packets ++ packet ∷ []) new
batch_more r packets packet old new can few whole b at grown = go (is_idle packet) refl grown
  where
    go : (i : Bool) → is_idle packet ≡ i → new.arrivals ≡ (if i then old.arrivals else old.arrivals ++ arrival_from r packet ∷ []) → IsBatchOf r (packets ++ packet ∷ []) new
    go true idle same = batch_idle r packets packet old new idle b at same
    go false carries grown = batch_kept r packets packet old new can few whole carries b at grown
