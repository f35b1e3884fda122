-- What a seal makes of a log: the archive that its entries came to.
use Rattle.std.proofs.Common.{◌≡◌, ℕ, zero, suc, List, [], ◌∷◌, ◌++◌, length, Some, sym, ◌∙◌, ap, subst, arith, append_assoc, append-nil, length-append}
use Rattle.std.specs.Prelude.{slice_get, Contains}
use Rattle.std.specs.List.{AllByRecursion}
use Rattle.std.specs.List.Sorted.{IsPermutation}
use Rattle.std.proofs.lemmas.List.{map-append}
use Rattle.std.proofs.lemmas.List.Concat.{flat_map-append}
use Rattle.std.proofs.lemmas.List.Sorted.{IsPermutation-append_right, IsPermutation-map, IsPermutation-sym, length_permutation}
use Rattle.arch_types.specs.declared.row.Row.{Row}
use Rattle.arch_types.specs.History.{IsHistory}
use Rattle.octet_fields.specs.Exact.{IsOctets}
use Rattle.archive_history.specs.Limits.{IsWithin}
use Rattle.history_items.specs.declared.items.Item.{Item}
use Rattle.history_items.specs.Items.{databases_in, items_of, row_item, rows_in}
use Rattle.history_items.proofs.ItemLists.{items_of-append, keeps_rows, length-items_of, no_databases, rows_behind, rows_of_rows}
use Rattle.field_codec.specs.declared.entry.Entry.{Entry}
use Rattle.field_codec.specs.declared.entry.Entry.TheVariants as entries
use Rattle.param_segments.specs.Rows.{SetRow}
use Rattle.run_pages.specs.Placed.{Placed, behind_positions, rows_of_placed}
use Rattle.sealed_sums.specs.InOrder.{AreInOrder}
use Rattle.store_fills.specs.Sound.{Fillings}
use Rattle.archive_images.specs.declared.head.Head.{Head}
use Rattle.archive_images.specs.Entries.{AreAdmitted, Archive, FilledArchive, IsPlaced, Replays, archive, filled_archive}
use Rattle.archive_images.specs.SealFiles.{Part, StoredFill}
use Rattle.archive_images.specs.Below.{IsSealedFill, MaySeal, after_fill, fillings_of, rows_of_part, rows_of_parts}
use Rattle.archive_images.proofs.Archived.{all_more}
use Rattle.sealed_images.specs.Laws.{SealingMakes}
use Rattle.sealed_images.specs.Sealing.{from_position, rows_of_entries}
use Rattle.sealed_images.proofs.EntrySums.{replays_head, replays_rows}
use Rattle.sealed_images.proofs.FillsMore.{fillings_more, sealed_fills_more}
use Rattle.sealed_images.proofs.FillsSealed.{fills_sealed}
use Rattle.sealed_images.proofs.InOrder.{in_order_more, in_order_same}
use Rattle.sealed_images.proofs.LogReads.{placed_same}

-- ---- rows that may be sealed

-- with rows that an archive of them admits
may_seal_more : (old : Archive) (rows more : List Row) → MaySeal old rows → AreAdmitted (archive old.head old.exponent (items_of rows)) more → MaySeal old (rows ++ more)
may_seal_more old rows more m may = record {
  history = subst IsHistory (rows_behind (items_of rows) more ∙ ap (λ (l : List Row). l ++ more) (rows_of_rows rows))
      (subst (λ (h : List Item). IsHistory (rows_in h)) may.fresh (keeps_rows (items_of rows) more (subst IsHistory (sym (rows_of_rows rows)) m.history)));
  placed = all_more (IsPlaced old.head (items_of (rows ++ more))) rows more
      (placed_same old.head (items_of rows) (items_of (rows ++ more)) (no_databases rows) (no_databases (rows ++ more)) rows m.placed)
      (placed_same old.head (items_of rows) (items_of (rows ++ more)) (no_databases rows) (no_databases (rows ++ more)) more may.placed);
  octets = all_more (λ (row : Row). IsOctets row.packet) rows more m.octets may.octets;
  within = subst (λ (l : List Row). IsWithin old.exponent (l ++ more)) (rows_of_rows rows) may.within;
}

-- with the rows of a log's entries
may_seal_all : (old : Archive) (rows : List Row) (fillings : Fillings (List SetRow)) (es : List Entry) (filled : FilledArchive) → MaySeal old rows
    → Replays (Some (filled_archive old.head old.exponent (items_of rows) fillings)) es (Some filled) → MaySeal old (rows ++ rows_of_entries es)
may_seal_all old rows fillings [] filled m r = subst (MaySeal old) (sym (append-nil rows)) m
may_seal_all old rows fillings (entries.Head tables mdb ∷ es) filled m r = absurd r.1
may_seal_all old rows fillings (entries.Seal seal ∷ es) filled m r = absurd r.1
may_seal_all old rows fillings (entries.LogHead n ∷ es) filled m r = absurd r.1
may_seal_all old rows fillings (entries.Rows more ∷ es) filled m r =
    let next : r.0 ≡ filled_archive old.head old.exponent (items_of (rows ++ more)) fillings =
    r.1.1 ∙ ap (λ (h : List Item). filled_archive old.head old.exponent h fillings) (sym (items_of-append rows more)) in
    subst (MaySeal old) (append_assoc rows more (rows_of_entries es))
    (may_seal_all old (rows ++ more) fillings es filled (may_seal_more old rows more m r.1.0) (subst (λ (a : FilledArchive). Replays (Some a) es (Some filled)) next r.2))
may_seal_all old rows fillings (entries.Fill interval base octets ∷ es) filled m r =
    may_seal_all old rows (after_fill fillings (record { interval = interval; base = base; octets = octets })) es filled m
    (subst (λ (a : FilledArchive). Replays (Some a) es (Some filled)) r.1.1 r.2)

-- ---- rows at their positions

rows_more : (parts : List Part) (part : Part) → rows_of_parts (parts ++ part ∷ []) ≡ rows_of_parts parts ++ rows_of_part part
rows_more parts part = flat_map-append rows_of_part parts (part ∷ []) ∙ ap (λ (l : List Placed). rows_of_parts parts ++ l) (append-nil (rows_of_part part))

all_in_order : (parts : List Part) (part : Part) (rows more : List Row) (sealed : ℕ) → sealed ≡ length rows → AreInOrder (behind_positions (rows_of_parts parts)) rows → IsPermutation (rows_of_part part) (from_position sealed more)
    → AreInOrder (behind_positions (rows_of_parts (parts ++ part ∷ []))) (rows ++ more)
all_in_order parts part rows more sealed is order shuffled =
    let pair : Placed → ℕ × Row = λ at. (at.position, at.row) in
    let front = behind_positions (rows_of_parts parts) in
    let new = behind_positions (from_position sealed more) in
    let own = behind_positions (rows_of_part part) in
    let back : IsPermutation (from_position sealed more) (rows_of_part part) = IsPermutation-sym (rows_of_part part) (from_position sealed more) shuffled in
    let same : IsPermutation (front ++ new) (front ++ own) = IsPermutation-append_right front new own (IsPermutation-map pair (from_position sealed more) (rows_of_part part) back) in
    subst (λ (l : List (ℕ × Row)). AreInOrder l (rows ++ more))
    (sym (ap behind_positions (rows_more parts part) ∙ map-append pair (rows_of_parts parts) (rows_of_part part)))
    (in_order_same (front ++ new) (front ++ own) (rows ++ more) (length_permutation (front ++ new) (front ++ own) same) same (in_order_more front rows more sealed is order))

-- ---- each row stands among those of the runs

got_placed : (placed : List Placed) (p : ℕ) (row : Row) → Contains (behind_positions placed) (p, row) → (q : ℕ) × (slice_get (rows_of_placed placed) q ≡ Some row)
got_placed [] p row (k, lt, is) = absurd (omega (arith, lt))
got_placed (at ∷ placed) p row (zero, lt, is) = let same : at.row ≡ row = ap (λ (a : ℕ × Row). a.1) is in (0, ap (λ (r : Row). Some r) same)
got_placed (at ∷ placed) p row (suc k, lt, is) = let rest = got_placed placed p row (k, omega (arith, lt), is) in (suc rest.0, rest.1)

item_there : (rows : List Row) (p : ℕ) (row : Row) → slice_get (items_of rows) p ≡ Some (row_item row) → slice_get rows p ≡ Some row
item_there [] p row is = absurd cc
item_there (x ∷ rows) zero row is = let same : x ≡ row = cc in ap (λ (r : Row). Some r) same
item_there (x ∷ rows) (suc p) row is = item_there rows p row is

-- ---- the whole

pub sealing_makes : SealingMakes
sealing_makes old made filled all parts es sealed seal part make replays shuffled fills rows_are =
    let new = rows_of_entries es in
    let head = replays_head es made filled replays in
    let made_head : made.plain.head ≡ old.plain.head = ap (λ (a : FilledArchive). a.plain.head) make.made_is in
    let made_exponent : made.plain.exponent ≡ old.plain.exponent = ap (λ (a : FilledArchive). a.plain.exponent) make.made_is in
    let made_history : made.plain.history ≡ items_of make.rows = ap (λ (a : FilledArchive). a.plain.history) make.made_is in
    let made_fillings : made.fillings ≡ fillings_of parts = ap (λ (a : FilledArchive). a.fillings) make.made_is in
    let history : filled.plain.history ≡ items_of (make.rows ++ new) =
    replays_rows es made filled replays ∙ ap (λ (h : List Item). h ++ items_of new) made_history ∙ sym (items_of-append make.rows new) in
    let order = all_in_order parts part make.rows new sealed (sym make.count) make.in_order shuffled in
    let placed = rows_of_parts (parts ++ part ∷ []) in
    record {
      rows = make.rows ++ new;
      in_order = order;
      count = omega (arith, length-append make.rows new, make.count, rows_are);
      admitted = may_seal_all old.plain make.rows (fillings_of parts) es filled make.admitted (subst (λ (a : FilledArchive). Replays (Some a) es (Some filled)) make.made_is replays);
      fills = sealed_fills_more old.plain [] all parts seal part make.fills
          (subst (λ (l : List StoredFill). AllByRecursion (IsSealedFill old.plain seal.rows (rows_of_placed placed)) l) (sym fills)
          (fills_sealed es made filled replays (ap databases_in made_history ∙ no_databases make.rows) old.plain made_head made_exponent seal.rows
          (omega (arith, ap length history, length-items_of (make.rows ++ new), length-append make.rows new, make.count, rows_are))
          (rows_of_placed placed)
          (λ p row there. got_placed placed p row (order.each p row
          (item_there (make.rows ++ new) p row (subst (λ (h : List Item). slice_get h p ≡ Some (row_item row)) history there))))));
      made_is = ap (λ (h : Head). filled_archive h filled.plain.exponent filled.plain.history filled.fillings) (head.0 ∙ made_head)
          ∙ ap (λ (e : ℕ). filled_archive old.plain.head e filled.plain.history filled.fillings) (head.1 ∙ made_exponent)
          ∙ ap (λ (h : List Item). filled_archive old.plain.head old.plain.exponent h filled.fillings) history
          ∙ ap (λ (f : Fillings (List SetRow)). filled_archive old.plain.head old.plain.exponent (items_of (make.rows ++ new)) f) (sym (fillings_more parts part es made filled made_fillings replays fills));
    }
