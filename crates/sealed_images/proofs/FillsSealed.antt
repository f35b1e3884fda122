-- The fills of a log's entries may stand in a fill file.
use Rattle.std.proofs.Common.{◌≡◌, ℕ, zero, suc, ◌≤◌, List, [], ◌∷◌, ◌++◌, length, Some, sym, ◌∙◌, ap, subst, arith, length-append}
use Rattle.std.specs.Prelude.{slice_get}
use Rattle.std.specs.List.{AllByRecursion}
use Rattle.arch_types.specs.declared.row.Row.{Row}
use Rattle.mdb_items.specs.Database.{Database}
use Rattle.history_items.specs.declared.items.Item.{Item}
use Rattle.history_items.specs.Items.{databases_in, items_of, row_item}
use Rattle.field_codec.specs.declared.entry.Entry.{Entry}
use Rattle.field_codec.specs.declared.entry.Entry.TheVariants as entries
use Rattle.param_segments.specs.Extracted.{IsSetOf}
use Rattle.param_segments.specs.Octets.{rows_in_octets}
use Rattle.archive_images.specs.declared.head.Head.{Head}
use Rattle.intervals.specs.Interval.{interval_of}
use Rattle.archive_images.specs.Entries.{Archive, FilledArchive, Replays}
use Rattle.archive_images.proofs.RowsAlone.{in_force_below, more_alone}
use Rattle.archive_images.specs.Below.{IsSealedFill}
use Rattle.sealed_images.specs.Sealing.{fills_of_entries, rows_of_entries}
use Rattle.sealed_images.proofs.InOrder.{got_left}
use Rattle.sealed_images.proofs.EntrySums.{replays_rows}

item_there : (rows : List Row) (q : ℕ) (row : Row) → slice_get rows q ≡ Some row → slice_get (items_of rows) q ≡ Some (row_item row)
item_there [] q row is = absurd cc
item_there (r ∷ rows) zero row is = let same : r ≡ row = cc in ap (λ (x : Row). Some (row_item x)) same
item_there (r ∷ rows) (suc q) row is = item_there rows q row is

-- each row of the history stands among these, wherever
abbrev AreAmong : List Item → List Row → Type 0
AreAmong history so_far = (p : ℕ) (row : Row) → slice_get history p ≡ Some (row_item row) → (q : ℕ) × (slice_get so_far q ≡ Some row)

pub fills_sealed : (es : List Entry) (made filled : FilledArchive) → Replays (Some made) es (Some filled) → databases_in made.plain.history ≡ []
    → (old : Archive) → made.plain.head ≡ old.head → made.plain.exponent ≡ old.exponent → (n : ℕ) → length filled.plain.history ≤ n
    → (so_far : List Row) → AreAmong filled.plain.history so_far → AllByRecursion (IsSealedFill old n so_far) (fills_of_entries es)
fills_sealed [] made filled r alone old head exponent n few so_far among = tt
fills_sealed (entries.Head tables mdb ∷ es) made filled r alone old head exponent n few so_far among = absurd r.1
fills_sealed (entries.Seal seal ∷ es) made filled r alone old head exponent n few so_far among = absurd r.1
fills_sealed (entries.LogHead rows ∷ es) made filled r alone old head exponent n few so_far among = absurd r.1
fills_sealed (entries.Rows rows ∷ es) made filled r alone old head exponent n few so_far among =
    let mid = r.1.1 in
    let history : r.0.plain.history ≡ made.plain.history ++ items_of rows = ap (λ (a : FilledArchive). a.plain.history) mid in
    fills_sealed es r.0 filled r.2 (ap databases_in history ∙ more_alone made.plain.history rows alone) old
    (ap (λ (a : FilledArchive). a.plain.head) mid ∙ head) (ap (λ (a : FilledArchive). a.plain.exponent) mid ∙ exponent) n few so_far among
fills_sealed (entries.Fill interval base octets ∷ es) made filled r alone old head exponent n few so_far among =
    let may = r.1.0 in
    let mid = r.1.1 in
    let history : r.0.plain.history ≡ made.plain.history = ap (λ (a : FilledArchive). a.plain.history) mid in
    let grown : filled.plain.history ≡ made.plain.history ++ items_of (rows_of_entries es) =
    replays_rows es r.0 filled r.2 ∙ ap (λ (l : List Item). l ++ items_of (rows_of_entries es)) history in
    let there = may.based.row.stands in
    let found = among may.based.row.position there.row
    (subst (λ (l : List Item). slice_get l may.based.row.position ≡ Some (row_item there.row)) (sym grown)
    (got_left made.plain.history (items_of (rows_of_entries es)) may.based.row.position (row_item there.row) there.there)) in (
      record {
        base = omega (arith, few, may.based.within, ap length grown, length-append made.plain.history (items_of (rows_of_entries es)));
        row = record {
          position = found.0;
          stands = record {
            row = there.row;
            there = item_there so_far found.0 there.row found.1;
            table = there.table;
            time = subst (λ (e : ℕ). interval_of e there.row.key.time ≡ interval.0) exponent there.time;
          };
        };
        set = subst (λ (e : ℕ). IsSetOf old.head.mdb e interval.0 (rows_in_octets octets)) exponent
            (subst (λ (db : Database). IsSetOf db made.plain.exponent interval.0 (rows_in_octets octets))
            (in_force_below made.plain.head.mdb base made.plain.history alone ∙ ap (λ (h : Head). h.mdb) head) may.set);
        spelled = may.spelled;
      },
      fills_sealed es r.0 filled r.2 (ap databases_in history ∙ alone) old
          (ap (λ (a : FilledArchive). a.plain.head) mid ∙ head) (ap (λ (a : FilledArchive). a.plain.exponent) mid ∙ exponent) n few so_far among,
    )
