-- How long the spelling of an entry is.
use Rattle.std.proofs.Common.{◌≡◌, ℕ, true, ◌+◌, ◌*◌, ◌<◌, ◌≤◌, ◌^◌, List, [], ◌∷◌, ◌++◌, length, length-append, Result, Ok, Err, ap, subst, arith}
use Rattle.std.specs.Prelude.{IfOk}
use Rattle.std.specs.Global.{Vec}
use Rattle.std.specs.Int.{w8, w64}
use Rattle.std.specs.List.{AllByRecursion, flat_map}
use Rattle.intervals.specs.declared.interval.Interval.{Interval}
use Rattle.arch_types.specs.declared.row.Row.{Row}
use Rattle.text_forms.specs.Names.{is_name}
use Rattle.mdb_items.specs.Database.{Database, IsDatabase}
use Rattle.mdb_octets.specs.Spelling.{database_octets}
use Rattle.octet_fields.specs.Exact.{IsOctets}
use Rattle.octet_fields.specs.Spelling.{counted, name, number, signed}
use Rattle.row_codec.specs.Rows.{IsStored}
use Rattle.row_codec.specs.Spelling.{row_octets}
use Rattle.row_codec.proofs.Sizes.{packet_short, row_size}
use Rattle.field_codec.specs.declared.entry.Entry.{Entry}
use Rattle.field_codec.specs.declared.entry.Entry.TheVariants as entries
use Rattle.field_codec.specs.Entries.{AreTables, IsArchiveEntry}
use Rattle.field_codec.specs.Laws.{HasOctets, HasShortSet}
use Rattle.field_codec.specs.Spelling.{entry_octets, fill_octets, head_octets, opening_octets, rows_octets}
use Rattle.seal_codec.specs.declared.seal.Seal.{Seal}
use Rattle.seal_codec.specs.declared.seal.SealedRun.{SealedRun}
use Rattle.seal_codec.specs.Seals.{IsSeal, IsSealedRun, seal_octets, sealed_run_octets}
use Rattle.field_codec.proofs.DatabaseSizes.{database_short}
use Rattle.field_codec.proofs.FillSpelling.{fill_size}
use Rattle.field_codec.proofs.Lengths.{counted_8, counted_16, each_most}

-- ---- rows

rows_short : (rows : List Row) → AllByRecursion IsStored rows → AllByRecursion (λ row. IsOctets row.packet) rows → length (flat_map row_octets rows) ≤ 65554 * length rows
rows_short [] stored octets = omega arith
rows_short (row ∷ rows) stored octets =
    omega (arith, length-append (row_octets row) (flat_map row_octets rows), row_size row, packet_short row.packet stored.0.packet octets.0, rows_short rows stored.1 octets.1)

pub rows_size : (rows : List Row) → length (number w8 2 ++ rows_octets rows) ≡ 3 + length (flat_map row_octets rows)
unfolding number
rows_size rows = omega (arith, counted_16 row_octets rows)

-- ---- names

pub name_size : (text : List ℕ) → length (name text) ≡ 1 + length text
unfolding name number
name_size text = omega arith

pub name_most : (text : List ℕ) → is_name text ≡ true → length text ≤ 64
name_most text is = grind arith

calibrator_size : (text : List ℕ) → is_name text ≡ true → length (name text) ≤ 65
calibrator_size text is = omega (arith, name_size text, name_most text is)

opening_short : (tables : List (List ℕ)) → AreTables tables → length (opening_octets tables) ≤ 1043
unfolding opening_octets number
opening_short tables are = let few = are.few in omega (arith, few, counted_8 name tables, each_most name 65 (λ t. is_name t ≡ true) calibrator_size tables are.names)

-- ---- seals and log heads

run_most : (run : SealedRun) → IsSealedRun run → length (sealed_run_octets run) ≤ 5
unfolding sealed_run_octets number
run_most run fits = omega arith

pub seal_short : (seal : Seal) → IsSeal seal → length (number w8 4 ++ seal_octets seal) < 2 ^ 30
unfolding seal_octets number
seal_short seal is = let few = is.few in omega (arith, few, counted_8 sealed_run_octets seal.runs, each_most sealed_run_octets 5 IsSealedRun run_most seal.runs is.each)

pub log_head_short : (rows : ℕ) → length (number w8 5 ++ number w64 rows) < 2 ^ 30
unfolding number
log_head_short rows = omega arith

-- ---- entries

pub head_short : (tables : List (List ℕ)) (mdb : Database) → AreTables tables → IsDatabase mdb → length (number w8 1 ++ head_octets tables mdb) < 2 ^ 30
unfolding number
head_short tables mdb are is = omega (arith, length-append (opening_octets tables) (database_octets mdb), opening_short tables are, database_short mdb is)

pub short : (entry : Entry) → IsArchiveEntry entry → HasOctets entry → HasShortSet entry → length (entry_octets entry) < 2 ^ 30
short (entries.Head tables mdb) is octets few = head_short tables mdb is.0 is.1
short (entries.Fill interval base set) is octets few = omega (arith, few, fill_size interval base set)
short (entries.Seal seal) is octets few = seal_short seal is
short (entries.LogHead rows) is octets few = log_head_short rows
short (entries.Rows rows) stored octets small = let few = stored.few in omega (arith, few, rows_size rows, rows_short rows stored.each octets)

-- the octets of a fill that were written
pub fill_out_short : {E : Type 0} (entry : Entry) (interval : Interval) (base : ℕ) (set given : List ℕ) (r : Result (Vec ℕ) E) → entry ≡ entries.Fill interval base set → given ≡ set
    → IfOk r (λ out. out.items ≡ number w8 3 ++ fill_octets interval base given) → IfOk r (λ out. HasShortSet entry → length out.items < 2 ^ 30)
fill_out_short entry interval base set given (Ok out) is same out_is = λ few.
    let small : 17 + length set < 2 ^ 30 = subst HasShortSet is few in
    omega (arith, small, ap length same, fill_size interval base given, ap length out_is)
fill_out_short entry interval base set given (Err e) is same out_is = tt
