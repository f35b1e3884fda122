-- Names are texts, and the cell of a raw value that was found.
use Rattle.std.proofs.Common.{◌≡◌, ℕ, ◌<◌, List, [], ◌∷◌, length, Bool, true, false, Option, option_map, sym, ◌∙◌, ap, arith}
use Rattle.std.specs.Prelude.{◌&&◌, nat_le}
use Rattle.std.specs.List.{list_all}
use Rattle.std.specs.Str.{IsAscii, IsUtf8}
use Rattle.std.proofs.lemmas.Bool.Decides.{nat_tests}
use Rattle.std.proofs.lemmas.Str.{IsUtf8-from_ascii}
use Rattle.std.proofs.lemmas.Str.Ascii.{IsAscii-nil, IsAscii-cons}
use Rattle.text_forms.specs.Names.{is_name, is_name_octet}
use Rattle.arch_types.specs.declared.row.Row.{Row}
use Rattle.container_extract.specs.declared.values.RawValue.{RawValue}
use Rattle.container_extract.specs.Extraction.{cell_at, cell_of, raw_extraction}
use Rattle.container_extract.specs.Values.{calibrated_value, raw_among}
use Rattle.container_extract.proofs.Extracting.{value_is_calibrated}
use Rattle.mdb_items.specs.Database.{Database}

and_both : (a b : Bool) → (a && b) ≡ true → (a ≡ true) × (b ≡ true)
and_both true b e = (cc, e)
and_both false b e = absurd cc

third : (a b c : Bool) → (a && b && c) ≡ true → c ≡ true
third true true c h = h
third true false c h = absurd cc
third false true c h = absurd cc
third false false c h = absurd cc

octet_small : (o : ℕ) → is_name_octet o ≡ true → o < 128
octet_small o h = grind (arith, nat_tests, h)

octets_ascii : (octets : List ℕ) → list_all is_name_octet octets ≡ true → IsAscii octets
octets_ascii [] h = IsAscii-nil
octets_ascii (o ∷ octets) h =
    let p = and_both (is_name_octet o) (list_all is_name_octet octets) h in
    IsAscii-cons o octets (octet_small o p.0) (octets_ascii octets p.1)

pub name_utf8 : (octets : List ℕ) → is_name octets ≡ true → IsUtf8 octets
name_utf8 octets h = IsUtf8-from_ascii octets (octets_ascii octets (third (nat_le 1 (length octets)) (nat_le (length octets) 64) (list_all is_name_octet octets) h))

-- ---- cells

-- the cell of a row is that of the raw value, calibrated
pub cell_is : (db : Database) (q : ℕ) (row : Row) (values : List RawValue) (o : Option RawValue) → values ≡ raw_extraction db row.packet → o ≡ raw_among q values
    → option_map (cell_at row.key) (option_map (calibrated_value db) o) ≡ cell_of db q row
cell_is db q row values o all is =
    ap (λ (found : Option RawValue). option_map (cell_at row.key) (option_map (calibrated_value db) found)) (is ∙ ap (raw_among q) all)
    ∙ ap (option_map (cell_at row.key)) (sym (value_is_calibrated db row.packet q))
