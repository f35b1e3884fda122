-- The values of an extraction are sound, and no two are of one parameter.
use Rattle.std.proofs.Common.{◌≡◌, ◌∙◌, ◌<◌, ◌^◌, ℕ, zero, suc, List, [], ◌∷◌, false, inl, inr, map, take, Option, Some, refl, ap, sym, arith, subst, length-take}
use Rattle.std.specs.Prelude.{◌==◌, flat_map, nat_eq, option_map, slice_get}
use Rattle.std.specs.List.{AllByRecursion, IsDistinct, prefix_len, take_while}
use Rattle.std.proofs.lemmas.Bool.{cases_Bool}
use Rattle.std.proofs.lemmas.List.{length-map}
use Rattle.std.proofs.lemmas.Option.{same_Some}
use Rattle.std.proofs.lemmas.Nat.{mod_below, pow_pos}
use Rattle.mdb_items.specs.declared.container.ParameterEntry.{ParameterEntry}
use Rattle.mdb_items.specs.declared.parameter.Parameter.{Parameter}
use Rattle.mdb_items.specs.Database.{Database, IsDatabase}
use Rattle.mdb_items.specs.Paths.{bits_of_parameter}
use Rattle.mdb_items.specs.Structure.{AreDistinctEntries, IsEntry}
use Rattle.mdb_model.proofs.Structure.{structured}
use Rattle.calibration.specs.Admitted.{IsInWidth}
use Rattle.container_extract.specs.declared.values.ParameterValue.{ParameterValue}
use Rattle.container_extract.specs.declared.values.RawValue.{RawValue}
use Rattle.container_extract.specs.Bits.{raw_bits_at, field_at}
use Rattle.container_extract.specs.Chain.{chain_of, entries_at}
use Rattle.container_extract.specs.Laws.{ExtractionIsCalibrated, ExtractionKeepsRules, IsValue, RawExtractionKeepsRules, RawValueIsSound, ValueIsCalibrated}
use Rattle.container_extract.specs.Values.{IsRawValue, calibrated_value, coding_of, fits, raw_among, raw_of, raw_value_of, value_among, value_of}
use Rattle.container_extract.specs.Extraction.{raw_extraction}
use Rattle.container_extract.proofs.Paths.{all_known, chain_keeps}
use Rattle.container_extract.proofs.Widths.{in_width}

-- ---- one value

raw_in_width : (db : Database) (packet : List ℕ) (e : ParameterEntry) (p : Parameter) → IsDatabase db → slice_get db.parameters e.parameter ≡ Some p → IsInWidth p.coding p.bits (raw_of db packet e)
raw_in_width db packet e p is at =
    let width = ((structured db is).parameters e.parameter p at).width in
    let below : field_at packet e.at p.bits < 2 ^ p.bits = mod_below _ (2 ^ p.bits) (pow_pos p.bits) in
    let raw : raw_of db packet e ≡ raw_bits_at packet e.at p.bits p.coding = ap (λ (o : Option Parameter). raw_bits_at packet e.at (bits_of_parameter o) (coding_of o)) at in
    subst (IsInWidth p.coding p.bits) (sym raw) (in_width p.coding p.bits (field_at packet e.at p.bits) width below)

entry_is_sound : (db : Database) (packet : List ℕ) (e : ParameterEntry) → IsDatabase db → IsEntry db e → IsRawValue db (raw_value_of db packet e)
entry_is_sound db packet e is entry = record { known = entry.parameter; in_width = λ p at. raw_in_width db packet e p is at }

value_is_sound : (db : Database) (packet : List ℕ) (e : ParameterEntry) → IsDatabase db → IsEntry db e → IsValue db (value_of db packet e)
value_is_sound db packet e is entry = record {
  known = entry.parameter;
  in_width = λ p at. raw_in_width db packet e p is at;
  by_calibration = refl;
}

-- ---- the values of the first entries

values_are_sound : (db : Database) (packet : List ℕ) (k : ℕ) (es : List ParameterEntry) → IsDatabase db → AllByRecursion (IsEntry db) es → AllByRecursion (IsValue db) (map (value_of db packet) (take k es))
values_are_sound db packet zero es is all = tt
values_are_sound db packet (suc k) [] is all = tt
values_are_sound db packet (suc k) (e ∷ es) is all = (value_is_sound db packet e is all.0, values_are_sound db packet k es is all.1)

others : (db : Database) (packet : List ℕ) (n k : ℕ) (es : List ParameterEntry) → AllByRecursion (λ m. nat_eq n m ≡ false) (map (λ e. e.parameter) es) → AllByRecursion (λ m. nat_eq n m ≡ false) (map (λ v. v.parameter) (map (value_of db packet) (take k es)))
others db packet n zero es all = tt
others db packet n (suc k) [] all = tt
others db packet n (suc k) (e ∷ es) all = (all.0, others db packet n k es all.1)

values_differ : (db : Database) (packet : List ℕ) (k : ℕ) (es : List ParameterEntry) → AreDistinctEntries es → IsDistinct nat_eq (map (λ v. v.parameter) (map (value_of db packet) (take k es)))
unfolding IsDistinct
values_differ db packet zero es all = tt
values_differ db packet (suc k) [] all = tt
values_differ db packet (suc k) (e ∷ es) all = (others db packet e.parameter k es all.0, values_differ db packet k es all.1)

pub extraction_keeps_rules : ExtractionKeepsRules
extraction_keeps_rules = λ db packet is.
    let es = flat_map (entries_at db) (chain_of db packet) in
    let k = prefix_len (fits db packet) es in
    let path = chain_keeps db packet is in
    record {
      each = values_are_sound db packet k es is (all_known db (chain_of db packet) is);
      distinct = values_differ db packet k es path.distinct;
      few = omega (arith, path.few_entries, length-map (take k es) (value_of db packet), length-take k es);
    }

-- ---- raw values

raw_values_are_sound : (db : Database) (packet : List ℕ) (k : ℕ) (es : List ParameterEntry) → IsDatabase db → AllByRecursion (IsEntry db) es → AllByRecursion (IsRawValue db) (map (raw_value_of db packet) (take k es))
raw_values_are_sound db packet zero es is all = tt
raw_values_are_sound db packet (suc k) [] is all = tt
raw_values_are_sound db packet (suc k) (e ∷ es) is all = (entry_is_sound db packet e is all.0, raw_values_are_sound db packet k es is all.1)

-- their parameters are those of the values
same_parameters : (db : Database) (packet : List ℕ) (es : List ParameterEntry) → map (λ (v : ParameterValue). v.parameter) (map (value_of db packet) es) ≡ map (λ (v : RawValue). v.parameter) (map (raw_value_of db packet) es)
same_parameters db packet [] = refl
same_parameters db packet (e ∷ es) = ap (λ (ns : List ℕ). e.parameter ∷ ns) (same_parameters db packet es)

pub raw_extraction_keeps_rules : RawExtractionKeepsRules
raw_extraction_keeps_rules = λ db packet is.
    let es = flat_map (entries_at db) (chain_of db packet) in
    let k = prefix_len (fits db packet) es in
    let path = chain_keeps db packet is in
    record {
      each = raw_values_are_sound db packet k es is (all_known db (chain_of db packet) is);
      distinct = subst (IsDistinct nat_eq) (same_parameters db packet (take k es)) (values_differ db packet k es path.distinct);
      few = omega (arith, path.few_entries, length-map (take k es) (raw_value_of db packet), length-take k es);
    }

calibrated_each : (db : Database) (packet : List ℕ) (es : List ParameterEntry) → map (value_of db packet) es ≡ map (calibrated_value db) (map (raw_value_of db packet) es)
calibrated_each db packet [] = refl
calibrated_each db packet (e ∷ es) = ap (λ (vs : List ParameterValue). value_of db packet e ∷ vs) (calibrated_each db packet es)

pub extraction_is_calibrated : ExtractionIsCalibrated
extraction_is_calibrated = λ db packet. calibrated_each db packet (take_while (fits db packet) (flat_map (entries_at db) (chain_of db packet)))

-- the value of a parameter among calibrated values
found_calibrated : (db : Database) (q : ℕ) (vs : List RawValue) → value_among q (map (calibrated_value db) vs) ≡ option_map (calibrated_value db) (raw_among q vs)
found_calibrated db q [] = refl
found_calibrated db q (v ∷ vs) = elim (cases_Bool (v.parameter == q)) [
  | inl is ↦ rw is refl
  | inr isnt ↦ rw isnt (found_calibrated db q vs)
]

pub value_is_calibrated : ValueIsCalibrated
value_is_calibrated = λ db packet q. ap (value_among q) (extraction_is_calibrated db packet) ∙ found_calibrated db q (raw_extraction db packet)

-- what is found among raw values is one of them
found_keeps : (P : RawValue → Type 0) (q : ℕ) (vs : List RawValue) (v : RawValue) → AllByRecursion P vs → raw_among q vs ≡ Some v → P v
found_keeps P q [] v all is = cc
found_keeps P q (w ∷ vs) v all is = elim (cases_Bool (w.parameter == q)) [
  | inl here ↦ let same : w ≡ v = same_Some w v (rw here at is) in subst P same all.0
  | inr other ↦ found_keeps P q vs v all.1 (rw other at is)
]

-- so the raw value of a parameter in a packet is one of the database
pub raw_value_is_sound : RawValueIsSound
raw_value_is_sound = λ db packet q v is found. found_keeps (IsRawValue db) q (raw_extraction db packet) v (raw_extraction_keeps_rules db packet is).each found
