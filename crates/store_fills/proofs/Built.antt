-- The record of a fill that is built.
use Rattle.std.proofs.Common.{◌≡◌, ℕ, List, sym, ◌∙◌, ap, subst}
use Rattle.intervals.specs.declared.interval.Interval.{Interval}
use Rattle.field_codec.specs.declared.entry.Entry.TheVariants as entries
use Rattle.field_codec.specs.Entries.{IsArchiveEntry}
use Rattle.field_codec.specs.Spelling.{entry_octets}
use Rattle.mdb_items.specs.Database.{Database}
use Rattle.param_segments.specs.Extracted.{IsSetOf}
use Rattle.param_segments.specs.Octets.{rows_in_octets, set_octets}
use Rattle.param_segments.specs.Rows.{SetRow}
use Rattle.store_fills.specs.Built.{IsBuilt}

module _ (interval : Interval) (exponent base : ℕ) (mdb : Database) (set : List SetRow) (octets slice frame : List ℕ) where
  pub built_is : slice ≡ octets → octets ≡ set_octets set → rows_in_octets octets ≡ set → IsArchiveEntry (entries.Fill interval base slice)
      → frame ≡ entry_octets (entries.Fill interval base slice) → IsSetOf mdb exponent interval.0 set → IsBuilt interval exponent base mdb set frame
  built_is same spelled value fits is inside =
      let set_is : slice ≡ set_octets set = same ∙ spelled in
      record {
        fits = subst (λ (l : List ℕ). IsArchiveEntry (entries.Fill interval base l)) set_is fits;
        frame_is = is ∙ ap (λ (l : List ℕ). entry_octets (entries.Fill interval base l)) set_is;
        set_is = ap rows_in_octets (sym spelled) ∙ value;
        inside = inside;
      }
