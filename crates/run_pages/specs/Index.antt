-- The index of a run's pages: its one spelling, how it is read, and what it says by itself.
use Rattle.std.specs.Prelude.{◌≡◌, ℕ, ℤ, ◌+◌, ◌*◌, ◌<◌, ◌^◌, List, [], ◌∷◌, ◌++◌, length, Bool, true, ◌==◌, ◌&&◌, nat_le, Option, Some, None}
use Rattle.std.specs.Int.{w32, w64}
use Rattle.std.specs.Int.RustNames.{FitsSigned}
use Rattle.std.specs.List.{AllByRecursion, flat_map}
use Rattle.std.specs.Ordering.{is_lt}
use Rattle.arch_types.specs.declared.key.Key.{Key}
use Rattle.arch_types.specs.Order.{key_cmp}
use Rattle.octet_fields.specs.Reading.{Reader, both_at, mapped_at, number_at, signed_at}
use Rattle.octet_fields.specs.Spelling.{number, signed}
use Rattle.run_pages.specs.declared.index.PageEntry.{PageEntry}
use Rattle.run_pages.specs.declared.footer.Footer.{Footer}

-- a page's first key, the octet at which it begins, and its length
pub record IsPageEntry (entry : PageEntry) : Type 0 where
  pub time : FitsSigned w64 entry.first.time
  pub seq : entry.first.seq < 2 ^ 32
  pub at : entry.at < 2 ^ 64
  pub len : entry.len < 2 ^ 32

-- i64 time, u32 number, u64 octet, u32 length
unfoldable pub page_entry_octets : PageEntry → List ℕ
page_entry_octets entry = signed w64 entry.first.time ++ (number w32 entry.first.seq ++ (number w64 entry.at ++ number w32 entry.len))

-- what is read of an entry: time, number, octet, length
abbrev pub EntryFields : Type 0
EntryFields = ℤ × (ℕ × (ℕ × ℕ))

-- the entry of these fields
abbrev pub page_entry_of : EntryFields → PageEntry
page_entry_of f = record { first = record { time = f.0; seq = f.1.0 }; at = f.1.1.0; len = f.1.1.1 }

-- reads an entry
unfoldable pub page_entry_at : Reader PageEntry
page_entry_at = mapped_at page_entry_of (both_at (signed_at w64) (λ _. both_at (number_at w32) (λ _. both_at (number_at w64) (λ _. number_at w32))))

-- so many entries
pub record AreEntries (count : ℕ) (entries : List PageEntry) : Type 0 where
  pub count_is : length entries ≡ count
  pub each : AllByRecursion IsPageEntry entries

-- entry behind entry
abbrev pub index_octets : List PageEntry → List ℕ
index_octets entries = flat_map page_entry_octets entries

-- ---- what an index says by itself

-- whether a page's first key is above that of the page before, if there is one
abbrev pub is_above_last : Option Key → Key → Bool
is_above_last None key = true
is_above_last (Some last) key = is_lt (key_cmp last key)

-- whether pages stand one behind the other, none empty, from one octet to another, and their first keys rise
abbrev pub are_joined : ℕ → ℕ → Option Key → List PageEntry → Bool
are_joined at end last [] = at == end
are_joined at end last (entry ∷ entries) =
    (entry.at == at) && (nat_le 1 entry.len && (is_above_last last entry.first && are_joined (at + entry.len) end (Some entry.first) entries))

-- whether that many pages hold that many rows: 64 each, but the last 1 to 64
abbrev pub is_page_number : ℕ → ℕ → Bool
is_page_number pages rows = nat_le 1 rows && (nat_le rows (64 * pages) && nat_le (64 * pages) (rows + 63))

-- whether the pages hold as many rows as the footer counts, and stand from octet 0 to where it says that the index begins
abbrev pub is_index : List PageEntry → Footer → Bool
is_index entries footer = is_page_number footer.pages footer.rows && are_joined 0 footer.at None entries
