-- The footer of a run: its one spelling, and how it is read.
use Rattle.std.specs.Prelude.{ℕ, ◌<◌, ◌^◌, List, ◌++◌}
use Rattle.std.specs.Int.{w32, w64}
use Rattle.octet_fields.specs.Reading.{Reader, both_at, mapped_at, number_at}
use Rattle.octet_fields.specs.Spelling.{number}
use Rattle.run_pages.specs.declared.footer.Footer.{Footer}

-- the octet at which the index begins, the number of pages and that of rows
pub record IsFooter (footer : Footer) : Type 0 where
  pub at : footer.at < 2 ^ 64
  pub pages : footer.pages < 2 ^ 32
  pub rows : footer.rows < 2 ^ 64

-- u64 octet, u32 pages, u64 rows
unfoldable pub footer_octets : Footer → List ℕ
footer_octets footer = number w64 footer.at ++ (number w32 footer.pages ++ number w64 footer.rows)

-- the footer of what was read
abbrev pub footer_of : ℕ × (ℕ × ℕ) → Footer
footer_of f = record { at = f.0; pages = f.1.0; rows = f.1.1 }

-- reads a footer
unfoldable pub footer_at : Reader Footer
footer_at = mapped_at footer_of (both_at (number_at w64) (λ _. both_at (number_at w32) (λ _. number_at w64)))
