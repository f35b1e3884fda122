-- What holds of runs.
use Rattle.std.specs.Prelude.{◌≡◌, ◌⊎◌, ℕ, List, length}
use Rattle.std.specs.List.{flat_map}
use Rattle.octet_fields.specs.Exact.{IsOctets}
use Rattle.run_pages.specs.Placed.{Placed}
use Rattle.run_pages.specs.Runs.{IsRunFile}
use Rattle.run_pages.specs.Damage.{HasIndex, HasWholePages, IsRunDamagedAt}
use Rattle.run_pages.specs.declared.index.PageEntry.{PageEntry}
use Rattle.run_pages.specs.declared.footer.Footer.{Footer}

-- the octets of a file are a run of one list of rows at most, and of one table
abbrev pub RunsAreOne : Type 0
RunsAreOne = (content : List ℕ) (table other : ℕ) (rows more : List Placed) → IsRunFile content table rows → IsRunFile content other more → (rows ≡ more) × (table ≡ other)

-- a run is damaged nowhere
abbrev pub RunsAreWhole : Type 0
RunsAreWhole = (content : List ℕ) (table : ℕ) (rows : List Placed) (at : ℕ) → IsRunFile content table rows → IsRunDamagedAt content at → ⊥

-- a file is damaged at one octet at most
abbrev pub RunDamageIsOne : Type 0
RunDamageIsOne = (content : List ℕ) (a b : ℕ) → IsRunDamagedAt content a → IsRunDamagedAt content b → a ≡ b

-- a file that is no run is damaged at some octet
abbrev pub EachIsRunOrDamaged : Type 0
EachIsRunOrDamaged = (content : List ℕ) → IsOctets content → ((table : ℕ) × (rows : List Placed) × IsRunFile content table rows) ⊎ ((at : ℕ) × IsRunDamagedAt content at)

-- a file with an index, all pages of which are whole, is a run of their rows
abbrev pub WholePagesAreRuns : Type 0
WholePagesAreRuns = (content : List ℕ) (entries : List PageEntry) (footer : Footer) (table : ℕ) (pages : List (List Placed)) → HasIndex content entries footer →
    HasWholePages content entries footer.rows table pages → length pages ≡ length entries → IsRunFile content table (flat_map (λ page. page) pages)
