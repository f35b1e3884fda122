-- The archive that `make` begins with, and the dumps that it loads.
use Rattle.std.specs.Prelude.{◌≡◌, ℕ, ℤ, List, [], ◌∷◌, codes, false, Option, Some, map, IsTrue}
use Rattle.std.specs.List.{list_any}
use Rattle.arch_disk.specs.Disk.{Device}
use Rattle.intervals.specs.Interval.{format_1_exponent}
use Rattle.history_items.specs.declared.items.Item.{Item}
use Rattle.mdb_model.specs.Sheets.{sheets_database}
use Rattle.outer_traits.specs.States.{SourceState}
use Rattle.dump_maker.specs.Made.{made_dumps}
use Rattle.dump_maker.specs.Sheets.{made_sheets}
use Rattle.param_segments.specs.Rows.{SetRow}
use Rattle.store_fills.specs.Sound.{Fillings, no_fillings}
use Rattle.archive_store.specs.Head.{Head}
use Rattle.archive_store.specs.AddedFills.{AddsRightFills}
use Rattle.archive_store.specs.Entries.{FilledArchive, filled_archive}
use Rattle.archive_store.specs.LateFills.{late_in_archive}
use Rattle.stream_graph.specs.Routes.{every_packet_route}
use Rattle.command_runs.specs.Extension.{filled_at}
use Rattle.live_asks.specs.LiveAsks.{DiskFacts}
use Rattle.live_session.specs.Jobs.{job_setting}
use Rattle.live_session.specs.Outcome.{IsJobsOutcome, JobsOutcome}
use Rattle.load_command.specs.Loading.{is_unread}

-- ---- the archive

-- the head: table `tm` alone, and the database of the sheets for made packets
unfoldable pub made_head : Head
made_head = record { tables = codes "tm" ∷ []; mdb = sheets_database made_sheets }

-- the archive of that head without rows
abbrev pub made_archive : FilledArchive
made_archive = filled_archive made_head format_1_exponent [] no_fillings

-- ---- the dumps

-- the dumps of two links, of so many packets each
unfoldable pub two_dumps : ℕ → ℕ → List (List ℕ)
two_dumps seed packets = made_dumps seed packets 2

-- those of a seed: each has 20,000 packets, too many for `two_dumps` to be unfolded there
abbrev pub dumps_of_seed : ℕ → List (List ℕ)
dumps_of_seed seed = two_dumps seed 20000

-- what their sources hold
abbrev pub made_contents : ℕ → List (Option (List ℕ))
made_contents seed = map Some (dumps_of_seed seed)

-- what is known of a source by the octets that are left of its dump: these, and that no read of it fails
abbrev pub octets_state : List ℕ → SourceState
octets_state left = record { left = Some left; faults = 0; never_fails = Unit {0} }

-- ---- what becomes of them

-- nothing is known of a disk; no row of its archive stands in a run
abbrev pub no_facts : DiskFacts
no_facts = record { known = ⊥; sound = ⊥; sealed = 0 }

-- The jobs that load them, from link 1 on and at a moment, came to this. No ask is answered, and no read failed: octets
-- in memory are read to their end, and no row stands in a run.
pub record IsMadeOutcome (seed : ℕ) (moment : ℤ) (c : JobsOutcome) : Type 0 where
  pub came : IsJobsOutcome no_facts made_archive (job_setting made_head every_packet_route moment []) 1
      (made_contents seed) c
  pub read : (list_any is_unread c.ends ≡ false) × (c.unread ≡ false)

-- Once all is filled no interval is late; where the disk is known, each fill holds what its interval's rows give.
pub record IsFilledBy {D : Type 0} (device : Device D) (reached : List Item) (fillings : Fillings (List SetRow))
    : Type 0 where
  pub adds : IsTrue device.is_transparent →
      AddsRightFills made_head format_1_exponent reached no_fillings fillings
  pub none_late : late_in_archive (filled_at made_archive reached fillings) ≡ []
