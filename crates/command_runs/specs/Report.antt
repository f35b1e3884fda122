-- What a call reports besides its refusal.
use Rattle.std.specs.Prelude.{ℕ, ◌-◌, Option, Some, None, Result, Ok, Err, true, false}
use Rattle.refusals.specs.declared.refusal.Refusal.{Refusal}
use Rattle.refusals.specs.Refusal.{status_of}
use Rattle.command_runs.specs.declared.report.Report.{Report}

-- the exit status: 0 exactly where there's no refusal
abbrev pub status_at : Option Refusal → ℕ
status_at None = 0
status_at (Some refusal) = status_of refusal

-- the report of a call that opened no archive
abbrev pub unopened : Option Refusal → Report
unopened refusal = record {
  refusal = refusal;
  opened = false;
  link = None;
  before = 0;
  after = 0;
  packets = 0;
  new = 0;
  duplicates = 0;
  idle = 0;
}

-- the report of a call that opened an archive with a history of this length, and left it so, or made one with none
abbrev pub read_only : Option Refusal → ℕ → Report
read_only refusal rows = record {
  refusal = refusal;
  opened = true;
  link = None;
  before = rows;
  after = rows;
  packets = 0;
  new = 0;
  duplicates = 0;
  idle = 0;
}

-- the report of a load, by the lengths of the history before and after
abbrev pub loaded : Option Refusal → Option ℕ → ℕ → ℕ → ℕ → ℕ → ℕ → Report
loaded refusal link before after packets duplicates idle = record {
  refusal = refusal;
  opened = true;
  link = link;
  before = before;
  after = after;
  packets = packets;
  new = after - before;
  duplicates = duplicates;
  idle = idle;
}

-- the disk that a command's work on an archive gives back
abbrev pub disk_of_work : {D : Type 0} → Result (D × Report) (D × Refusal) → D
disk_of_work (Ok done) = done.0
disk_of_work (Err refused) = refused.0

-- what the work reports, or its refusal where no archive was opened or made
abbrev pub report_of_work : {D : Type 0} → Result (D × Report) (D × Refusal) → Report
report_of_work (Ok done) = done.1
report_of_work (Err refused) = unopened (Some refused.1)
