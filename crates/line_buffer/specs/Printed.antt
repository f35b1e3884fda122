-- What a call that prints a text leaves.
use Rattle.std.specs.Prelude.{◌≡◌, ℕ, ◌≤◌, List, ◌++◌, Result, Ok, Err}
use Rattle.outer_traits.specs.Outside.{HasRisen, Stays, WritesSome}
use Rattle.outer_traits.specs.States.{OutputState}
use Rattle.outer_traits.specs.declared.fault.Failed.{Failed}
use Rattle.outer_traits.specs.declared.print_fault.PrintFault.{PrintFault}
use Rattle.outer_traits.specs.declared.print_fault.PrintFault.TheVariants.{Write, DiskFault, Damaged, OutOfMemory}
use Rattle.line_buffer.specs.LineRoom.{HasLineRoom}
use Rattle.line_buffer.specs.Output.{Appends, IsBuffered}

-- all of a text was written, and no write failed
pub record IsWritten (before after : OutputState) (text : List ℕ) : Type 0 where
  pub all : Appends before.written after.written text
  pub no_fault : Stays before.faults after.faults

-- a text went on but for what is left in the buffer, and no write failed
pub record IsPrinted (before after : OutputState) (text left : List ℕ) : Type 0 where
  pub buffered : IsBuffered before.written after.written text left
  pub room : HasLineRoom left
  pub no_fault : Stays before.faults after.faults

-- a prefix of it went on, and a write failed
pub record IsCutOff (before after : OutputState) (text : List ℕ) : Type 0 where
  pub some : WritesSome before.written after.written text
  pub later : before.faults ≤ after.faults
  pub failed : HasRisen before.faults after.faults

-- a prefix of it went on, and no write failed
pub record IsPartPrinted (before after : OutputState) (text : List ℕ) : Type 0 where
  pub some : WritesSome before.written after.written text
  pub no_fault : Stays before.faults after.faults

-- what is left of printing a text whose rows are in memory, by what the call answers: no disk is asked
abbrev pub PrintsText : {X : Type 0} → Result X PrintFault → OutputState → OutputState → List ℕ → List ℕ → Type 0
PrintsText (Ok _) before after text left = IsPrinted before after text left
PrintsText (Err Write) before after text left = IsCutOff before after text
PrintsText (Err DiskFault) before after text left = ⊥
PrintsText (Err (Damaged file at)) before after text left = ⊥
PrintsText (Err OutOfMemory) before after text left = IsPartPrinted before after text

-- the same of a text whose rows are read of a disk: where they aren't read, a prefix of it went on
abbrev pub PrintsRead : {X : Type 0} → Result X PrintFault → OutputState → OutputState → List ℕ → List ℕ → Type 0
PrintsRead (Ok _) before after text left = IsPrinted before after text left
PrintsRead (Err Write) before after text left = IsCutOff before after text
PrintsRead (Err DiskFault) before after text left = IsPartPrinted before after text
PrintsRead (Err (Damaged file at)) before after text left = IsPartPrinted before after text
PrintsRead (Err OutOfMemory) before after text left = IsPartPrinted before after text

-- behind what stood in the buffer a text is printed: this one, where its rows are told
abbrev pub PrintsRows : {X : Type 0} → Type 0 → Result X PrintFault → OutputState → OutputState → List ℕ → List ℕ → List ℕ → Type 0
PrintsRows AreTold result before after buffered text left =
    (printed : List ℕ) × (AreTold → printed ≡ text) × PrintsRead result before after (buffered ++ printed) left

-- what a call leaves that writes a text
abbrev pub WritesText : {X : Type 0} → Result X Failed → OutputState → OutputState → List ℕ → Type 0
WritesText (Ok _) before after text = IsWritten before after text
WritesText (Err _) before after text = IsCutOff before after text

-- what one leaves that may keep some of it in the buffer
abbrev pub BuffersText : {X : Type 0} → Result X Failed → OutputState → OutputState → List ℕ → List ℕ → Type 0
BuffersText (Ok _) before after text left = IsPrinted before after text left
BuffersText (Err _) before after text left = IsCutOff before after text
