-- The clause of `make`.
use Rattle.std.specs.Prelude.{◌≡◌, ◌⊎◌, ◌-◌, ℕ, ℤ, List, [], ◌∷◌, length, get_or, codes, true, false, Option, Some, None, unwrap_or}
use Rattle.std.specs.FinMap.{from_entries}
use Rattle.arch_disk.specs.Image.{Image}
use Rattle.arch_disk.specs.Disk.{Device, LeavesOnly}
use Rattle.disk_journal.specs.Calls.{BeginsOpen}
use Rattle.disk_journal.specs.Format.{HoldsNone}
use Rattle.outer_traits.specs.Outside.{Files}
use Rattle.asks.specs.Names.{parameter_number}
use Rattle.refusals.specs.declared.refusal.Refusal.{Refusal}
use Rattle.refusals.specs.declared.refusal.Refusal.TheVariants.{Exists, OutOfMemory, WriteFault}
use Rattle.history_items.specs.Databases.{database_in}
use Rattle.history_items.specs.Items.{rows_in}
use Rattle.history_items.specs.declared.items.Item.{Item}
use Rattle.container_extract.specs.Answer.{answer_of}
use Rattle.intervals.specs.Interval.{format_1_exponent}
use Rattle.param_segments.specs.Rows.{SetRow}
use Rattle.store_fills.specs.Sound.{Fillings, no_fillings}
use Rattle.archive_store.specs.AddedFills.{AddsRightFills}
use Rattle.archive_store.specs.LateFills.{late_in_archive}
use Rattle.archive_store.specs.Stands.{IsSoundImage}
use Rattle.command_words.specs.Job.{LoadWords, Make}
use Rattle.command_runs.specs.Durable.{FailedAtMostOnce}
use Rattle.command_runs.specs.Extension.{filled_at}
use Rattle.command_runs.specs.Moment.{IsMomentOf}
use Rattle.command_runs.specs.Report.{loaded}
use Rattle.make_command.specs.Made.{dumps_of_seed, made_archive, made_head}
use Rattle.make_command.specs.Summary.{cell_count, summary_text, whole_request}
use Rattle.command_laws.specs.Calls.{Call, IsRefusedBy, IsRun, IsUnopened, LeavesDisk, Prints, PrintsSome, Succeeded, WasInterrupted}
use Rattle.command_laws.specs.Create.{IsHeadAlone, IsMadeOf}
use Rattle.command_laws.specs.HandedBack.{IsHandedBack}
use Rattle.command_laws.specs.Links.{AreReceivedWhole, IsGrown, ReceivedDump, arrived_of, packets_of}
use Rattle.command_laws.specs.Load.{IsOnTheWay, IsReachedIn, IsSilent, IsWholeLoad, WasHindered}

-- ---- the load within it

-- the names under which the dumps of a seed are loaded
abbrev pub made_names : List (List ℕ)
made_names = codes "1" ∷ codes "2" ∷ []

-- the words of that load: by the links 1 and 2, beside two fillers, by the route of every packet, and with no asks
abbrev pub made_words : LoadWords
made_words = record { dumps = made_names; link = 1; fillers = 2; asks = None; route = None }

-- the dump at a place
abbrev pub made_dump : ℕ → ℕ → List ℕ
made_dump seed place = get_or (dumps_of_seed seed) place []

-- the dumps as files of these names
abbrev pub made_files : ℕ → Files
made_files seed = from_entries ((codes "1", made_dump seed 0) ∷ (codes "2", made_dump seed 1) ∷ [])

-- ---- the making

-- every image of a disk stands for nothing
abbrev pub HoldAllNone : {D : Type 0} → Device D → D → Type 0
HoldAllNone device disk = (image : Image) → device.images disk image → HoldsNone (image 0)

-- an image stands for nothing, or for the head of the made sheets without rows
abbrev pub IsNoneOrMade : Image → Type 0
IsNoneOrMade image = HoldsNone (image 0) ⊎ IsHeadAlone made_head image

-- No archive was made: one that stood there is as it was. Where every image of the disk handed in stands for nothing,
-- every image of a moment during the call stands for nothing or for that head. Where the disk failed at most once, a
-- crash now leaves none, or what it could have left before.
pub record IsNotMade {D : Type 0} (device : Device D) (e : Call D) : Type 0 where
  pub report : IsUnopened e
  pub kept : BeginsOpen (device.reads e.disk 0) → LeavesDisk device e
  pub images : HoldAllNone device e.disk → LeavesOnly device e.disk e.disk' IsNoneOrMade
  pub in_order : HoldsNone (device.reads e.disk 0) → FailedAtMostOnce device e.disk e.disk' → (image : Image)
      → device.images e.disk' image → device.images e.disk image ⊎ HoldsNone (image 0)

-- ---- the summary

-- how many values of a parameter the rows of a history give
abbrev pub cell_count_of_rows : List Item → List ℕ → ℕ
cell_count_of_rows history name =
    let db = database_in made_head.mdb history in
    length (answer_of db (unwrap_or (parameter_number db name) 0) (whole_request name) (rows_in history))

-- Of dumps that are whole the summary was printed, or some of it; at status 0 all of it. It is that of an archive of
-- the history that was reached, whose fills hold what their rows give, so that it counts the values of these, and of
-- which no interval is late.
pub record IsSummaryPrinted {D : Type 0} (e : Call D) (seed : ℕ) (moment : ℤ) (reached : List Item) : Type 0 where
  pub dumps : List ReceivedDump
  pub received : AreReceivedWhole (made_files seed) moment made_words made_archive reached dumps
  pub fillings : Fillings (List SetRow)
  pub right : AddsRightFills made_head format_1_exponent reached no_fillings fillings
  pub none_late : late_in_archive (filled_at made_archive reached fillings) ≡ []
  pub cells : (name : List ℕ) →
      cell_count (filled_at made_archive reached fillings) name ≡ cell_count_of_rows reached name
  pub text : List ℕ
  pub text_is : text ≡ summary_text seed (packets_of dumps) (arrived_of dumps - length reached)
      (filled_at made_archive reached fillings)
  pub some : PrintsSome e text
  pub all : Succeeded e → Prints e text

-- ---- a refusal

-- A make that is refused reports the lengths, and no counts and no link. Unless the output failed or memory was wanting
-- nothing was printed.
pub record IsRefusedMake {D : Type 0} (e : Call D) (reached : List Item) (refusal : Refusal) : Type 0 where
  pub report : e.report ≡ loaded (Some refusal) None 0 (length reached) 0 0 0
  pub silent : (refusal ≡ WriteFault → ⊥) → (refusal ≡ OutOfMemory → ⊥) → Prints e []

-- ---- the clause

-- An archive of the head of the made sheets was made where there was none, and the dumps loaded into it: from the
-- disk on that the making left, what `load` promises holds of the dumps as files, from an archive without rows; each
-- image is sound. It ends with status 0, but for want of memory, calls that fail, and limits that the rows or the log
-- pass.
pub record IsMadeAndLoaded {D : Type 0} (device : Device D) (e : Call D) (clock : Option ℤ) (seed : ℕ) : Type 0 where
  pub between : D
  pub made : IsMadeOf device (record e { disk' = between }) made_head
  pub making : HoldAllNone device e.disk → LeavesOnly device e.disk between IsNoneOrMade
  pub moment : ℤ
  pub known : IsMomentOf clock moment
  pub reached : List Item
  pub lengths : (e.report.before ≡ 0) × (e.report.after ≡ length reached)
  pub handed_back : IsReachedIn (made_files seed) moment made_words made_archive reached (device.reads e.disk')
  pub lasting : (image : Image) → device.images e.disk' image
      → IsReachedIn (made_files seed) moment made_words made_archive reached image
  pub grown : IsGrown (made_files seed) moment made_words made_archive reached
  pub whole : Succeeded e → IsWholeLoad device e (made_files seed) moment made_words made_archive reached
  pub printed : IsSilent e ⊎ IsSummaryPrinted e seed moment reached
  pub crashes : LeavesOnly device between e.disk'
      (λ image. IsSoundImage image × IsOnTheWay (made_files seed) moment made_words made_archive reached image)
  pub refused : (refusal : Refusal) → e.report.refusal ≡ Some refusal → IsRefusedMake e reached refusal
  pub in_order : FailedAtMostOnce device e.disk e.disk' → IsHandedBack device e made_archive reached
  pub ended : Succeeded e ⊎ WasHindered device e (made_files seed) clock made_words made_archive

-- A disk that holds an archive stays as it was, and the refusal says so. Where it holds none, one is made, but for want
-- of memory and calls that fail.
pub record IsMakeDone {D : Type 0} (device : Device D) (e : Call D) (clock : Option ℤ) (seed : ℕ) : Type 0 where
  pub exists : BeginsOpen (device.reads e.disk 0)
      → IsRefusedBy device e Exists × Prints e [] × LeavesDisk device e
  pub not_made : e.report.opened ≡ false → IsNotMade device e
  pub made : e.report.opened ≡ true → IsMadeAndLoaded device e clock seed
  pub complete : HoldsNone (device.reads e.disk 0) → (e.report.opened ≡ true) ⊎ WasInterrupted device e

-- so it is of each call for this job
abbrev pub MakeClause : {D : Type 0} → Device D → Type 0
MakeClause {D = D} device =
    (e : Call D) (files : Files) (clock : Option ℤ) (seed : ℕ) → IsRun device e files clock (Make seed)
    → IsMakeDone device e clock seed
