-- The clause of `load`, of dumps that come by links of rising numbers.
use Rattle.std.specs.Prelude.{◌≡◌, ◌⊎◌, ◌<◌, ◌≤◌, ◌+◌, ◌-◌, ℕ, ℤ, List, [], ◌++◌, length, All, IsSome, true, false, Option, Some, None, Result, Ok, Err}
use mathlib.Core.List.{IsPrefix}
use Rattle.arch_disk.specs.Image.{Image}
use Rattle.arch_disk.specs.Disk.{Device, LeavesOnly}
use Rattle.arch_types.specs.declared.row.Row.{Row}
use Rattle.asks.specs.declared.ask.Ask.{Ask}
use Rattle.refusals.specs.declared.refusal.Refusal.{Refusal}
use Rattle.refusals.specs.declared.refusal.BadKind.{BadKind}
use Rattle.refusals.specs.declared.refusal.BadKind.TheVariants.{Truncated, Version}
use Rattle.std.specs.FinMap.{get}
use Rattle.refusals.specs.declared.refusal.Refusal.TheVariants.{BadPacket, Limit, NeedsReopen, OutOfMemory, WriteFault}
use Rattle.refusals.specs.declared.refusal.Which.{Which}
use Rattle.refusals.specs.declared.refusal.Which.TheVariants.{DumpOctets, Records}
use Rattle.refusals.specs.Limits.{limit_of}
use Rattle.outer_traits.specs.Outside.{Files}
use Rattle.space_packet.specs.declared.dump.Why.TheVariants as why
use Rattle.space_packet.specs.Rest.{why_of}
use Rattle.archive_history.specs.Limits.{PassesFirst}
use Rattle.archive_history.specs.declared.row_limit.RowLimit.{RowLimit}
use Rattle.history_items.specs.declared.items.Item.{Item}
use Rattle.history_items.specs.Items.{items_of, rows_in}
use Rattle.archive_store.specs.Entries.{Archive, FilledArchive}
use Rattle.archive_store.specs.Limits.{limit_of_history}
use Rattle.archive_store.specs.Stands.{HasRecordCount, IsSoundImage, StandsFilled, StandsFor}
use Rattle.stream_graph.specs.declared.statement.RouteStatement.{RouteStatement}
use Rattle.load_session.specs.During.{with_history}
use Rattle.command_words.specs.Job.{Load, LoadWords}
use Rattle.command_words.specs.LoadLimits.{links_refusal, load_limit_refusal}
use Rattle.command_runs.specs.Causes.{IsCountedSince}
use Rattle.command_runs.specs.DumpRest.{IsBadRest, dump_limit}
use Rattle.command_runs.specs.Durable.{FailedAtMostOnce}
use Rattle.command_runs.specs.Moment.{IsMomentOf}
use Rattle.command_runs.specs.Report.{loaded}
use Rattle.ask_answers.specs.Asks.{archive_asks_refusal}
use Rattle.load_command.specs.LoadLine.{load_line}
use Rattle.load_command.specs.Loading.{IsRouteAnswer}
use Rattle.command_laws.specs.Answers.{AreAnswersBetween, sheet_refusal}
use Rattle.command_laws.specs.Calls.{Call, HeldArchive, IsNoArchive, IsRefusedBy, IsRun, IsSoundAtFirst, IsUnopened, LeavesDisk, LeavesSinceOpening, Prints, PrintsSome, Succeeded, WasInterrupted}
use Rattle.command_laws.specs.HandedBack.{IsHandedBack, IsUpToDate}
use Rattle.command_laws.specs.Links.{AreNewOfBatch, AreReceivedWhole, AreThere, AreWholeBefore, CameWhole, ComesBy, HasAsks, HasDump, HasKeyIn, HasRouteText, IsFirstMissing, IsGrown, IsLoadUnread, IsLongDump, IsReceived, IsWholeDump, ReceivedDump, arrivals_of, arrived_of, idle_of, load_files, packets_of}
use Rattle.command_laws.specs.NamedFiles.{IsFirstUnread, IsReadingRefusal}

-- ---- 3. what is printed

-- the line of a load of these dumps, by the history that was reached
abbrev pub line_of_dumps : FilledArchive → List Item → List ReceivedDump → List ℕ
line_of_dumps before reached dumps =
    let new = length reached - length before.plain.history in
    load_line (packets_of dumps) new (arrived_of dumps - new) (idle_of dumps) (length (rows_in reached))

-- The answers of a load to the asks of its sheet: each over a prefix of the history that was reached, no shorter than
-- the one handed in, by the fills that were there or right ones since.
pub record AreLoadAnswers {D : Type 0} (device : Device D) (e : Call D) (files : Files) (words : LoadWords)
    (before : FilledArchive) (reached : List Item) (answers : List ℕ) : Type 0 where
  pub asks : List Ask
  pub sheet : HasAsks files words.asks (Ok asks)
  pub answered : AreAnswersBetween (IsSoundImage (device.reads e.disk)) before reached 1 asks answers

-- Some of the text of a load of dumps that are whole was printed, and all of it at status 0: the answers to the asks of
-- the sheet, and the line.
pub record IsLoadPrinted {D : Type 0} (device : Device D) (e : Call D) (files : Files) (moment : ℤ)
    (words : LoadWords) (before : FilledArchive) (reached : List Item) : Type 0 where
  pub dumps : List ReceivedDump
  pub received : AreReceivedWhole files moment words before reached dumps
  pub answers : List ℕ
  pub answered : AreLoadAnswers device e files words before reached answers
  pub some : PrintsSome e (answers ++ line_of_dumps before reached dumps)
  pub all : Succeeded e → Prints e (answers ++ line_of_dumps before reached dumps)

-- ---- 4. what is reported at status 0

-- the rows that came, the packets, the idle ones, and the arrivals that were there, of all dumps together; no link
-- is named
pub record IsLoadCounted {D : Type 0} (e : Call D) (before : FilledArchive) (reached : List Item)
    (dumps : List ReceivedDump) : Type 0 where
  pub new : e.report.new ≡ length reached - length before.plain.history
  pub packets_are : e.report.packets ≡ packets_of dumps
  pub idle : e.report.idle ≡ idle_of dumps
  pub duplicates : e.report.duplicates ≡ arrived_of dumps - e.report.new
  pub no_link : e.report.link ≡ None

-- ---- 5. crashes

-- an image stands for a prefix of the history that was reached, with no fewer rows than the one handed in, or for the
-- whole of it with the new rows of one batch
pub record IsOnTheWay (files : Files) (moment : ℤ) (words : LoadWords) (before : FilledArchive) (reached : List Item)
    (image : Image) : Type 0 where
  pub history : List Item
  pub no_fewer : IsPrefix before.plain.history history
  pub stands : StandsFor image (with_history before.plain history)
  pub within : IsPrefix history reached
      ⊎ ((rows : List Row) × AreNewOfBatch files moment words before reached rows
      × (history ≡ reached ++ items_of rows))

-- an image stands for the history that was reached, or for that with the new rows of one batch
abbrev pub IsReachedIn : Files → ℤ → LoadWords → FilledArchive → List Item → Image → Type 0
IsReachedIn files moment words before reached image =
    StandsFor image (with_history before.plain reached)
    ⊎ ((rows : List Row) × AreNewOfBatch files moment words before reached rows
    × StandsFor image (with_history before.plain (reached ++ items_of rows)))

-- ---- a refusal of the session

-- What a refusal is reported over: the history that was reached, of which the disk handed back tells by its first
-- `after` rows. Where there is one dump, the disk stands for just that history.
pub record IsReached {D : Type 0} (device : Device D) (e : Call D) (files : Files) (moment : ℤ) (words : LoadWords)
    (before : FilledArchive) (reached : List Item) : Type 0 where
  pub held : IsReachedIn files moment words before reached (device.reads e.disk')
  pub alone : length words.dumps ≡ 1 → StandsFor (device.reads e.disk') (with_history before.plain reached)
  pub after : e.report.after ≡ length reached
  pub grown : IsGrown files moment words before reached

-- The rows of a history on the way, which has no fewer than the one handed in, and the new ones of one batch pass a
-- limit of a history; where there is one dump, those of the whole history that was reached.
pub record ArePassed (files : Files) (moment : ℤ) (words : LoadWords) (before : FilledArchive) (reached : List Item)
    (which : Which) : Type 0 where
  pub history : List Item
  pub no_fewer : IsPrefix before.plain.history history
  pub within : IsPrefix history reached
  pub alone : length words.dumps ≡ 1 → history ≡ reached
  pub rows : List Row
  pub batch : AreNewOfBatch files moment words before history rows
  pub limit : RowLimit
  pub which_is : which ≡ limit_of_history limit
  pub passes : PassesFirst before.plain.exponent limit (rows_in (history ++ items_of rows))

-- the log that is handed back, with a record for each row that came, reaches the limit
abbrev pub AreRecordsPassed : {D : Type 0} → Device D → Call D → FilledArchive → List Item → Type 0
AreRecordsPassed device e before reached =
    (records : ℕ) × HasRecordCount (device.reads e.disk') records
    × (limit_of Records + length before.plain.history ≤ records + length reached)

-- A limit was passed: by the rows of a history on the way and a batch, or by the records of the log.
pub record WasOverLimit {D : Type 0} (device : Device D) (e : Call D) (files : Files) (clock : Option ℤ)
    (words : LoadWords) (before : FilledArchive) : Type 0 where
  pub moment : ℤ
  pub known : IsMomentOf clock moment
  pub reached : List Item
  pub holds : IsReached device e files moment words before reached
  pub which : Which
  pub limit : e.report.refusal ≡ Some (Limit which (limit_of which))
  pub passed : ArePassed files moment words before reached which
      ⊎ ((which ≡ Records) × AreRecordsPassed device e before reached)

-- a write of the disk failed in the turn of another job: the refusal names the count of faults that the disk
-- came to
abbrev pub WasPending : {D : Type 0} → Device D → Call D → Type 0
WasPending device e =
    (faults : ℕ) × (e.report.refusal ≡ Some (NeedsReopen faults)) × (e.report.opened ≡ true)
    × IsCountedSince device e.disk e.disk' (Some faults)

-- what a load was given: the files, what is known of the clock, the words, and the archive of the disk
pub record LoadGiven : Type 0 where
  pub files : Files
  pub clock : Option ℤ
  pub words : LoadWords
  pub before : FilledArchive

-- that was given
abbrev pub load_given : Files → Option ℤ → LoadWords → FilledArchive → LoadGiven
load_given files clock words before = record { files = files; clock = clock; words = words; before = before }

-- It is reported of the dump of the link of this number, which is named: the dumps of the links before it are whole,
-- and the table and key of each of their arrivals are in the history that was reached.
pub record IsReportedOf {D : Type 0} (device : Device D) (e : Call D) (given : LoadGiven) (link : ℕ) : Type 0 where
  pub moment : ℤ
  pub known : IsMomentOf given.clock moment
  pub reached : List Item
  pub holds : IsReached device e given.files moment given.words given.before reached
  pub earlier : (other : ℕ) → given.words.link ≤ other → other < link
      → CameWhole given.files moment given.words given.before reached other
  pub named : e.report.link ≡ Some link

-- Its rest is no packet: all of its packets were ingested, and the table and key of each of its arrivals are in that
-- history. The refusal names the octet of the dump at which no packet begins. It was read to that octet, or to its end
-- where its last packet is cut off.
pub record IsBroken {D : Type 0} (device : Device D) (e : Call D) (given : LoadGiven) (link at : ℕ) (kind : BadKind)
    : Type 0 where
  pub reported : IsReportedOf device e given link
  pub d : ReceivedDump
  pub received : IsReceived given.files reported.moment given.words given.before link d
  pub there : All (HasKeyIn reported.reached) (arrivals_of d)
  pub bad : IsBadRest received.has.read d.rest at kind
  pub to_end : kind ≡ Truncated → get given.files received.name ≡ Some received.has.read
  pub refusal : e.report.refusal ≡ Some (BadPacket at kind)

-- It is longer than a dump may be, and no octets of another version wait within the limit: all of its packets up to
-- there were ingested, and the table and key of each of their arrivals are in that history.
pub record IsOverlong {D : Type 0} (device : Device D) (e : Call D) (given : LoadGiven) (link : ℕ) : Type 0 where
  pub reported : IsReportedOf device e given link
  pub d : ReceivedDump
  pub received : IsReceived given.files reported.moment given.words given.before link d
  pub long : IsLongDump given.files received.name
  pub to_limit : length received.has.read ≡ dump_limit
  pub no_version : why_of d.rest ≡ why.Version → ⊥
  pub there : All (HasKeyIn reported.reached) (arrivals_of d)
  pub refusal : e.report.refusal ≡ Some (Limit DumpOctets dump_limit)

-- ---- the clauses

-- what holds at status 0: the dumps are whole, no interval is late, and the counts are theirs
abbrev pub IsWholeLoad : {D : Type 0} → Device D → Call D → Files → ℤ → LoadWords → FilledArchive → List Item → Type 0
IsWholeLoad device e files moment words before reached =
    (dumps : List ReceivedDump) × AreReceivedWhole files moment words before reached dumps
    × IsUpToDate device e before reached × IsLoadCounted e before reached dumps

-- it is refused, and nothing was printed
abbrev pub IsSilent : {D : Type 0} → Call D → Type 0
IsSilent e = IsSome e.report.refusal × Prints e []

-- a refusal tells that the rest of a dump is no packet, or that a dump is too long
abbrev pub TellsOfDump : Refusal → Type 0
TellsOfDump (BadPacket at kind) = Unit {0}
TellsOfDump (Limit DumpOctets number) = Unit {0}
TellsOfDump other = ⊥

-- A load that is refused reports the lengths, and no counts; a link is reported only where the refusal tells of a dump.
-- Unless the output failed or memory was wanting nothing was printed.
pub record IsRefusedLoad {D : Type 0} (e : Call D) (before : FilledArchive) (reached : List Item)
    (refusal : Refusal) : Type 0 where
  pub link : Option ℕ
  pub report : e.report ≡ loaded (Some refusal) link (length before.plain.history) (length reached) 0 0 0
  pub named : IsSome link → TellsOfDump refusal
  pub silent : (refusal ≡ WriteFault → ⊥) → (refusal ≡ OutOfMemory → ⊥) → Prints e []

-- An archive was opened, and packets are received at the moment that the clock tells, or at some one in its range. The
-- history that was reached is the first `after` items of the one that the disk handed back stands for, as it reads and
-- in each image that a crash leaves from then on.
pub record IsLoaded {D : Type 0} (device : Device D) (e : Call D) (files : Files) (clock : Option ℤ)
    (words : LoadWords) : Type 0 where
  pub before : FilledArchive
  pub held : StandsFilled (device.reads e.disk) before
  pub moment : ℤ
  pub known : IsMomentOf clock moment
  pub reached : List Item
  pub handed_back : IsReachedIn files moment words before reached (device.reads e.disk')
  pub lasting : (image : Image) → device.images e.disk' image → IsReachedIn files moment words before reached image
  pub lengths : (e.report.before ≡ length before.plain.history) × (e.report.after ≡ length reached)
  -- 1
  pub grown : IsGrown files moment words before reached
  -- 2 and 4
  pub whole : Succeeded e → IsWholeLoad device e files moment words before reached
  -- 3
  pub printed : IsSilent e ⊎ IsLoadPrinted device e files moment words before reached
  -- 5, with what holds from the opening's syncs on
  pub crashes : IsSoundAtFirst device e → LeavesOnly device e.disk e.disk'
      (λ image. IsSoundImage image × IsOnTheWay files moment words before reached image)
  pub since : LeavesSinceOpening device e (IsOnTheWay files moment words before reached)
  -- where it is refused, and where the disk failed at most once
  pub refused : (refusal : Refusal) → e.report.refusal ≡ Some refusal → IsRefusedLoad e before reached refusal
  pub in_order : FailedAtMostOnce device e.disk e.disk' → IsHandedBack device e before reached

-- it was hindered: memory was wanting, a call failed, or the rows or the log passed a limit
abbrev pub WasHindered : {D : Type 0} → Device D → Call D → Files → Option ℤ → LoadWords → FilledArchive → Type 0
WasHindered device e files clock words before =
    WasInterrupted device e ⊎ (WasPending device e ⊎ WasOverLimit device e files clock words before)

-- the words pass no limit of dumps or fillers, and the script of the route and the sheet of asks are read
pub record IsBegun (files : Files) (words : LoadWords) (text : Option (List ℕ)) (sheet : Result (List Ask) Refusal)
    : Type 0 where
  pub within : load_limit_refusal words ≡ None
  pub named : HasRouteText files words.route text
  pub has : HasAsks files words.asks sheet

-- an archive is there, and of the words, the route and the asks none is refused
pub record IsAsked {D : Type 0} (device : Device D) (e : Call D) (files : Files) (words : LoadWords)
    (before : FilledArchive) : Type 0 where
  pub stands : StandsFilled (device.reads e.disk) before
  pub text : Option (List ℕ)
  pub asks : List Ask
  pub begun : IsBegun files words text (Ok asks)
  pub near : links_refusal words ≡ None
  pub route : List RouteStatement
  pub routed : IsRouteAnswer before.plain text (Ok route)
  pub answerable : archive_asks_refusal before.plain asks ≡ None

-- why a load into an archive is refused before a dump is read: by its last link, or else its route, or else its asks
abbrev pub IsLoadRefusal : Archive → LoadWords → Option (List ℕ) → Result (List Ask) Refusal → Refusal → Type 0
IsLoadRefusal archive words text sheet refusal =
    (links_refusal words ≡ Some refusal)
    ⊎ ((links_refusal words ≡ None) × (IsRouteAnswer archive text (Err refusal)
    ⊎ ((route : List RouteStatement) × IsRouteAnswer archive text (Ok route)
    × (sheet_refusal archive sheet ≡ Some refusal))))

-- Where no archive was opened the disk is as it was, and nothing is printed. Too many dumps or fillers are told first.
-- A file that isn't there is named, and one that is too long told by its limit, and no other is; a disk with no archive
-- or a damaged one is told of, and then the links, the route or the asks that are refused. Where none of them is, dumps
-- of packets alone have status 0; else the first dump by its link that is too long or has a rest is told with what its
-- reading meets first, and no other; but for want of memory, calls that fail, and limits that the rows or the log pass.
pub record IsLoadedOrNot {D : Type 0} (device : Device D) (e : Call D) (files : Files) (clock : Option ℤ)
    (words : LoadWords) : Type 0 where
  pub opened : e.report.opened ≡ true → IsLoaded device e files clock words
  pub unopened : e.report.opened ≡ false → LeavesDisk device e × IsUnopened e
  pub many : (refusal : Refusal) → load_limit_refusal words ≡ Some refusal → IsRefusedBy device e refusal × Prints e []
  pub unread : (refusal : Refusal) → load_limit_refusal words ≡ None → IsFirstUnread files (load_files words) refusal
      → IsRefusedBy device e refusal × Prints e []
  pub only_unread : (refusal : Refusal) → e.report.refusal ≡ Some refusal → IsReadingRefusal refusal
      → IsLoadUnread files words refusal
  pub lacking : (text : Option (List ℕ)) (sheet : Result (List Ask) Refusal) (refusal : Refusal)
      → IsBegun files words text sheet → IsFirstMissing files words.dumps refusal → IsRefusedBy device e refusal
  pub no_archive : (text : Option (List ℕ)) (sheet : Result (List Ask) Refusal) (refusal : Refusal)
      → IsBegun files words text sheet → AreThere files words.dumps → IsNoArchive device e refusal
      → IsRefusedBy device e refusal × Prints e []
  pub refused : (before : FilledArchive) (text : Option (List ℕ)) (sheet : Result (List Ask) Refusal)
      → (refusal : Refusal) → StandsFilled (device.reads e.disk) before → IsBegun files words text sheet
      → AreThere files words.dumps → IsLoadRefusal before.plain words text sheet refusal
      → IsRefusedBy device e refusal
  pub complete : (before : FilledArchive) → IsAsked device e files words before
      → ((link : ℕ) (name : List ℕ) → ComesBy words link name → IsWholeDump files name)
      → Succeeded e ⊎ WasHindered device e files clock words before
  pub overlong : (before : FilledArchive) (link : ℕ) (name : List ℕ) → IsAsked device e files words before
      → AreThere files words.dumps → AreWholeBefore files words link → ComesBy words link name
      → IsLongDump files name → IsOverlong device e (load_given files clock words before) link
      ⊎ (((at : ℕ) × IsBroken device e (load_given files clock words before) link at Version)
      ⊎ WasHindered device e files clock words before)
  pub broken : (before : FilledArchive) (link : ℕ) (name : List ℕ) (packets : List (List ℕ)) (rest : List ℕ)
      → (at : ℕ) (kind : BadKind) → IsAsked device e files words before → AreThere files words.dumps
      → AreWholeBefore files words link → ComesBy words link name → (has : HasDump files name packets rest)
      → IsBadRest has.dump rest at kind
      → IsBroken device e (load_given files clock words before) link at kind
      ⊎ WasHindered device e files clock words before
  pub only_overlong : (number : ℕ) → e.report.refusal ≡ Some (Limit DumpOctets number)
      → HeldArchive device e (λ before. (link : ℕ)
      × IsOverlong device e (load_given files clock words before) link)
  pub only_broken : (at : ℕ) (kind : BadKind) → e.report.refusal ≡ Some (BadPacket at kind)
      → HeldArchive device e (λ before. (link : ℕ)
      × IsBroken device e (load_given files clock words before) link at kind)
  pub only_pending : (faults : ℕ) → e.report.refusal ≡ Some (NeedsReopen faults)
      → (e.report.opened ≡ true) × IsCountedSince device e.disk e.disk' (Some faults)

-- so it is of each call for this job
abbrev pub LoadClause : {D : Type 0} → Device D → Type 0
LoadClause {D = D} device =
    (e : Call D) (files : Files) (clock : Option ℤ) (words : LoadWords) → IsRun device e files clock (Load words)
    → IsLoadedOrNot device e files clock words
