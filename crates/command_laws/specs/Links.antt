-- The links of a load: what each receives of its dump, and what comes of it.
use Rattle.std.specs.Prelude.{◌≡◌, ◌⊎◌, ◌==◌, ◌<◌, ◌≤◌, ◌+◌, ◌-◌, ℕ, suc, ℤ, All, Any, IsNone, IsSome, IsSomeAnd, List, [], ◌∷◌, ◌++◌, length, map, filter, slice_get, sum_by, true, Option, Some, None, Result, Ok}
use Rattle.std.specs.FinMap.{get}
use Rattle.std.specs.List.{AllByRecursion}
use mathlib.Core.List.{IsPrefix, Sublist}
use Rattle.arch_types.specs.declared.row.Row.{Row}
use Rattle.arch_types.specs.Dump.{IsDump}
use Rattle.arch_types.specs.History.{firsts, is_duplicate_of}
use Rattle.asks.specs.declared.ask.Ask.{Ask}
use Rattle.refusals.specs.declared.refusal.Refusal.{Refusal}
use Rattle.refusals.specs.declared.refusal.Refusal.TheVariants.{Missing}
use Rattle.refusals.specs.declared.refusal.Which.{Which}
use Rattle.refusals.specs.declared.refusal.Which.TheVariants.{DumpOctets, ScriptOctets, SheetOctets}
use Rattle.outer_traits.specs.Outside.{Files}
use Rattle.history_items.specs.declared.items.Item.{Item}
use Rattle.history_items.specs.Items.{after_rows, items_of, rows_in}
use Rattle.history_items.specs.Outcomes.{fresh_of}
use Rattle.archive_store.specs.Entries.{FilledArchive}
use Rattle.stream_graph.specs.declared.statement.RouteStatement.{RouteStatement}
use Rattle.load_session.specs.Batches.{batch_at}
use Rattle.load_session.specs.Receiving.{Receiving, arrived, receiving, rows_received}
use Rattle.command_words.specs.Job.{LoadWords}
use Rattle.command_runs.specs.DumpRest.{dump_limit}
use Rattle.load_command.specs.Loading.{IsRouteAnswer}
use Rattle.command_laws.specs.NamedFiles.{HasAsksSheet, HasFile, IsFirstUnread, named_file}

-- ---- files

-- the text of the route, where a script of one is named
abbrev pub HasRouteText : Files → Option (List ℕ) → Option (List ℕ) → Type 0
HasRouteText files None text = text ≡ None
HasRouteText files (Some name) text = (octets : List ℕ) × HasFile files ScriptOctets name octets × (text ≡ Some octets)

-- the asks of the sheet that is named, or why it is refused; where none is named there are none
abbrev pub HasAsks : Files → Option (List ℕ) → Result (List Ask) Refusal → Type 0
HasAsks files None sheet = sheet ≡ Ok []
HasAsks files (Some name) sheet = HasAsksSheet files name sheet

-- the files that are read first, in their order: the script of a route, and the sheet of asks, where they are named
abbrev pub load_files : LoadWords → List (Which × List ℕ)
load_files words = named_file ScriptOctets words.route ++ named_file SheetOctets words.asks

-- these are there, within their limits
abbrev pub HaveFiles : Files → List (Which × List ℕ) → Type 0
HaveFiles files named = AllByRecursion (λ file. (octets : List ℕ) × HasFile files file.0 file.1 octets) named

-- the dumps of these names are there
abbrev pub AreThere : Files → List (List ℕ) → Type 0
AreThere files names = AllByRecursion (λ name. IsSome (get files name)) names

-- a refusal says which is the first of these dumps that isn't there
abbrev pub IsFirstMissing : Files → List (List ℕ) → Refusal → Type 0
IsFirstMissing files [] refusal = ⊥
IsFirstMissing files (name ∷ names) refusal =
    (IsNone (get files name) × (refusal ≡ Missing name))
    ⊎ (IsSome (get files name) × IsFirstMissing files names refusal)

-- the dumps as files, in their order
abbrev pub dump_files : List (List ℕ) → List (Which × List ℕ)
dump_files names = map (λ name. (DumpOctets, name)) names

-- why a file of a load isn't read: the first of the script and the sheet that isn't; or these are, and it is the first
-- dump that isn't there; or all of them are there, and it is the first that is longer than a dump may be
abbrev pub IsLoadUnread : Files → LoadWords → Refusal → Type 0
IsLoadUnread files words refusal =
    IsFirstUnread files (load_files words) refusal
    ⊎ (HaveFiles files (load_files words) × (IsFirstMissing files words.dumps refusal
    ⊎ (AreThere files words.dumps × IsFirstUnread files (dump_files words.dumps) refusal)))

-- ---- dumps

-- the dump of a name is there, within its limit, with these packets and this rest
pub record HasDump (files : Files) (name : List ℕ) (packets : List (List ℕ)) (rest : List ℕ) : Type 0 where
  pub dump : List ℕ
  pub file : HasFile files DumpOctets name dump
  pub parts : IsDump dump packets rest

-- the first octets of the dump of a name, no more than a dump may have, are these packets and this rest
pub record HasRead (files : Files) (name : List ℕ) (packets : List (List ℕ)) (rest : List ℕ) : Type 0 where
  pub read : List ℕ
  pub front : IsSomeAnd (get files name) (IsPrefix read)
  pub short : length read ≤ dump_limit
  pub parts : IsDump read packets rest

-- it is there, of packets alone
abbrev pub IsWholeDump : Files → List ℕ → Type 0
IsWholeDump files name = (packets : List (List ℕ)) × HasDump files name packets []

-- it is longer than a dump may be
abbrev pub IsLongDump : Files → List ℕ → Type 0
IsLongDump files name = IsSomeAnd (get files name) (λ dump. dump_limit < length dump)

-- the dump of a name comes by the link of this number: the first by the link of the words' number, each next by the
-- next
pub record ComesBy (words : LoadWords) (link : ℕ) (name : List ℕ) : Type 0 where
  pub place : ℕ
  pub number : link ≡ words.link + place
  pub name_is : slice_get words.dumps place ≡ Some name

-- the dumps of the links before this one are of packets alone
abbrev pub AreWholeBefore : Files → LoadWords → ℕ → Type 0
AreWholeBefore files words link =
    (other : ℕ) (name : List ℕ) → ComesBy words other name → other < link → IsWholeDump files name

-- ---- what is received

-- what a link receives: the moment, the route and the archive by which it does, the packets of what it read of its
-- dump, and the rest of that
pub record ReceivedDump : Type 0 where
  pub by : Receiving
  pub packets : List (List ℕ)
  pub rest : List ℕ

-- the rows that arrive by it, in order
abbrev pub arrivals_of : ReceivedDump → List Row
arrivals_of d = rows_received d.by d.packets

-- The link of this number receives the packets of what it read of its dump at a moment, for an archive, by the route
-- over its tables.
pub record IsReceived (files : Files) (moment : ℤ) (words : LoadWords) (before : FilledArchive) (link : ℕ)
    (d : ReceivedDump) : Type 0 where
  pub name : List ℕ
  pub comes : ComesBy words link name
  pub has : HasRead files name d.packets d.rest
  pub text : Option (List ℕ)
  pub named : HasRouteText files words.route text
  pub route : List RouteStatement
  pub routed : IsRouteAnswer before.plain text (Ok route)
  pub received : d.by ≡ receiving before.plain.head before.plain.history route link moment

-- it does of its dump, which it read to its end
abbrev pub IsReceivedWhole : Files → ℤ → LoadWords → FilledArchive → ℕ → ReceivedDump → Type 0
IsReceivedWhole files moment words before link d =
    (received : IsReceived files moment words before link d) × HasDump files received.name d.packets d.rest

-- so each link does from this one on, to the last
abbrev pub AreReceived : Files → ℤ → LoadWords → FilledArchive → ℕ → List ReceivedDump → Type 0
AreReceived files moment words before link [] = link ≡ words.link + length words.dumps
AreReceived files moment words before link (d ∷ dumps) =
    IsReceivedWhole files moment words before link d × AreReceived files moment words before (suc link) dumps

-- ---- 1. what the history became

-- this is the number of a link of a load
abbrev pub IsLinkOf : LoadWords → ℕ → Type 0
IsLinkOf words link = (words.link ≤ link) × (link < words.link + length words.dumps)

-- the rows of one link among some
abbrev pub rows_of_link : ℕ → List Row → List Row
rows_of_link link rows = filter (λ row. row.link == link) rows

-- These rows came by a link: they are a sublist of the first arrivals of each table and key among the packets of what
-- was read of its dump; there are none where no dump is received.
abbrev pub HaveCome : Files → ℤ → LoadWords → FilledArchive → ℕ → List Row → Type 0
HaveCome files moment words before link rows =
    (rows ≡ []) ⊎ ((d : ReceivedDump) × IsReceived files moment words before link d
    × Sublist rows (firsts (arrivals_of d)))

-- The history handed in is a prefix of the one handed back. Each row after it has a link of this load, and those of a
-- link have come by it.
pub record IsGrown (files : Files) (moment : ℤ) (words : LoadWords) (before : FilledArchive)
    (reached : List Item) : Type 0 where
  pub more : List Row
  pub grown : reached ≡ before.plain.history ++ items_of more
  pub links : All (λ row. IsLinkOf words row.link) more
  pub come : (link : ℕ) → IsLinkOf words link
      → HaveCome files moment words before link (rows_of_link link more)

-- ---- 2. dumps that are whole

-- a history has the table and key of a row
abbrev pub HasKeyIn : List Item → Row → Type 0
HasKeyIn history row = Any (λ kept. is_duplicate_of row kept ≡ true) (rows_in history)

-- no rest of a dump is left, and the table and key of each of its arrivals are in the history
abbrev pub IsWholeIn : List Item → ReceivedDump → Type 0
IsWholeIn reached d = (d.rest ≡ []) × All (HasKeyIn reached) (arrivals_of d)

-- the dump of the link of this number is so
abbrev pub CameWhole : Files → ℤ → LoadWords → FilledArchive → List Item → ℕ → Type 0
CameWhole files moment words before reached link =
    (d : ReceivedDump) × IsReceivedWhole files moment words before link d × IsWholeIn reached d

-- Each dump is so. Where there is one, the history is the one handed in with its arrivals.
pub record AreReceivedWhole (files : Files) (moment : ℤ) (words : LoadWords) (before : FilledArchive)
    (reached : List Item) (dumps : List ReceivedDump) : Type 0 where
  pub received : AreReceived files moment words before words.link dumps
  pub whole : AllByRecursion (IsWholeIn reached) dumps
  pub alone : (d : ReceivedDump) → dumps ≡ d ∷ [] → reached ≡ after_rows before.plain.history (arrivals_of d)

-- how many packets dumps have
abbrev pub packets_of : List ReceivedDump → ℕ
packets_of dumps = sum_by (λ d. length d.packets) dumps

-- how many of them are idle
abbrev pub idle_of : List ReceivedDump → ℕ
idle_of dumps = sum_by (λ d. length d.packets - arrived d.packets) dumps

-- how many rows arrive
abbrev pub arrived_of : List ReceivedDump → ℕ
arrived_of dumps = sum_by (λ d. length (arrivals_of d)) dumps

-- ---- 5. a batch

-- the new rows of one batch behind a history: at most 64 successive packets of what was read of the dump of one link
pub record AreNewOfBatch (files : Files) (moment : ℤ) (words : LoadWords) (before : FilledArchive)
    (history : List Item) (rows : List Row) : Type 0 where
  pub link : ℕ
  pub d : ReceivedDump
  pub received : IsReceived files moment words before link d
  pub place : ℕ
  pub rows_are : rows ≡ fresh_of history (rows_received d.by (batch_at place d.packets))
