-- The sheet of asks: one row an ask.
use Rattle.std.specs.Prelude.{◌≡◌, ◌⊎◌, ℕ, suc, ◌<◌, ◌≤◌, ◌==◌, ◌&&◌, ◌||◌, not, Bool, true, false, List, [], ◌∷◌, length, map, drop, Option, Some, None, is_some, option_map, unwrap_or, nat_lt, if◌then◌else◌, codes, pos, Result, Ok, Err}
use Rattle.std.specs.List.{slice_split}
use Rattle.std.specs.Str.{bytes_eq}
use Rattle.arch_types.specs.declared.direction.Direction.{Direction}
use Rattle.arch_types.specs.declared.direction.Direction.TheVariants.{Ascending, Descending}
use Rattle.asks.specs.declared.ask.Ask.{Ask}
use Rattle.asks.specs.declared.ask.Ask.TheVariants.{Values, Replay}
use Rattle.refusals.specs.declared.refusal.Refusal.{Refusal}
use Rattle.refusals.specs.declared.refusal.Refusal.TheVariants.{BadSheet, Limit, OutOfMemory}
use Rattle.refusals.specs.declared.refusal.SheetName.TheVariants as sheet
use Rattle.refusals.specs.declared.refusal.Which.TheVariants as which
use Rattle.refusals.specs.Limits.{limit_of}
use Rattle.text_forms.specs.Names.{is_name}
use Rattle.mdb_items.specs.Checks.{Checks, first_broken, or_else}
use Rattle.mdb_items.specs.Conditions.{all_of}
use Rattle.mdb_items.specs.Lists.{is_empty}
use Rattle.mdb_model.specs.Sheets.{are_texts}
use Rattle.mdb_items.specs.Texts.{field}
use Rattle.text_forms.specs.Digits.{digits_at_most}
use Rattle.time_text.specs.TimeText.{time_of}
use Rattle.command_plans.specs.Plan.{is_interruption}
use Rattle.mdb_sheets.specs.declared.ask_row.AskFault.{AskFault}
use Rattle.mdb_sheets.specs.declared.ask_row.AskFault.TheVariants as fault
use Rattle.mdb_sheets.specs.declared.ask_row.AskKind.{AskKind}
use Rattle.mdb_sheets.specs.declared.ask_row.AskKind.TheVariants as kind
use Rattle.mdb_sheets.specs.Sheets.{Fields, sheet_of}

-- the kind that a text names
abbrev pub ask_kind : List ℕ → Option AskKind
ask_kind text = if bytes_eq text (codes "values") then Some kind.Values else (if bytes_eq text (codes "replay") then Some kind.Replay else None)

-- asc, or empty, which is asc
abbrev pub is_ascending : List ℕ → Bool
is_ascending text = is_empty text || bytes_eq text (codes "asc")

-- desc, or asc
abbrev pub direction_of : List ℕ → Option Direction
direction_of text =
    if is_ascending text then Some Ascending else (if bytes_eq text (codes "desc") then Some Descending else None)

-- the order of an ask of a kind; a replay is asc
unfoldable pub order_of : Option AskKind → List ℕ → Option Direction
order_of (Some kind.Replay) text = if is_ascending text then Some Ascending else None
order_of other text = direction_of text

-- a limit, by its number
abbrev pub most_from : Option ℕ → Option (Option ℕ)
most_from None = None
most_from (Some n) = Some (Some n)

-- empty, or 1 to 18 digits
abbrev pub most_of : List ℕ → Option (Option ℕ)
most_of text = if is_empty text then Some None else most_from (digits_at_most 18 text)

-- a text that is a name
abbrev pub name_from : List ℕ → Option (List ℕ)
name_from text = if is_name text then Some text else None

-- names joined by `;`, where each is one
unfoldable pub listed_names : List ℕ → Option (List (List ℕ))
listed_names text = all_of (map name_from (slice_split (λ b. b == 59) text))

-- the names of an ask of a kind, all where the text is empty, as that of values is
unfoldable pub asked_names : Option AskKind → List ℕ → Option (Option (List (List ℕ)))
asked_names (Some kind.Replay) text = if is_empty text then Some None else option_map (λ names. Some names) (listed_names text)
asked_names other text = if is_empty text then Some None else None

-- the rules of a row: kind, name, from, to, order, limit, names
unfoldable pub ask_checks : Fields → Checks
ask_checks row =
    -- the record hasn't seven fields
    (2, not (length row == 7))
    -- the kind is neither values nor replay
    ∷ (30, not (is_some (ask_kind (field row 0))))
    -- the name isn't a name
    ∷ (3, not (is_name (field row 1)))
    -- a bound isn't a time
    ∷ (31, not (is_some (time_of (field row 2))))
    ∷ (31, not (is_some (time_of (field row 3))))
    -- the order isn't asc, desc or empty, or it is a replay's and desc
    ∷ (32, not (is_some (order_of (ask_kind (field row 0)) (field row 4))))
    -- the limit isn't empty, and no number of 1 to 18 digits
    ∷ (33, not (is_some (most_of (field row 5))))
    -- values are asked with names, or a replay with what lists none
    ∷ (34, not (is_some (asked_names (ask_kind (field row 0)) (field row 6))))
    ∷ []

-- the ask of a kind that a row spells
abbrev pub ask_of_kind : Option AskKind → Fields → Ask
ask_of_kind (Some kind.Replay) row = Replay (record {
  table = field row 1;
  from = unwrap_or (time_of (field row 2)) (pos 0);
  to = unwrap_or (time_of (field row 3)) (pos 0);
  names = unwrap_or (asked_names (Some kind.Replay) (field row 6)) None;
  limit = unwrap_or (most_of (field row 5)) None;
})
ask_of_kind other row = Values (record {
  parameter = field row 1;
  from = unwrap_or (time_of (field row 2)) (pos 0);
  to = unwrap_or (time_of (field row 3)) (pos 0);
  direction = unwrap_or (order_of (Some kind.Values) (field row 4)) Ascending;
  limit = unwrap_or (most_of (field row 5)) None;
})

-- the ask that a row spells
unfoldable pub ask_of : Fields → Ask
ask_of row = ask_of_kind (ask_kind (field row 0)) row

-- the ask of a row that breaks no rule, or the first rule that it breaks
abbrev pub IsAskResult : Fields → Result Ask AskFault → Type 0
IsAskResult row (Ok ask) = (first_broken (ask_checks row) ≡ None) × (ask ≡ ask_of row)
IsAskResult row (Err (fault.Broken rule)) = first_broken (ask_checks row) ≡ Some rule
IsAskResult row (Err fault.OutOfMemory) = Unit {0}

-- `kind,name,from,to,order,limit,names`
abbrev pub is_ask_header : Fields → Bool
is_ask_header row =
    (length row == 7)
    && (are_texts row 0 (codes "kind") (codes "name") && (are_texts row 2 (codes "from") (codes "to") && (are_texts row 4 (codes "order") (codes "limit") && bytes_eq (field row 6) (codes "names"))))

-- the first row that breaks a rule, counted from a number, and that rule
unfoldable pub rows_fault : ℕ → List Fields → Option (ℕ × ℕ)
rows_fault number [] = None
rows_fault number (row ∷ rows) = or_else (option_map (λ rule. (number, rule)) (first_broken (ask_checks row))) (rows_fault (suc number) rows)

-- the first rule broken: the header's, or else that of the first row that breaks one
abbrev pub ask_sheet_fault : List Fields → Option (ℕ × ℕ)
ask_sheet_fault [] = Some (1, 1)
ask_sheet_fault (header ∷ rows) = if is_ask_header header then rows_fault 2 rows else Some (1, 1)

-- why a sheet of asks is refused: the first rule that it breaks, or else that it has too many asks
abbrev pub ask_sheet_refusal : List Fields → Option Refusal
ask_sheet_refusal records =
    or_else (option_map (λ (broken : ℕ × ℕ). BadSheet sheet.Asks broken.0 broken.1) (ask_sheet_fault records))
    (if nat_lt (limit_of which.Asks) (length (drop 1 records)) then Some (Limit which.Asks (limit_of which.Asks)) else None)

-- the asks of the rows below the header, where the sheet isn't refused
abbrev pub asks_unless : Option Refusal → List Fields → Result (List Ask) Refusal
asks_unless None records = Ok (map ask_of (drop 1 records))
asks_unless (Some refusal) records = Err refusal

-- the asks of a sheet's octets, or why it is refused
unfoldable pub asks_of : List ℕ → Result (List Ask) Refusal
asks_of octets = asks_unless (ask_sheet_refusal (sheet_of octets)) (sheet_of octets)

-- the asks of the rows below the header, or the first rule that they break
abbrev pub IsAskRowsResult : List Fields → Result (List Ask) Refusal → Type 0
IsAskRowsResult rows (Ok asks) = (rows_fault 2 rows ≡ None) × (asks ≡ map ask_of rows)
IsAskRowsResult rows (Err (BadSheet name row rule)) = (name ≡ sheet.Asks) × (rows_fault 2 rows ≡ Some (row, rule))
IsAskRowsResult rows (Err OutOfMemory) = Unit {0}
IsAskRowsResult rows (Err other) = ⊥

-- the asks of a sheet, or the first rule that it breaks, or where none the limit of asks where it has more; for want of memory nothing is said
abbrev pub IsAsksResult : List Fields → Result (List Ask) Refusal → Type 0
IsAsksResult records (Ok asks) = (ask_sheet_fault records ≡ None) × (asks ≡ map ask_of (drop 1 records)) × (length asks ≤ limit_of which.Asks)
IsAsksResult records (Err (BadSheet name row rule)) = (name ≡ sheet.Asks) × (ask_sheet_fault records ≡ Some (row, rule))
IsAsksResult records (Err (Limit quantity number)) =
    (quantity ≡ which.Asks) × (number ≡ limit_of which.Asks) × (ask_sheet_fault records ≡ None) × (limit_of which.Asks < length (drop 1 records))
IsAsksResult records (Err OutOfMemory) = Unit {0}
IsAsksResult records (Err other) = ⊥

-- what was made of a sheet is what it says, but where a fault interrupted that
abbrev pub IsSheetAnswer : Result (List Ask) Refusal → Result (Result (List Ask) Refusal) Refusal → Type 0
IsSheetAnswer (Ok asks) answer = answer ≡ Ok (Ok asks)
IsSheetAnswer (Err refusal) answer =
    ((is_interruption refusal ≡ true) × (answer ≡ Err refusal)) ⊎ ((is_interruption refusal ≡ false) × (answer ≡ Ok (Err refusal)))
