-- The replays that are asked for, and their text.
use Rattle.std.specs.Prelude.{ℕ, List, [], ◌++◌, flat_map, length, codes, decimal, slice_get, unwrap_or}
use Rattle.std.specs.Fmt.{signed_decimal}
use Rattle.asks.specs.declared.ask.ReplayRequest.{ReplayRequest}
use Rattle.asks.specs.Names.{table_number}
use Rattle.arch_types.specs.declared.key.Key.{Key}
use Rattle.arch_types.specs.declared.row.Row.{Row}
use Rattle.history_items.specs.declared.items.Item.{Item}
use Rattle.history_items.specs.Databases.{names_in}
use Rattle.history_items.specs.Items.{rows_in}
use Rattle.archive_store.specs.Head.{Head}
use Rattle.mdb_items.specs.Texts.{Text}
use Rattle.replay_merge.specs.Replay.{replay_of}
use Rattle.retrieval.specs.AnswerText.{end_line, front_line}

-- the packet name with a number; a number that none has stands for none
abbrev pub pname_text : List Text → ℕ → Text
pname_text names number = unwrap_or (slice_get names number) []

-- the first words of the line of a row: its table and its key
abbrev pub key_words : List ℕ → Key → List ℕ
key_words table key = codes "packet " ++ table ++ codes " " ++ signed_decimal key.time ++ codes " " ++ decimal key.seq

-- the other words: its link, its packet's name, and how many octets the packet has
abbrev pub packet_words : List Text → Row → List ℕ
packet_words names row =
    codes " " ++ decimal row.link ++ codes " " ++ pname_text names row.pname ++ codes " " ++ decimal (length row.packet) ++ codes "\n"

-- the octets that the first words take at most
abbrev pub longest_key_words : ℕ
longest_key_words = 153

-- the octets that the other words take at most
abbrev pub longest_packet_words : ℕ
longest_packet_words = 148

-- the line of a row of a table
abbrev pub packet_line : List Text → List ℕ → Row → List ℕ
packet_line names table row = key_words table row.key ++ packet_words names row

-- the lines of rows of a table
abbrev pub packet_lines : List Text → List ℕ → List Row → List ℕ
packet_lines names table rows = flat_map (packet_line names table) rows

-- the lines of a replay: its number and the front, the rows of a table, and how many there are
abbrev pub replay_lines : ℕ → ℕ → List Text → List ℕ → List Row → List ℕ
replay_lines k front names table rows = front_line k front ++ packet_lines names table rows ++ end_line (length rows)

-- the text of the replay of a request, the ask with a number
abbrev pub replay_text : Head → List Item → ℕ → ReplayRequest → List ℕ
replay_text head history k request =
    let table = unwrap_or (table_number head.tables request.table) 0 in
    let names = names_in head.mdb history in
    replay_lines k (length history) names request.table (replay_of names table request (rows_in history))
