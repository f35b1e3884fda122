-- From the entries of a dump to the text of its scan.
use Rattle.std.proofs.Common.{◌≡◌, ℕ, ℤ, ◌+◌, ◌-◌, List, [], ◌∷◌, ◌++◌, length, drop, map, Bool, true, false, refl, ◌∙◌, ap, arith, append-nil}
use Rattle.std.specs.Prelude.{flat_map, nat_lt, if◌then◌else◌}
use Rattle.arch_types.specs.declared.key.Key.{Key}
use Rattle.arch_types.specs.declared.row.Row.{Row}
use Rattle.arch_types.specs.History.{firsts}
use Rattle.arch_types.specs.Table.{table_of}
use Rattle.space_packet.specs.declared.dump.Why.{Why}
use Rattle.space_packet.specs.declared.dump.Why.TheVariants as why
use Rattle.space_packet.specs.Rest.{why_of}
use Rattle.dump_pieces.specs.Reading.{IsWholeDump}
use Rattle.dump_lines.specs.declared.counts.Counts.{Counts}
use Rattle.dump_lines.specs.declared.index.DumpIndex.{DumpIndex}
use Rattle.dump_lines.specs.declared.receiving.Received.{Received}
use Rattle.dump_lines.specs.Counting.{HasCounts}
use Rattle.dump_lines.specs.DumpIndex.{IsIndexed, entry_of}
use Rattle.dump_lines.specs.Printing.{end_of, lines_of, text_of_index}
use Rattle.dump_lines.specs.Text.{scanned_rows, row_line, row_lines, counts_line, last_line, scan_text}

-- the line of a row is that of its entry
entry_lines : (rows : List Row) → lines_of (map entry_of rows) ≡ flat_map row_line rows
entry_lines [] = refl
entry_lines (row ∷ rows) = ap (λ (text : List ℕ). row_line row ++ text) (entry_lines rows)

lines_are : (packets : List (List ℕ)) (moment : ℤ) (entries : List (Key × ℕ)) (counts : Counts) → IsIndexed packets moment entries counts → lines_of entries ≡ row_lines packets moment
lines_are packets moment entries counts i =
    ap (λ (es : List (Key × ℕ)). lines_of es) i.entries_are ∙ entry_lines (table_of 0 (firsts (scanned_rows packets moment)))

last_is : (packets : List (List ℕ)) (moment : ℤ) (counts : Counts) → HasCounts packets moment counts →
    counts_line counts.packets counts.rows counts.duplicates counts.idle ≡ last_line packets moment
last_is packets moment counts h =
    let a = h.of_packets in let b = h.of_rows in let c = h.of_duplicates in let d = h.of_idle in
    let duplicates : counts.duplicates ≡ length (scanned_rows packets moment) - length (firsts (scanned_rows packets moment)) = omega arith in
    let idle : counts.idle ≡ length packets - length (scanned_rows packets moment) = omega arith in
    rw (h.of_packets, h.of_rows, duplicates, idle)

end_is_none : (b : Bool) (reason : Why) (counts : Counts) → reason ≡ (if b then why.Truncated else why.Version) → end_of reason counts ≡ []
end_is_none true reason counts e = rw e
end_is_none false reason counts e = rw e

text_is : (packets : List (List ℕ)) (rest : List ℕ) (moment : ℤ) (entries : List (Key × ℕ)) (counts : Counts) (reason : Why) → IsIndexed packets moment entries counts →
    reason ≡ why_of rest → lines_of entries ++ end_of reason counts ≡ scan_text packets rest moment
text_is packets [] moment entries counts reason i e =
    rw (e, lines_are packets moment entries counts i, last_is packets moment counts i.counted)
text_is packets (octet ∷ rest) moment entries counts reason i e =
    rw (end_is_none (nat_lt octet 32) reason counts e, append-nil (lines_of entries)) (lines_are packets moment entries counts i)

pub text_of_received : (dump : List ℕ) (packets : List (List ℕ)) (moment : ℤ) (received : Received DumpIndex) → IsWholeDump dump packets received.end →
    IsIndexed packets moment received.rows.lengths.entries received.rows.counts → text_of_index received ≡ scan_text packets (drop received.end.at dump) moment
text_of_received dump packets moment received r i =
    text_is packets (drop received.end.at dump) moment received.rows.lengths.entries received.rows.counts received.end.why i r.why
