use Rattle.std.proofs.Common.{◌≡◌, ◌++◌, ◌∙◌, List, ℕ, ap, arith}
use Rattle.std.specs.Int.{w32, to_be_bytes}
use Rattle.disk_journal.specs.Format.{framed}
use Rattle.field_codec.specs.declared.entry.Entry.TheVariants as entries
use Rattle.field_codec.specs.Spelling.{entry_octets}
use Rattle.archive_store.proofs.ingest.rows_frame.Goals as goal

pub finish-requires : goal.finish-requires
unfolding framed
finish-requires c =
    let body : List ℕ = entry_octets (entries.Rows c.args.rows.now) in
    let is : c.put_rows.new.out.items ≡ framed body = c.in_ok-put_rows.ensures ∙ ap (λ (l : List ℕ). l ++ body) (c.in_ok-octets.ensures ∙ ap (to_be_bytes w32) c.rows_entry_len.ensures.len) in
    (body, is, omega (arith, c.rows_entry_len.ensures.len, c.rows_entry_len.ensures.short))

pub returns : goal.returns
unfolding framed
returns c =
    let body : List ℕ = entry_octets (entries.Rows c.args.rows.now) in
    let is : c.put_rows.new.out.items ≡ framed body = c.in_ok-put_rows.ensures ∙ ap (λ (l : List ℕ). l ++ body) (c.in_ok-octets.ensures ∙ ap (to_be_bytes w32) c.rows_entry_len.ensures.len) in
    c.finish.ensures body is
