use Rattle.std.proofs.Common.{Bor, List, ℕ, ◌∙◌, sym, refl, inl, inr, Some}
use Rattle.csv.specs.Reading.{Reached, default_config, strip_bom}
use Rattle.csv.specs.Records.{fields_of}
use Rattle.csv.specs.declared.parser.State.TheVariants as st
use Rattle.csv.proofs.ReadFacts.{rows-end, rows-more}
use Rattle.mdb_sheets.specs.Sheets.{sheet_of}
use Rattle.mdb_sheets.proofs.Reached.{are_records, row_falls}
use Rattle.mdb_sheets.proofs.records.records.Goals as goal

pub loop-found-init : goal.loop-found-init
unfolding Reached
loop-found-init c =
    let made = c.from_reader-reader.ensures in
    let h = c.has_headers.ensures in
    let f = c.flexible.ensures in
    rw c.new-sheet.ensures (record {
      trim = rw (f, h) at made.trim ∙ c.new.ensures.trim;
      flexible = rw f at made.flexible;
      ready = inr (inr (rw (f, h) at made.has_headers, made.headers));
      config = rw (f, h) at made.config ∙ c.new.ensures.config;
      reached = (strip_bom c.args.octets.now, made.source, (sym made.state, refl));
    })

pub loop-found-preserved : goal.loop-found-preserved
loop-found-preserved c =
    let inv = c.loop-found.invariant in
    let read = rw c.if-not-found.false at (c.in-Ok.ensures.reads inv.trim inv.ready) in
    let more = rows-more (λ (s : Bor (List ℕ)). Some s.now) c.loop-found.reader c.read_byte_record.new.self (fields_of c.read_byte_record.new.row) default_config st.StartRecord (strip_bom c.args.octets.now) inv.reached.0 c.loop-found.sheet inv.config inv.reached.1 inv.reached.2 read in
    record {
      trim = read.3 ∙ inv.trim;
      flexible = c.in-Ok.ensures.flexible ∙ inv.flexible;
      ready = inl (c.in-Ok.ensures.ready inv.trim);
      config = read.2 ∙ inv.config;
      reached = (more.0, more.1, rw (c.in_ok-push.ensures.pushed, c.in_ok-refill.ensures) more.2);
    }

pub loop-found-smaller : goal.loop-found-smaller
loop-found-smaller c =
    let inv = c.loop-found.invariant in
    let read = rw c.if-not-found.false at (c.in-Ok.ensures.reads inv.trim inv.ready) in
    row_falls (λ (s : Bor (List ℕ)). Some s.now) c.loop-found.reader c.read_byte_record.new.self (fields_of c.read_byte_record.new.row) default_config inv.reached.0 inv.config inv.reached.1 read

pub returns-then-not-found : goal.returns-then-not-found
unfolding sheet_of
returns-then-not-found c =
    let inv = c.loop-found.invariant in
    let read = rw c.if-not-found.true at (c.in-Ok.ensures.reads inv.trim inv.ready) in
    are_records _ _ (c.loop-found.reader.state, inv.reached.0, inv.reached.2, rows-end (λ (s : Bor (List ℕ)). Some s.now) c.loop-found.reader c.read_byte_record.new.self (fields_of c.read_byte_record.new.row) default_config inv.reached.0 inv.config inv.reached.1 read)
