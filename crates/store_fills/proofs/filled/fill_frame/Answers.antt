use Rattle.std.proofs.Common.{◌≡◌, ◌++◌, ◌∙◌, List, ℕ, FitsSigned, ap, arith, rules, sym}
use Rattle.std.specs.Prelude.{Result, Ok, Err, OnOk}
use Rattle.std.specs.Int.{w32, w64, to_be_bytes}
use Rattle.disk_journal.specs.Format.{framed}
use Rattle.field_codec.specs.declared.entry.Entry.TheVariants as entries
use Rattle.field_codec.specs.Entries.{IsArchiveEntry}
use Rattle.field_codec.specs.Spelling.{entry_octets}
use Rattle.field_codec.proofs.FillSpelling.{fill_size}
use Rattle.store_fills.proofs.filled.fill_frame.Goals as goal

-- what holds whatever came, holds at Ok
at_ok : {T E : Type 0} (r : Result T E) (P : Type 0) → P → OnOk r P
at_ok (Ok x) P p = p
at_ok (Err e) P p = tt

pub finish-requires : goal.finish-requires
unfolding framed
finish-requires c =
    let body : List ℕ = entry_octets (entries.Fill c.args.interval c.args.base c.args.set.now) in
    let long = c.fill_entry_len.ensures ∙ sym (fill_size c.args.interval c.args.base c.args.set.now) in
    let is : c.put_fill.new.out.items ≡ framed body = c.in_ok-put_fill.ensures ∙ ap (λ (l : List ℕ). l ++ body) (c.in_ok-octets.ensures ∙ ap (to_be_bytes w32) (c.in-Ok.ensures.1 ∙ long)) in
    (body, is, omega (arith, c.in-Ok.ensures.0, long))

pub returns-clause-spelled : goal.returns-clause-spelled
unfolding framed
returns-clause-spelled c =
    let body : List ℕ = entry_octets (entries.Fill c.args.interval c.args.base c.args.set.now) in
    let long = c.fill_entry_len.ensures ∙ sym (fill_size c.args.interval c.args.base c.args.set.now) in
    let is : c.put_fill.new.out.items ≡ framed body = c.in_ok-put_fill.ensures ∙ ap (λ (l : List ℕ). l ++ body) (c.in_ok-octets.ensures ∙ ap (to_be_bytes w32) (c.in-Ok.ensures.1 ∙ long)) in
    c.finish.ensures body is

-- the numbers fit their types, and the octets are octets
pub returns-clause-fits : goal.returns-clause-fits
returns-clause-fits c =
    let fits : FitsSigned w64 c.args.interval.0 = search rules in
    at_ok c.finish.result (IsArchiveEntry (entries.Fill c.args.interval c.args.base c.args.set.now)) (fits, (omega (arith, c.ranges.base), λ i. omega (arith, c.type_inv.set i)))
