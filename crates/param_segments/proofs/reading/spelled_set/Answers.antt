use Rattle.std.proofs.Common.{◌∙◌, ◌<◌, ◌^◌, ℕ, List, length, ap, sym, subst}
use Rattle.std.proofs.lemmas.Result.{err_from_is_err_and}
use Rattle.param_segments.specs.Groups.{set_of}
use Rattle.param_segments.proofs.Decoded.{counted_end}
use Rattle.param_segments.proofs.Known.{few_segments, known_segments, spelled_as_counted}
use Rattle.param_segments.proofs.reading.spelled_set.Goals as goal

pub returns-in_err-read-clause-each : goal.returns-in_err-read-clause-each
returns-in_err-read-clause-each c = λ rows is same.
    let own = c.as_slice.ensures in
    let short = subst (λ (o : List ℕ). length o < 2 ^ 32) own (c.fits_u32.ensures c.if-not-fits_u32.false) in
    let p = err_from_is_err_and c.from_residual.result c.from_residual.ensures.1 in
    rw (p.1, p.2)
    (c.in_err-read.ensures.each (set_of rows) (known_segments c.args.mdb.now c.args.exponent c.args.interval.0 rows is) (few_segments rows c.args.octets.now short same) (c.as_slice-2.ensures ∙ same ∙ spelled_as_counted rows))

pub set_of_read-requires : goal.set_of_read-requires
set_of_read-requires c =
    let told = c.in_ok-read.ensures in
    record {
      sound = told.sound;
      few = told.few;
      spelled = λ ends. sym c.as_slice-2.ensures ∙ told.whole (ends ∙ ap length (sym c.as_slice-2.ensures));
      starts = told.starts;
    }

pub returns-in_err-set-clause-each : goal.returns-in_err-set-clause-each
returns-in_err-set-clause-each c = λ rows is same.
    let short = subst (λ (o : List ℕ). length o < 2 ^ 32) c.as_slice.ensures (c.fits_u32.ensures c.if-not-fits_u32.false) in
    let segments = c.in_ok-read.ensures.each (set_of rows) (known_segments c.args.mdb.now c.args.exponent c.args.interval.0 rows is) (few_segments rows c.args.octets.now short same) (c.as_slice-2.ensures ∙ same ∙ spelled_as_counted rows) in
    let ends = c.in_ok-read.ensures.end ∙ counted_end rows c.args.octets.now c.in_ok-read.read.segments.items segments same in
    let p = err_from_is_err_and c.from_residual-in_err-set.result c.from_residual-in_err-set.ensures.1 in
    rw (p.1, p.2) (c.in_err-set.ensures.each rows is segments ends)

pub returns-clause-spelled : goal.returns-clause-spelled
returns-clause-spelled c = (c.in_ok-set.ensures.sound, c.in_ok-set.ensures.spelled)

pub returns-clause-each : goal.returns-clause-each
returns-clause-each c = λ rows is same.
    let short = subst (λ (o : List ℕ). length o < 2 ^ 32) c.as_slice.ensures (c.fits_u32.ensures c.if-not-fits_u32.false) in
    let segments = c.in_ok-read.ensures.each (set_of rows) (known_segments c.args.mdb.now c.args.exponent c.args.interval.0 rows is) (few_segments rows c.args.octets.now short same) (c.as_slice-2.ensures ∙ same ∙ spelled_as_counted rows) in
    let ends = c.in_ok-read.ensures.end ∙ counted_end rows c.args.octets.now c.in_ok-read.read.segments.items segments same in
    c.in_ok-set.ensures.each rows is segments ends
