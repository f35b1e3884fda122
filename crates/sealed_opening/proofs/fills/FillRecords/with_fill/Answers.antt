use Rattle.std.proofs.Common.{List, None, Some, sym, refl, true≢false, ◌∙◌, ap, subst}
use Rattle.param_segments.specs.Extracted.{IsSetOf}
use Rattle.param_segments.specs.Octets.{rows_in_octets, set_octets}
use Rattle.param_segments.specs.Rows.{SetRow}
use Rattle.store_fills.specs.LastFills.{fill_over, fillings_in}
use Rattle.store_fills.specs.Sound.{with_filling}
use Rattle.archive_reading.specs.PartialArchive.{IsSetRead}
use Rattle.sealed_opening.specs.Fills.{stored_fill}
use Rattle.sealed_opening.proofs.fills.FillRecords.with_fill.Goals as goal

pub returns-then-not-may_fill-clause-none : goal.returns-then-not-may_fill-clause-none
returns-then-not-may_fill-clause-none c may = true≢false (sym (c.may_fill.ensures.1 (may.base, may.row)) ∙ c.if-not-may_fill.true)

pub returns-in_default-clause-none : goal.returns-in_default-clause-none
returns-in_default-clause-none c may =
    let self = c.args.self in
    let none : IsSetRead self.head.now.mdb self.exponent c.args.interval c.args.octets None = subst (IsSetRead self.head.now.mdb self.exponent c.args.interval c.args.octets) c.in_default.is c.in_ok-found.ensures in
    none (rows_in_octets c.args.octets) may.set may.spelled

pub note_fill-requires : goal.note_fill-requires
note_fill-requires c = (c.may_fill.ensures.0 c.if-not-may_fill.false).1

pub returns-clause-taken : goal.returns-clause-taken
returns-clause-taken c =
    let self = c.args.self in
    let i = c.args.interval in
    let base = c.args.base in
    let octets = c.args.octets in
    let may = c.may_fill.ensures.0 c.if-not-may_fill.false in
    let read : IsSetRead self.head.now.mdb self.exponent i octets (Some c.in-Some.set) = subst (IsSetRead self.head.now.mdb self.exponent i octets) c.in-Some.is c.in_ok-found.ensures in
    let one = c.in_ok-note_fill.ensures in
    let rest = c.note_fill.ensures.rest in
    record {
      fill = stored_fill i base octets;
      body_is = refl;
      may = record {
        fits = c.requires;
        base = may.0;
        row = may.1;
        set = subst (IsSetOf self.head.now.mdb self.exponent i.0) read.2 read.0;
        spelled = read.1 ∙ ap set_octets read.2;
      };
      fills = one.fills;
      marks = one.marks;
      sets = one.sets ∙ ap (λ (s : List SetRow). with_filling (fillings_in self.sets.filled) i (fill_over base s)) (c.in_ok-shared.ensures.ok ∙ read.2);
      head = rest.0;
      exponent = rest.1;
      rows = rest.2;
    }
