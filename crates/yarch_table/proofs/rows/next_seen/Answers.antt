use Rattle.std.proofs.Common.{◌≡◌, ◌∷◌, true, false, sym, ◌∙◌, ap, arith}
use Rattle.std.specs.Prelude.{nat_lt}
use Rattle.std.proofs.lemmas.Bool.Decides.{nat_tests}
use Rattle.yarch_table.specs.declared.table.Stored.{Stored}
use Rattle.yarch_table.specs.Index.{rows_left, is_seen, is_before_end, stored_at}
use Rattle.yarch_table.proofs.Ranged.{rows_left-first, seen_below, none_past}
use Rattle.yarch_table.proofs.rows.next_seen.Goals as goal

pub returns-then-not-is_within-clause-taken : goal.returns-then-not-is_within-clause-taken
returns-then-not-is_within-clause-taken c =
    let window = c.args.window.now in
    let up = rw c.in-Some.ensures.steps at c.loop-entry.invariant.rising in
    let past : is_before_end window.end c.in-Some.entry.now.0.time ≡ false = sym c.is_within.ensures ∙ c.if-not-is_within.true in
    let none = none_past c.args.stored.now window.front window.end c.in-Some.entry.now c.next.new.self up past in
    (sym c.loop-entry.invariant.same ∙ ap (rows_left c.args.stored.now window.front window.end) c.in-Some.ensures.steps ∙ none.0, none.1)

pub returns-then-found-window-clause-taken : goal.returns-then-found-window-clause-taken
returns-then-found-window-clause-taken c =
    let window = c.args.window.now in
    let e = c.in-Some.entry.now in
    let d = c.index-stored-entry.result in
    let up = rw c.in-Some.ensures.steps at c.loop-entry.invariant.rising in
    let is : d ≡ stored_at c.args.stored.now d e = c.index-stored-entry.is in
    let within : is_before_end window.end e.0.time ≡ true = sym c.is_within.ensures ∙ c.if-not-is_within.false in
    let below : nat_lt d.position window.front ≡ true = grind (arith, nat_tests, c.if-found-window.true) in
    let seen : is_seen window.front window.end (stored_at c.args.stored.now d e) ≡ true = seen_below c.args.stored.now window.front window.end e d up.each.0 within ∙ ap (λ (s : Stored). nat_lt s.position window.front) (sym is) ∙ below in
    let first = rows_left-first c.args.stored.now window.front window.end e c.next.new.self d true up.each.0.0 seen in
    sym c.loop-entry.invariant.same ∙ ap (rows_left c.args.stored.now window.front window.end) c.in-Some.ensures.steps ∙ first
    ∙ ap (λ (s : Stored). s.row ∷ rows_left c.args.stored.now window.front window.end c.next.new.self) (sym is)

pub loop-entry-preserved : goal.loop-entry-preserved
loop-entry-preserved c =
    let window = c.args.window.now in
    let e = c.in-Some.entry.now in
    let d = c.index-stored-entry.result in
    let up = rw c.in-Some.ensures.steps at c.loop-entry.invariant.rising in
    let is : d ≡ stored_at c.args.stored.now d e = c.index-stored-entry.is in
    let within : is_before_end window.end e.0.time ≡ true = sym c.is_within.ensures ∙ c.if-not-is_within.false in
    let below : nat_lt d.position window.front ≡ false = grind (arith, nat_tests, c.if-found-window.false) in
    let seen : is_seen window.front window.end (stored_at c.args.stored.now d e) ≡ false = seen_below c.args.stored.now window.front window.end e d up.each.0 within ∙ ap (λ (s : Stored). nat_lt s.position window.front) (sym is) ∙ below in
    let first = rows_left-first c.args.stored.now window.front window.end e c.next.new.self d false up.each.0.0 seen in
    record {
      rising = record { each = up.each.1; rising = up.rising.1 };
      same = sym (sym c.loop-entry.invariant.same ∙ ap (rows_left c.args.stored.now window.front window.end) c.in-Some.ensures.steps ∙ first);
    }
