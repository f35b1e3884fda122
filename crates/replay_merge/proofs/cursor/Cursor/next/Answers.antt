use Rattle.std.proofs.Common.{◌≡◌, ◌+◌, ◌-◌, List, [], length, take, drop, sym, ap, ◌∙◌, subst, arith, rules, ◌<◌, ◌^◌}
use Rattle.std.specs.List.{AllByRecursion}
use Rattle.std.proofs.lemmas.List.{take_rest, nil_from_length, length-drop}
use Rattle.arch_types.specs.declared.row.Row.{Row}
use Rattle.arch_types.specs.Order.{is_before}
use Rattle.replay_merge.specs.Cursor.{MayHandOn, left_after}
use Rattle.replay_merge.specs.RowSource.{AreInKeyOrder}
use Rattle.replay_merge.specs.Fetch.{IsWanted}
use Rattle.replay_merge.proofs.Reading.{rising_rest, day_fetched}
use Rattle.replay_merge.proofs.Pieces.{standing, given, same_rest, nothing_ahead, all_first, all_rest, all_kept, ahead_handed, read_handed, first_in_order, rest_in_order, still_all, still_in_order, still_short}
use Rattle.replay_merge.proofs.cursor.Cursor.next.Goals as goal

pub fetch-requires : goal.fetch-requires
fetch-requires g c =
    let read = c.self.inside.read in
    rw (take_rest c.as_slice.result.now read, c.as_slice.ensures.value) (rising_rest read c.self.inside.parts.items c.self.invariant.rising)

pub returns-then-len-eq0-clause-rows : goal.returns-then-len-eq0-clause-rows
returns-then-len-eq0-clause-rows g c =
    let told = (g.R.RowSource.state c.args.source.now).history in
    let inside = c.self.inside in
    let read = inside.read in
    let count = c.in_ok-count.count in
    let items = inside.parts.items in
    let slice = take (length c.as_slice.result.now - read) (drop read c.as_slice.result.now) in
    let slice_is : slice ≡ drop read items = take_rest c.as_slice.result.now read ∙ ap (drop read) c.as_slice.ensures.value in
    let none : inside.ahead ≡ [] = nil_from_length inside.ahead (sym c.len.ensures ∙ c.if-len-eq0.true) in
    rw (← c.self.view_is)
    (given told inside.wanted inside.left c.left_after-self-inside.result (drop read items) (drop (read + count) items) inside.ahead c.in_ok-rows.ahead c.keep_within.new.self c.in_ok-count.day c.in_ok-rows.rows c.given_at_most-most.result c.given_at_most-most.ensures.left
    (nothing_ahead told inside.wanted (drop read items) (drop (read + count) items) inside.ahead c.in_ok-count.day none (day_fetched told inside.wanted items slice read count c.in_ok-count.day slice_is c.in_ok-count.ensures.rows))
    c.in_ok-rows.ensures.first c.in_ok-rows.ensures.rest (c.left_after-self-inside.ensures ∙ ap (left_after inside.left) c.len-then-len-eq0.ensures) c.keep_within.ensures)

pub returns-then-len-eq0-clause-each : goal.returns-then-len-eq0-clause-each
returns-then-len-eq0-clause-each g c =
    rw (← c.self.view_is) (subst (λ (l : List Row). AllByRecursion (IsWanted c.self.inside.wanted) l) (sym c.in_ok-rows.ensures.first) (all_first (IsWanted c.self.inside.wanted) c.given_at_most-most.result c.in_ok-count.day c.in_ok-count.ensures.each))

pub returns-then-most-eq0-clause-given : goal.returns-then-most-eq0-clause-given
returns-then-most-eq0-clause-given g c = rw c.new.ensures (ahead_handed c.args.self.now (g.R.RowSource.state c.args.source.now))

pub returns-then-len-eq0-clause-given : goal.returns-then-len-eq0-clause-given
returns-then-len-eq0-clause-given g c =
    let source = g.R.RowSource.state c.args.source.now in
    all_kept (MayHandOn c.args.self.now source) c.given_at_most-most.result c.left_after-self-inside.result c.in_ok-count.day c.in_ok-rows.rows c.in_ok-rows.ahead c.keep_within.new.self
    c.in_ok-rows.ensures.first c.in_ok-rows.ensures.rest c.keep_within.ensures (read_handed c.args.self.now source c.in_ok-count.day c.in_ok-count.ensures.given)

pub returns-clause-rows : goal.returns-clause-rows
returns-clause-rows g c =
    let told = (g.R.RowSource.state c.args.source.now).history in
    let inside = c.self.inside in
    let parts = drop inside.read inside.parts.items in
    rw (← c.self.view_is)
    (given told inside.wanted inside.left c.left_after-self-inside-2.result parts parts inside.ahead c.take_first.new.self c.keep_within-2.new.self inside.ahead c.in_ok-rows-2.rows c.given_at_most-most.result c.given_at_most-most.ensures.left (same_rest told inside.wanted parts inside.ahead)
    c.in_ok-rows-2.ensures.rows c.in_ok-rows-2.ensures.rest (c.left_after-self-inside-2.ensures ∙ ap (left_after inside.left) c.len-2.ensures) c.keep_within-2.ensures)

pub returns-clause-given : goal.returns-clause-given
returns-clause-given g c =
    let source = g.R.RowSource.state c.args.source.now in
    let inside = c.self.inside in
    let before = standing inside.wanted inside.left (drop inside.read inside.parts.items) inside.ahead in
    rw (← c.self.view_is)
    (all_kept (MayHandOn before source) c.given_at_most-most.result c.left_after-self-inside-2.result inside.ahead c.in_ok-rows-2.rows c.take_first.new.self c.keep_within-2.new.self
    c.in_ok-rows-2.ensures.rows c.in_ok-rows-2.ensures.rest c.keep_within-2.ensures (ahead_handed before source))

pub returns-clause-each : goal.returns-clause-each
returns-clause-each g c =
    rw (← c.self.view_is) (subst (λ (l : List Row). AllByRecursion (IsWanted c.self.inside.wanted) l) (sym c.in_ok-rows-2.ensures.rows) (all_first (IsWanted c.self.inside.wanted) c.given_at_most-most.result c.self.inside.ahead c.self.invariant.each))

pub invariant_of-self : goal.invariant_of-self
invariant_of-self g c =
    let inside = c.self.inside in
    let most = c.given_at_most-most.result in
    let day = c.in_ok-count.day in
    let ahead = c.in_ok-rows.ahead in
    let left = c.left_after-self-inside.result in
    let rest = c.in_ok-rows.ensures.rest in
    let each = subst (λ (l : List Row). AllByRecursion (IsWanted inside.wanted) l) (sym rest) (all_rest (IsWanted inside.wanted) most day c.in_ok-count.ensures.each) in
    let in_order = subst AreInKeyOrder (sym rest) (rest_in_order is_before most day c.in_ok-count.ensures.in_order) in
    record {
      within = search rules;
      rising = c.self.invariant.rising;
      each = subst (λ (l : List Row). AllByRecursion (IsWanted inside.wanted) l) (sym c.keep_within.ensures) (still_all (IsWanted inside.wanted) left ahead each);
      in_order = subst AreInKeyOrder (sym c.keep_within.ensures) (still_in_order is_before left ahead in_order);
      short = subst (λ (l : List Row). length l < 2 ^ 64) (sym c.keep_within.ensures) (omega (arith, still_short left ahead, length-drop most day, ap length rest, c.split_first.ensures.short));
    }

pub returns-then-len-eq0-clause-in_key_order : goal.returns-then-len-eq0-clause-in_key_order
returns-then-len-eq0-clause-in_key_order g c =
    subst AreInKeyOrder (sym c.in_ok-rows.ensures.first) (first_in_order is_before c.given_at_most-most.result c.in_ok-count.day c.in_ok-count.ensures.in_order)

pub invariant_of-self-2 : goal.invariant_of-self-2
invariant_of-self-2 g c =
    let inside = c.self.inside in
    let most = c.given_at_most-most.result in
    let ahead = c.take_first.new.self in
    let left = c.left_after-self-inside-2.result in
    let rest = c.in_ok-rows-2.ensures.rest in
    let each = subst (λ (l : List Row). AllByRecursion (IsWanted inside.wanted) l) (sym rest) (all_rest (IsWanted inside.wanted) most inside.ahead c.self.invariant.each) in
    let in_order = subst AreInKeyOrder (sym rest) (rest_in_order is_before most inside.ahead c.self.invariant.in_order) in
    record {
      within = c.self.invariant.within;
      rising = c.self.invariant.rising;
      each = subst (λ (l : List Row). AllByRecursion (IsWanted inside.wanted) l) (sym c.keep_within-2.ensures) (still_all (IsWanted inside.wanted) left ahead each);
      in_order = subst AreInKeyOrder (sym c.keep_within-2.ensures) (still_in_order is_before left ahead in_order);
      short = subst (λ (l : List Row). length l < 2 ^ 64) (sym c.keep_within-2.ensures) (omega (arith, still_short left ahead, length-drop most inside.ahead, ap length rest, c.self.invariant.short));
    }

pub returns-clause-in_key_order : goal.returns-clause-in_key_order
returns-clause-in_key_order g c =
    subst AreInKeyOrder (sym c.in_ok-rows-2.ensures.rows) (first_in_order is_before c.given_at_most-most.result c.self.inside.ahead c.self.invariant.in_order)
