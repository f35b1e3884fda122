use Rattle.std.proofs.Common.{◌≡◌, ◌∙◌, ◌++◌, ◌-◌, ◌≤◌, ℕ, List, [], append-nil, length, take, drop, ap, sym, subst, arith, length-drop}
use Rattle.std.proofs.lemmas.List.{take_all}
use Rattle.intervals.specs.declared.interval.Interval.{Interval}
use Rattle.history_items.specs.declared.fills.Fill.{Fill}
use Rattle.glance_board.specs.declared.contents.Contents.{Contents}
use Rattle.store_shelf.specs.Publications.{staying_of}
use Rattle.store_shelf.specs.Renewing.{AreStoreMarksBut, ComeTo, arrived_intervals, filled_intervals}
use Rattle.store_shelf.proofs.Marking.{contents_with}
use Rattle.store_shelf.proofs.Renewing.{listing_left, none_left}
use Rattle.store_shelf.proofs.contents.contents_after.Goals as goal

-- from a place on to the end
to_the_end : (fills : List Fill) (n : ℕ) → take (length fills - n) (drop n fills) ≡ drop n fills
to_the_end fills n = let all : length (drop n fills) ≤ length fills - n = omega (arith, length-drop n fills) in take_all (length fills - n) (drop n fills) all

pub returns : goal.returns
returns g c =
    let device = g.D.Disk.device in
    let s = c.args.store.now in
    let old = c.contents-last.result.now in
    let arrived = arrived_intervals s.exponent c.args.arrivals.now in
    let filled = filled_intervals (drop old.fills s.fills) in
    let since : ComeTo s.exponent arrived (drop (length c.args.last.now.history) s.history) =
    subst (λ (n : ℕ). ComeTo s.exponent arrived (drop n s.history)) (sym c.if-last-front.false ∙ c.contents-last.ensures.front) c.requires.came in
    let left = subst (AreStoreMarksBut device s (arrived ++ filled)) (sym c.in_ok-marks.ensures)
    (listing_left device s c.args.last.now old arrived c.contents-last.ensures c.requires.begins since) in
    let fills = c.in_ok-renew_arrived.ensures filled left in
    let same = to_the_end c.fills.result.now old.fills ∙ ap (drop old.fills) c.fills.ensures in
    let none = c.in_ok-renew_filled.ensures []
    (subst (λ (l : List Fill). AreStoreMarksBut device s (filled_intervals l ++ []) c.renew_arrived.new.marks) (sym same)
    (subst (λ (l : List Interval). AreStoreMarksBut device s l c.renew_arrived.new.marks) (sym (append-nil filled)) fills)) in
    let contents : Contents = record { front = c.front.result; fills = c.fill_len.result; exponent = c.exponent.result; mdb = c.in_ok-mdb.mdb; marks = c.renew_filled.new.marks } in
    contents_with device s contents c.front.ensures c.fill_len.ensures c.exponent.ensures c.in_ok-mdb.ensures (none_left (staying_of device s) s.history s.fills c.renew_filled.new.marks none)
