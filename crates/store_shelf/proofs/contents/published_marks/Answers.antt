use Rattle.std.proofs.Common.{◌≡◌, ◌∙◌, ◌+◌, ◌++◌, ◌∷◌, pos, ℕ, ◌<◌, List, None, length, get_or, ap, subst, sym, drop}
use Rattle.std.specs.List.{AllByRecursion}
use Rattle.std.proofs.lemmas.List.{drop_more}
use Rattle.intervals.specs.declared.interval.Interval.{Interval}
use Rattle.archive_store.specs.declared.marks.Mark.{Mark}
use Rattle.archive_store.specs.Marks.{IsMarkIn, marked_intervals}
use Rattle.glance_board.specs.Listings.{IsMarkOf, intervals_of}
use Rattle.store_shelf.specs.Publications.{staying_of}
use Rattle.store_shelf.proofs.Marking.{more_marks}
use Rattle.store_shelf.proofs.contents.published_marks.Goals as goal

left_marks : (P : Mark → Type 0) (all : List Mark) (n : ℕ) → n < length all → AllByRecursion P (drop n all) → P (get_or all n (record { interval = record { 0 = pos 0 }; last = 0; base = None })) × AllByRecursion P (drop (n + 1) all)
left_marks P all n within = subst (AllByRecursion P) (drop_more all n (record { interval = record { 0 = pos 0 }; last = 0; base = None }) within)

pub published_mark-requires : goal.published_mark-requires
published_mark-requires g c =
    let s = c.args.store.now in
    (left_marks (IsMarkIn s.exponent s.history s.fills) c.args.marks.now c.loop-mark.mark-index c.loop-mark-test.true c.loop-mark.invariant.left).0

pub loop-mark-preserved : goal.loop-mark-preserved
loop-mark-preserved g c =
    let s = c.args.store.now in
    let all = c.args.marks.now in
    let n = c.loop-mark.mark-index in
    let m : Mark = get_or all n (record { interval = record { 0 = pos 0 }; last = 0; base = None }) in
    let rest : List Interval = marked_intervals (drop (n + 1) all) in
    let was = c.loop-mark.published in
    let here : drop n all ≡ m ∷ drop (n + 1) all = drop_more all n (record { interval = record { 0 = pos 0 }; last = 0; base = None }) c.loop-mark-test.true in
    let same : intervals_of was ++ m.interval ∷ rest ≡ marked_intervals all = ap (λ (l : List Mark). intervals_of was ++ marked_intervals l) (sym here) ∙ c.loop-mark.invariant.intervals in
    let more = more_marks (IsMarkOf (staying_of g.D.Disk.device s) s.history s.fills) was c.put.new.self c.in_ok-one.one m.interval rest (marked_intervals all) c.in_ok-one.ensures.interval c.requires.rising same
    c.in_ok-put.ensures.put c.loop-mark.invariant.each c.in_ok-one.ensures.mark in
    record {
      each = more.0;
      intervals = more.1;
      left = (left_marks (IsMarkIn s.exponent s.history s.fills) all n c.loop-mark-test.true c.loop-mark.invariant.left).1;
    }
