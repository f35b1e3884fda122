use Rattle.std.proofs.Common.{◌≡◌, true, None, Some, ℕ, List, get_or, sym, ap, ◌∙◌, subst, rules}
use Rattle.std.specs.List.{position}
use Rattle.std.specs.Ordering.{is_lt}
use Rattle.std.proofs.lemmas.Option.{slice_get_within}
use Rattle.arch_types.specs.Order.{key_cmp}
use Rattle.run_files.specs.Lookup.{IsLastNotAbove, IsPageFor, IsPositionOf}
use Rattle.run_files.proofs.Positions.{above_all, below_all, has_this_key, not_on_page, on_page}
use Rattle.run_files.proofs.run.Run.position.Goals as goal

pub returns-then-lt-clause-position : goal.returns-then-lt-clause-position
returns-then-lt-clause-position g c = λ transparent rows held.
    let run = c.args.self.now in
    let above : is_lt (key_cmp run.last c.args.key) ≡ true = search (rules, c.lt.ensures, c.if-lt.true) in
    above_all (g.D.Disk.device.reads c.args.disk.now run.file) run rows held.reads c.args.key above

pub returns-in_default-clause-position : goal.returns-in_default-clause-position
returns-in_default-clause-position g c = λ transparent rows held.
    let run = c.args.self.now in
    below_all (g.D.Disk.device.reads c.args.disk.now run.file) run rows held.reads c.args.key (subst (IsPageFor run.index.entries.items c.args.key) c.in_default.is c.page_of.ensures)

pub rows_of-requires-clause-page : goal.rows_of-requires-clause-page
rows_of-requires-clause-page g c =
    let entries = c.args.self.now.index.entries.items in
    let may : IsLastNotAbove entries c.args.key c.in-Some.page = subst (IsPageFor entries c.args.key) c.in-Some.is c.page_of.ensures in
    slice_get_within entries c.in-Some.page may.entry may.there

pub returns-in_default-place_of_key-clause-position :
    goal.returns-in_default-place_of_key-clause-position
returns-in_default-place_of_key-clause-position g c = λ transparent rows held.
    let run = c.args.self.now in
    let key = c.args.key in
    let may : IsPageFor run.index.entries.items key (Some c.in-Some.page) = subst (IsPageFor run.index.entries.items key) c.in-Some.is c.page_of.ensures in
    not_on_page (g.D.Disk.device.reads c.args.disk.now run.file) run rows held.reads key c.in-Some.page may c.in_ok-held.held (c.in_ok-held.ensures.rows transparent rows held)
    (sym (c.place_of_key.ensures ∙ ap (position (has_this_key key)) c.as_slice.ensures) ∙ c.in_default-place_of_key.is)

pub returns-clause-position : goal.returns-clause-position
returns-clause-position g c = λ transparent rows held.
    let run = c.args.self.now in
    let key = c.args.key in
    let place = c.in-Some-place_of_key.place in
    let may : IsPageFor run.index.entries.items key (Some c.in-Some.page) = subst (IsPageFor run.index.entries.items key) c.in-Some.is c.page_of.ensures in
    subst (λ (l : List ℕ). IsPositionOf rows key (Some (get_or l place 0))) (sym c.as_slice-2.ensures)
    (on_page (g.D.Disk.device.reads c.args.disk.now run.file) run rows held.reads key c.in-Some.page may c.in_ok-held.held (c.in_ok-held.ensures.rows transparent rows held) place
    (sym (c.place_of_key.ensures ∙ ap (position (has_this_key key)) c.as_slice.ensures) ∙ c.in-Some-place_of_key.is))
