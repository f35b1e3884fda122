use Rattle.std.proofs.Common.{◌≡◌, ◌∙◌, [], ◌∷◌, None, List, sym, subst}
use Rattle.glance_log.specs.Sightings.{Sighting}
use Rattle.glance_board.specs.Shelves.{IsShelf}
use Rattle.glance_board.proofs.Shelving.{all_shown}
use Rattle.glance_board.proofs.shelf.Shelf.new.Goals as goal

pub invariant_of-result : goal.invariant_of-result
invariant_of-result g c =
    let b = c.in_ok-board.board in
    let v = b.desk.place.me.0.client in
    let made = c.args.publisher in
    let of_it = c.new-made.ensures ∙ c.last.ensures in
    let same : b.desk.shown.value ≡ made = c.in_ok-board.ensures.shown ∙ c.in_ok-copy.ensures ∙ of_it in
    let seen = subst (λ (s : Sighting g.row.X.Denot). v.seen ≡ s ∷ []) (sym c.in_ok-board.ensures.shown) c.in_ok-board.ensures.seen in
    (subst (λ (l : List (Sighting g.row.X.Denot)). IsShelf v b.desk.shown.value l None made) (sym c.in_ok-board.ensures.pending) (all_shown v b.desk.shown.value made seen same), of_it)
