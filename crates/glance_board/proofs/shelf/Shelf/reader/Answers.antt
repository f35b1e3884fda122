use Rattle.std.proofs.Common.{◌≡◌, [], ◌∷◌, ◌∙◌, ap, sym}
use Rattle.left_right.specs.Sides.{view}
use Rattle.left_right.specs.declared.part.Part.{Part}
use Rattle.glance_log.specs.Sightings.{Sighting}
use Rattle.glance_board.specs.declared.rule.Watched.{Watched}
use Rattle.glance_board.proofs.Following.{admits, forks, has_seen, merges}
use Rattle.glance_board.proofs.shelf.Shelf.reader.Goals as goal

pub reader-requires : goal.reader-requires
reader-requires g c = admits

pub tell-requires : goal.tell-requires
tell-requires g c = forks _ _

pub learn-requires-clause-rule : goal.learn-requires-clause-rule
learn-requires-clause-rule g c = merges _ _ _ _

pub of-requires : goal.of-requires
of-requires g c =
    let v = view c.self.inside.board.desk.place in
    let w = view c.learn.new.self.place in
    let same : w ≡ v = c.learn.ensures.1 ∙ c.tell.ensures.given.1 in
    let shown : c.sight.result ≡ c.self.inside.board.desk.shown.value = c.sight.ensures ∙ c.published.ensures ∙ ap (λ (p : Part (Sighting g.row.X.Denot)). p.value) c.tell.ensures.kept.0 in
    has_seen w c.sight.result (ap (λ (u : Watched g.row.X.Denot). u.seen) same ∙ c.self.invariant.0.seen ∙ ap (λ (s : Sighting g.row.X.Denot). s ∷ []) (sym shown))
