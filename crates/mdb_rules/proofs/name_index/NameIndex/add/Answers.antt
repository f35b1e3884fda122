use Rattle.std.proofs.Common.{◌≡◌, ◌∙◌, ap, refl, ℕ, Vec, Global, None, false}
use Rattle.std.specs.Str.{bytes_eq}
use Rattle.std.specs.List.{position, list_any}
use Rattle.std.proofs.lemmas.List.{map-append}
use Rattle.mdb_items.proofs.Places.{absent, position-map}
use Rattle.mdb_rules.proofs.name_index.NameIndex.add.Goals as goal

pub returns-clause-added : goal.returns-clause-added
returns-clause-added c =
    let eq = λ (k : Vec ℕ Global). bytes_eq c.args.name.items k.items in
    let there = position-map (bytes_eq c.args.name.items) (λ (k : Vec ℕ Global). k.items) c.self.inside.set.keys in
    let none : position eq c.self.inside.set.keys ≡ None = there ∙ ap (position (bytes_eq c.args.name.items)) c.self.view_is ∙ c.requires in
    let new : list_any eq c.self.inside.set.keys ≡ false = absent eq _ none in
    let keys = rw new at c.in_ok-insert.ensures.keys in
    rw (keys, map-append, c.self.view_is) refl
