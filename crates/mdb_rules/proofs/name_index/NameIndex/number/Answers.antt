use Rattle.std.proofs.Common.{◌∙◌, ap, ℕ, Vec, Global}
use Rattle.std.specs.Str.{bytes_eq}
use Rattle.std.specs.List.{position}
use Rattle.mdb_items.proofs.Places.{position-map}
use Rattle.mdb_rules.proofs.name_index.NameIndex.number.Goals as goal

pub returns : goal.returns
returns c =
    let there = position-map (bytes_eq c.args.name.now) (λ (k : Vec ℕ Global). k.items) c.self.inside.set.keys in
    c.get_index_of.ensures.index ∙ there ∙ ap (position (bytes_eq c.args.name.now)) c.self.view_is
