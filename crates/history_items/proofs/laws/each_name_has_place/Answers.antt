use Rattle.history_items.proofs.Databases.{each_name_has_place}
use Rattle.history_items.proofs.laws.each_name_has_place.Goals as goal

pub returns : goal.returns
returns c = each_name_has_place
