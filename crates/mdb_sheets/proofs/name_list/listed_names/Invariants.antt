use Rattle.std.proofs.Common.{◌≡◌, map, drop}
use Rattle.mdb_rules.proofs.Pieces.{joined}
use Rattle.mdb_sheets.specs.Asks.{listed_names}
use Rattle.mdb_sheets.proofs.NameLists.{AreLeft, names_in}
use Rattle.mdb_sheets.proofs.name_list.listed_names.Given as goal

abbrev pub invariant-loop-part : goal.invariant-loop-part
invariant-loop-part l = record {
  names : joined l.names (names_in (map (λ part. part.now) (drop l.part-index l.part-items))) ≡ listed_names l.fn.text;
  left : AreLeft l.fn.text l.start (map (λ part. part.now) (drop l.part-index l.part-items));
}
