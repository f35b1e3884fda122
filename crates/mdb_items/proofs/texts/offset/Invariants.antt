use Rattle.std.proofs.Common.{◌≡◌, take, true, min}
use Rattle.std.specs.List.{list_all}
use Rattle.text_forms.specs.Digits.{decimal_value, is_digit}
use Rattle.mdb_items.proofs.texts.offset.Given as goal

abbrev pub invariant-loop-octet : goal.invariant-loop-octet
invariant-loop-octet l = record {
  value : l.value ≡ min (decimal_value (take l.octet-index l.text)) 524336;
  digits : list_all is_digit (take l.octet-index l.text) ≡ true;
}
