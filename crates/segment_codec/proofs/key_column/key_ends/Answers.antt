use Rattle.std.proofs.Common.{◌-◌, length, get_or, pos, refl}
use Rattle.arch_types.specs.declared.key.Key.{Key}
use Rattle.segment_codec.proofs.Outlines.{ends_are}
use Rattle.segment_codec.proofs.key_column.key_ends.Goals as goal

pub returns : goal.returns
returns c =
    let keys = c.args.keys.now in
    let none : Key = record { time = pos 0; seq = 0 } in
    ends_are keys (get_or keys 0 none) (get_or keys (length keys - 1) none) none c.requires refl refl
