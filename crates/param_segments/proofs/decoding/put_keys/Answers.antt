use Rattle.std.proofs.Common.{◌∙◌, ◌++◌, ◌∷◌, [], ap, get_or, pos}
use Rattle.arch_types.specs.declared.key.Key.{Key}
use Rattle.param_segments.specs.declared.key_place.KeyPlace.{KeyPlace}
use Rattle.param_segments.proofs.Asked.{item_is}
use Rattle.param_segments.proofs.KeyPlaces.{key_more, keys_end}
use Rattle.param_segments.proofs.decoding.put_keys.Goals as goal

abbrev no_key : Key
no_key = record { time = pos 0; seq = 0 }

pub loop-key-preserved : goal.loop-key-preserved
loop-key-preserved c =
    let keys = c.args.keys.now in
    let i = c.loop-key.key-index in
    key_more c.loop-key.places.items c.push.new.self.items _ c.args.segment i keys (get_or keys i no_key) c.loop-key-test.true (item_is keys i no_key c.loop-key-test.true) (c.in_ok-push.ensures.items ∙ ap (λ (p : KeyPlace). c.loop-key.places.items ++ p ∷ []) c.new.ensures) c.loop-key.invariant

pub returns : goal.returns
returns c = keys_end c.loop-key.places.items _ c.args.segment c.loop-key.key-index c.args.keys.now c.loop-key-test.false c.loop-key.invariant
