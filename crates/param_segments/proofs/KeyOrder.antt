-- Rows in the order of their keys, and the list of their keys.
use Rattle.std.proofs.Common.{◌≡◌, List, [], ◌∷◌, map, true, refl}
use Rattle.std.specs.List.{AllByRecursion}
use Rattle.std.specs.List.Sorted.{IsStrictlySortedBy}
use Rattle.std.specs.Ordering.{is_lt}
use Rattle.std.specs.declared.cmp.Ordering.{Ordering}
use Rattle.std.specs.declared.cmp.Ordering.TheVariants.{Less, Equal, Greater}
use Rattle.arch_types.specs.declared.key.Key.{Key}
use Rattle.arch_types.specs.Order.{key_cmp}
use Rattle.segment_codec.specs.KeyColumn.{IsKey}
use Rattle.param_segments.specs.Rows.{IsSetRow, SetRow, is_earlier}
use Rattle.param_segments.proofs.Ordering.{IsRising}

pub is_less : (o : Ordering) → is_lt o ≡ true → o ≡ Less
is_less Less e = refl
is_less Equal e = absurd cc
is_less Greater e = absurd cc

all_later : (k : Key) (ts : List SetRow) → AllByRecursion (λ z. is_lt (key_cmp k z.key) ≡ true) ts → AllByRecursion (λ y. key_cmp k y ≡ Less) (map (λ t. t.key) ts)
all_later k [] all = tt
all_later k (t ∷ ts) all = (is_less (key_cmp k t.key) all.0, all_later k ts all.1)

pub keys_rise : (ts : List SetRow) → IsRising is_earlier ts → IsStrictlySortedBy key_cmp (map (λ t. t.key) ts)
unfolding IsStrictlySortedBy
keys_rise [] up = tt
keys_rise (t ∷ ts) up = (all_later t.key ts up.0, keys_rise ts up.1)

pub key_fields : (ts : List SetRow) → AllByRecursion IsSetRow ts → AllByRecursion IsKey (map (λ t. t.key) ts)
key_fields [] all = tt
key_fields (t ∷ ts) all = (all.0.key, key_fields ts all.1)
