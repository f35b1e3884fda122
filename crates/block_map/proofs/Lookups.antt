-- What a search finds among the entries of blocks.
use Rattle.std.proofs.Common.{◌≡◌, ℕ, ◌+◌, ◌<◌, List, [], ◌∷◌, ◌++◌, length, take, drop, get_or, Some, None, ◌∙◌, ap, subst, refl}
use Rattle.std.specs.Global.{Vec}
use Rattle.std.specs.Map.{lookup}
use Rattle.std.specs.BTreeMap.{is_at}
use Rattle.std.specs.declared.cmp.Ordering.{Ordering}
use Rattle.std.specs.declared.cmp.Ordering.TheVariants.{Less, Equal, Greater}
use Rattle.std.specs.BTreeMap.Range.{entries_from}
use Rattle.std.specs.Cmp.{IsTotalOrder}
use Rattle.block_map.specs.Rising.{IsRising, IsAbove, IsBelow}
use Rattle.block_map.specs.Blocks.{entries_of}
use Rattle.block_map.proofs.Rising.{drop_at, with_item, all_append, rising_left, rising_right, below_same}
use Rattle.block_map.proofs.Seams.{entries_seam, entries_parted}

module _ {K V : Type 0} (cmp : K → K → Ordering) where
  -- each block of rising blocks rises
  pub rising_block : (blocks : List (Vec (K × V))) (b : ℕ) (d : Vec (K × V)) → b < length blocks → IsRising cmp (entries_of blocks) → IsRising cmp (get_or blocks b d).items
  rising_block blocks b d h up =
      rising_left cmp (get_or blocks b d).items (entries_of (drop (b + 1) blocks))
      (rising_right cmp (entries_of (take b blocks)) ((get_or blocks b d).items ++ entries_of (drop (b + 1) blocks)) (subst (IsRising cmp) (entries_seam blocks b d h) up))

  -- the entries from a place of a block on rise
  pub rising_rest : (blocks : List (Vec (K × V))) (b at : ℕ) (d : Vec (K × V)) → b < length blocks → IsRising cmp (entries_of blocks) →
      IsRising cmp (drop at (get_or blocks b d).items ++ entries_of (drop (b + 1) blocks))
  rising_rest blocks b at d h up =
      rising_right cmp (entries_of (take b blocks) ++ take at (get_or blocks b d).items) (drop at (get_or blocks b d).items ++ entries_of (drop (b + 1) blocks)) (subst (IsRising cmp) (entries_parted blocks b at d h) up)

  lookup_skip : (k : K) (lows es : List (K × V)) → IsAbove cmp k lows → lookup (is_at (cmp k)) (lows ++ es) ≡ lookup (is_at (cmp k)) es
  lookup_skip k [] es above = refl
  lookup_skip k (x ∷ lows) es above = rw above.0 (lookup_skip k lows es above.1)

  lookup_below : (k : K) (es : List (K × V)) → IsBelow cmp k es → lookup (is_at (cmp k)) es ≡ None
  lookup_below k [] below = refl
  lookup_below k (x ∷ es) below = rw below.0 (lookup_below k es below.1)

  from_skip : (k : K) (lows es : List (K × V)) → IsAbove cmp k lows → entries_from (cmp k) (lows ++ es) ≡ entries_from (cmp k) es
  from_skip k [] es above = refl
  from_skip k (x ∷ lows) es above = rw above.0 (from_skip k lows es above.1)

  from_below : (k : K) (es : List (K × V)) → IsBelow cmp k es → entries_from (cmp k) es ≡ es
  from_below k [] below = refl
  from_below k (x ∷ es) below = rw below.0 (ap (λ (l : List (K × V)). x ∷ l) (from_below k es below.1))

  from_equal : IsTotalOrder cmp → (k : K) (e : K × V) (es : List (K × V)) → cmp k e.0 ≡ Equal → IsRising cmp (e ∷ es) → entries_from (cmp k) (e ∷ es) ≡ e ∷ es
  from_equal o k e es same up = rw same (ap (λ (l : List (K × V)). e ∷ l) (from_below k es (below_same o k e.0 es same up.0)))

  module _ (k : K) (blocks : List (Vec (K × V))) (b at : ℕ) (d : Vec (K × V)) (h : b < length blocks)
      (above : IsAbove cmp k (entries_of (take b blocks))) (above_in : IsAbove cmp k (take at (get_or blocks b d).items)) where
    rest : List (K × V)
    rest = drop at (get_or blocks b d).items ++ entries_of (drop (b + 1) blocks)

    above_all : IsAbove cmp k (entries_of (take b blocks) ++ take at (get_or blocks b d).items)
    above_all = all_append (λ (e : K × V). cmp k e.0 ≡ Greater) (entries_of (take b blocks)) (take at (get_or blocks b d).items) above above_in

    lookup_rest : lookup (is_at (cmp k)) (entries_of blocks) ≡ lookup (is_at (cmp k)) rest
    unfolding rest
    lookup_rest = ap (lookup (is_at (cmp k))) (entries_parted blocks b at d h) ∙ lookup_skip k (entries_of (take b blocks) ++ take at (get_or blocks b d).items) (drop at (get_or blocks b d).items ++ entries_of (drop (b + 1) blocks)) above_all

    -- a key that stands at its place is found
    pub lookup_there : (e : K × V) → at < length (get_or blocks b d).items → cmp k (get_or (get_or blocks b d).items at e).0 ≡ Equal →
        lookup (is_at (cmp k)) (entries_of blocks) ≡ Some (get_or (get_or blocks b d).items at e).1
    unfolding rest
    lookup_there e within same = lookup_rest ∙ rw (drop_at (get_or blocks b d).items at e within, same)

    -- a key that is below all from its place on is not found
    pub lookup_missing : IsBelow cmp k (drop at (get_or blocks b d).items) → IsBelow cmp k (entries_of (drop (b + 1) blocks)) → lookup (is_at (cmp k)) (entries_of blocks) ≡ None
    unfolding rest
    lookup_missing below_in below =
        lookup_rest ∙ lookup_below k (drop at (get_or blocks b d).items ++ entries_of (drop (b + 1) blocks)) (all_append (λ (e : K × V). cmp k e.0 ≡ Less) (drop at (get_or blocks b d).items) (entries_of (drop (b + 1) blocks)) below_in below)

    from_rest : entries_from (cmp k) (entries_of blocks) ≡ entries_from (cmp k) rest
    unfolding rest
    from_rest = ap (entries_from (cmp k)) (entries_parted blocks b at d h) ∙ from_skip k (entries_of (take b blocks) ++ take at (get_or blocks b d).items) (drop at (get_or blocks b d).items ++ entries_of (drop (b + 1) blocks)) above_all

    pub from_there : IsTotalOrder cmp → IsRising cmp (entries_of blocks) → at < length (get_or blocks b d).items → ((e : K × V) → cmp k (get_or (get_or blocks b d).items at e).0 ≡ Equal) →
        entries_from (cmp k) (entries_of blocks) ≡ drop at (get_or blocks b d).items ++ entries_of (drop (b + 1) blocks)
    unfolding rest
    from_there o up within same =
        from_rest ∙ with_item (entries_from (cmp k) (drop at (get_or blocks b d).items ++ entries_of (drop (b + 1) blocks)) ≡ drop at (get_or blocks b d).items ++ entries_of (drop (b + 1) blocks)) (get_or blocks b d).items at within
        (λ e.
        let seam = drop_at (get_or blocks b d).items at e within in
        let rest_up = rw seam at (rising_rest blocks b at d h up) in
        rw seam (from_equal o k (get_or (get_or blocks b d).items at e) (drop (at + 1) (get_or blocks b d).items ++ entries_of (drop (b + 1) blocks)) (same e) rest_up))

    pub from_missing : IsBelow cmp k (drop at (get_or blocks b d).items) → IsBelow cmp k (entries_of (drop (b + 1) blocks)) →
        entries_from (cmp k) (entries_of blocks) ≡ drop at (get_or blocks b d).items ++ entries_of (drop (b + 1) blocks)
    unfolding rest
    from_missing below_in below =
        from_rest ∙ from_below k (drop at (get_or blocks b d).items ++ entries_of (drop (b + 1) blocks)) (all_append (λ (e : K × V). cmp k e.0 ≡ Less) (drop at (get_or blocks b d).items) (entries_of (drop (b + 1) blocks)) below_in below)
