-- What an entry taken out does to rising entries, and to blocks.
use Rattle.std.proofs.Common.{◌≡◌, ℕ, ◌+◌, ◌<◌, List, [], ◌∷◌, ◌++◌, length, take, drop, set, get_or, sym, ◌∙◌, ap, subst, arith, length-append}
use Rattle.std.specs.Global.{Vec}
use Rattle.std.specs.Map.{remove_entry}
use Rattle.std.specs.BTreeMap.{is_at}
use Rattle.std.specs.declared.cmp.Ordering.{Ordering}
use Rattle.std.specs.declared.cmp.Ordering.TheVariants.{Less, Equal, Greater}
use Rattle.block_map.specs.Rising.{IsRising, IsAbove}
use Rattle.block_map.specs.Blocks.{entries_of}
use Rattle.block_map.proofs.Rising.{all_append, all_left, all_right, drop_at}
use Rattle.block_map.proofs.Seams.{entries_parted, regroup}
use Rattle.block_map.proofs.Edits.{entries_set}

module _ {K V : Type 0} (cmp : K → K → Ordering) where
  remove_entry-between : (below above : List (K × V)) (e : K × V) (k : K) → IsAbove cmp k below → cmp k e.0 ≡ Equal → remove_entry (is_at (cmp k)) (below ++ e ∷ above) ≡ below ++ above
  remove_entry-between [] above e k lows same = rw same
  remove_entry-between (x ∷ below) above e k lows same = rw (lows.0, remove_entry-between below above e k lows.1 same)

  rising_without : (below above : List (K × V)) (e : K × V) → IsRising cmp (below ++ e ∷ above) → IsRising cmp (below ++ above)
  rising_without [] above e up = up.1
  rising_without (x ∷ below) above e up =
      let P : K × V → Type 0 = λ f. cmp x.0 f.0 ≡ Less in
      (all_append P below above (all_left P below (e ∷ above) up.0) (all_right P below (e ∷ above) up.0).1, rising_without below above e up.1)

  module _ (blocks : List (Vec (K × V))) (b at : ℕ) (d w : Vec (K × V)) (e : K × V) (k : K) (h : b < length blocks) (here : at < length (get_or blocks b d).items)
      (is : w.items ≡ take at (get_or blocks b d).items ++ drop (at + 1) (get_or blocks b d).items)
      (above : IsAbove cmp k (entries_of (take b blocks))) (above_in : IsAbove cmp k (take at (get_or blocks b d).items)) (same : cmp k (get_or (get_or blocks b d).items at e).0 ≡ Equal) where
    before : List (K × V)
    before = entries_of (take b blocks) ++ take at (get_or blocks b d).items

    after : List (K × V)
    after = drop (at + 1) (get_or blocks b d).items ++ entries_of (drop (b + 1) blocks)

    stood : entries_of blocks ≡ before ++ get_or (get_or blocks b d).items at e ∷ after
    unfolding before after
    stood = entries_parted blocks b at d h ∙ rw (drop_at (get_or blocks b d).items at e here)

    stands : entries_of (set blocks b w) ≡ before ++ after
    unfolding before after
    stands =
        entries_set blocks b w h
        ∙ regroup (entries_of (take b blocks)) (take at (get_or blocks b d).items) (drop (at + 1) (get_or blocks b d).items) (entries_of (drop (b + 1) blocks)) w.items is

    before_above : IsAbove cmp k before
    unfolding before
    before_above = all_append (λ (x : K × V). cmp k x.0 ≡ Greater) (entries_of (take b blocks)) (take at (get_or blocks b d).items) above above_in

    pub entries_taken : entries_of (set blocks b w) ≡ remove_entry (is_at (cmp k)) (entries_of blocks)
    entries_taken =
        stands ∙ sym (remove_entry-between before after (get_or (get_or blocks b d).items at e) k before_above same) ∙ ap (λ (es : List (K × V)). remove_entry (is_at (cmp k)) es) (sym stood)

    pub rising_taken : IsRising cmp (entries_of blocks) → IsRising cmp (entries_of (set blocks b w))
    rising_taken up = subst (IsRising cmp) (sym stands) (rising_without before after (get_or (get_or blocks b d).items at e) (subst (IsRising cmp) stood up))

    pub length_taken : length (entries_of (set blocks b w)) + 1 ≡ length (entries_of blocks)
    length_taken = rw (stands, stood) (omega (arith, length-append before after, length-append before (get_or (get_or blocks b d).items at e ∷ after)))
