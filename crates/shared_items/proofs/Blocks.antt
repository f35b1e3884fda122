-- Items in blocks: where a number belongs, and a block put in place of another.
use Rattle.std.proofs.Common.{◌≡◌, ℕ, ◌+◌, ◌<◌, ℤ, ◌<ℤ◌, ◌≤ℤ◌, List, [], ◌∷◌, ◌++◌, length, get_or, take, drop, refl, sym, ap, subst, ◌∙◌, arith, append_assoc}
use Rattle.std.proofs.lemmas.Int.{ints}
use Rattle.std.proofs.lemmas.List.{drop_more, take-append-drop}
use Rattle.shared_items.specs.Order.{AllAbove, AllBelow, AllFrom, AreFrom, RiseBy, with_item}
use Rattle.shared_items.specs.Blocks.{AreBlocks, HaveItems, IsBlockFor, items_of_blocks}
use Rattle.shared_items.proofs.Order.{above_more, all_both, all_first, before_below, behind_above, below_more, from_above, rise_second, with_before, with_behind, with_rises}

module _ {X : Type 0} where
  pub items_append : (us bs : List (List X)) → items_of_blocks (us ++ bs) ≡ items_of_blocks us ++ items_of_blocks bs
  items_append [] bs = refl
  items_append (a ∷ us) bs = ap (λ (l : List X). a ++ l) (items_append us bs) ∙ sym (append_assoc a (items_of_blocks us) (items_of_blocks bs))

  -- a list by a place in it
  pub parted : (xs : List X) (i : ℕ) (d : X) → i < length xs → take i xs ++ get_or xs i d ∷ drop (i + 1) xs ≡ xs
  parted xs i d within = ap (λ (l : List X). take i xs ++ l) (sym (drop_more xs i d within)) ∙ take-append-drop i xs

module _ {X : Type 0} (n : X → ℤ) where
  -- ---- among items

  -- where an item is below a number, so are those before it; else those behind it aren't
  pub below_upto : (xs : List X) (x : X) (ys : List X) (number : ℤ) → RiseBy n (xs ++ x ∷ ys) → n x <ℤ number → AllBelow n number (xs ++ x ∷ [])
  below_upto xs x ys number rise less =
      all_both n (λ y. n y <ℤ number) xs (x ∷ []) (below_more n (n x) number xs (omega (arith, ints, less)) (before_below n xs x ys rise)) (less, tt)

  pub from_here : (xs : List X) (x : X) (ys : List X) (number : ℤ) → RiseBy n (xs ++ x ∷ ys) → number ≤ℤ n x → AllFrom n number (x ∷ ys)
  from_here xs x ys number rise le = (le, from_above n number (n x) ys le (behind_above n xs x ys rise))

  -- ---- among blocks

  -- where a block begins above a number, all from there on are above it; else all before it are below
  pub above_from : (us : List (List X)) (x : X) (b : List X) (cs : List (List X)) (number : ℤ) → RiseBy n (items_of_blocks (us ++ (x ∷ b) ∷ cs)) → number <ℤ n x
      → AllAbove n number (items_of_blocks ((x ∷ b) ∷ cs))
  above_from us x b cs number rise less =
      let parts = subst (RiseBy n) (items_append us ((x ∷ b) ∷ cs)) rise in
      (less, above_more n number (n x) (b ++ items_of_blocks cs) (omega (arith, ints, less)) (behind_above n (items_of_blocks us) x (b ++ items_of_blocks cs) parts))

  pub below_before : (us : List (List X)) (x : X) (b : List X) (cs : List (List X)) (number : ℤ) → RiseBy n (items_of_blocks (us ++ (x ∷ b) ∷ cs)) → n x ≤ℤ number
      → AllBelow n number (items_of_blocks us)
  below_before us x b cs number rise le =
      let parts = subst (RiseBy n) (items_append us ((x ∷ b) ∷ cs)) rise in
      below_more n (n x) number (items_of_blocks us) le (before_below n (items_of_blocks us) x (b ++ items_of_blocks cs) parts)

  -- ---- the blocks from one on

  pub none_before : (number : ℤ) (all rest : List X) → all ≡ rest → AreFrom n number all rest
  none_before number all rest same = record { before = []; whole = same; below = tt }

  pub from_place : (number : ℤ) (blocks : List (List X)) (place : ℕ) (rest : List X) → IsBlockFor n number blocks place → rest ≡ items_of_blocks (drop place blocks)
      → AreFrom n number (items_of_blocks blocks) rest
  from_place number blocks place rest is same = record {
    before = items_of_blocks (take place blocks);
    whole = ap items_of_blocks (sym (take-append-drop place blocks)) ∙ items_append (take place blocks) (drop place blocks) ∙ ap (λ (l : List X). items_of_blocks (take place blocks) ++ l) (sym same);
    below = is.before;
  }

  -- ---- a block for another

  -- an item belongs in a block: put into that it is put into all
  pub put_in_block : (us : List (List X)) (b : List X) (cs made : List (List X)) (new : X) → AllBelow n (n new) (items_of_blocks us) → AllAbove n (n new) (items_of_blocks cs)
      → items_of_blocks made ≡ with_item n new b → items_of_blocks (us ++ (made ++ cs)) ≡ with_item n new (items_of_blocks (us ++ b ∷ cs))
  put_in_block us b cs made new below above is =
      items_append us (made ++ cs) ∙ ap (λ (l : List X). items_of_blocks us ++ l) (items_append made cs ∙ ap (λ (l : List X). l ++ items_of_blocks cs) is ∙ sym (with_before n new b (items_of_blocks cs) above))
      ∙ sym (with_behind n new (items_of_blocks us) (b ++ items_of_blocks cs) below) ∙ ap (with_item n new) (sym (items_append us (b ∷ cs)))

  have_append : (us bs : List (List X)) → HaveItems us → HaveItems bs → HaveItems (us ++ bs)
  have_append [] bs left right = right
  have_append (a ∷ us) bs left right = (left.0, have_append us bs left.1 right)

  have_first : (us bs : List (List X)) → HaveItems (us ++ bs) → HaveItems us
  have_first [] bs all = tt
  have_first (a ∷ us) bs all = (all.0, have_first us bs all.1)

  pub have_second : (us bs : List (List X)) → HaveItems (us ++ bs) → HaveItems bs
  have_second [] bs all = all
  have_second (a ∷ us) bs all = have_second us bs all.1

  -- and they are blocks still
  pub still_blocks : (us : List (List X)) (b : List X) (cs made : List (List X)) (new : X) → AreBlocks n (us ++ b ∷ cs) → HaveItems made
      → items_of_blocks (us ++ (made ++ cs)) ≡ with_item n new (items_of_blocks (us ++ b ∷ cs)) → AreBlocks n (us ++ (made ++ cs))
  still_blocks us b cs made new were some is = (
    have_append us (made ++ cs) (have_first us (b ∷ cs) were.0) (have_append made cs some (have_second us (b ∷ cs) were.0).1),
    subst (RiseBy n) (sym is) (with_rises n new (items_of_blocks (us ++ b ∷ cs)) were.1),
  )

  -- the items of a block rise
  pub block_rises : (us : List (List X)) (b : List X) (cs : List (List X)) → AreBlocks n (us ++ b ∷ cs) → (0 < length b) × RiseBy n b
  block_rises us b cs blocks =
      let parts = subst (RiseBy n) (items_append us (b ∷ cs)) blocks.1 in
      ((have_second us (b ∷ cs) blocks.0).0, rise_part b (items_of_blocks cs) (rise_second n (items_of_blocks us) (b ++ items_of_blocks cs) parts))
    where
      rise_part : (xs ys : List X) → RiseBy n (xs ++ ys) → RiseBy n xs
      rise_part [] ys rise = tt
      rise_part (x ∷ xs) ys rise = (all_first n (λ y. n x <ℤ n y) xs ys rise.0, rise_part xs ys rise.1)
