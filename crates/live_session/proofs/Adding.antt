-- Orders that are added.
use Rattle.std.proofs.Common.{◌≡◌, ℕ, zero, suc, ◌+◌, List, [], ◌∷◌, ◌++◌, length, map, refl, sym, ap, ◌∙◌, subst, arith}
use Rattle.std.specs.List.{range_with_len}
use Rattle.live_session.specs.declared.order.Order.{Order}
use Rattle.live_session.specs.declared.order.Order.TheVariants as Ordered
use Rattle.live_session.specs.Orders.{AreLinkOrders, IsLinkOrder}

-- one number more
range_more : (a n : ℕ) → range_with_len a n ++ (a + n) ∷ [] ≡ range_with_len a (n + 1)
range_more a zero = let e : a + 0 ≡ a = omega arith in ap (λ (m : ℕ). m ∷ []) e
range_more a (suc n) =
    let e : a + suc n ≡ a + 1 + n = omega arith in
    let more : suc n + 1 ≡ suc (n + 1) = omega arith in
    ap (λ (m : ℕ). a ∷ (range_with_len (a + 1) n ++ m ∷ [])) e ∙ (ap (λ (l : List ℕ). a ∷ l) (range_more (a + 1) n) ∙ ap (range_with_len a) (sym more))

module _ {S : Type 0} where
  mapped : (xs : List ℕ) (x : ℕ) → map {B = Order S} (λ n. Ordered.Reader n) (xs ++ x ∷ []) ≡ map (λ n. Ordered.Reader n) xs ++ Ordered.Reader x ∷ []
  mapped [] x = refl
  mapped (y ∷ xs) x = ap (λ (l : List (Order S)). Ordered.Reader y ∷ l) (mapped xs x)

  -- the order of one reader more
  pub readers_more : (n : ℕ) → map {B = Order S} (λ n. Ordered.Reader n) (range_with_len 0 n) ++ Ordered.Reader n ∷ [] ≡ map (λ n. Ordered.Reader n) (range_with_len 0 (n + 1))
  readers_more n =
      let e : 0 + n ≡ n = omega arith in
      sym (mapped (range_with_len 0 n) n) ∙ ap (map (λ n. Ordered.Reader n)) (ap (λ (m : ℕ). range_with_len 0 n ++ m ∷ []) (sym e) ∙ range_more 0 n)

  -- the order of one link more
  pub links_more : (link : ℕ) (done : List S) (added : List (Order S)) (number : ℕ) (source : S) (order : Order S) → number ≡ link + length done → IsLinkOrder number source order → AreLinkOrders link done added
      → AreLinkOrders link (done ++ source ∷ []) (added ++ order ∷ [])
  links_more link [] [] number source order is new are = (subst (λ (n : ℕ). IsLinkOrder n source order) (let e : number ≡ link = omega (arith, is) in e) new, tt)
  links_more link [] (o ∷ added) number source order is new are = absurd are
  links_more link (x ∷ done) [] number source order is new are = absurd are
  links_more link (x ∷ done) (o ∷ added) number source order is new are = (are.0, links_more (suc link) done added number source order (omega (arith, is)) new are.1)
