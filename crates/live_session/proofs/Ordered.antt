-- What came of jobs that were ordered for a load: of links, then readers, then fillers.
use Rattle.std.proofs.Common.{◌≡◌, ℕ, zero, suc, ◌+◌, ◌<◌, ◌≤◌, List, [], ◌∷◌, ◌++◌, length, map, Option, Some, refl, sym, ap, ◌∙◌, subst, arith, append-nil}
use Rattle.std.specs.Prelude.{slice_get}
use Rattle.std.specs.List.{AllByRecursion, filter_map, range_with_len}
use Rattle.std.proofs.lemmas.List.Elements.{filter_map-append}
use Rattle.jobs.specs.Ends.{EachDid}
use Rattle.live_session.specs.declared.order.Order.{Order}
use Rattle.live_session.specs.declared.order.Order.TheVariants as Ordered
use Rattle.refusals.specs.declared.refusal.Which.TheVariants.{Links}
use Rattle.refusals.specs.Limits.{limit_of}
use Rattle.live_session.specs.Jobs.{IsNumbered}
use Rattle.live_session.specs.Orders.{AreLinkOrders, AreOrdersFor, IsFilling, IsLinkOrder}
use Rattle.live_session.specs.Results.{source_of}
use Rattle.live_session.proofs.Lists.{all_append}
use Rattle.live_session.proofs.Works.{IsLinkOf, LinksApart}

-- ---- lists of two parts

pub record IsCut {J E : Type 0} (did : J → E → Type 0) (xs ys : List J) (ends : List E) : Type 0 where
  pub first : List E
  pub second : List E
  pub parts : ends ≡ first ++ second
  pub of_first : EachDid did xs first
  pub of_second : EachDid did ys second

pub cut : {J E : Type 0} (did : J → E → Type 0) (xs ys : List J) (ends : List E) → EachDid did (xs ++ ys) ends → IsCut did xs ys ends
cut did [] ys ends each = record { first = []; second = ends; parts = refl; of_first = tt; of_second = each }
cut did (x ∷ xs) ys [] each = absurd each
cut {E = E} did (x ∷ xs) ys (end ∷ ends) each =
    let rest = cut did xs ys ends each.1 in
    record { first = end ∷ rest.first; second = rest.second; parts = ap (λ (l : List E). end ∷ l) rest.parts; of_first = (each.0, rest.of_first); of_second = rest.of_second }

-- what a function gives of each end of such a list, of the parts
pub taken_of : {A B : Type 0} (f : A → Option B) (whole first second : List A) (xs ys : List B) → whole ≡ first ++ second → filter_map f first ≡ xs → filter_map f second ≡ ys → filter_map f whole ≡ xs ++ ys
taken_of {B = B} f whole first second xs ys is a b =
    ap (filter_map f) is ∙ (filter_map-append f first second ∙ (ap (λ (l : List B). l ++ filter_map f second) a ∙ ap (λ (l : List B). xs ++ l) b))

-- ---- orders

-- it is no link's
abbrev pub IsNoLink : {S : Type 0} → Order S → Type 0
IsNoLink (Ordered.Link link source wake) = ⊥
IsNoLink other = Unit {0}

readers_no_links : (S : Type 0) (befores : List ℕ) → AllByRecursion (IsNoLink {S = S}) (map (λ n. Ordered.Reader n) befores)
readers_no_links S [] = tt
readers_no_links S (before ∷ befores) = (tt, readers_no_links S befores)

module _ {S : Type 0} where
  fillers_no_links : (orders : List (Order S)) → AllByRecursion IsFilling orders → AllByRecursion IsNoLink orders
  fillers_no_links [] all = tt
  fillers_no_links (Ordered.Filler wakes ∷ orders) all = (tt, fillers_no_links orders all.1)
  fillers_no_links (Ordered.Link link source wake ∷ orders) all = absurd all.0
  fillers_no_links (Ordered.Reader before ∷ orders) all = absurd all.0

  none_at : (orders : List (Order S)) (k : ℕ) (order : Order S) (number : ℕ) → AllByRecursion IsNoLink orders → slice_get orders k ≡ Some order → IsLinkOf number order → ⊥
  none_at [] k order number none at is = absurd cc
  none_at (Ordered.Link link source wake ∷ orders) k order number none at is = absurd none.0
  none_at (Ordered.Reader before ∷ orders) zero order number none at is = let same : Ordered.Reader before ≡ order = cc at in absurd (subst (IsLinkOf number) (sym same) is)
  none_at (Ordered.Filler wakes ∷ orders) zero order number none at is = let same : Ordered.Filler wakes ≡ order = cc at in absurd (subst (IsLinkOf number) (sym same) is)
  none_at (Ordered.Reader before ∷ orders) (suc k) order number none at is = none_at orders k order number none.1 at is
  none_at (Ordered.Filler wakes ∷ orders) (suc k) order number none at is = none_at orders k order number none.1 at is

  -- the source of a link's order
  abbrev pub IsSourceOf : S → Order S → Type 0
  IsSourceOf source (Ordered.Link link from wake) = from ≡ source
  IsSourceOf source other = ⊥

  pub record IsLinkAt (link : ℕ) (sources : List S) (k number : ℕ) (order : Order S) : Type 0 where
    pub number_is : number ≡ link + k
    pub source : S
    pub there : slice_get sources k ≡ Some source
    pub of_order : IsSourceOf source order

  link_order_at : (link : ℕ) (source : S) (order : Order S) (number : ℕ) → IsLinkOrder link source order → IsLinkOf number order → (number ≡ link) × IsSourceOf source order
  link_order_at link source (Ordered.Link n from wake) number is of_link = (sym of_link ∙ is.0, is.1)
  link_order_at link source (Ordered.Reader before) number is of_link = absurd is
  link_order_at link source (Ordered.Filler wakes) number is of_link = absurd is

  -- a link's order at a place is that of the source there
  link_at : (link : ℕ) (sources : List S) (orders others : List (Order S)) (k number : ℕ) (order : Order S) → AreLinkOrders link sources orders → AllByRecursion IsNoLink others
      → slice_get (orders ++ others) k ≡ Some order → IsLinkOf number order → IsLinkAt link sources k number order
  link_at link [] [] others k number order are none at is = absurd (none_at others k order number none at is)
  link_at link [] (o ∷ orders) others k number order are none at is = absurd are
  link_at link (source ∷ sources) [] others k number order are none at is = absurd are
  link_at link (source ∷ sources) (o ∷ orders) others zero number order are none at is =
      let same : o ≡ order = cc at in
      let here = link_order_at link source order number (subst (IsLinkOrder link source) same are.0) is in
      let numbered = here.0 in
      record { number_is = omega (arith, numbered); source = source; there = refl; of_order = here.1 }
  link_at link (source ∷ sources) (o ∷ orders) others (suc k) number order are none at is =
      let deep = link_at (suc link) sources orders others k number order are.1 none at is in
      let numbered = deep.number_is in
      record { number_is = omega (arith, numbered); source = deep.source; there = deep.there; of_order = deep.of_order }

  -- ---- numbers of links

  -- none of the later ones has a number below theirs
  above : (low link : ℕ) (sources : List S) (orders : List (Order S)) → low < link → AreLinkOrders link sources orders → AllByRecursion (λ order. IsLinkOf low order → ⊥) orders
  above low link [] [] less are = tt
  above low link [] (o ∷ orders) less are = absurd are
  above low link (source ∷ sources) [] less are = absurd are
  above low link (source ∷ sources) (o ∷ orders) less are =
      ((λ is. let here = (link_order_at link source o low are.0 is).0 in absurd (omega (arith, here, less))), above low (suc link) sources orders (omega (arith, less)) are.1)

  others_apart : (low : ℕ) (others : List (Order S)) → AllByRecursion IsNoLink others → AllByRecursion (λ order. IsLinkOf low order → ⊥) others
  others_apart low [] none = tt
  others_apart low (Ordered.Link link source wake ∷ others) none = absurd none.0
  others_apart low (Ordered.Reader before ∷ others) none = ((λ is. absurd is), others_apart low others none.1)
  others_apart low (Ordered.Filler wakes ∷ others) none = ((λ is. absurd is), others_apart low others none.1)

  none_apart : (others : List (Order S)) → AllByRecursion IsNoLink others → LinksApart others
  none_apart [] none = tt
  none_apart (Ordered.Link link source wake ∷ others) none = absurd none.0
  none_apart (Ordered.Reader before ∷ others) none = none_apart others none.1
  none_apart (Ordered.Filler wakes ∷ others) none = none_apart others none.1

  apart : (link : ℕ) (sources : List S) (orders others : List (Order S)) → AreLinkOrders link sources orders → AllByRecursion IsNoLink others → LinksApart (orders ++ others)
  apart link [] [] others are none = none_apart others none
  apart link [] (o ∷ orders) others are none = absurd are
  apart link (source ∷ sources) [] others are none = absurd are
  apart link (source ∷ sources) (Ordered.Link n from wake ∷ orders) others are none =
      let numbered = are.0.0 in (
        all_append (λ order. IsLinkOf n order → ⊥) orders others (above n (suc link) sources orders (omega (arith, numbered)) are.1) (others_apart n others none),
        apart (suc link) sources orders others are.1 none,
      )
  apart link (source ∷ sources) (Ordered.Reader before ∷ orders) others are none = absurd are.0
  apart link (source ∷ sources) (Ordered.Filler wakes ∷ orders) others are none = absurd are.0

  -- ---- sources

  sources_of_links : (link : ℕ) (sources : List S) (orders : List (Order S)) → AreLinkOrders link sources orders → filter_map source_of orders ≡ sources
  sources_of_links link [] [] are = refl
  sources_of_links link [] (o ∷ orders) are = absurd are
  sources_of_links link (source ∷ sources) [] are = absurd are
  sources_of_links link (source ∷ sources) (Ordered.Link n from wake ∷ orders) are =
      ap (λ (s : S). s ∷ filter_map source_of orders) are.0.1 ∙ ap (λ (l : List S). source ∷ l) (sources_of_links (suc link) sources orders are.1)
  sources_of_links link (source ∷ sources) (Ordered.Reader before ∷ orders) are = absurd are.0
  sources_of_links link (source ∷ sources) (Ordered.Filler wakes ∷ orders) are = absurd are.0

  none_of_others : (others : List (Order S)) → AllByRecursion IsNoLink others → filter_map source_of others ≡ []
  none_of_others [] none = refl
  none_of_others (Ordered.Link link source wake ∷ others) none = absurd none.0
  none_of_others (Ordered.Reader before ∷ others) none = none_of_others others none.1
  none_of_others (Ordered.Filler wakes ∷ others) none = none_of_others others none.1

  -- ---- of a load

  module _ (link : ℕ) (sources : List S) (readers fillers : ℕ) (orders : List (Order S)) (are : AreOrdersFor link sources readers fillers orders) where
    abbrev pub others_of : List (Order S)
    others_of = map Ordered.Reader (range_with_len 0 readers) ++ are.of_fillers

    pub no_links : AllByRecursion IsNoLink others_of
    no_links = all_append IsNoLink (map Ordered.Reader (range_with_len 0 readers)) are.of_fillers (readers_no_links S (range_with_len 0 readers)) (fillers_no_links are.of_fillers are.fill)

    pub links_apart : LinksApart orders
    links_apart = subst LinksApart (sym are.parts) (apart link sources are.of_links others_of are.links no_links)

    pub link_there : (k number : ℕ) (order : Order S) → slice_get orders k ≡ Some order → IsLinkOf number order → IsLinkAt link sources k number order
    link_there k number order at is = link_at link sources are.of_links others_of k number order are.links no_links (subst (λ (l : List (Order S)). slice_get l k ≡ Some order) are.parts at) is

    pub sources_ordered : filter_map source_of orders ≡ sources
    sources_ordered =
        taken_of source_of orders are.of_links others_of sources [] are.parts (sources_of_links link sources are.of_links are.links) (none_of_others others_of no_links) ∙ append-nil sources

-- ---- numbers that links may have

module _ {S : Type 0} where
  numbered : (link : ℕ) (sources : List S) (orders : List (Order S)) → 1 ≤ link → link + length sources ≤ limit_of Links + 1 → AreLinkOrders link sources orders → AllByRecursion IsNumbered orders
  numbered link [] [] low high are = tt
  numbered link [] (o ∷ orders) low high are = absurd are
  numbered link (source ∷ sources) [] low high are = absurd are
  numbered link (source ∷ sources) (Ordered.Link n from wake ∷ orders) low high are =
      let is = are.0.0 in
      ((omega (arith, is, low), omega (arith, is, high)), numbered (suc link) sources orders (omega (arith, low)) (omega (arith, high)) are.1)
  numbered link (source ∷ sources) (Ordered.Reader before ∷ orders) low high are = absurd are.0
  numbered link (source ∷ sources) (Ordered.Filler wakes ∷ orders) low high are = absurd are.0

  others_numbered : (others : List (Order S)) → AllByRecursion IsNoLink others → AllByRecursion IsNumbered others
  others_numbered [] none = tt
  others_numbered (Ordered.Link link source wake ∷ others) none = absurd none.0
  others_numbered (Ordered.Reader before ∷ others) none = (tt, others_numbered others none.1)
  others_numbered (Ordered.Filler wakes ∷ others) none = (tt, others_numbered others none.1)

  pub orders_numbered : (link : ℕ) (sources : List S) (readers fillers : ℕ) (orders : List (Order S)) → 1 ≤ link → link + length sources ≤ limit_of Links + 1 → AreOrdersFor link sources readers fillers orders
      → AllByRecursion IsNumbered orders
  orders_numbered link sources readers fillers orders low high are =
      subst (AllByRecursion IsNumbered) (sym are.parts)
      (all_append IsNumbered are.of_links (others_of link sources readers fillers orders are) (numbered link sources are.of_links low high are.links)
      (others_numbered (others_of link sources readers fillers orders are) (no_links link sources readers fillers orders are)))
