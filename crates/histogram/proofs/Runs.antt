-- Times that make one record, put among other times.
use Rattle.std.proofs.Common.{◌≡◌, ℕ, suc, ℤ, pos, ◌≤ℤ◌, ◌+◌, ◌<◌, List, [], ◌∷◌, ◌++◌, length, Bool, true, false, cond, refl, sym, ◌∙◌, ap, subst, arith}
use Rattle.std.specs.Prelude.{fold, ◌+ℤ◌, int_lt}
use Rattle.std.specs.Int.{int_min, int_max}
use Rattle.std.proofs.lemmas.Int.{ints, clamps}
use Rattle.std.proofs.lemmas.List.Sums.{fold-append}
use Rattle.arch_types.specs.Order.{place_by, order_by}
use Rattle.arch_types.specs.declared.spans.Span.{Span}
use Rattle.histogram.specs.Times.{AreOneSpan, AreSorted, spans_of_times}
use Rattle.histogram.specs.Spans.{is_near, last_time, histogram_of}
use Rattle.histogram.specs.Near.{is_apart, span_of_time, joined, joined_near, with_span}
use Rattle.histogram.proofs.Times.{one_more_placed, sorted_placed, sorted_in_order, order-push}
use Rattle.histogram.proofs.Addition.{lt_true, lt_false, true_lt, false_lt, true_near, with_time, before, histogram_of-first, one_more}

-- ---- times put in their places, whatever their order

abbrev placed : List ℤ → ℤ → List ℤ
placed xs t = place_by int_lt xs t

abbrev all_placed : List ℤ → List ℤ → List ℤ
all_placed xs ys = fold (place_by int_lt) xs ys

module _ (a b : ℤ) where
  pair : (rest : List ℤ) → cond (int_lt b a) (b ∷ a ∷ rest) (a ∷ b ∷ rest) ≡ cond (int_lt a b) (a ∷ b ∷ rest) (b ∷ a ∷ rest)
  pair rest = by (int_lt b a) refl (int_lt a b) refl
    where
      by : (x : Bool) → int_lt b a ≡ x → (y : Bool) → int_lt a b ≡ y → cond x (b ∷ a ∷ rest) (a ∷ b ∷ rest) ≡ cond y (a ∷ b ∷ rest) (b ∷ a ∷ rest)
      by true p true q = let less = lt_true b a p in let more = lt_true a b q in absurd (omega (arith, ints, less, more))
      by true p false q = refl
      by false p true q = refl
      by false p false q =
          let up = lt_false b a p in
          let down = lt_false a b q in
          let same : a ≡ b = omega (arith, ints, up, down) in
          subst (λ (x : ℤ). a ∷ x ∷ rest ≡ x ∷ a ∷ rest) same refl

  swap : (xs : List ℤ) → placed (placed xs a) b ≡ placed (placed xs b) a
  swap [] = pair []
  swap (u ∷ xs) = by (int_lt a u) refl (int_lt b u) refl (swap xs)
    where
      by : (x : Bool) → int_lt a u ≡ x → (y : Bool) → int_lt b u ≡ y → placed (placed xs a) b ≡ placed (placed xs b) a →
          placed (cond x (a ∷ u ∷ xs) (u ∷ placed xs a)) b ≡ placed (cond y (b ∷ u ∷ xs) (u ∷ placed xs b)) a
      by true p true q later = rw (p, q) (pair (u ∷ xs))
      by true p false q later =
          let less = lt_true a u p in
          let more = lt_false b u q in
          let first : int_lt b a ≡ false = false_lt b a (omega (arith, ints, less, more)) in
          rw (p, q, first) refl
      by false p true q later =
          let more = lt_false a u p in
          let less = lt_true b u q in
          let first : int_lt a b ≡ false = false_lt a b (omega (arith, ints, less, more)) in
          rw (p, q, first) refl
      by false p false q later = rw (p, q) (ap (λ (l : List ℤ). u ∷ l) later)

first_placed : (t : ℤ) (xs ys : List ℤ) → all_placed (placed xs t) ys ≡ placed (all_placed xs ys) t
first_placed t xs [] = refl
first_placed t xs (u ∷ ys) = ap (λ (l : List ℤ). all_placed l ys) (swap t u xs) ∙ first_placed t (placed xs u) ys

one_placed : (t : ℤ) (xs ys : List ℤ) → all_placed xs (placed ys t) ≡ placed (all_placed xs ys) t
one_placed t xs [] = refl
one_placed t xs (u ∷ ys) = by (int_lt t u) (one_placed t (placed xs u) ys)
  where
    by : (b : Bool) → all_placed (placed xs u) (placed ys t) ≡ placed (all_placed (placed xs u) ys) t → all_placed xs (cond b (t ∷ u ∷ ys) (u ∷ placed ys t)) ≡ placed (all_placed (placed xs u) ys) t
    by true later = first_placed t xs (u ∷ ys)
    by false later = later

placed_in_order : (xs done ys : List ℤ) → all_placed xs (all_placed done ys) ≡ all_placed (all_placed xs done) ys
placed_in_order xs done [] = refl
placed_in_order xs done (t ∷ ys) = placed_in_order xs (placed done t) ys ∙ ap (λ (l : List ℤ). all_placed l ys) (one_placed t xs done)

-- times in their order, with others put in, in the order of those
order-append : (times more : List ℤ) → order_by int_lt (times ++ more) ≡ all_placed (order_by int_lt times) (order_by int_lt more)
order-append times more = fold-append (place_by int_lt) [] times more ∙ sym (placed_in_order (order_by int_lt times) [] more)

-- ---- a record that grows at its end

-- a span
abbrev span : ℤ → ℤ → ℕ → Span
span f l n = record { first = f; last = l; count = n }

joined-assoc : (a b c : Span) → joined a (joined b c) ≡ joined (joined a b) c
joined-assoc a b c =
    let first : int_min a.first (int_min b.first c.first) ≡ int_min (int_min a.first b.first) c.first = omega (arith, ints, clamps) in
    let last : int_max a.last (int_max b.last c.last) ≡ int_max (int_max a.last b.last) c.last = omega (arith, ints, clamps) in
    let count : a.count + (b.count + c.count) ≡ a.count + b.count + c.count = omega arith in
    ap (λ (f : ℤ). span f (int_max a.last (int_max b.last c.last)) (a.count + (b.count + c.count))) first
    ∙ ap (λ (l : ℤ). span (int_min (int_min a.first b.first) c.first) l (a.count + (b.count + c.count))) last
    ∙ ap (λ (n : ℕ). span (int_min (int_min a.first b.first) c.first) (int_max (int_max a.last b.last) c.last) n) count

module _ (y t : ℤ) (up : y ≤ℤ t) (near : t ≤ℤ (y +ℤ pos 60_000)) where
  -- what was joined with records near its end, and then one more time
  joined_more : (current : Span) (spans : List Span) → current.first ≤ℤ t → y ≤ℤ current.last → with_time t (joined_near y current spans) ≡ joined_near t (joined (span_of_time t) current) spans
  joined_more current [] low high =
      let there : is_apart current.last t ≡ false = false_lt (current.last +ℤ pos 60_000) t (omega (arith, ints, high, near)) in
      let begins : is_apart t current.first ≡ false = false_lt (t +ℤ pos 60_000) current.first (omega (arith, ints, low)) in
      rw (there, begins) refl
  joined_more current (s ∷ spans) low high =
      by (is_apart y s.first) refl (joined_more (joined current s) spans (omega (arith, ints, clamps, low)) (omega (arith, ints, clamps, high)))
    where
      there : is_apart current.last t ≡ false
      there = false_lt (current.last +ℤ pos 60_000) t (omega (arith, ints, high, near))

      begins : is_apart t current.first ≡ false
      begins = false_lt (t +ℤ pos 60_000) current.first (omega (arith, ints, low))

      by : (b : Bool) → is_apart y s.first ≡ b → with_time t (joined_near y (joined current s) spans) ≡ joined_near t (joined (span_of_time t) (joined current s)) spans →
          with_time t (cond b (current ∷ s ∷ spans) (joined_near y (joined current s) spans)) ≡ joined_near t (joined (span_of_time t) current) (s ∷ spans)
      by true far later = rw (there, begins) refl
      by false close later =
          let limit = lt_false (y +ℤ pos 60_000) s.first close in
          let reach : is_apart t s.first ≡ false = false_lt (t +ℤ pos 60_000) s.first (omega (arith, ints, limit, up)) in
          rw reach (later ∙ ap (λ (x : Span). joined_near t x spans) (joined-assoc (span_of_time t) current s))

  module _ (f : ℤ) (k : ℕ) (low : f ≤ℤ y) where
    grown : joined (span_of_time t) (span f y k) ≡ span f t (k + 1)
    grown =
        let first : int_min t f ≡ f = omega (arith, ints, clamps, low, up) in
        let last : int_max t y ≡ t = omega (arith, ints, clamps, up) in
        let count : 1 + k ≡ k + 1 = omega arith in
        ap (λ (x : ℤ). span x (int_max t y) (1 + k)) first ∙ ap (λ (l : ℤ). span f l (1 + k)) last ∙ ap (λ (n : ℕ). span f t n) count

    begins_below : f ≤ℤ t
    begins_below = omega (arith, ints, low, up)

    ends_there : y ≤ℤ y
    ends_there = omega (arith, ints)

    -- a record put in, and then one more time that is near its end
    span_more : (spans : List Span) → with_time t (with_span (span f y k) (span f y k) spans) ≡ with_span (span f t (k + 1)) (span f t (k + 1)) spans
    span_more [] = joined_more (span f y k) [] begins_below ends_there ∙ ap (λ (x : Span). x ∷ []) grown
    span_more (s ∷ spans) = by (is_apart s.last f) refl (span_more spans)
      where
        by : (b : Bool) → is_apart s.last f ≡ b → with_time t (with_span (span f y k) (span f y k) spans) ≡ with_span (span f t (k + 1)) (span f t (k + 1)) spans →
            with_time t (cond b (s ∷ with_span (span f y k) (span f y k) spans) (joined_near y (span f y k) (s ∷ spans))) ≡ cond b (s ∷ with_span (span f t (k + 1)) (span f t (k + 1)) spans) (joined_near t (span f t (k + 1)) (s ∷ spans))
        by true past later =
            let gap = lt_true (s.last +ℤ pos 60_000) f past in
            let ended : is_apart s.last t ≡ true = true_lt (s.last +ℤ pos 60_000) t (omega (arith, ints, gap, begins_below)) in
            rw ended (ap (λ (l : List Span). s ∷ l) later)
        by false there later = joined_more (span f y k) (s ∷ spans) begins_below ends_there ∙ ap (λ (x : Span). joined_near t x (s ∷ spans)) grown

-- ---- sorted times that make one record

-- each time is no earlier than the one before it, and near it
abbrev IsChain : ℤ → List ℤ → Type 0
IsChain y [] = Unit {0}
IsChain y (t ∷ times) = (y ≤ℤ t) × (t ≤ℤ (y +ℤ pos 60_000)) × IsChain t times

begins : (u : ℤ) (spans : List Span) → (s : Span) × (others : List Span) × (before u spans ≡ s ∷ others) × (s.first ≡ u)
begins u [] = (span_of_time u, [], refl, refl)
begins u (s ∷ spans) = by (is_near u s.first)
  where
    by : (b : Bool) → (x : Span) × (others : List Span) × (cond b (span u s.last (s.count + 1) ∷ spans) (span_of_time u ∷ s ∷ spans) ≡ x ∷ others) × (x.first ≡ u)
    by true = (span u s.last (s.count + 1), spans, refl, refl)
    by false = (span_of_time u, s ∷ spans, refl, refl)

heads : (a b : Span) (xs ys : List Span) → a ∷ xs ≡ b ∷ ys → (a ≡ b) × (xs ≡ ys)
heads a b xs ys is = (cc, cc)

two_are_not_one : (a b c : Span) (xs : List Span) → a ∷ b ∷ xs ≡ c ∷ [] → ⊥
two_are_not_one a b c xs is = cc

pub one_piece : (z : ℤ) (rest : List ℤ) (s : Span) → AreSorted (z ∷ rest) → histogram_of (z ∷ rest) ≡ s ∷ [] → IsChain z rest × (s ≡ span z (last_time z rest) (length rest + 1))
one_piece z [] s sorted is = (tt, sym (heads (span z z 1) s [] [] is).0)
one_piece z (u ∷ rest) s sorted is =
    let b = begins u (histogram_of rest) in
    let next : histogram_of (u ∷ rest) ≡ b.0 ∷ b.1 = histogram_of-first u rest ∙ b.2 in
    by (λ x alone. one_piece u rest x sorted.1 alone) b.0 b.1 next b.3 (is_near z b.0.first) refl (sym (ap (before z) next) ∙ sym (histogram_of-first z (u ∷ rest)) ∙ is)
  where
    by : ((x : Span) → histogram_of (u ∷ rest) ≡ x ∷ [] → IsChain u rest × (x ≡ span u (last_time u rest) (length rest + 1))) →
        (x : Span) (others : List Span) → histogram_of (u ∷ rest) ≡ x ∷ others → x.first ≡ u → (c : Bool) → is_near z x.first ≡ c →
        cond c (span z x.last (x.count + 1) ∷ others) (span_of_time z ∷ x ∷ others) ≡ s ∷ [] → IsChain z (u ∷ rest) × (s ≡ span z (last_time u rest) (suc (length rest) + 1))
    by deeper x others next first true near eq =
        let h = heads (span z x.last (x.count + 1)) s others [] eq in
        let alone : histogram_of (u ∷ rest) ≡ x ∷ [] = next ∙ ap (λ (l : List Span). x ∷ l) h.1 in
        let later = deeper x alone in
        let near_u : is_near z u ≡ true = subst (λ (v : ℤ). is_near z v ≡ true) first near in
        let count : length rest + 1 + 1 ≡ suc (length rest) + 1 = omega arith in (
          (sorted.0.0, true_near z u sorted.0.0 near_u, later.0),
          sym h.0 ∙ ap (λ (v : Span). span z v.last (v.count + 1)) later.1 ∙ ap (λ (n : ℕ). span z (last_time u rest) n) count,
        )
    by deeper x others next first false far eq = absurd (two_are_not_one (span_of_time z) x s others eq)

-- ---- their record among others

chain_placed : (f y : ℤ) (k : ℕ) (rest done : List ℤ) (spans : List Span) → f ≤ℤ y → AreSorted done → IsChain y rest → histogram_of done ≡ with_span (span f y k) (span f y k) spans →
    histogram_of (all_placed done rest) ≡ with_span (span f (last_time y rest) (k + length rest)) (span f (last_time y rest) (k + length rest)) spans
chain_placed f y k [] done spans low sorted chain is =
    let none : k ≡ k + 0 = omega arith in
    is ∙ ap (λ (n : ℕ). with_span (span f y n) (span f y n) spans) none
chain_placed f y k (t ∷ rest) done spans low sorted chain is =
    let sorted_more = sorted_placed t done sorted in
    let step : histogram_of (placed done t) ≡ with_span (span f t (k + 1)) (span f t (k + 1)) spans =
    one_more done (placed done t) t (one_more_placed t done) sorted_more ∙ ap (with_time t) is ∙ span_more y t chain.0 chain.1 f k low spans in
    let count : k + 1 + length rest ≡ k + suc (length rest) = omega arith in
    chain_placed f t (k + 1) rest (placed done t) spans (omega (arith, ints, low, chain.0)) sorted_more chain.2 step
    ∙ ap (λ (n : ℕ). with_span (span f (last_time t rest) n) (span f (last_time t rest) n) spans) count

-- the records of times, and of more that make one record
pub run_added : (times more : List ℤ) (s : Span) → AreOneSpan s more → spans_of_times (times ++ more) ≡ with_span s s (spans_of_times times)
run_added times more s one = ap histogram_of (order-append times more) ∙ by (order_by int_lt times) (sorted_in_order times) (order_by int_lt more) (sorted_in_order more) one
  where
    by : (done : List ℤ) → AreSorted done → (zs : List ℤ) → AreSorted zs → histogram_of zs ≡ s ∷ [] → histogram_of (all_placed done zs) ≡ with_span s s (histogram_of done)
    by done sorted_done [] sorted is = absurd cc
    by done sorted_done (z ∷ zs) sorted is =
        let piece = one_piece z zs s sorted is in
        let sorted_more = sorted_placed z done sorted_done in
        let first : histogram_of (placed done z) ≡ with_span (span z z 1) (span z z 1) (histogram_of done) = one_more done (placed done z) z (one_more_placed z done) sorted_more in
        let count : 1 + length zs ≡ length zs + 1 = omega arith in
        chain_placed z z 1 zs (placed done z) (histogram_of done) (omega (arith, ints)) sorted_more piece.0 first
        ∙ ap (λ (n : ℕ). with_span (span z (last_time z zs) n) (span z (last_time z zs) n) (histogram_of done)) count
        ∙ ap (λ (x : Span). with_span x x (histogram_of done)) (sym piece.1)

-- ---- what is true of such a record

up_to_last : (y : ℤ) (times : List ℤ) → IsChain y times → y ≤ℤ last_time y times
up_to_last y [] chain = omega (arith, ints)
up_to_last y (t ∷ times) chain = let later = up_to_last t times chain.2 in omega (arith, ints, later, chain.0)

-- it ends no earlier than it begins, and has a time
pub one_span_holds : (times : List ℤ) (s : Span) → AreOneSpan s times → (s.first ≤ℤ s.last) × (0 < s.count)
one_span_holds times s one = by (order_by int_lt times) (sorted_in_order times) one
  where
    by : (zs : List ℤ) → AreSorted zs → histogram_of zs ≡ s ∷ [] → (s.first ≤ℤ s.last) × (0 < s.count)
    by [] sorted is = absurd cc
    by (z ∷ zs) sorted is =
        let piece = one_piece z zs s sorted is in
        let up = up_to_last z zs piece.0 in
        subst (λ (x : Span). (x.first ≤ℤ x.last) × (0 < x.count)) (sym piece.1) (up, omega arith)

-- with one more time that is near it, it is one record
pub grown_is_one : (span : Span) (times : List ℤ) (time : ℤ) → AreOneSpan span times → is_apart span.last time ≡ false → is_apart time span.first ≡ false → AreOneSpan (joined (span_of_time time) span) (times ++ time ∷ [])
grown_is_one span times time one there begins =
    let done = order_by int_lt times in
    let put = one_more done (place_by int_lt done time) time (one_more_placed time done) (sorted_placed time done (sorted_in_order times)) in
    let alone : with_time time (span ∷ []) ≡ joined (span_of_time time) span ∷ [] = rw (there, begins) refl in
    ap histogram_of (order-push times time) ∙ put ∙ ap (with_time time) one ∙ alone
