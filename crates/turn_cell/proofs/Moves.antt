-- Each step keeps the rule of the cell.
use Rattle.std.proofs.Common.{◌≡◌, ◌≢◌, ℕ, ◌+◌, ◌-◌, ◌/◌, ◌<◌, ◌≤◌, ◌^◌, inl, inr, ⊎_elim, List, [], ◌∷◌, ◌++◌, length, set, get_or, eqb, Bool, Option, Some, None, Contains, MatchBool, refl, sym, ap, ◌∙◌, subst, arith, eq-eqb, ne_eqb}
use mathlib.Core.Logic.{dite}
use mathlib.Core.Option.{some, some-injective}
use mathlib.Core.Option as maybe
use mathlib.Core.List.{IsPrefix}
use native.Mathlib.Decide.{ℕ_discrete}
use lib.ListN.{get_elem?}
use lib.Seq.{set-get_or}
use prog.Atomic.{either}
use Rattle.atomic_table.specs.Table.{State, Me, Act, Valid, carried_after, step, keeps, takes, gives, stepped, opening, Allows, Splits, Joins, Final, Seen}
use Rattle.atomic_table.proofs.Lists.{at_set, set_else, set_again, at_snoc, at_longer, exchanged}
use Rattle.turn_cell.specs.declared.view.View.{View}
use Rattle.turn_cell.specs.declared.view.Stage.{Stage}
use Rattle.turn_cell.specs.declared.view.Stage.TheVariants.{Idle, Waits, Turn}
use Rattle.turn_cell.specs.Lists.{first_list, ListKept}
use Rattle.turn_cell.specs.Turn.{HasTicket, StageFits, tickets_at, HasNoTurn, history_of, fills_of, share_of, tickets_of, Unused, Fits, first_view, spent_view, Settled, both_views, kept_view, given_view, Home, Away, Slot, Kept, Served, Looked, found_view, left_view, seen_more, HasGrown, FrontTold, FrontFound, Wrote, Drawn, Passed, FrontRead}
use Rattle.turn_cell.proofs.Fronts.{prefix_self, prefix_shorter}
use Rattle.turn_cell.proofs.Lists.{total-append, total_alone, sum_set, at_here, at_only, each_set, each_more, list_opens, list_sees, list_same, list_grows, list_more, list_joins, list_closes, both_begin}

-- what is in hand, or d
abbrev pub hand_of : {T : Type 0} → T → List (ℕ × Option T) → T
hand_of d [] = d
hand_of d ((k, Some y) ∷ _) = y
hand_of d ((k, None) ∷ _) = d

-- a ticket that is out lies from `serving` to `ticket`
pub has_between : (ticket serving t : ℕ) (st : Stage) → StageFits ticket serving st → HasTicket st t → (serving ≤ t) × (t < ticket)
has_between ticket serving t Idle f h = absurd h
has_between ticket serving t (Waits u) f h = let a = f.0 in let b = f.1 in let e : u ≡ t = h in (omega (arith, a, e), omega (arith, b, e))
has_between ticket serving t (Turn u) f h = let a = f.0 in let b = f.1 in let e : u ≡ t = h in (omega (arith, a, e), omega (arith, b, e))

-- a larger ticket to come
pub fits_later : (ticket ticket' serving : ℕ) (st : Stage) → ticket ≤ ticket' → StageFits ticket serving st → StageFits ticket' serving st
fits_later ticket ticket' serving Idle le f = tt
fits_later ticket ticket' serving (Waits u) le f = let b = f.1 in (f.0, omega (arith, b, le))
fits_later ticket ticket' serving (Turn u) le f = let b = f.1 in (f.0, omega (arith, b, le))

fits_next : (ticket serving t : ℕ) (st : Stage) → t ≡ serving → (HasTicket st t → ⊥) → StageFits ticket serving st → StageFits ticket (t + 1) st × HasNoTurn st
fits_next ticket serving t Idle is other f = (tt, tt)
fits_next ticket serving t (Waits u) is other f = dite (ℕ_discrete u t) (λ e. absurd (other e)) (λ ne. let a = f.0 in ((omega (arith, a, ne, is), f.1), tt))
fits_next ticket serving t (Turn u) is other f = absurd (other (f.0 ∙ sym is))

no_turn : (st : Stage) → st ≡ Idle → HasNoTurn st
no_turn st idle = subst HasNoTurn (sym idle) tt

module _ {I F T : Type 0} where
  abbrev pub Apart : List (View I F T) → Type 0
  Apart vs = (i j t : ℕ) (v w : View I F T) → get_elem? vs i ≡ some v → get_elem? vs j ≡ some w → HasTicket v.stage t → HasTicket w.stage t → i ≡ j

  -- no two seats have one ticket, if the one that steps has no other's
  pub apart_set : (vs : List (View I F T)) (me : ℕ) (w : View I F T) → Apart vs → ((j t : ℕ) (u : View I F T) → j ≢ me → get_elem? vs j ≡ some u → HasTicket w.stage t → HasTicket u.stage t → ⊥) → Apart (set vs me w)
  apart_set vs me w apart mine i j t a b ei ej ha hb = ⊎_elim
      (λ (p : (i ≡ me) × (w ≡ a)). ⊎_elim
      (λ (q : (j ≡ me) × (w ≡ b)). p.0 ∙ sym q.0)
      (λ (q : (j ≢ me) × (get_elem? vs j ≡ some b)). absurd (mine j t b q.0 q.1 (subst (λ (z : View I F T). HasTicket z.stage t) (sym p.1) ha) hb))
      (at_set vs me j w b ej))
      (λ (p : (i ≢ me) × (get_elem? vs i ≡ some a)). ⊎_elim
      (λ (q : (j ≡ me) × (w ≡ b)). absurd (mine i t a p.0 p.1 (subst (λ (z : View I F T). HasTicket z.stage t) (sym q.1) hb) ha))
      (λ (q : (j ≢ me) × (get_elem? vs j ≡ some b)). apart i j t a b p.1 q.1 ha hb)
      (at_set vs me j w b ej))
      (at_set vs me i w a ei)

  apart_more : (vs : List (View I F T)) (g : View I F T) → ((t : ℕ) → HasTicket g.stage t → ⊥) → Apart vs → Apart (vs ++ g ∷ [])
  apart_more vs g none apart i j t a b ei ej ha hb = ⊎_elim
      (λ (oi : get_elem? vs i ≡ some a). ⊎_elim
      (λ (oj : get_elem? vs j ≡ some b). apart i j t a b oi oj ha hb)
      (λ (same : g ≡ b). absurd (none t (subst (λ (z : View I F T). HasTicket z.stage t) (sym same) hb))) (at_snoc vs g b j ej))
      (λ (same : g ≡ a). absurd (none t (subst (λ (z : View I F T). HasTicket z.stage t) (sym same) ha))) (at_snoc vs g a i ei)

  -- a seat that doesn't have the turn is another one than the seat that does
  other_seat : (vs : List (View I F T)) (id j serving : ℕ) (v q : View I F T) → get_elem? vs id ≡ some v → HasNoTurn v.stage → get_elem? vs j ≡ some q → q.stage ≡ Turn serving → j ≢ id
  other_seat vs id j serving v q at free there turn e =
      let same : v ≡ q = some-injective v q (sym at ∙ (ap (get_elem? vs) (sym e) ∙ there)) in
      subst HasNoTurn (ap (λ (z : View I F T). z.stage) same ∙ turn) free

module _ {T I F : Type 0} (history_in : T → List I) (fills_in : T → List F) (goes_on : T → T → Type 0) (x : T) where
  abbrev pub St : Type 0
  St = State (Option T) (View I F T)

  abbrev pub Rule : St → Type 0
  Rule = Kept history_in fills_in goes_on x

  -- the slot is as before where one that doesn't have the turn steps, and doesn't get it
  slot_same : (history : List I) (fills : List F) (serving : ℕ) (homes : List (maybe.Option (Option T))) (vs : List (View I F T)) (id : ℕ) (v w : View I F T) → get_elem? vs id ≡ some v → HasNoTurn v.stage → HasNoTurn w.stage
      → Slot history_in fills_in goes_on x history fills serving homes vs → Slot history_in fills_in goes_on x history fills serving homes (set vs id w)
  slot_same history fills serving homes vs id v w at free free' = ⊎_elim
      (λ (h : Home history_in fills_in goes_on x history fills homes vs). inl (h.0, h.1, h.2, h.3, h.4, each_set (λ u. HasNoTurn u.stage) vs id w free' (λ j u ne e. h.5 j u e)))
      (λ (a : Away history_in fills_in goes_on history fills serving homes vs). let q = a.1 in inr (a.0, (q.0, q.1, set_else vs id q.0 w (other_seat vs id q.0 serving v q.1 at free q.2 q.3) ∙ q.2, q.3, q.4, q.5)))

  slot_more : (history : List I) (fills : List F) (serving : ℕ) (homes : List (maybe.Option (Option T))) (vs : List (View I F T)) (g : View I F T) → HasNoTurn g.stage
      → Slot history_in fills_in goes_on x history fills serving homes vs → Slot history_in fills_in goes_on x history fills serving homes (vs ++ g ∷ [])
  slot_more history fills serving homes vs g free = ⊎_elim
      (λ (h : Home history_in fills_in goes_on x history fills homes vs). inl (h.0, h.1, h.2, h.3, h.4, each_more (λ u. HasNoTurn u.stage) vs g h.5 free))
      (λ (a : Away history_in fills_in goes_on history fills serving homes vs). let q = a.1 in inr (a.0, (q.0, q.1, at_longer vs (g ∷ []) q.0 q.1 q.2, q.3, q.4, q.5)))

  pub opens : (y : T) (n : ℕ) → n ≡ length (history_in y) → y ≡ x → goes_on x x → Rule (opening (0 ∷ 0 ∷ n ∷ []) (Some y ∷ []) (first_view history_in fills_in x))
  opens y n is same start =
      let v : View I F T = first_view history_in fills_in x in record {
        ticket = 0;
        serving = 0;
        history = history_in y;
        fills = fills_in y;
        words_are = ap (λ (k : ℕ). 0 ∷ 0 ∷ k ∷ []) is;
        slot = inl (y, refl, refl, refl, subst (goes_on x) (sym same) start, λ j u e. subst (λ (z : View I F T). HasNoTurn z.stage) (at_only v u j e).1 tt);
        each = λ j u e. subst (Fits x 0 0) (at_only v u j e).1 (tt, (λ none. absurd (cc none)), (λ _. refl));
        apart = λ i j t a b ei ej ha hb. absurd (subst (λ (z : View I F T). HasTicket z.stage t) (sym (at_only v a i ei).1) ha);
        counted = refl;
        shares = refl;
        history_kept = list_opens history_of v (history_in y) (ap (λ (z : T). first_list (history_in z)) (sym same));
        fills_kept = list_opens fills_of v (fills_in y) (ap (λ (z : T). first_list (fills_in z)) (sym same));
      }

  -- a step of one seat
  pub moves : (s : St) (r : Rule s) (me : ℕ) (v w : View I F T) (words : List ℕ) (homes : List (maybe.Option (Option T))) (ticket serving : ℕ) (history : List I) (fills : List F)
      → get_elem? s.views me ≡ some v
      → words ≡ ticket ∷ serving ∷ length history ∷ []
      → Slot history_in fills_in goes_on x history fills serving homes (set s.views me w)
      → ListKept history_of history (set s.views me w)
      → ListKept fills_of fills (set s.views me w)
      → Fits x ticket serving w
      → ((j : ℕ) (u : View I F T) → j ≢ me → get_elem? s.views j ≡ some u → StageFits r.ticket r.serving u.stage → StageFits ticket serving u.stage)
      → ((j t : ℕ) (u : View I F T) → j ≢ me → get_elem? s.views j ≡ some u → HasTicket w.stage t → HasTicket u.stage t → ⊥)
      → ticket + r.serving + tickets_at v.stage ≡ r.ticket + serving + tickets_at w.stage
      → w.share ≡ v.share
      → Rule record { words = words; homes = homes; views = set s.views me w }
  moves s r me v w words homes ticket serving history fills at words_are slot history_kept fills_kept mine others alone counts shares = record {
    ticket = ticket;
    serving = serving;
    history = history;
    fills = fills;
    words_are = words_are;
    slot = slot;
    each = each_set (Fits x ticket serving) s.views me w mine (λ j u n e. let f = r.each j u e in (others j u n e f.0, f.1, f.2));
    apart = apart_set s.views me w r.apart alone;
    counted = let a = sum_set tickets_of s.views me v w at in let b = r.counted in omega (arith, a, b, counts);
    shares = let a = sum_set share_of s.views me v w at in let b = r.shares in omega (arith, a, b, shares);
    history_kept = history_kept;
    fills_kept = fills_kept;
  }

  -- what the step leaves as it is
  abbrev pub Tells : (slots i id : ℕ) → St → Me (Option T) (View I F T) → ℕ → (Me (Option T) (View I F T) → Type 0) → Type 0
  Tells slots i id s me new then = (w : View I F T) × (a : Act (Option T)) × Valid s.homes me.1 a × Rule (stepped s i new id me.1 w a) × then (w, carried_after me.1 a)

  -- a step that changes nothing
  pub stays : (s : St) (r : Rule s) (i id : ℕ) (v : View I F T) → get_elem? s.views id ≡ some v → Rule (stepped s i (get_or s.words i 0) id [] v keeps)
  stays s r i id v at = subst Rule (λ k. record { words = sym (set-get_or s.words i 0) k; homes = s.homes; views = sym (set_again s.views id v at) k }) r

  pub draws : (slots id old : ℕ) (v : View I F T) (c : List (ℕ × Option T)) → v.stage ≡ Idle → 0 < v.share → c ≡ [] → Allows Rule slots id (v, c) 0 (λ n. either (eqb n old) (old + 1) n) (λ n m'. Drawn (step slots 0 old (old + 1) maybe.none) (v, c) n m')
  draws slots id old v c idle live none = subst (λ (c : List (ℕ × Option T)). Allows Rule slots id (v, c) 0 (λ n. either (eqb n old) (old + 1) n) (λ n m'. Drawn (step slots 0 old (old + 1) maybe.none) (v, c) n m')) (sym none) (λ s r len at fits.
      let n : ℕ = get_or s.words 0 0 in
      let here : n ≡ r.ticket = ap (λ (ws : List ℕ). get_or ws 0 0) r.words_are in
      let w : View I F T = record v { stage = Waits old } in
      exchanged n old (old + 1) (λ k. Tells slots 0 id s (v, []) k (Drawn (step slots 0 old (old + 1) maybe.none) (v, []) n))
      (λ (hit : n ≡ old).
      let is : r.ticket ≡ old = sym here ∙ hit in
      let f = r.each id v at in
      let outs : tickets_at v.stage ≡ 0 = ap tickets_at idle in
      let most : r.serving ≤ r.ticket = let a = r.counted in omega (arith, a) in (
        w,
        keeps,
        tt,
        moves s r id v w _ s.homes (old + 1) r.serving r.history r.fills at (ap (λ (ws : List ℕ). set ws 0 (old + 1)) r.words_are)
            (slot_same r.history r.fills r.serving s.homes s.views id v w at (no_turn v.stage idle) tt r.slot)
            (list_same history_of s.views id v w r.history r.history_kept at refl)
            (list_same fills_of s.views id v w r.fills r.fills_kept at refl)
            ((omega (arith, is, most), omega arith), (λ z. absurd (omega (arith, z, live))), f.2)
            (λ j u ne e g. fits_later r.ticket (old + 1) r.serving u.stage (omega (arith, is)) g)
            (λ j t u ne e ha hb. let b = has_between r.ticket r.serving t u.stage (r.each j u e).0 hb in let g : old ≡ t = ha in let b1 = b.1 in omega (arith, b1, g, is))
            (omega (arith, is, outs))
            refl,
        (let m : Me (Option T) (View I F T) = (w, []) in let m0 : Me (Option T) (View I F T) = (v, []) in subst (λ (b : Bool). MatchBool b (m ≡ m) (m ≡ m0)) (sym (eq-eqb n old hit)) refl),
      ))
      (λ (miss : n ≢ old). (v, keeps, tt, stays s r 0 id v at, (let m : Me (Option T) (View I F T) = (w, []) in let m0 : Me (Option T) (View I F T) = (v, []) in subst (λ (b : Bool). MatchBool b (m0 ≡ m) (m0 ≡ m0)) (sym (ne_eqb n old miss)) refl))))

  -- at its own ticket a seat has the slot
  pub looks : (slots id t : ℕ) (v : View I F T) (c : List (ℕ × Option T)) → v.stage ≡ Waits t → 0 < v.share → c ≡ [] → Allows Rule slots id (v, c) 1 (λ n. n) (λ n m'. Looked history_in fills_in goes_on (step slots 1 0 0 maybe.none) (v, c) n m')
  looks slots id t v c waits live none = subst (λ (c : List (ℕ × Option T)). Allows Rule slots id (v, c) 1 (λ n. n) (λ n m'. Looked history_in fills_in goes_on (step slots 1 0 0 maybe.none) (v, c) n m')) (sym none) (λ s r len at fits.
      let n : ℕ = get_or s.words 1 0 in
      let here : n ≡ r.serving = ap (λ (ws : List ℕ). get_or ws 1 0) r.words_are in
      let f = r.each id v at in
      let m : Me (Option T) (View I F T) = (v, []) in
      dite (ℕ_discrete n t)
      (λ (hit : n ≡ t).
      let now : t ≡ r.serving = sym hit ∙ here in
      let mine : HasTicket v.stage t = subst (λ (st : Stage). HasTicket st t) (sym waits) refl in
      let room = has_between r.ticket r.serving t v.stage f.0 mine in
      ⊎_elim
      (λ (h : Home history_in fills_in goes_on x r.history r.fills s.homes s.views).
      let y : T = h.0 in
      let w : View I F T = found_view v t (history_in y) (fills_in y) in
      let m' : Me (Option T) (View I F T) = (w, (0, Some y) ∷ []) in
      let outs : tickets_at v.stage ≡ 1 = ap tickets_at waits in
      let seen = r.history_kept.begins id v at in
      let fills = r.fills_kept.begins id v at in
      let on : (z : T) → v.first ≡ Some z → goes_on z y = λ z is. let same : x ≡ z = cc (f.2 live, is) in subst (λ (z : T). goes_on z y) same h.4 in
      let served : Served history_in fills_in goes_on m m' t = (y, on, subst (IsPrefix v.history.list.seen) (sym h.2) seen.0, subst (IsPrefix v.fills.list.seen) (sym h.3) fills.0, refl) in
      let result : Tells slots 1 id s m n (λ m'. Looked history_in fills_in goes_on (step slots 1 0 0 maybe.none) m n m') = (
        w,
        takes 0 (Some y),
        ap (λ (hs : List (maybe.Option (Option T))). get_elem? hs 0) h.1,
        moves s r id v w _ (set s.homes 0 maybe.none) r.ticket r.serving r.history r.fills at (ap (λ (ws : List ℕ). set ws 1 (get_or ws 1 0)) r.words_are)
            (inr (ap (λ (hs : List (maybe.Option (Option T))). set hs 0 maybe.none) h.1, (id, w, at_here s.views id v w at, ap Turn now, h.2, h.3)))
            (list_sees history_of s.views id v w r.history r.history_kept at (subst (λ (l : List I). IsPrefix l r.history) (sym h.2) (prefix_self r.history), seen.1) refl refl)
            (list_sees fills_of s.views id v w r.fills r.fills_kept at (subst (λ (l : List F). IsPrefix l r.fills) (sym h.3) (prefix_self r.fills), fills.1) refl refl)
            ((now, room.1), (λ z. absurd (omega (arith, z, live))), f.2)
            (λ j u ne e g. g)
            (λ j k u ne e ha hb. ne (sym (r.apart id j k v u at e (subst (λ (st : Stage). HasTicket st k) (sym waits) ha) hb)))
            (omega (arith, outs))
            refl,
        (λ k is. let same : t ≡ k = cc (waits, is) in subst (λ (k : ℕ). MatchBool (eqb n k) (Served history_in fills_in goes_on m m' k) (m' ≡ m)) same (subst (λ (b : Bool). MatchBool b (Served history_in fills_in goes_on m m' t) (m' ≡ m)) (sym (eq-eqb n t hit)) served)),
      ) in result)
      (λ (a : Away history_in fills_in goes_on r.history r.fills r.serving s.homes s.views). let q = a.1 in
      let theirs : HasTicket q.1.stage t = subst (λ (st : Stage). HasTicket st t) (sym q.3) (sym now) in
      let one : id ≡ q.0 = r.apart id q.0 t v q.1 at q.2 mine theirs in
      let same : v ≡ q.1 = some-injective v q.1 (sym at ∙ (ap (get_elem? s.views) one ∙ q.2)) in
      absurd (cc (waits, q.3, ap (λ (z : View I F T). z.stage) same)))
      r.slot)
      (λ (miss : n ≢ t). (v, keeps, tt, stays s r 1 id v at, λ k is. let same : t ≡ k = cc (waits, is) in subst (λ (k : ℕ). MatchBool (eqb n k) (Served history_in fills_in goes_on m m k) (m ≡ m)) same (subst (λ (b : Bool). MatchBool b (Served history_in fills_in goes_on m m t) (m ≡ m)) (sym (ne_eqb n t miss)) refl))))

  -- the seat that has the turn has seen both lists, and the slot is out
  pub in_turn : (s : St) (r : Rule s) (id t : ℕ) (v : View I F T) → get_elem? s.views id ≡ some v → v.stage ≡ Turn t → (s.homes ≡ maybe.none ∷ []) × (v.history.list.seen ≡ r.history) × (v.fills.list.seen ≡ r.fills) × (t ≡ r.serving)
  in_turn s r id t v at turn =
      let now : t ≡ r.serving = (subst (StageFits r.ticket r.serving) turn (r.each id v at).0).0 in
      ⊎_elim
      (λ (h : Home history_in fills_in goes_on x r.history r.fills s.homes s.views). absurd (subst HasNoTurn turn (h.5 id v at)))
      (λ (a : Away history_in fills_in goes_on r.history r.fills r.serving s.homes s.views). let q = a.1 in
      let one : id ≡ q.0 = r.apart id q.0 t v q.1 at q.2 (subst (λ (st : Stage). HasTicket st t) (sym turn) refl) (subst (λ (st : Stage). HasTicket st t) (sym q.3) (sym now)) in
      let same : v ≡ q.1 = some-injective v q.1 (sym at ∙ (ap (get_elem? s.views) one ∙ q.2)) in
      (a.0, ap (λ (z : View I F T). z.history.list.seen) same ∙ q.4, ap (λ (z : View I F T). z.fills.list.seen) same ∙ q.5, now))
      r.slot

  pub writes : (slots id t n : ℕ) (v : View I F T) (y : T) (c : List (ℕ × Option T)) → v.stage ≡ Turn t → c ≡ (0, Some y) ∷ [] → IsPrefix v.history.list.seen (history_in y) → IsPrefix v.fills.list.seen (fills_in y) → n ≡ length (history_in y) → 0 < v.share
      → Allows Rule slots id (v, c) 2 (λ _. n) (λ _ m'. Wrote history_in fills_in (step slots 2 n 0 maybe.none) (v, c) n m')
  writes slots id t n v y c turn hand grows fills_grow is live s r len at fits =
      let a = in_turn s r id t v at turn in
      let f = r.each id v at in
      let w : View I F T = left_view v (history_in y) (fills_in y) in (
        w,
        keeps,
        tt,
        moves s r id v w _ s.homes r.ticket r.serving (history_in y) (fills_in y) at (ap (λ (ws : List ℕ). set ws 2 n) r.words_are ∙ ap (λ (k : ℕ). r.ticket ∷ r.serving ∷ k ∷ []) is)
            (inr (a.0, (id, w, at_here s.views id v w at, turn ∙ ap Turn a.3, refl, refl)))
            (list_grows history_of s.views id v w r.history (history_in y) r.history_kept at a.1 grows refl)
            (list_grows fills_of s.views id v w r.fills (fills_in y) r.fills_kept at a.2 fills_grow refl)
            (f.0, (λ z. absurd (omega (arith, z, live))), f.2)
            (λ j u ne e g. g)
            (λ j k u ne e ha hb. ne (sym (r.apart id j k v u at e ha hb)))
            refl
            refl,
        (λ z e. let same : y ≡ z = ap (hand_of y) (sym hand ∙ e) in ap (λ (z : T). (left_view v (history_in z) (fills_in z), c)) same),
      )

  pub finds : (slots id t : ℕ) (v : View I F T) (y : T) (c : List (ℕ × Option T)) → v.stage ≡ Turn t → c ≡ (0, Some y) ∷ [] → IsPrefix v.history.list.seen (history_in y) → IsPrefix v.fills.list.seen (fills_in y) → 0 < v.share
      → Allows Rule slots id (v, c) 2 (λ n. n) (λ n m'. FrontFound history_in fills_in (step slots 2 0 0 maybe.none) (v, c) n m')
  finds slots id t v y c turn hand grows fills_grow live s r len at fits =
      let a = in_turn s r id t v at turn in
      let f = r.each id v at in
      let n : ℕ = get_or s.words 2 0 in
      let here : n ≡ length r.history = ap (λ (ws : List ℕ). get_or ws 2 0) r.words_are in
      let w : View I F T = left_view v (history_in y) (fills_in y) in
      let m : Me (Option T) (View I F T) = (v, c) in
      let Found : Bool → T → Me (Option T) (View I F T) → Type 0 = λ b z m'. MatchBool b (m' ≡ (left_view v (history_in z) (fills_in z), c)) (m' ≡ m) in
      let mine : (z : T) → c ≡ (0, Some z) ∷ [] → y ≡ z = λ z e. ap (hand_of y) (sym hand ∙ e) in
      dite (ℕ_discrete n (length (history_in y)))
      (λ (hit : n ≡ length (history_in y)). (
        w,
        keeps,
        tt,
        moves s r id v w _ s.homes r.ticket r.serving (history_in y) (fills_in y) at (ap (λ (ws : List ℕ). set ws 2 (get_or ws 2 0)) r.words_are ∙ ap (λ (k : ℕ). r.ticket ∷ r.serving ∷ k ∷ []) (sym here ∙ hit))
            (inr (a.0, (id, w, at_here s.views id v w at, turn ∙ ap Turn a.3, refl, refl)))
            (list_grows history_of s.views id v w r.history (history_in y) r.history_kept at a.1 grows refl)
            (list_grows fills_of s.views id v w r.fills (fills_in y) r.fills_kept at a.2 fills_grow refl)
            (f.0, (λ z. absurd (omega (arith, z, live))), f.2)
            (λ j u ne e g. g)
            (λ j k u ne e ha hb. ne (sym (r.apart id j k v u at e ha hb)))
            refl
            refl,
        (λ z e. subst (λ (z : T). Found (eqb n (length (history_in z))) z (w, c)) (mine z e) (subst (λ (b : Bool). Found b y (w, c)) (sym (eq-eqb n (length (history_in y)) hit)) refl)),
      ))
      (λ (miss : n ≢ length (history_in y)). (
        v,
        keeps,
        tt,
        stays s r 2 id v at,
        (λ z e. subst (λ (z : T). Found (eqb n (length (history_in z))) z m) (mine z e) (subst (λ (b : Bool). Found b y m) (sym (ne_eqb n (length (history_in y)) miss)) refl)),
      ))

  pub passes : (slots id t : ℕ) (v : View I F T) (y : T) (c : List (ℕ × Option T)) → v.stage ≡ Turn t → c ≡ (0, Some y) ∷ [] → history_in y ≡ v.history.list.seen → fills_in y ≡ v.fills.list.seen → goes_on x y → 0 < v.share
      → Allows Rule slots id (v, c) 1 (λ _. t + 1) (λ _ m'. Passed (step slots 1 (t + 1) 0 maybe.none) (v, c) (t + 1) m')
  passes slots id t v y c turn hand is fills_are on live = subst (λ (c : List (ℕ × Option T)). Allows Rule slots id (v, c) 1 (λ _. t + 1) (λ _ m'. Passed (step slots 1 (t + 1) 0 maybe.none) (v, c) (t + 1) m')) (sym hand) (λ s r len at fits.
      let a = in_turn s r id t v at turn in
      let f = r.each id v at in
      let w : View I F T = record v { stage = Idle } in
      let has : HasTicket v.stage t = subst (λ (st : Stage). HasTicket st t) (sym turn) refl in
      let outs : tickets_at v.stage ≡ 1 = ap tickets_at turn in
      let now : t ≡ r.serving = a.3 in
      let others : (j : ℕ) (u : View I F T) → j ≢ id → get_elem? s.views j ≡ some u → StageFits r.ticket (t + 1) u.stage × HasNoTurn u.stage = λ j u ne e. fits_next r.ticket r.serving t u.stage now (λ h. ne (r.apart j id t u v e at h has)) (r.each j u e).0 in (
        w,
        gives,
        tt,
        moves s r id v w _ (set s.homes 0 (some (Some y))) r.ticket (t + 1) r.history r.fills at (ap (λ (ws : List ℕ). set ws 1 (t + 1)) r.words_are)
            (inl (y, ap (λ (hs : List (maybe.Option (Option T))). set hs 0 (some (Some y))) a.0, is ∙ a.1, fills_are ∙ a.2, on, each_set (λ u. HasNoTurn u.stage) s.views id w tt (λ j u ne e. (others j u ne e).1)))
            (list_same history_of s.views id v w r.history r.history_kept at refl)
            (list_same fills_of s.views id v w r.fills r.fills_kept at refl)
            (tt, (λ z. absurd (omega (arith, z, live))), f.2)
            (λ j u ne e g. (others j u ne e).0)
            (λ j k u ne e ha hb. ha)
            (omega (arith, outs, now))
            refl,
        refl,
      ))

  -- a pass at rest sees the whole history
  pub reads : (slots id : ℕ) (v : View I F T) (c : List (ℕ × Option T)) → v.stage ≡ Idle → 0 < v.share → Allows Rule slots id (v, c) 2 (λ n. n) (λ n m'. FrontRead (step slots 2 0 0 maybe.none) (v, c) n m')
  reads slots id v c idle live s r len at fits =
      let f = r.each id v at in
      let seen = r.history_kept.begins id v at in
      let w : View I F T = seen_more v r.history in (
        w,
        keeps,
        tt,
        moves s r id v w _ s.homes r.ticket r.serving r.history r.fills at (ap (λ (ws : List ℕ). set ws 2 (get_or ws 2 0)) r.words_are)
            (slot_same r.history r.fills r.serving s.homes s.views id v w at (no_turn v.stage idle) (no_turn v.stage idle) r.slot)
            (list_sees history_of s.views id v w r.history r.history_kept at (prefix_self r.history, seen.1) refl refl)
            (list_same fills_of s.views id v w r.fills r.fills_kept at refl)
            (f.0, (λ z. absurd (omega (arith, z, live))), f.2)
            (λ j u ne e g. g)
            (λ j k u ne e ha hb. ne (sym (r.apart id j k v u at e ha hb)))
            refl
            refl,
        (r.history, refl, seen.0, sym (ap (λ (ws : List ℕ). get_or ws 2 0) r.words_are)),
      )

  -- a look at any time tells that what was told begins what was seen
  pub settles : (slots id : ℕ) (v : View I F T) (c : List (ℕ × Option T)) → Allows Rule slots id (v, c) 0 (λ n. n) (λ n m'. Settled (step slots 0 0 0 maybe.none) (v, c) n m')
  settles slots id v c s r len at fits = let f = r.history_kept.begins id v at in let g = r.fills_kept.begins id v at in
      (v, keeps, tt, stays s r 0 id v at, (refl, (λ le. prefix_shorter v.history.lesser v.history.list.seen r.history f.1 f.0 le), (λ le. prefix_shorter v.fills.lesser v.fills.list.seen r.fills g.1 g.0 le)))

  pub splits : (id : ℕ) (v : View I F T) → v.stage ≡ Idle → 2 ≤ v.share → Splits Rule id v (kept_view v) (given_view v)
  splits id v idle share s r at =
      let f = r.each id v at in
      let l : View I F T = kept_view v in
      let g : View I F T = given_view v in
      let half : (v.share - v.share / 2) + v.share / 2 ≡ v.share = omega (arith, share) in
      let left : 0 < v.share - v.share / 2 = omega (arith, share) in
      let right : 0 < v.share / 2 = omega (arith, share) in
      let first : v.first ≡ Some x = f.2 (omega (arith, share)) in
      let mine : Fits x r.ticket r.serving l = (f.0, (λ z. absurd (omega (arith, z, left))), (λ _. first)) in
      let new : Fits x r.ticket r.serving g = (tt, (λ z. absurd (omega (arith, z, right))), (λ _. first)) in
      let vs : List (View I F T) = set s.views id l in
      record {
        ticket = r.ticket;
        serving = r.serving;
        history = r.history;
        fills = r.fills;
        words_are = r.words_are;
        slot = slot_more r.history r.fills r.serving s.homes vs g tt (slot_same r.history r.fills r.serving s.homes s.views id v l at (no_turn v.stage idle) (no_turn v.stage idle) r.slot);
        each = each_more (Fits x r.ticket r.serving) vs g (each_set (Fits x r.ticket r.serving) s.views id l mine (λ j u ne e. r.each j u e)) new;
        apart = apart_more vs g (λ t h. h) (apart_set s.views id l r.apart (λ j k u ne e hc hd. ne (sym (r.apart id j k v u at e hc hd))));
        counted = let a = sum_set tickets_of s.views id v l at in let b = total-append tickets_of vs (g ∷ []) in let c = r.counted in omega (arith, a, b, c);
        shares = let a = sum_set share_of s.views id v l at in let b = total-append share_of vs (g ∷ []) in let c = r.shares in omega (arith, a, b, c, half);
        history_kept = list_more history_of vs g r.history (list_same history_of s.views id v l r.history r.history_kept at refl) ((r.history_kept.begins id v at).0, (r.history, refl)) refl;
        fills_kept = list_more fills_of vs g r.fills (list_same fills_of s.views id v l r.fills r.fills_kept at refl) ((r.fills_kept.begins id v at).0, (r.fills, refl)) refl;
      }

  pub joins : (id other : ℕ) (v w : View I F T) → v.stage ≡ Idle → w.stage ≡ Idle → 0 < v.share → Joins Rule id v other w (both_views v w) spent_view
  joins id other v w idle idle' live s r at ne there =
      let b : View I F T = both_views v w in
      let z : View I F T = spent_view in
      let vs : List (View I F T) = set s.views id b in
      let there' : get_elem? s.views other ≡ some w = sym (set_else s.views id other b ne) ∙ there in
      let f = r.each id v at in
      let mine : Fits x r.ticket r.serving b = (f.0, (λ none. absurd (omega (arith, none, live))), (λ _. f.2 live)) in
      let gone : Fits x r.ticket r.serving z = (tt, (λ _. (refl, (refl, refl), (refl, refl))), (λ h. absurd (omega (arith, h)))) in
      record {
        ticket = r.ticket;
        serving = r.serving;
        history = r.history;
        fills = r.fills;
        words_are = r.words_are;
        slot = slot_same r.history r.fills r.serving s.homes vs other w z there (no_turn w.stage idle') tt (slot_same r.history r.fills r.serving s.homes s.views id v b at (no_turn v.stage idle) (no_turn v.stage idle) r.slot);
        each = each_set (Fits x r.ticket r.serving) vs other z gone (λ j u ne e. each_set (Fits x r.ticket r.serving) s.views id b mine (λ j u ne e. r.each j u e) j u e);
        apart = apart_set vs other z (apart_set s.views id b r.apart (λ j k u ne e hc hd. ne (sym (r.apart id j k v u at e hc hd)))) (λ j k u ne e hc hd. hc);
        counted = let a = sum_set tickets_of s.views id v b at in let c = sum_set tickets_of vs other w z there in let d = r.counted in let e : tickets_at w.stage ≡ 0 = ap tickets_at idle' in omega (arith, a, c, d, e);
        shares = let a = sum_set share_of s.views id v b at in let c = sum_set share_of vs other w z there in let d = r.shares in omega (arith, a, c, d);
        history_kept = list_joins history_of s.views id other v w b z r.history r.history_kept at there' ne refl refl ((r.history, refl), (r.history, refl));
        fills_kept = list_joins fills_of s.views id other v w b z r.fills r.fills_kept at there' ne refl refl ((r.fills, refl), (r.fills, refl));
      }

  -- who has every share knows the whole
  abbrev pub Whole : View I F T → T → Type 0
  Whole v y = goes_on x y × (IsPrefix v.history.list.seen (history_in y) × IsPrefix v.fills.list.seen (fills_in y)) × ((length (history_in y) ≡ v.history.list.added) × (length (fills_in y) ≡ v.fills.list.added))
      × ((p : ℕ) → p < length (history_in y) → Contains v.history.list.places p) × ((p : ℕ) → p < length (fills_in y) → Contains v.fills.list.places p)

  pub closes : (id : ℕ) (v : View I F T) (words : List ℕ) (slots : List (Option T)) → Final (Seen Rule id v) words slots → v.share ≡ 2 ^ 63 → v.stage ≡ Idle → (y : T) × (get_elem? slots 0 ≡ some (Some y)) × Whole v y
  closes id v words slots (s, seen, words_are, len, homes) all idle =
      let r = seen.0 in
      let at = seen.1 in
      let others : (j : ℕ) (u : View I F T) → j ≢ id → get_elem? s.views j ≡ some u → Unused u = λ j u ne e. (r.each j u e).1 (total_alone share_of s.views id v at (r.shares ∙ sym all) j u ne e) in
      ⊎_elim
      (λ (h : Home history_in fills_in goes_on x r.history r.fills s.homes s.views).
      let a = list_closes history_of s.views id v r.history r.history_kept at (λ j u ne e. (others j u ne e).1) in
      let b = list_closes fills_of s.views id v r.fills r.fills_kept at (λ j u ne e. (others j u ne e).2) in
      let result : (y : T) × (get_elem? slots 0 ≡ some (Some y)) × Whole v y = (
        h.0,
        homes 0 (Some h.0) (ap (λ (hs : List (maybe.Option (Option T))). get_elem? hs 0) h.1),
        (
          h.4,
          (subst (IsPrefix v.history.list.seen) (sym h.2) a.0, subst (IsPrefix v.fills.list.seen) (sym h.3) b.0),
          (ap length h.2 ∙ a.1, ap length h.3 ∙ b.1),
          (λ p low. a.2 p (subst (λ (l : List I). p < length l) h.2 low)),
          (λ p low. b.2 p (subst (λ (l : List F). p < length l) h.3 low)),
        ),
      ) in result)
      (λ (a : Away history_in fills_in goes_on r.history r.fills r.serving s.homes s.views). let q = a.1 in dite (ℕ_discrete q.0 id)
      (λ (e : q.0 ≡ id). let same : v ≡ q.1 = some-injective v q.1 (sym at ∙ (ap (get_elem? s.views) (sym e) ∙ q.2)) in absurd (cc (idle, q.3, ap (λ (z : View I F T). z.stage) same)))
      (λ (n : q.0 ≢ id). let o = others q.0 q.1 n q.2 in absurd (cc (o.0, q.3))))
      r.slot

module _ {T I F : Type 0} (history_in : T → List I) (fills_in : T → List F) (goes_on : T → T → Type 0) where
  pub looked_hit : (slots n t : ℕ) (m m' : Me (Option T) (View I F T)) → Looked history_in fills_in goes_on (step slots 1 0 0 maybe.none) m n m' → m.0.stage ≡ Waits t → n ≡ t → Served history_in fills_in goes_on m m' t
  looked_hit slots n t m m' l waits hit = subst (λ (b : Bool). MatchBool b (Served history_in fills_in goes_on m m' t) (m' ≡ m)) (eq-eqb n t hit) (l t waits)

  pub looked_miss : (slots n t : ℕ) (m m' : Me (Option T) (View I F T)) → Looked history_in fills_in goes_on (step slots 1 0 0 maybe.none) m n m' → m.0.stage ≡ Waits t → n ≢ t → m' ≡ m
  looked_miss slots n t m m' l waits miss = subst (λ (b : Bool). MatchBool b (Served history_in fills_in goes_on m m' t) (m' ≡ m)) (ne_eqb n t miss) (l t waits)

  -- what close_with gives, as the caller takes it
  pub closed_with : (x : T) (id : ℕ) (v : View I F T) (words : List ℕ) (slots : List (Option T)) (o : Option T) → Final (Seen (Kept history_in fills_in goes_on x) id v) words slots → v.share ≡ 2 ^ 63 → v.stage ≡ Idle → get_elem? slots 0 ≡ some o
      → (y : T) × (o ≡ Some y) × Whole history_in fills_in goes_on x v y
  closed_with x id v words slots o final all idle e = let k = closes history_in fills_in goes_on x id v words slots final all idle in (k.0, some-injective o (Some k.0) (sym e ∙ k.1), k.2)

  some_is : (o : Option T) (a b : T) → o ≡ Some a → o ≡ Some b → a ≡ b
  some_is o a b p q = cc (p, q)

  pub closed_as : (x : T) (id : ℕ) (v : View I F T) (words : List ℕ) (slots : List (Option T)) (o : Option T) (y : T) → Final (Seen (Kept history_in fills_in goes_on x) id v) words slots → v.share ≡ 2 ^ 63 → v.stage ≡ Idle → get_elem? slots 0 ≡ some o → o ≡ Some y
      → Whole history_in fills_in goes_on x v y
  closed_as x id v words slots o y final all idle e is = let k = closed_with x id v words slots o final all idle e in subst (Whole history_in fills_in goes_on x v) (some_is o k.0 y k.1 is) k.2

module _ {T I F : Type 0} (history_in : T → List I) (fills_in : T → List F) where
  pub front_hit : (slots n k : ℕ) (m m' : Me (Option T) (View I F T)) → FrontFound history_in fills_in (step slots 2 0 0 maybe.none) m n m' → HasGrown history_in fills_in m k → n ≡ k → FrontTold history_in fills_in m m'
  front_hit slots n k m m' found grown hit z e =
      let same : grown.1 ≡ z = ap (hand_of grown.1) (sym grown.3 ∙ e) in
      let is : n ≡ length (history_in z) = hit ∙ (grown.6 ∙ ap (λ (z : T). length (history_in z)) same) in
      subst (λ (b : Bool). MatchBool b (m' ≡ (left_view m.0 (history_in z) (fills_in z), m.1)) (m' ≡ m)) (eq-eqb n (length (history_in z)) is) (found z e)

  pub front_miss : (slots n k : ℕ) (m m' : Me (Option T) (View I F T)) → FrontFound history_in fills_in (step slots 2 0 0 maybe.none) m n m' → HasGrown history_in fills_in m k → n ≢ k → m' ≡ m
  front_miss slots n k m m' found grown miss =
      let y : T = grown.1 in
      let other : n ≢ length (history_in y) = λ e. miss (e ∙ sym grown.6) in
      subst (λ (b : Bool). MatchBool b (m' ≡ (left_view m.0 (history_in y) (fills_in y), m.1)) (m' ≡ m)) (ne_eqb n (length (history_in y)) other) (found y grown.3)

-- what a look after a join tells
pub united : {T I F : Type 0} (slots n : ℕ) (v w : View I F T) (c : List (ℕ × Option T)) (m m' : Me (Option T) (View I F T)) → m ≡ (both_views v w, c) → Settled (step slots 0 0 0 maybe.none) m n m'
    → (IsPrefix v.history.list.seen m'.0.history.list.seen × IsPrefix v.fills.list.seen m'.0.fills.list.seen) × (IsPrefix w.history.list.seen m'.0.history.list.seen × IsPrefix w.fills.list.seen m'.0.fills.list.seen)
united {T} {I} {F} slots n v w c m m' is s =
    let P : Me (Option T) (View I F T) → Type 0 = λ k. length k.0.history.lesser ≤ length k.0.history.list.seen → IsPrefix k.0.history.lesser k.0.history.list.seen in
    let P' : Me (Option T) (View I F T) → Type 0 = λ k. length k.0.fills.lesser ≤ length k.0.fills.list.seen → IsPrefix k.0.fills.lesser k.0.fills.list.seen in
    let a = both_begin v.history.list.seen w.history.list.seen (subst P is s.1) in
    let b = both_begin v.fills.list.seen w.fills.list.seen (subst P' is s.2) in
    let Q : Me (Option T) (View I F T) → Type 0 = λ k. (IsPrefix v.history.list.seen k.0.history.list.seen × IsPrefix v.fills.list.seen k.0.fills.list.seen) × (IsPrefix w.history.list.seen k.0.history.list.seen × IsPrefix w.fills.list.seen k.0.fills.list.seen) in
    let r : Q (both_views v w, c) = ((a.0, b.0), (a.1, b.1)) in
    subst Q (sym (s.0 ∙ is)) r
