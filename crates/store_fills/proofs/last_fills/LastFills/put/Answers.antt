use Rattle.std.proofs.Common.{◌≡◌, ℕ, List, [], ◌∷◌, ◌++◌, length, Option, None, sym, ◌∙◌, ap, subst, arith}
use Rattle.std.specs.Prelude.{set, IfNone}
use Rattle.std.specs.BTreeMap.{insert_entry}
use Rattle.block_map.specs.Index.{IsAdded}
use Rattle.intervals.specs.declared.interval.Interval.{Interval}
use Rattle.store_fills.specs.Sound.{with_filling}
use Rattle.intervals.specs.Interval.{interval_cmp}
use Rattle.store_fills.specs.declared.last_fills.LastFill.{LastFill}
use Rattle.store_fills.specs.LastFills.{LastFillsView, HaveOwnPlaces, place_in, filling_at, filling_of, fillings_in}
use Rattle.store_fills.proofs.FillPlaces.{fillings_new, placed_new, fillings_set}
use Rattle.store_fills.proofs.last_fills.LastFills.put.Goals as goal

pub index_mut-requires : goal.index_mut-requires
index_mut-requires c =
    let s = c.self.inside in
    omega (arith, c.self.invariant.there c.args.interval c.in-Some.at (sym c.get.ensures ∙ c.in-Some.is), s.fills.ok.0)

pub returns-in-Some : goal.returns-in-Some
returns-in-Some c =
    let s = c.self.inside in
    let i = c.args.interval in
    let at = c.in-Some.at in
    let one : LastFill = c.args.fill in
    subst (λ (x : LastFillsView). (λ (j : Interval). filling_at (set s.fills.items at one) (place_in s.places.entries j)) ≡ with_filling (fillings_in x.filled) i (filling_of c.args.fill)) c.self.view_is
    (fillings_set s.places.entries s.fills.items i at one c.self.invariant (sym c.get.ensures ∙ c.in-Some.is))

pub invariant_of-self-in-None : goal.invariant_of-self-in-None
invariant_of-self-in-None c =
    let s = c.self.inside in
    let i = c.args.interval in
    let one : LastFill = c.args.fill in
    let none : place_in s.places.entries i ≡ None = sym c.get.ensures ∙ c.in-None.is in
    let added = subst (λ (o : Option ℕ). IfNone o (IsAdded interval_cmp s.places c.insert.new.self i c.len-at.result)) (c.insert.ensures.found ∙ none) c.insert.ensures.absent in
    let at : c.len-at.result ≡ length s.fills.items = omega (arith, c.len-at.ensures, s.fills.ok.0) in
    let entries = added.0 ∙ ap (λ (n : ℕ). insert_entry interval_cmp s.places.entries i n) at in
    subst (λ (l : List LastFill). HaveOwnPlaces c.insert.new.self.entries l) (sym c.push_reserved.ensures.items)
    (subst (λ (e : List (Interval × ℕ)). HaveOwnPlaces e (s.fills.items ++ one ∷ [])) (sym entries) (placed_new s.places.entries s.fills.items i one c.self.invariant none))

pub returns-in-None : goal.returns-in-None
returns-in-None c =
    let s = c.self.inside in
    let i = c.args.interval in
    let one : LastFill = c.args.fill in
    let none : place_in s.places.entries i ≡ None = sym c.get.ensures ∙ c.in-None.is in
    let added = subst (λ (o : Option ℕ). IfNone o (IsAdded interval_cmp s.places c.insert.new.self i c.len-at.result)) (c.insert.ensures.found ∙ none) c.insert.ensures.absent in
    let at : c.len-at.result ≡ length s.fills.items = omega (arith, c.len-at.ensures, s.fills.ok.0) in
    let entries = added.0 ∙ ap (λ (n : ℕ). insert_entry interval_cmp s.places.entries i n) at in
    let done = fillings_new s.places.entries s.fills.items i one c.self.invariant none in
    let fills = subst (λ (l : List LastFill). (λ (j : Interval). filling_at l (place_in c.insert.new.self.entries j)) ≡ with_filling (λ (j : Interval). filling_at s.fills.items (place_in s.places.entries j)) i (filling_of c.args.fill)) (sym c.push_reserved.ensures.items)
    (subst (λ (e : List (Interval × ℕ)). (λ (j : Interval). filling_at (s.fills.items ++ one ∷ []) (place_in e j)) ≡ with_filling (λ (j : Interval). filling_at s.fills.items (place_in s.places.entries j)) i (filling_of c.args.fill)) (sym entries) done) in
    subst (λ (x : LastFillsView). (λ (j : Interval). filling_at c.push_reserved.new.self.items (place_in c.insert.new.self.entries j)) ≡ with_filling (fillings_in x.filled) i (filling_of c.args.fill)) c.self.view_is fills
