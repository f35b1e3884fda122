use Rattle.std.proofs.Common.{◌≡◌, ◌∙◌, ◌+◌, ◌≤◌, [], ◌∷◌, ◌++◌, List, ℕ, Bor, inr, ap, arith, drop, drop_of_length-le, get_or, length, map, subst, sym}
use Rattle.std.specs.Prelude.{slice_range}
use Rattle.mdb_rules.proofs.Pieces.{joined}
use Rattle.mdb_sheets.specs.Asks.{listed_names}
use Rattle.mdb_sheets.proofs.NameLists.{all_taken, made_of, name_taken, names_in, next_part, next_stands, no_name_taken, none_of, none_taken}
use Rattle.mdb_sheets.proofs.name_list.listed_names.Goals as goal

pub loop-part-init : goal.loop-part-init
loop-part-init c =
    let parts = ap (map (λ (part : Bor (List ℕ)). part.now)) c.as_slice-part-items.ensures.value ∙ c.in_ok-parts.ensures in
    record {
      names = rw c.new-names.ensures (none_taken c.args.text.now (map (λ (part : Bor (List ℕ)). part.now) c.as_slice-part-items.result.now) parts);
      left = inr (omega arith, sym parts);
    }

pub slice-requires : goal.slice-requires
slice-requires c =
    let none : Bor (List ℕ) = record { ref_ptr = (0, 0); now = [] } in
    let at = next_stands c.args.text.now c.loop-part.start c.as_slice-part-items.result.now c.loop-part.part-index none c.loop-part-test.true c.loop-part.invariant.left in
    (omega arith, omega (arith, at.within, ap length c.in_ok-copy.ensures))

pub loop-part-preserved : goal.loop-part-preserved
loop-part-preserved c =
    let parts = c.as_slice-part-items.result.now in
    let i = c.loop-part.part-index in
    let rest = map (λ (part : Bor (List ℕ)). part.now) (drop (i + 1) parts) in
    let part = (get_or parts i _).now in
    let at = next_stands c.args.text.now c.loop-part.start parts i _ c.loop-part-test.true c.loop-part.invariant.left in
    let cut : c.in_ok-slice.field-0 ≡ part = c.in_ok-slice.ensures ∙ ap (λ (text : List ℕ). slice_range text c.loop-part.start (c.loop-part.start + length part)) c.in_ok-copy.ensures ∙ at.is in
    let made = made_of c.in_ok-slice.field-0 part c.in-Some.name c.of.result cut c.of.ensures c.in-Some.is in
    let before = subst (λ (left : List (List ℕ)). joined c.loop-part.names (names_in left) ≡ listed_names c.args.text.now) (next_part parts i _ c.loop-part-test.true) c.loop-part.invariant.names in
    let taken = name_taken c.loop-part.names part rest (listed_names c.args.text.now) made.0 before in
    let pushed : c.push.new.self ≡ c.loop-part.names ++ part ∷ [] = c.in_ok-push.ensures.ok ∙ ap (λ (name : List ℕ). c.loop-part.names ++ name ∷ []) made.1 in
    record { names = rw pushed taken; left = at.left }

pub returns-in_default : goal.returns-in_default
returns-in_default c =
    let parts = c.as_slice-part-items.result.now in
    let i = c.loop-part.part-index in
    let rest = map (λ (part : Bor (List ℕ)). part.now) (drop (i + 1) parts) in
    let part = (get_or parts i _).now in
    let at = next_stands c.args.text.now c.loop-part.start parts i _ c.loop-part-test.true c.loop-part.invariant.left in
    let cut : c.in_ok-slice.field-0 ≡ part = c.in_ok-slice.ensures ∙ ap (λ (text : List ℕ). slice_range text c.loop-part.start (c.loop-part.start + length part)) c.in_ok-copy.ensures ∙ at.is in
    let none = none_of c.in_ok-slice.field-0 part c.of.result cut c.of.ensures c.in_default.is in
    let before = subst (λ (left : List (List ℕ)). joined c.loop-part.names (names_in left) ≡ listed_names c.args.text.now) (next_part parts i _ c.loop-part-test.true) c.loop-part.invariant.names in
    no_name_taken c.loop-part.names part rest (listed_names c.args.text.now) none before

pub returns : goal.returns
returns c =
    let parts = c.as_slice-part-items.result.now in
    let none = drop_of_length-le parts c.loop-part-test.false in
    all_taken c.loop-part.names (listed_names c.args.text.now)
    (subst (λ (left : List (Bor (List ℕ))). joined c.loop-part.names (names_in (map (λ (part : Bor (List ℕ)). part.now) left)) ≡ listed_names c.args.text.now) none c.loop-part.invariant.names)
