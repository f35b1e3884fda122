-- Pages that stand one behind the other.
use Rattle.std.proofs.Common.{◌≡◌, ℕ, suc, ◌+◌, ◌<◌, ◌≤◌, Bool, true, false, List, [], ◌∷◌, Option, Some, length, get_or, drop, drop-cons, refl, sym, ap, ◌∙◌, arith}
use Rattle.std.specs.Prelude.{◌&&◌, ◌==◌, nat_le}
use Rattle.std.proofs.lemmas.Bool.Decides.{nat_tests}
use Rattle.arch_types.specs.declared.key.Key.{Key}
use Rattle.run_pages.specs.Index.{are_joined, is_above_last}
use Rattle.run_pages.specs.declared.index.PageEntry.{PageEntry}

pub both_true : (a b : Bool) → (a && b) ≡ true → (a ≡ true) × (b ≡ true)
both_true true b e = (refl, e)
both_true false b e = absurd cc

-- they end no earlier than they begin
pub joined_forward : (at end : ℕ) (last : Option Key) (entries : List PageEntry) → are_joined at end last entries ≡ true → at ≤ end
joined_forward at end last [] e = grind (arith, nat_tests)
joined_forward at end last (entry ∷ entries) e =
    let a = both_true (entry.at == at) _ e in
    let b = both_true (nat_le 1 entry.len) _ a.1 in
    let d = both_true (is_above_last last entry.first) _ b.1 in
    omega (arith, joined_forward (at + entry.len) end (Some entry.first) entries d.1)

decided : (b : Bool) → (b ≡ true → ⊥) → b ≡ false
decided true none = absurd (none refl)
decided false none = refl

-- a page that ends behind the last place isn't joined to any end
pub passes : (at end : ℕ) (last : Option Key) (entries : List PageEntry) (i : ℕ) (d : PageEntry) → i < length entries → end < at + (get_or entries i d).len → are_joined at end last (drop i entries) ≡ false
passes at end last entries i d lt past = decided (are_joined at end last (drop i entries)) (λ e.
    let entry : PageEntry = get_or entries i d in
    let more : are_joined at end last (entry ∷ drop (suc i) entries) ≡ true = ap (are_joined at end last) (sym (drop-cons entries i d lt)) ∙ e in
    let a = both_true (entry.at == at) _ more in
    let b = both_true (nat_le 1 entry.len) _ a.1 in
    let c = both_true (is_above_last last entry.first) _ b.1 in
    absurd (omega (arith, joined_forward (at + entry.len) end (Some entry.first) (drop (suc i) entries) c.1, past)))
