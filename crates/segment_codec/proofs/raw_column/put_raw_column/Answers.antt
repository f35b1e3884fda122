use Rattle.std.proofs.Common.{◌≡◌, ◌∙◌, ◌++◌, ◌∷◌, ℕ, ℤ, pos, List, get_or, refl, ap, sym, subst, rules, arith, FitsSigned}
use Rattle.std.specs.Prelude.{◌-ℤ◌, fold}
use Rattle.std.specs.Int.{w128, int_max, int_min}
use Rattle.std.specs.Int.RustNames.{unsigned_abs}
use Rattle.std.proofs.lemmas.Int.{to_z-of_z}
use Rattle.std.proofs.lemmas.Result.{on_ok_weaker}
use Rattle.octet_fields.specs.Spelling.{signed}
use Rattle.segment_codec.specs.RawColumn.{greatest, offsets_from, packed_column}
use Rattle.segment_codec.proofs.Written.{front_is, same_column, top_of, varied_column}
use Rattle.segment_codec.proofs.raw_column.put_raw_column.Goals as goal

pub returns-then-top-eq0 : goal.returns-then-top-eq0
returns-then-top-eq0 c =
    let values = c.args.values.now in
    let others = c.split_at.result.1.now in
    let out = c.args.out.now.items in
    let head = get_or values 0 (pos 0) in
    let fits : FitsSigned w128 head = search rules in
    let m = to_z-of_z w128 head fits in
    let low = c.least_and_greatest-low.result.0 in
    let high = c.least_and_greatest-low.result.1 in
    let low_fits : FitsSigned w128 low = search rules in
    let high_fits : FitsSigned w128 high = search rules in
    let n = to_z-of_z w128 low low_fits in
    let split : values ≡ head ∷ others = front_is values c.requires ∙ ap (λ (xs : List ℤ). head ∷ xs) (sym c.split_at.ensures.back) in
    let least : low ≡ fold int_min head others = subst (λ (z : ℤ). low ≡ fold int_min z others) m c.least_and_greatest-low.ensures.low in
    let most : high ≡ fold int_max head others = subst (λ (z : ℤ). high ≡ fold int_max z others) m c.least_and_greatest-low.ensures.high in
    let apart : c.abs_diff-top.result ≡ unsigned_abs (high -ℤ low) = simp to_z-of_z at c.abs_diff-top.ensures in
    let top : c.abs_diff-top.result ≡ greatest (offsets_from low values) = apart ∙ sym (top_of values head others low high split least most) in
    let none : greatest (offsets_from low values) ≡ 0 = sym top ∙ omega (arith, c.if-top-eq0.true) in
    on_ok_weaker c.put_same.result (λ d. subst (λ (z : ℤ). c.put_same.new.out.items ≡ out ++ (0 ∷ signed w128 z)) m d ∙ ap (λ (xs : List ℕ). out ++ xs) (sym (same_column values head others low (offsets_from low values) split least refl none))) c.put_same.ensures

pub put_varied-requires : goal.put_varied-requires
put_varied-requires c =
    let values = c.args.values.now in
    let others = c.split_at.result.1.now in
    let out = c.args.out.now.items in
    let head = get_or values 0 (pos 0) in
    let fits : FitsSigned w128 head = search rules in
    let m = to_z-of_z w128 head fits in
    let low = c.least_and_greatest-low.result.0 in
    let high = c.least_and_greatest-low.result.1 in
    let low_fits : FitsSigned w128 low = search rules in
    let high_fits : FitsSigned w128 high = search rules in
    let n = to_z-of_z w128 low low_fits in
    let split : values ≡ head ∷ others = front_is values c.requires ∙ ap (λ (xs : List ℤ). head ∷ xs) (sym c.split_at.ensures.back) in
    let least : low ≡ fold int_min head others = subst (λ (z : ℤ). low ≡ fold int_min z others) m c.least_and_greatest-low.ensures.low in
    let most : high ≡ fold int_max head others = subst (λ (z : ℤ). high ≡ fold int_max z others) m c.least_and_greatest-low.ensures.high in
    let apart : c.abs_diff-top.result ≡ unsigned_abs (high -ℤ low) = simp to_z-of_z at c.abs_diff-top.ensures in
    let top : c.abs_diff-top.result ≡ greatest (offsets_from low values) = apart ∙ sym (top_of values head others low high split least most) in
    subst (λ (z : ℤ). c.abs_diff-top.result ≡ greatest (offsets_from z values)) (sym n) top

pub returns : goal.returns
returns c =
    let values = c.args.values.now in
    let others = c.split_at.result.1.now in
    let out = c.args.out.now.items in
    let head = get_or values 0 (pos 0) in
    let fits : FitsSigned w128 head = search rules in
    let m = to_z-of_z w128 head fits in
    let low = c.least_and_greatest-low.result.0 in
    let high = c.least_and_greatest-low.result.1 in
    let low_fits : FitsSigned w128 low = search rules in
    let high_fits : FitsSigned w128 high = search rules in
    let n = to_z-of_z w128 low low_fits in
    let split : values ≡ head ∷ others = front_is values c.requires ∙ ap (λ (xs : List ℤ). head ∷ xs) (sym c.split_at.ensures.back) in
    let least : low ≡ fold int_min head others = subst (λ (z : ℤ). low ≡ fold int_min z others) m c.least_and_greatest-low.ensures.low in
    let most : high ≡ fold int_max head others = subst (λ (z : ℤ). high ≡ fold int_max z others) m c.least_and_greatest-low.ensures.high in
    let apart : c.abs_diff-top.result ≡ unsigned_abs (high -ℤ low) = simp to_z-of_z at c.abs_diff-top.ensures in
    let top : c.abs_diff-top.result ≡ greatest (offsets_from low values) = apart ∙ sym (top_of values head others low high split least most) in
    let some : greatest (offsets_from low values) ≡ 0 → ⊥ = λ e. let z : c.abs_diff-top.result ≡ 0 = top ∙ e in let f = c.if-top-eq0.false in omega (arith, z, f) in
    on_ok_weaker c.put_varied.result (λ d. subst (λ (z : ℤ). c.put_varied.new.out.items ≡ out ++ packed_column z (offsets_from z values)) n d ∙ ap (λ (xs : List ℕ). out ++ xs) (sym (varied_column values head others low (offsets_from low values) split least refl some))) c.put_varied.ensures
