use Rattle.std.proofs.Common.{◌≡◌, ◌∙◌, ◌<◌, ◌+◌, ◌++◌, ◌∷◌, ℕ, List, [], length, Some, refl, ap, sym, subst, arith, length-append}
use Rattle.std.specs.Prelude.{slice_get}
use Rattle.std.proofs.lemmas.Option.{slice_get_read}
use Rattle.mdb_lookups.specs.NumberedChildren.{AreByNumber}
use Rattle.mdb_lookups.proofs.ByNumber.{AreOwn, one_more_list}
use Rattle.mdb_lookups.proofs.numbered_children.numbered_children.Goals as goal

pub loop-own-preserved : goal.loop-own-preserved
loop-own-preserved c =
    let lists = c.args.children.now in
    let conditions = c.args.conditions.now in
    let i = c.loop-own.own-index in
    let own = c.own-item.result in
    let all = c.loop-own.all.items in
    let made = c.in_ok-by_number.field-0 in
    let count : length all ≡ i = c.loop-own.invariant.0 in
    let lt : i < length lists = omega arith in
    let at = slice_get_read lists (length lists) i own refl lt c.own-item.is in
    let by = subst (λ (xs : List ℕ). AreByNumber conditions xs made) c.as_slice.ensures c.in_ok-by_number.ensures in
    let grown : c.push.new.self.items ≡ all ++ made ∷ [] = c.in_ok-push.ensures.items in (
      ap length grown ∙ length-append all (made ∷ []) ∙ ap (λ (n : ℕ). n + 1) count,
      subst (AreOwn conditions lists) (sym grown) (one_more_list conditions lists all made own c.loop-own.invariant.1 (subst (λ (n : ℕ). slice_get lists n ≡ Some own) (sym count) at) by),
    )
