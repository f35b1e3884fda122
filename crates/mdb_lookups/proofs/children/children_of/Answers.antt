use Rattle.std.proofs.Common.{◌≡◌, ◌∙◌, ◌<◌, ◌++◌, ◌∷◌, ℕ, List, [], length, refl, ap, arith}
use Rattle.std.proofs.lemmas.Option.{slice_get_read}
use Rattle.mdb_lookups.proofs.Families.{has_list, one_more}
use Rattle.mdb_lookups.proofs.children.children_of.Goals as goal

pub adopt-requires : goal.adopt-requires
adopt-requires c = λ p is.
    let cs = c.args.containers.now in
    let i = c.loop-i.i in
    let k = c.index-containers-i.result in
    let lt : i < length cs = omega arith in
    let at = slice_get_read cs (length cs) i k refl lt c.index-containers-i.is in
    let grown : c.push.new.self.items ≡ c.loop-i.children.items ++ [] ∷ [] = c.in_ok-push.ensures.items ∙ ap (λ (xs : List ℕ). c.loop-i.children.items ++ xs ∷ []) c.new.ensures in
    has_list cs i k c.loop-i.children.items c.push.new.self.items p c.requires.earlier at c.loop-i.invariant grown is

pub loop-i-preserved : goal.loop-i-preserved
loop-i-preserved c =
    let cs = c.args.containers.now in
    let i = c.loop-i.i in
    let k = c.index-containers-i.result in
    let lt : i < length cs = omega arith in
    let at = slice_get_read cs (length cs) i k refl lt c.index-containers-i.is in
    let grown : c.push.new.self.items ≡ c.loop-i.children.items ++ [] ∷ [] = c.in_ok-push.ensures.items ∙ ap (λ (xs : List ℕ). c.loop-i.children.items ++ xs ∷ []) c.new.ensures in
    one_more cs i k c.loop-i.children.items c.push.new.self.items c.adopt.new.children.items c.requires.earlier at c.loop-i.invariant grown c.in_ok-adopt.ensures.count c.in_ok-adopt.ensures.each
