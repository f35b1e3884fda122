use Rattle.std.proofs.Common.{◌∙◌, ◌++◌, ℕ, length, Option, Some, refl, ap, sym}
use Rattle.std.proofs.lemmas.Option.{slice_get_read}
use Rattle.std.proofs.lemmas.Result.{on_ok_weaker}
use Rattle.mdb_lookups.specs.Children.{if_parent}
use Rattle.mdb_lookups.proofs.Families.{written}
use Rattle.mdb_lookups.proofs.children.adopt.Goals as goal

pub returns-in-Some-clause-each : goal.returns-in-Some-clause-each
returns-in-Some-clause-each c =
    let lists = c.args.children.now.items in
    let p = c.in-Some.parent in
    let k = c.args.number in
    let lt = c.requires p c.in-Some.is in
    let there = slice_get_read lists (length lists) p c.index_mut.result.now refl lt c.index_mut.ensures.value in
    on_ok_weaker c.push.result
    (λ pushed. λ n xs here.
    written lists p k n c.index_mut.result.now c.push.new.self xs there pushed here ∙ ap (λ (o : Option ℕ). Some (xs ++ if_parent n o k)) (sym c.in-Some.is))
    c.push.ensures.ok
