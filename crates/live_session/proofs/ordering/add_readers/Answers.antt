use Rattle.std.proofs.Common.{◌++◌, ◌∷◌, [], List, ◌∙◌, ap, map, arith, append_assoc}
use Rattle.std.specs.List.{range_with_len}
use Rattle.live_session.specs.declared.order.Order.{Order}
use Rattle.live_session.specs.declared.order.Order.TheVariants as Ordered
use Rattle.live_session.proofs.Adding.{readers_more}
use Rattle.live_session.proofs.ordering.add_readers.Goals as goal

pub loop-before-preserved : goal.loop-before-preserved
loop-before-preserved g c =
    let inv = c.loop-before.invariant in
    let n = c.loop-before.before in
    let order = Ordered.Reader n in
    let orders = c.args.orders.now.items in
    record {
      added = c.push_reserved.ensures.items
          ∙ (ap (λ (l : List (Order g.row.S.Denot)). l ++ order ∷ []) inv.added
          ∙ (append_assoc orders (map (λ m. Ordered.Reader m) (range_with_len 0 n)) (order ∷ []) ∙ ap (λ (l : List (Order g.row.S.Denot)). orders ++ l) (readers_more n)));
      count = let l = c.push_reserved.ensures.len in let m = inv.count in omega (arith, l, m);
      capacity = let k = c.push_reserved.ensures.capacity in let m = inv.capacity in omega (arith, k, m);
    }
