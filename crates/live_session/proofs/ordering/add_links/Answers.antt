use Rattle.std.proofs.Common.{◌≡◌, ◌∙◌, ◌++◌, ◌∷◌, [], List, length, refl, sym, ap, arith, append-nil, append_assoc, length-append}
use Rattle.live_session.specs.declared.order.Order.{Order}
use Rattle.live_session.specs.declared.order.Order.TheVariants as Ordered
use Rattle.live_session.proofs.Adding.{links_more}
use Rattle.live_session.proofs.ordering.add_links.Goals as goal

pub loop-source-init : goal.loop-source-init
loop-source-init g c =
    let gives : c.into_iter-source-iterator.result.rest.items ≡ c.args.sources.items = let s = c.into_iter-source-iterator.ensures.into_iter_gives in cc in
    let many = ap length gives in
    let sources = c.args.sources.ok in
    let senders = c.requires.senders in
    let high = c.requires.links in
    record {
      added = ([], [], sym gives, sym (append-nil c.args.orders.now.items), tt, omega arith);
      senders = omega (arith, many, sources, senders);
      few = omega (arith, many, sources, high);
      count = omega (arith, many, sources);
      capacity = refl;
    }

pub loop-source-preserved : goal.loop-source-preserved
loop-source-preserved g c =
    let step : c.loop-source.source-iterator.rest.items ≡ c.in-Some.source ∷ c.next.new.self.rest.items = let s = c.in-Some.ensures.steps in cc in
    let inv = c.loop-source.invariant in
    let many = ap length step in
    let had = inv.added in
    let source = c.in-Some.source in
    let rest = c.next.new.self.rest.items in
    let orders = c.args.orders.now.items in
    let order = Ordered.Link c.loop-source.link source c.in-Some-pop.wake in
    let counted = had.5 in
    let longer = length-append had.0 (source ∷ []) in
    record {
      added = (
        had.0 ++ source ∷ [],
        had.1 ++ order ∷ [],
        had.2 ∙ (ap (λ (l : List g.row.S.Denot). had.0 ++ l) step ∙ sym (append_assoc had.0 (source ∷ []) rest)),
        c.push_reserved.ensures.items ∙ (ap (λ (l : List (Order g.row.S.Denot)). l ++ order ∷ []) had.3 ∙ append_assoc orders had.1 (order ∷ [])),
        links_more c.args.link had.0 had.1 c.loop-source.link source order counted (refl, refl) had.4,
        omega (arith, counted, longer),
      );
      senders = let n = inv.senders in let p = c.in-Some-pop.ensures.cases in omega (arith, n, p, many);
      few = let n = inv.few in omega (arith, n, many);
      count = let n = inv.count in let l = c.push_reserved.ensures.len in omega (arith, n, l, many);
      capacity = let k = c.push_reserved.ensures.capacity in let m = inv.capacity in omega (arith, k, m);
    }
