use Rattle.std.proofs.Common.{◌≡◌, ◌+◌, ◌∙◌, ◌<◌, ◌≤◌, List, [], length, take, drop, get_or, Bor, ℕ, sym, subst, arith}
use Rattle.std.proofs.lemmas.List.{length-map, take_all}
use Rattle.std.proofs.lemmas.Result.{err_from_is_err_and}
use Rattle.command_plans.specs.Sources.{AreNewSources, GaveSources, WereNotOpened}
use Rattle.command_plans.proofs.Sources.{gave_more, gave_none, names_at, names_count, names_more, names_of, new_source, not_opened, unopened_without_memory, were_opened}
use Rattle.command_plans.proofs.opening.open_all.Goals as goal

-- what stands for a name behind the last one
abbrev nobody : Bor (List ℕ)
nobody = record { ref_ptr = (0, 0); now = [] }

pub loop-name-init : goal.loop-name-init
loop-name-init g c =
    let a = g.I.Inputs.state c.args.inputs.now in record {
      gave = gave_none a;
      are_new = subst (AreNewSources g.I.Source.Source.state a []) (sym c.in_ok-sources.ensures.items) tt;
      count = c.in_ok-sources.ensures.len;
      room = let room = c.in_ok-sources.ensures.exact in omega (arith, room);
    }

pub loop-name-preserved : goal.loop-name-preserved
loop-name-preserved g c =
    let state = g.I.Inputs.state in
    let source = g.I.Source.Source.state in
    let a = state c.args.inputs.now in
    let m = state c.loop-name.inputs in
    let names = c.args.names.now in
    let i = c.loop-name.name-index in
    let name = (get_or names i nobody).now in
    let lt : i < length names = c.loop-name-test.true in
    let here = c.loop-name.invariant in
    let given = c.in-Ok.ensures in
    record {
      gave = gave_more a m (state c.open.new.self) i here.gave given.same given.gave given.counted given.reliable;
      are_new = new_source source a m i (names_of (take i names)) (names_of (take (i + 1) names)) c.loop-name.sources.items c.push_reserved.new.self.items name c.in-Ok.source here.gave here.are_new given.found
          given.fresh given.reliable_source (names_more names i nobody lt) c.push_reserved.ensures.items;
      count = let n = here.count in let l = c.push_reserved.ensures.len in omega (arith, n, l);
      room = let r = here.room in let k = c.push_reserved.ensures.capacity in omega (arith, r, k);
    }

pub returns-in_err-sources : goal.returns-in_err-sources
returns-in_err-sources g c =
    let p = err_from_is_err_and c.from_residual.result c.from_residual.ensures.1 in
    let same = length-map c.args.names.now (λ (name : Bor (List ℕ)). name.now) in
    rw (p.1, p.2) (record {
      opened = tt;
      refused = unopened_without_memory (names_of c.args.names.now) (g.I.Inputs.state c.args.inputs.now) (λ none. cc (c.in_err-sources.ensures.succeeds (sym same ∙ none)));
    })

pub returns-in-Err : goal.returns-in-Err
returns-in-Err g c =
    let state = g.I.Inputs.state in
    let source = g.I.Source.Source.state in
    let a = state c.args.inputs.now in
    let m = state c.loop-name.inputs in
    let b = state c.close_all.new.inputs in
    let names = c.args.names.now in
    let i = c.loop-name.name-index in
    let name = (get_or names i nobody).now in
    let done = names_of (take i names) in
    let lt : i < length names = c.loop-name-test.true in
    let le : i ≤ length names = omega (arith, lt) in
    let here = c.loop-name.invariant in
    let e = c.in-Err.ensures in
    let gave = subst (GaveSources a m) (names_count names i le) here.gave in record {
      opened = tt;
      refused = subst (λ (l : List (List ℕ)). WereNotOpened l a b c.refusal_of_opening.result) (sym (names_at names i nobody lt))
          (not_opened source done c.loop-name.sources.items a m (state c.open.new.self) b gave here.are_new e.same e.gave_none e.reliable c.close_all.ensures name (names_of (drop (i + 1) names)) _ c.in-Err.fault
          c.refusal_of_opening.result e.missing c.refusal_of_opening.ensures e.later e.counted);
    }

pub returns : goal.returns
returns g c =
    let state = g.I.Inputs.state in
    let source = g.I.Source.Source.state in
    let a = state c.args.inputs.now in
    let m = state c.loop-name.inputs in
    let names = c.args.names.now in
    let i = c.loop-name.name-index in
    let here = c.loop-name.invariant in
    let most = c.loop-name.auto.name-index-end in
    let least = c.loop-name-test.false in
    let many = length-map names (λ (name : Bor (List ℕ)). name.now) in
    let all : i ≡ length (names_of names) = omega (arith, most, least, many) in record {
      opened = were_opened source (names_of names) c.loop-name.sources.items a m i all here.gave
          (subst (λ (l : List (Bor (List ℕ))). AreNewSources source a (names_of l) c.loop-name.sources.items) (take_all i names least) here.are_new);
      refused = tt;
    }
