use Rattle.std.proofs.Common.{◌≡◌, ◌∙◌, ◌++◌, ap, sym, rules, map, List, true, false}
use Rattle.std.specs.List.{list_all}
use Rattle.std.proofs.lemmas.List.{take_all}
use Rattle.mdb_items.specs.declared.container.ParameterEntry.{ParameterEntry}
use Rattle.container_extract.specs.Values.{fits, raw_value_of}
use Rattle.container_extract.proofs.Taking.{cut_here}
use Rattle.container_extract.proofs.Walk.{take_while_all}
use Rattle.container_extract.proofs.entries.take_entries.Goals as goal

pub returns-then-not-fits-clause-taken : goal.returns-then-not-fits-clause-taken
returns-then-not-fits-clause-taken c =
    let d : ParameterEntry = record { parameter = 0; at = 0 } in
    let p = fits c.args.mdb.now c.args.packet.now in
    let isnt : c.fits.result ≡ false = search rules in
    let cut = cut_here p c.args.entries.now c.loop-entry.entry-index d c.loop-entry-test.true c.loop-entry.invariant.fit (sym c.fits.ensures ∙ isnt) in
    c.loop-entry.invariant.kept ∙ ap (λ (es : List ParameterEntry). c.args.values.now.items ++ map (raw_value_of c.args.mdb.now c.args.packet.now) es) (sym cut)

pub returns-clause-taken : goal.returns-clause-taken
returns-clause-taken c =
    let p = fits c.args.mdb.now c.args.packet.now in
    let whole = take_all c.loop-entry.entry-index c.args.entries.now c.loop-entry-test.false in
    let all : list_all p c.args.entries.now ≡ true = ap (list_all p) (sym whole) ∙ c.loop-entry.invariant.fit in
    c.loop-entry.invariant.kept ∙ ap (λ (es : List ParameterEntry). c.args.values.now.items ++ map (raw_value_of c.args.mdb.now c.args.packet.now) es) (whole ∙ sym (take_while_all p c.args.entries.now all))
