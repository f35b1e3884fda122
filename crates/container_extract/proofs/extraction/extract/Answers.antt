-- The one chain is a chain, and an extraction is the raw one calibrated.
use Rattle.std.proofs.Common.{◌∙◌, ap, map, sym, subst}
use Rattle.std.specs.List.{All}
use Rattle.std.proofs.lemmas.List.Elements.{All-from_recursion}
use Rattle.container_extract.specs.Chain.{IsChain}
use Rattle.container_extract.specs.Extraction.{raw_extraction}
use Rattle.container_extract.specs.Values.{IsRawValue, calibrated_value}
use Rattle.container_extract.proofs.Chains.{chain_is_one}
use Rattle.container_extract.proofs.Extracting.{extraction_is_calibrated, raw_extraction_keeps_rules}
use Rattle.container_extract.proofs.extraction.extract.Goals as goal

pub calibrated_values-requires : goal.calibrated_values-requires
calibrated_values-requires g c =
    let db = c.args.mdb.now in
    let packet = c.args.packet.now in
    let each = All-from_recursion (IsRawValue db) (raw_extraction db packet) (raw_extraction_keeps_rules db packet c.is_sound.ensures).each in
    subst (All (IsRawValue db)) (sym (c.as_slice.ensures.value ∙ c.walk.ensures.values)) each

pub returns-clause-chain : goal.returns-clause-chain
returns-clause-chain g c =
    let db = c.args.mdb.now in
    let packet = c.args.packet.now in
    subst (IsChain db packet) (sym (c.from_vec.ensures ∙ c.walk.ensures.chain)) (chain_is_one db packet c.is_sound.ensures).0

pub returns-clause-values : goal.returns-clause-values
returns-clause-values g c =
    let db = c.args.mdb.now in
    let packet = c.args.packet.now in
    c.in_ok-values.ensures ∙ ap (map (calibrated_value db)) (c.as_slice.ensures.value ∙ c.walk.ensures.values) ∙ sym (extraction_is_calibrated db packet)
