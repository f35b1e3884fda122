use Rattle.std.proofs.Common.{subst, sym}
use Rattle.container_extract.specs.Laws.{AreRawValues}
use Rattle.container_extract.proofs.Extracting.{raw_extraction_keeps_rules}
use Rattle.container_extract.proofs.raw_extraction.Extractor.extract.Goals as goal

pub returns : goal.returns
returns g c = record {
  step = c.tick.ensures;
  chain = c.walk.ensures.chain;
  values = c.walk.ensures.values;
  rules = subst (AreRawValues c.args.mdb.now) (sym c.walk.ensures.values) (raw_extraction_keeps_rules c.args.mdb.now c.args.packet.now c.is_sound.ensures);
}
