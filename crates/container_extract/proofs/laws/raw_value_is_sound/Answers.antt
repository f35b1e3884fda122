use Rattle.container_extract.proofs.Extracting.{raw_value_is_sound}
use Rattle.container_extract.proofs.laws.raw_value_is_sound.Goals as goal

pub returns : goal.returns
returns c = raw_value_is_sound
