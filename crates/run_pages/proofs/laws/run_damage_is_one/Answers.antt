use Rattle.run_pages.proofs.DamageOnce.{damage_once}
use Rattle.run_pages.proofs.laws.run_damage_is_one.Goals as goal

pub returns : goal.returns
returns c = damage_once
