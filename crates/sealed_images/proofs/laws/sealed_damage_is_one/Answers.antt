use Rattle.sealed_images.proofs.DamageOnce.{image_damage_once}
use Rattle.sealed_images.proofs.laws.sealed_damage_is_one.Goals as goal

pub returns : goal.returns
returns c = image_damage_once
