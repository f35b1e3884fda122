use Rattle.std.proofs.Common.{◌≡◌, ap, subst}
use Rattle.field_codec.specs.declared.entry.Entry.TheVariants as entries
use Rattle.field_codec.specs.Entries.{IsArchiveEntry}
use Rattle.field_codec.specs.Spelling.{entry_octets}
use Rattle.param_segments.specs.Extracted.{IsSetOf}
use Rattle.param_segments.specs.Octets.{rows_in_octets, set_octets}
use Rattle.store_fills.specs.Built.{BuiltFill}
use Rattle.store_fills.specs.LastFills.{fill_over}
use Rattle.store_fills.proofs.filled.Filled.into_parts.Goals as goal

pub returns-clause-frame : goal.returns-clause-frame
returns-clause-frame c = subst (λ (f : BuiltFill). c.self.inside.frame ≡ entry_octets (entries.Fill f.interval f.base (set_octets f.set))) c.self.view_is c.self.invariant.frame_is

pub returns-clause-fits : goal.returns-clause-fits
returns-clause-fits c = subst (λ (f : BuiltFill). IsArchiveEntry (entries.Fill f.interval f.base (set_octets f.set))) c.self.view_is c.self.invariant.fits

pub returns-clause-fill : goal.returns-clause-fill
returns-clause-fill c = ap (λ (f : BuiltFill). fill_over f.base f.set) c.self.view_is

pub returns-clause-value : goal.returns-clause-value
returns-clause-value c = subst (λ (f : BuiltFill). rows_in_octets (set_octets f.set) ≡ f.set) c.self.view_is c.self.invariant.set_is

pub returns-clause-inside : goal.returns-clause-inside
returns-clause-inside c = subst (λ (f : BuiltFill). IsSetOf f.mdb f.exponent f.interval.0 f.set) c.self.view_is c.self.invariant.inside
