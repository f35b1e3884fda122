use Rattle.std.proofs.Common.{true≢false, refl, sym, ◌∙◌, subst}
use Rattle.archive_images.specs.Moments.{MayFollow}
use Rattle.sealed_opening.proofs.ZeroTaken.{made_some, no_seal_more}
use Rattle.sealed_opening.proofs.zero.ZeroRecords.with_seal.Goals as goal

pub may_stand-requires : goal.may_stand-requires
may_stand-requires c = record { kept = c.requires.kept; fits = c.requires.fits }

pub returns-then-not-may_stand-clause-none : goal.returns-then-not-may_stand-clause-none
returns-then-not-may_stand-clause-none c = no_seal_more c.args.self c.args.seal c.requires.fits (λ some follows. true≢false (sym (c.may_stand.ensures.no some follows) ∙ c.if-not-may_stand.true))

pub returns-clause-taken : goal.returns-clause-taken
returns-clause-taken c =
    let some = made_some c.args.self.made (c.may_stand.ensures.made c.if-not-may_stand.false) in
    record {
      seal = c.args.seal;
      filled = some.0;
      archive_is = some.1;
      body_is = refl;
      follows = c.may_stand.ensures.follows c.if-not-may_stand.false;
      seals_are = c.in_ok-push.ensures.items;
      same = refl;
    }

pub returns-clause-kept : goal.returns-clause-kept
returns-clause-kept c = record { base = c.requires.kept.base; follow = subst MayFollow (sym c.in_ok-push.ensures.items) (c.may_stand.ensures.follows c.if-not-may_stand.false) }
