use Rattle.std.proofs.Common.{inl, inr, List, ℕ, sym, subst}
use Rattle.archive_images.specs.SealFiles.{seal_record}
use Rattle.sealed_images.specs.Damage.{FollowsInZero}
use Rattle.sealed_images.specs.Records.{CanFollow}
use Rattle.sealed_opening.specs.Zero.{IsEntryTaken, IsSealTaken, IsTakenInZero, zero_said}
use Rattle.sealed_opening.proofs.Answered.{none_as, some_as}
use Rattle.sealed_opening.proofs.zero.ZeroRecordsRecordRules.take.Goals as goal

pub returns-in-Some-clause-taken : goal.returns-in-Some-clause-taken
returns-in-Some-clause-taken c =
    let found = rw c.in-Some.is at c.in_ok-found.ensures.some in
    some_as c.with_seal.result (IsSealTaken c.args.self (seal_record c.in-Some.seal)) (IsTakenInZero c.args.self c.args.body.now) (λ now t. inr (subst (λ (b : List ℕ). IsSealTaken c.args.self b now) (sym found.1) t)) c.with_seal.ensures.taken

pub returns-in-Some-clause-none : goal.returns-in-Some-clause-none
returns-in-Some-clause-none c =
    let found = rw c.in-Some.is at c.in_ok-found.ensures.some in
    none_as c.with_seal.result (CanFollow FollowsInZero (zero_said c.args.self) (seal_record c.in-Some.seal) → ⊥) (CanFollow FollowsInZero (zero_said c.args.self) c.args.body.now → ⊥)
    (λ no can. no (subst (CanFollow FollowsInZero (zero_said c.args.self)) found.1 can)) c.with_seal.ensures.none

pub returns-in-None-clause-taken : goal.returns-in-None-clause-taken
returns-in-None-clause-taken c =
    some_as c.with_entry.result (IsEntryTaken c.args.self c.args.body.now) (IsTakenInZero c.args.self c.args.body.now) (λ now t. inl t) c.with_entry.ensures.taken

pub with_seal-requires : goal.with_seal-requires
with_seal-requires c = let found = rw c.in-Some.is at c.in_ok-found.ensures.some in record { kept = c.requires; fits = found.0 }

pub with_entry-requires : goal.with_entry-requires
with_entry-requires c = let none = rw c.in-None.is at c.in_ok-found.ensures.none in record { kept = c.requires; no_seal = none }
