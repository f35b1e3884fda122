use Rattle.std.proofs.Common.{inr, refl, arith}
use Rattle.arch_types.specs.declared.row_fault.RowFault.TheVariants.{OutOfMemory}
use Rattle.archive_store.specs.UnreadRows.{IsLeftByRefusal, ReadsRows}
use Rattle.live_archive.proofs.Retrieved.{answered_in, steps_within, values_of_plan}
use Rattle.live_archive.specs.Retrievals.{IsAnswerIn, IsNotAnswered}
use Rattle.live_archive.proofs.Turning.{handed_on, turn_says}
use Rattle.live_archive.proofs.retrieving.LiveOver+HeldStore+D.retrieve.Goals as goal

pub returns-in_err-planned-clause-turn : goal.returns-in_err-planned-clause-turn
returns-in_err-planned-clause-turn g c =
    let refusal = c.in_err-planned.field-0.0 in
    turn_says g.D.Disk.device c.in_err-planned.ensures.turn (λ before after said. (
      handed_on c.from_residual.result refusal (λ _. ReadsRows g.D.Disk.device before after) (IsLeftByRefusal g.D.Disk.device before after) c.from_residual.ensures.1 said.0,
      handed_on c.from_residual.result refusal (IsAnswerIn g.D.Disk.device before c.args.request) (IsNotAnswered g.D.Disk.device before after c.args.request) c.from_residual.ensures.1 said.1,
      λ _. omega arith,
    ))

pub answer-requires : goal.answer-requires
answer-requires g c =
    let turn = c.in_ok-planned.ensures.turn in
    record { values = values_of_plan g.D.Disk.device turn.before c.args.request c.in_ok-planned.planned turn.said.1 }

pub returns-in-Ok-clause-turn : goal.returns-in-Ok-clause-turn
returns-in-Ok-clause-turn g c =
    let planned = c.in_ok-planned.planned in
    turn_says g.D.Disk.device c.in_ok-planned.ensures.turn (λ before after said. (
      said.0,
      answered_in g.D.Disk.device before c.args.request planned said.1 c.in-Ok.answer c.in-Ok.ensures.front c.in-Ok.ensures.cells,
      λ told. steps_within g.D.Disk.device before c.args.request planned said.1 told _ _ c.in-Ok.ensures.steps,
    ))

pub returns-clause-turn : goal.returns-clause-turn
returns-clause-turn g c =
    turn_says g.D.Disk.device c.in_ok-planned.ensures.turn (λ before after said. (
      said.0,
      inr (OutOfMemory, tt, refl),
      λ told. steps_within g.D.Disk.device before c.args.request c.in_ok-planned.planned said.1 told _ _ c.answer.ensures.steps,
    ))
