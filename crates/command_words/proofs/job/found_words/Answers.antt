use Rattle.command_words.specs.declared.job.CommandName.TheVariants.{Scan, Values, Create, Query, Recover, Verify, Make}
use Rattle.command_words.proofs.Simple.{free, simple}
use Rattle.command_words.proofs.job.found_words.Goals as goal

pub read_arguments-requires : goal.read_arguments-requires
read_arguments-requires c = record { simple = simple Scan; free = free Scan }

pub read_arguments-requires-in-Values : goal.read_arguments-requires-in-Values
read_arguments-requires-in-Values c = record { simple = simple Values; free = free Values }

pub read_arguments-requires-in-Create : goal.read_arguments-requires-in-Create
read_arguments-requires-in-Create c = record { simple = simple Create; free = free Create }

pub read_arguments-requires-in-Query : goal.read_arguments-requires-in-Query
read_arguments-requires-in-Query c = record { simple = simple Query; free = free Query }

pub read_arguments-requires-in-Recover : goal.read_arguments-requires-in-Recover
read_arguments-requires-in-Recover c = record { simple = simple Recover; free = free Recover }

pub read_arguments-requires-in-Verify : goal.read_arguments-requires-in-Verify
read_arguments-requires-in-Verify c = record { simple = simple Verify; free = free Verify }

pub read_arguments-requires-in-Make : goal.read_arguments-requires-in-Make
read_arguments-requires-in-Make c = record { simple = simple Make; free = free Make }

pub returns-in-Values : goal.returns-in-Values
returns-in-Values c = rw c.in-Values.is (record { found = c.read_arguments-in-Values.ensures.found; none = c.read_arguments-in-Values.ensures.none })

pub returns-in-Create-clause-none : goal.returns-in-Create-clause-none
returns-in-Create-clause-none c = rw c.in-Create.is c.read_arguments-in-Create.ensures.none

pub returns-in-Load : goal.returns-in-Load
returns-in-Load c = rw c.in-Load.is (record { found = c.found_of_load.ensures.found; none = c.found_of_load.ensures.none })

pub returns-in-Make-clause-none : goal.returns-in-Make-clause-none
returns-in-Make-clause-none c = rw c.in-Make.is c.read_arguments-in-Make.ensures.none
