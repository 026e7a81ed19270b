use Rattle.estate.proofs.Examples.{examples_hold}
use Rattle.estate.proofs.worked_examples.Goals as goal

pub returns-clause-hold : goal.returns-clause-hold
returns-clause-hold c = examples_hold
