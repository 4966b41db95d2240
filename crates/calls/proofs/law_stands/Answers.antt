use Rattle.calls.proofs.Steps.{law_of_runs}
use Rattle.calls.proofs.law_stands.Goals as goal

pub returns : goal.returns
returns c = law_of_runs
