-- Where none of eight letters is marked, in `live::state::count_some`.
use Rattle.live.proofs.StateSteps.{none-counted}
use Rattle.live.proofs.state.count_some.Goals as goal

pub returns-else-join_eight-ne0 : goal.returns-else-join_eight-ne0
returns-else-join_eight-ne0 c = let a = c.args in none-counted a.marks.now a.state.now a.from _ c.join_eight.ensures c.if-join_eight-ne0.false
