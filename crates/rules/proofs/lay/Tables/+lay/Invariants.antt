-- Measures of `lay` of `rules::lay`, which calls itself.
use Rattle.rules.proofs.lay.Tables.+lay.Given as goal

abbrev pub decreases-lay : goal.decreases-lay
decreases-lay l = l.node
