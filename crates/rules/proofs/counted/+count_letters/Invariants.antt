-- Measures of `count_letters` of `rules::counted`, which calls itself.
use Rattle.rules.proofs.counted.+count_letters.Given as goal

abbrev pub decreases-count_letters : goal.decreases-count_letters
decreases-count_letters l = l.node
