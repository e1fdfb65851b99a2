use Rattle.test_reasons.proofs.measure.+has_number.Given as goal

abbrev pub decreases-has_number : goal.decreases-has_number
decreases-has_number l = l.depth
