use Rattle.check_places.proofs.walk.+finding.Given as goal

abbrev pub decreases-find : goal.decreases-find
decreases-find l = l.depth

abbrev pub decreases-find_in_blocks : goal.decreases-find_in_blocks
decreases-find_in_blocks l = l.depth

abbrev pub decreases-find_in_cases : goal.decreases-find_in_cases
decreases-find_in_cases l = l.depth
