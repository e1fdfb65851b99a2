use Rattle.check_reasons.proofs.show.+write_value.Given as goal

abbrev pub decreases-write_value : goal.decreases-write_value
decreases-write_value g l = l.depth
