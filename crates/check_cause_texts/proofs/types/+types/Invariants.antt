use Rattle.check_cause_texts.proofs.types.+types.Given as goal

abbrev pub decreases-write_base : goal.decreases-write_base
decreases-write_base g l = l.depth

abbrev pub decreases-write_type : goal.decreases-write_type
decreases-write_type g l = l.depth
