use Rattle.check_faults.proofs.fields.+values.Given as goal

abbrev pub decreases-inner_value : goal.decreases-inner_value
decreases-inner_value l = l.depth

abbrev pub decreases-named_parts : goal.decreases-named_parts
decreases-named_parts l = l.depth

abbrev pub decreases-parts_value : goal.decreases-parts_value
decreases-parts_value l = l.depth

abbrev pub decreases-value : goal.decreases-value
decreases-value l = l.depth
