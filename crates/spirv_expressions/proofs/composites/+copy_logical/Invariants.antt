use Rattle.spirv_expressions.proofs.composites.+copy_logical.Given as goal

abbrev pub decreases-copy_logical : goal.decreases-copy_logical
decreases-copy_logical g l = l.depth
