use Rattle.class_assign.proofs.arrays.+goes_brackets.Given as goal

abbrev pub decreases-goes_brackets : goal.decreases-goes_brackets
decreases-goes_brackets l = l.count
