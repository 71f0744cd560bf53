use Rattle.cap_machine.proofs.heap.Heap.+allocate.Given as goal

abbrev pub decreases-allocate : goal.decreases-allocate
decreases-allocate l = l.count
