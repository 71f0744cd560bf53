-- The next fetch is what every shelf ensures.
use Rattle.cap_io.proofs.ShelfLemmas.{gives_next, blames_next, counts_next, measures_next, later_next, unlisted_next}
use Rattle.cap_io.proofs.memory.MemoryShelfShelf.fetch.Goals as goal

pub returns-clause-given : goal.returns-clause-given
returns-clause-given c = gives_next _ _ _ _ (record { answer = c.next_fetch.ensures.answer; after = c.next_fetch.ensures.after; out_of_memory = c.next_fetch.ensures.out_of_memory })

pub returns-clause-later : goal.returns-clause-later
returns-clause-later c = later_next _ _ _ _ (record { answer = c.next_fetch.ensures.answer; after = c.next_fetch.ensures.after; out_of_memory = c.next_fetch.ensures.out_of_memory })

pub returns-clause-blame : goal.returns-clause-blame
returns-clause-blame c = blames_next _ _ _ _ (record { answer = c.next_fetch.ensures.answer; after = c.next_fetch.ensures.after; out_of_memory = c.next_fetch.ensures.out_of_memory })

pub returns-clause-counts : goal.returns-clause-counts
returns-clause-counts c = counts_next _ _ _ _ (record { answer = c.next_fetch.ensures.answer; after = c.next_fetch.ensures.after; out_of_memory = c.next_fetch.ensures.out_of_memory })

pub returns-clause-measure : goal.returns-clause-measure
returns-clause-measure c = measures_next _ _ _ _ (record { answer = c.next_fetch.ensures.answer; after = c.next_fetch.ensures.after; out_of_memory = c.next_fetch.ensures.out_of_memory })

pub returns-clause-sure : goal.returns-clause-sure
returns-clause-sure c = unlisted_next _ _ _ _ (record { answer = c.next_fetch.ensures.answer; after = c.next_fetch.ensures.after; out_of_memory = c.next_fetch.ensures.out_of_memory })
