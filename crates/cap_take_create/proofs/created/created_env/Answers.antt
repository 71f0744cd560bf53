use Rattle.cap_take_create.proofs.created.created_env.Goals as goal

pub returns : goal.returns
returns c = rw (c.fact_of-fact.ensures, c.in_ok-copy.ensures) at c.new_env.ensures
