use Rattle.cap_machine_examples.proofs.Regions.{interpretations, actions, regions}
use Rattle.cap_machine_examples.proofs.each_condition_of_regions_counts.Goals as goal

pub returns : goal.returns
returns c = record { interpretation = interpretations; action = actions; region = regions }
