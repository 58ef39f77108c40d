-- The model's machine of a plain machine.
use Rattle.std.specs.Prelude.{map}
use Rattle.brc_model.specs.StepMachine.{StepMachine}
use Rattle.brc_plain.specs.declared.plain.Plain.{Plain}
use Rattle.brc_plain.specs.Bags.{bag_in}
use Rattle.brc_plain.specs.Lives.{life_at}
use Rattle.brc_plain.specs.Threads.{actor_of}
use Rattle.brc_machine.specs.Storage.{word_in}
use Rattle.brc_plain.specs.Begun.{no_states}

abbrev pub machine_in : Plain → StepMachine
machine_in p = record {
  functions = p.module.now.functions;
  states = no_states;
  layout = p.blocks;
  memory = word_in p.memory;
  actors = map actor_of p.threads.items;
  abstract = bag_in p.bag;
  life = life_at p.lives.items;
  host_faults = p.faults.calls;
  close_faults = p.faults.closes;
}
