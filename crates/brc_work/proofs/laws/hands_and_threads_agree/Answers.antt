use Rattle.brc_work.proofs.Automata as automata
use Rattle.brc_work.proofs.FromOutside as outside
use Rattle.brc_work.proofs.laws.hands_and_threads_agree.Goals as goal

pub returns-clause-hands : goal.returns-clause-hands
returns-clause-hands c = automata.hands_as_threads

pub returns-clause-threads : goal.returns-clause-threads
returns-clause-threads c = outside.threads_as_hands

pub returns-clause-alone : goal.returns-clause-alone
returns-clause-alone c = automata.threads_alone_as_hands

pub returns-clause-stops : goal.returns-clause-stops
returns-clause-stops c = automata.hands_stop_as_threads

pub returns-clause-outer : goal.returns-clause-outer
returns-clause-outer c = automata.outer_give_up_alike
