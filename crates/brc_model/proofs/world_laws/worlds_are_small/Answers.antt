use Rattle.brc_model.proofs.Limits.StepsAreWithin as within
use Rattle.brc_model.proofs.world_laws.worlds_are_small.Goals as goal

pub returns-clause-functions : goal.returns-clause-functions
returns-clause-functions c = within.same_functions

pub returns-clause-states : goal.returns-clause-states
returns-clause-states c = within.true_states

pub returns-clause-some_threads : goal.returns-clause-some_threads
returns-clause-some_threads c = within.some_threads

pub returns-clause-few_threads : goal.returns-clause-few_threads
returns-clause-few_threads c = within.few_threads

pub returns-clause-some_rows : goal.returns-clause-some_rows
returns-clause-some_rows c = within.some_rows

pub returns-clause-few_rows : goal.returns-clause-few_rows
returns-clause-few_rows c = within.few_rows

pub returns-clause-few_in_all : goal.returns-clause-few_in_all
returns-clause-few_in_all c = within.few_in_all

pub returns-clause-workers : goal.returns-clause-workers
returns-clause-workers c = within.workers_are

pub returns-clause-few_calls : goal.returns-clause-few_calls
returns-clause-few_calls c = within.few_calls
