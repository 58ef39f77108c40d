use Rattle.brc_model.proofs.Promises.Faults.{faults_counted, counts_fit, faults_alike}
use Rattle.brc_model.proofs.host_laws.faults_are_counted.Goals as goal

pub returns-clause-counted : goal.returns-clause-counted
returns-clause-counted c = faults_counted

pub returns-clause-fits : goal.returns-clause-fits
returns-clause-fits c = counts_fit

pub returns-clause-alike : goal.returns-clause-alike
returns-clause-alike c = faults_alike
