use Rattle.brc_model.proofs.Promises.Rules.{by_rule, computed}
use Rattle.brc_model.proofs.rule_laws.steps_go_by_rules.Goals as goal

pub returns-clause-each : goal.returns-clause-each
returns-clause-each c = by_rule

pub returns-clause-only : goal.returns-clause-only
returns-clause-only c = computed
