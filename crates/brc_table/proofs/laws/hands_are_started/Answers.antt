use Rattle.brc_table.proofs.laws.hands_are_started.Goals as goal

pub returns : goal.returns
returns c = λ layout words views id v stands here. stands.threads.started id v here
