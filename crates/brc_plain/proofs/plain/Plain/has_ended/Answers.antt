use Rattle.std.proofs.Common.{rules, tests, sym, ◌∙◌}
use Rattle.std.proofs.lemmas.Iterator.{YieldsList-from_slice}
use Rattle.std.proofs.lemmas.Iterator.Search.{all_from_yields_List}
use Rattle.brc_model.specs.Safety.{has_gone}
use Rattle.brc_plain.specs.declared.thread.Thread.{Thread}
use Rattle.brc_plain.proofs.Threads.{gone_in}
use Rattle.brc_plain.proofs.plain.Plain.has_ended.Goals as goal

pub returns : goal.returns
returns c =
    let threads = c.args.self.now.threads.items in
    let all =
    all_from_yields_List (λ (t : Thread). has_gone t.status) _ _ c.all.result c.all.ensures.ran
    (YieldsList-from_slice threads (cc)) (λ x b q k. search (rules, tests))
    ∙ gone_in threads in
    (λ yes. sym all ∙ yes, λ gone. all ∙ gone)
