use Rattle.std.proofs.Common.{ap, ◌∙◌}
use Rattle.std.proofs.lemmas.Result.{on_ok_weaker}
use Rattle.brc_c_store.specs.Stores.{contents_of}
use Rattle.brc_c_paths.specs.Registers.{items_of}
use Rattle.brc_c_paths.specs.Sorted.{with_facts_kept}
use Rattle.brc_c_paths.specs.Normal.{with_objects_ordered, with_items_marked, made_normal}
use Rattle.brc_c_paths.proofs.normal.bring_into_form.Goals as goal

pub returns : goal.returns
unfolding made_normal
returns c =
    let ordered = c.in_ok-put_in_order.ensures ∙ ap with_objects_ordered c.in_ok-keep_known.ensures in
    let marked =
    c.mark_items.ensures
    ∙ ap (λ items. with_items_marked items (contents_of c.put_in_order.new.store)) c.items_of-items.ensures
    ∙ ap (with_items_marked (items_of (contents_of c.args.store.now))) ordered in
    on_ok_weaker c.sort_facts.result (λ e. e ∙ ap (with_facts_kept c.args.live.now c.args.node) marked)
    c.sort_facts.ensures
