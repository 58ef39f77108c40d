use Rattle.std.proofs.Common.{◌≡◌, ◌∙◌, Bool, false, sym, ap, subst}
use Rattle.std.specs.Prelude.{if◌then◌else◌}
use Rattle.brc_c_store.specs.declared.event.Event.{Event}
use Rattle.brc_c_store.specs.declared.register.RegisterSet.{RegisterSet}
use Rattle.brc_c_store.specs.Registers.{union_of}
use Rattle.brc_c_store.specs.Stores.{Contents, contents_of}
use Rattle.brc_c_paths.specs.Paths.{ends_items, lost_items, with_forgotten}
use Rattle.brc_c_paths.proofs.stepping.with_forgotten.Goals as goal

abbrev with_stale : Contents → RegisterSet → Contents
with_stale c stale = record c { stale = stale }

forgotten : (event : Event) (before after : Contents) (lost stale : RegisterSet) → ends_items event ≡ false
    → lost ≡ lost_items before after → stale ≡ union_of after.stale lost
    → with_stale after stale ≡ with_forgotten event before after
forgotten event before after lost stale ends e is =
    subst
    (λ (b : Bool). with_stale after stale
    ≡ (if b then after else with_stale after (union_of after.stale (lost_items before after))))
    (sym ends) (ap (with_stale after) (is ∙ ap (union_of after.stale) e))

pub returns-then-not-ends_items : goal.returns-then-not-ends_items
returns-then-not-ends_items c =
    let ends : ends_items c.args.event ≡ false = sym c.ends_items.ensures ∙ c.if-not-ends_items.true in
    forgotten c.args.event (contents_of c.args.before.now) (contents_of c.args.after) c.lost_items-lost.result
    c.union-store.result ends c.lost_items-lost.ensures c.union-store.ensures
