use Rattle.std.proofs.Common.{◌≡◌, ℕ, ◌≤◌, List, Option, inl, sym, ap, ◌∙◌, subst, [], ◌∷◌, Some, None, refl}
use Rattle.std.specs.Prelude.{IfOk}
use Rattle.std.specs.Result.{result_ok}
use Rattle.brc_host.specs.HostCalls as asked
use Rattle.brc_host.specs.HostCalls.{after_call}
use Rattle.brc_lang.specs.declared.kind.Kind.TheVariants as kinds
use Rattle.brc_lang.specs.declared.module.Instr.TheVariants as instructions
use Rattle.brc_model.specs.Actions.{number_word}
use Rattle.brc_model.specs.declared.state.Exit.TheVariants.{Fault}
use Rattle.brc_model.specs.declared.state.Slot.TheVariants.{Empty}
use Rattle.brc_model.specs.SlotStates.{var_of, kind_of, is_empty, is_one_of, with_resource, names, put}
use Rattle.brc_model.proofs.Dispatch.Passing.{are_met}
use Rattle.brc_table.specs.declared.view.View.{View}
use Rattle.brc_table.specs.Hands.{TableState, HandState, IsOf}
use Rattle.brc_heap.specs.Calls.{kind_word}
use Rattle.brc_work.specs.Fits.{Fits}
use Rattle.brc_work.specs.Performs.{Performs, MakesBirth}
use Rattle.brc_work.proofs.Conditions.{kept, can_fill, not_false}
use Rattle.brc_work.proofs.Passing.{none_broken}
use Rattle.brc_work.proofs.Counting.{asked_nothing, asked_once, asked_in_vain}
use Rattle.brc_work.proofs.Holding.{names_object}
use Rattle.brc_work.proofs.Lending.{OnFile, on_file, there, lent_back}
use Rattle.brc_work.proofs.Moving.{cleared}
use Rattle.brc_work.proofs.Traces.HostCalls.{reads_nothing, makes_read, fails_to_read}
use Rattle.brc_work.proofs.worker.Worker.read.Given as given
use Rattle.brc_work.proofs.worker.Worker.read.Goals.{After-row_in-row, After-give_back}
use Rattle.brc_work.proofs.worker.Worker.read.Goals as goal

-- The file is the one that the hand has locked.
on : (g : given.Over) (c : After-row_in-row g) → OnFile c.args.hand.now c.row_in-row.result
on g c =
    let may = c.requires.may in
    let met = none_broken may in
    on_file may.base may.state c.args.rows.now c.args.hand.now c.args.file c.row_in-row.result may.fits
    (not_false (names may.state.locked c.args.file) (kept _ met.has_lock))
    (not_false (is_one_of (kind_of (var_of may.state c.args.file)) with_resource) (kept _ met.right_kind))
    c.row_in-row.ensures

-- With the resource lent and given back, the hand is the same.
back : (g : given.Over) (c : After-give_back g) → OnFile c.args.hand.now c.row_in-row.result
    → c.give_back.new.hand ≡ c.args.hand.now
back g c file =
    lent_back c.args.hand.now c.lend-resource.new.hand c.give_back.new.hand c.row_in-row.result file
    (c.give_back.ensures.table.0
    ∙ (ap (λ (w : TableState). w.table) (c.new-lists.ensures ∙ c.self.view_is) ∙ sym c.requires.may.of.0))
    c.lend-resource.ensures.view c.give_back.ensures.view c.lend-resource.ensures.carried c.give_back.ensures.carried
    c.lend-resource.ensures.fields c.give_back.ensures.fields

pub returns-then-not-room-clause-done : goal.returns-then-not-room-clause-done
returns-then-not-room-clause-done g c = λ base s fits passes.
    let met = are_met (instructions.Read c.args.to c.args.file c.args.most c.args.otherwise) s passes in
    subst (λ (rows : List (Option ℕ)). Fits base (put s c.args.to Empty) rows c.args.hand.now)
    (sym c.name.ensures.named)
    (cleared base s c.args.rows.now c.args.hand.now c.args.to fits (can_fill s c.args.to met.free met.unlocked)
    c.name.ensures.low)

pub row_in-row-requires : goal.row_in-row-requires
row_in-row-requires g c =
    names_object _ _ _ _ c.requires.may.fits c.args.file
    (kept (is_empty (var_of c.requires.may.state c.args.file)) (none_broken c.requires.may).not_empty)

pub lend-resource-requires-clause-field : goal.lend-resource-requires-clause-field
lend-resource-requires-clause-field g c =
    inl (on g (goal.at.lend-resource-requires-clause-field g c).After-row_in-row).locked

pub lend-resource-requires-clause-there : goal.lend-resource-requires-clause-there
lend-resource-requires-clause-there g c =
    there _ _ (on g (goal.at.lend-resource-requires-clause-there g c).After-row_in-row)

pub give_back-requires-clause-whole : goal.give_back-requires-clause-whole
give_back-requires-clause-whole g c = λ locked.
    ap (λ (v : View). v.in_field) c.lend-resource.ensures.view
    ∙ (on g (goal.at.give_back-requires-clause-whole g c).After-row_in-row).whole

pub give_back-requires-clause-field : goal.give_back-requires-clause-field
give_back-requires-clause-field g c =
    inl (ap (λ (v : View). v.actor.locked) c.lend-resource.ensures.view
    ∙ (on g (goal.at.give_back-requires-clause-field g c).After-row_in-row).locked)

pub bear-requires-clause-fits : goal.bear-requires-clause-fits
bear-requires-clause-fits g c =
    let may = c.requires.may in
    let at = goal.at.bear-requires-clause-fits g c in
    let same = back g at.After-give_back (on g at.After-row_in-row) in
    record {
      base = may.base;
      state = may.state;
      of = subst (λ (w : TableState). IsOf w c.give_back.new.hand) (c.new-lists.ensures ∙ c.self.view_is)
          c.give_back.ensures.table;
      fits = subst (λ (h : HandState). Fits may.base may.state c.args.rows.now h) (sym same) may.fits;
      can_do = can_fill may.state c.args.to (none_broken may).free (none_broken may).unlocked;
    }

pub returns-in-Ok-clause-done : goal.returns-in-Ok-clause-done
returns-in-Ok-clause-done g c = λ base s fits passes.
    let at = goal.at.returns-in-Ok-clause-done g c in
    let met = are_met (instructions.Read c.args.to c.args.file c.args.most c.args.otherwise) s passes in
    c.bear.ensures.goes base s
    (subst (λ (h : HandState). Fits base s c.args.rows.now h)
    (sym (back g at.After-give_back (on g at.After-row_in-row))) fits)
    (can_fill s c.args.to met.free met.unlocked)

pub returns-in-Err-clause-done : goal.returns-in-Err-clause-done
returns-in-Err-clause-done g c = λ base s fits passes.
    let at = goal.at.returns-in-Err-clause-done g c in
    let met = are_met (instructions.Read c.args.to c.args.file c.args.most c.args.otherwise) s passes in
    let later = subst (λ (h : HandState). Fits base s c.args.rows.now h)
    (sym (back g at.After-give_back (on g at.After-row_in-row))) fits in
    subst (λ (rows : List (Option ℕ)). Fits base (put s c.args.to Empty) rows c.give_back.new.hand)
    (sym c.name-in-Err.ensures.named)
    (cleared base s c.args.rows.now c.give_back.new.hand c.args.to later
    (can_fill s c.args.to met.free met.unlocked) c.name-in-Err.ensures.low)

pub returns-then-not-room-clause-asked : goal.returns-then-not-room-clause-asked
returns-then-not-room-clause-asked g c =
    asked_nothing
    (reads_nothing c.args.to c.args.file c.args.most c.args.otherwise c.args.rows.now c.name.new.rows
    c.args.hand.now.view (sym c.room.ensures ∙ c.if-not-room.true) c.name.ensures.named)

pub returns-in-Ok-clause-asked : goal.returns-in-Ok-clause-asked
returns-in-Ok-clause-asked g c =
    let v = c.args.hand.now.view in
    let word = kind_word kinds.Num c.from.result in
    let got : result_ok c.read-got.result ≡ Some c.in-Ok.count = ap result_ok c.in-Ok.is in
    let call = asked.Read c.args.most in
    asked_once (call (Some c.in-Ok.count)) (record { closes = refl; others = refl }) refl
    (subst (λ o. g.H.Host.answers c.args.host.now (call o) c.read-got.new.self) got c.read-got.ensures.answers)
    (c.read-got.ensures.counted ∙ ap (λ o. after_call (call o) (g.H.Host.counts c.args.host.now)) got)
    (makes_read c.args.to c.args.file c.args.most c.args.otherwise c.row_in-row.result c.args.rows.now c.bear.new.rows v
    c.row_in-row.ensures (sym c.room.ensures ∙ c.if-not-room.false) word c.in-Ok.count
    c.bear.new.hand.view
    (subst (λ r. IfOk r (λ got. got ≤ c.args.most)) c.in-Ok.is c.read-got.ensures.at_most)
    (ap number_word c.from.ensures)
    (subst (λ (u : View). MakesBirth c.args.to word c.args.rows.now u c.bear.new.rows c.bear.new.hand.view)
    (c.give_back.ensures.view ∙ c.lend-resource.ensures.view) c.bear.ensures.made))

pub returns-in-Err-clause-asked : goal.returns-in-Err-clause-asked
returns-in-Err-clause-asked g c =
    let v = c.args.hand.now.view in
    let got : result_ok c.read-got.result ≡ None = ap result_ok c.in-Err.is in
    let call = asked.Read c.args.most in
    asked_in_vain (call None) (record { closes = refl; others = refl }) refl
    (subst (λ o. g.H.Host.answers c.args.host.now (call o) c.read-got.new.self) got c.read-got.ensures.answers)
    (c.read-got.ensures.counted ∙ ap (λ o. after_call (call o) (g.H.Host.counts c.args.host.now)) got)
    c.count_host_fault.ensures
    (subst (Performs (call None ∷ []) (instructions.Read c.args.to c.args.file c.args.most c.args.otherwise) Fault
    c.args.rows.now v c.name-in-Err.new.rows)
    (sym (c.give_back.ensures.view ∙ c.lend-resource.ensures.view))
    (fails_to_read c.args.to c.args.file c.args.most c.args.otherwise c.row_in-row.result c.args.rows.now
    c.name-in-Err.new.rows v c.row_in-row.ensures (sym c.room.ensures ∙ c.if-not-room.false)
    c.name-in-Err.ensures.named))
