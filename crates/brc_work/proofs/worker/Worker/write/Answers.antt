use Rattle.std.proofs.Common.{◌≡◌, false, [], ◌∷◌, inl, sym, ap, ◌∙◌, subst, ℕ, ◌++◌, refl, true}
use Rattle.std.specs.Prelude.{◌||◌, not}
use Rattle.std.specs.Prelude.{is_err}
use Rattle.std.specs.Fmt.{decimal}
use Rattle.brc_word.specs.Words.{argument_part}
use Rattle.brc_host.specs.HostCalls as calls
use Rattle.brc_host.specs.HostCalls.{after_call}
use Rattle.brc_lang.specs.declared.kind.Kind.TheVariants as kinds
use Rattle.brc_lang.specs.declared.module.Instr.TheVariants as instructions
use Rattle.brc_model.specs.declared.state.Exit.TheVariants.{Success, Fault}
use Rattle.brc_model.specs.SlotStates.{var_of, kind_of, is_empty, is_one_of, with_resource, names}
use Rattle.brc_model.proofs.Basics.Lists.{first_false, second_false}
use Rattle.brc_table.specs.declared.view.View.{View}
use Rattle.brc_table.specs.Hands.{TableState, HandState}
use Rattle.brc_work.specs.Acts.{ActsElsewhere}
use Rattle.brc_work.specs.Fits.{Fits}
use Rattle.brc_work.specs.Performs.{Performs}
use Rattle.brc_work.proofs.CallsBelow.{left_acts}
use Rattle.brc_work.proofs.Conditions.{kept, not_false}
use Rattle.brc_work.proofs.Passing.{none_broken}
use Rattle.brc_work.proofs.Counting.{asked_once, asked_in_vain}
use Rattle.brc_work.proofs.Fitting.{same_fits}
use Rattle.brc_work.proofs.Holding.{names_object, usable}
use Rattle.brc_work.proofs.Lending.{OnFile, on_file, there, lent_back}
use Rattle.brc_work.proofs.Traces.HostCalls.{sends, makes_write, fails_to_write}
use Rattle.brc_work.proofs.worker.Worker.write.Given as given
use Rattle.brc_work.proofs.worker.Worker.write.Goals.{Start, After-arg_of-value, After-line_of-text, After-row_in-row, After-give_back}
use Rattle.brc_work.proofs.worker.Worker.write.Goals as goal

-- The variable of the number is in use.
number_used : (g : given.Over) (c : Start g) → is_empty (var_of c.requires.may.state c.args.number) ≡ false
number_used g c =
    kept (is_empty (var_of c.requires.may.state c.args.number))
    (second_false (is_empty (var_of c.requires.may.state c.args.file)) _ (none_broken c.requires.may).not_empty)

-- By loading the number the hand does nothing else.
asked : (g : given.Over) (c : After-arg_of-value g) → ActsElsewhere c.args.hand.now c.arg_of-value.new.hand
asked g c =
    left_acts c.args.hand.now c.arg_of-value.new.hand c.row_in-object.result c.requires.may.fits.rests
    c.arg_of-value.ensures.left
    (c.arg_of-value.ensures.table.0 ∙ (ap (λ (w : TableState). w.table) c.self.view_is ∙ sym c.requires.may.of.0))
    c.arg_of-value.ensures.carried c.arg_of-value.ensures.fields c.arg_of-value.ensures.head

-- The file is the one that the hand has locked.
on : (g : given.Over) (c : After-row_in-row g) → ActsElsewhere c.args.hand.now c.arg_of-value.new.hand
    → OnFile c.arg_of-value.new.hand c.row_in-row.result
on g c acts =
    let may = c.requires.may in
    let met = none_broken may in
    on_file may.base may.state c.args.rows.now c.arg_of-value.new.hand c.args.file c.row_in-row.result
    (same_fits may.base may.state c.args.rows.now c.args.hand.now c.arg_of-value.new.hand may.fits acts
    c.arg_of-value.ensures.references)
    (not_false (names may.state.locked c.args.file) (kept _ met.has_lock))
    (not_false (is_one_of (kind_of (var_of may.state c.args.file)) with_resource)
    (first_false _ (not (is_one_of (kind_of (var_of may.state c.args.number)) (kinds.Num ∷ [])) || false)
    met.right_kind))
    c.row_in-row.ensures

-- With the resource lent and given back, the hand is the same.
back : (g : given.Over) (c : After-give_back g) → ActsElsewhere c.args.hand.now c.arg_of-value.new.hand
    → OnFile c.arg_of-value.new.hand c.row_in-row.result → c.give_back.new.hand ≡ c.arg_of-value.new.hand
back g c acts file =
    lent_back c.arg_of-value.new.hand c.lend-resource.new.hand c.give_back.new.hand c.row_in-row.result file
    (c.give_back.ensures.table.0
    ∙ (ap (λ (w : TableState). w.table) (c.new-lists.ensures ∙ c.self.view_is)
    ∙ (sym c.requires.may.of.0 ∙ sym acts.acts.follows.table)))
    c.lend-resource.ensures.view c.give_back.ensures.view c.lend-resource.ensures.carried c.give_back.ensures.carried
    c.lend-resource.ensures.fields c.give_back.ensures.fields

pub row_in-object-requires : goal.row_in-object-requires
row_in-object-requires g c =
    names_object _ _ _ _ c.requires.may.fits c.args.number (number_used g (goal.at.row_in-object-requires g c).Start)

pub arg_of-value-requires-clause-usable : goal.arg_of-value-requires-clause-usable
arg_of-value-requires-clause-usable g c =
    inl (usable _ _ _ _ c.requires.may.fits c.args.number c.row_in-object.result
    (number_used g (goal.at.arg_of-value-requires-clause-usable g c).Start) c.row_in-object.ensures)

pub row_in-row-requires : goal.row_in-row-requires
row_in-row-requires g c =
    names_object _ _ _ _ c.requires.may.fits c.args.file
    (first_false (is_empty (var_of c.requires.may.state c.args.file)) _ (none_broken c.requires.may).not_empty)

pub lend-resource-requires-clause-field : goal.lend-resource-requires-clause-field
lend-resource-requires-clause-field g c =
    let at = goal.at.lend-resource-requires-clause-field g c in
    inl (on g at.After-row_in-row (asked g at.After-arg_of-value)).locked

pub lend-resource-requires-clause-there : goal.lend-resource-requires-clause-there
lend-resource-requires-clause-there g c =
    let at = goal.at.lend-resource-requires-clause-there g c in
    there _ _ (on g at.After-row_in-row (asked g at.After-arg_of-value))

pub give_back-requires-clause-whole : goal.give_back-requires-clause-whole
give_back-requires-clause-whole g c = λ locked.
    let at = goal.at.give_back-requires-clause-whole g c in
    ap (λ (v : View). v.in_field) c.lend-resource.ensures.view
    ∙ (on g at.After-row_in-row (asked g at.After-arg_of-value)).whole

-- The bytes are the digits of the number that was loaded, and a line feed.
text : (g : given.Over) (c : After-line_of-text g)
    → c.line_of-text.result.now ≡ decimal (argument_part c.arg_of-value.ensures.sees.0) ++ 10 ∷ []
text g c =
    c.line_of-text.ensures ∙ ap (λ (n : ℕ). decimal n ++ 10 ∷ []) c.arg_of-value.ensures.sees.2

pub give_back-requires-clause-field : goal.give_back-requires-clause-field
give_back-requires-clause-field g c =
    let at = goal.at.give_back-requires-clause-field g c in
    inl (ap (λ (v : View). v.actor.locked) c.lend-resource.ensures.view
    ∙ (on g at.After-row_in-row (asked g at.After-arg_of-value)).locked)

pub returns-in-Ok-clause-done : goal.returns-in-Ok-clause-done
returns-in-Ok-clause-done g c = λ base s fits passes.
    let at = goal.at.returns-in-Ok-clause-done g c in
    let acts = asked g at.After-arg_of-value in
    subst (λ (h : HandState). Fits base s c.args.rows.now h)
    (sym (back g at.After-give_back acts (on g at.After-row_in-row acts)))
    (same_fits base s c.args.rows.now c.args.hand.now c.arg_of-value.new.hand fits acts
    c.arg_of-value.ensures.references)

pub returns-in-Err-clause-done : goal.returns-in-Err-clause-done
returns-in-Err-clause-done g c = λ base s fits passes.
    let at = goal.at.returns-in-Err-clause-done g c in
    let did = asked g at.After-arg_of-value in
    subst (λ (h : HandState). Fits base s c.args.rows.now h)
    (sym (back g at.After-give_back did (on g at.After-row_in-row did)))
    (same_fits base s c.args.rows.now c.args.hand.now c.arg_of-value.new.hand fits did
    c.arg_of-value.ensures.references)

pub returns-in-Ok-clause-asked : goal.returns-in-Ok-clause-asked
returns-in-Ok-clause-asked g c =
    let v = c.args.hand.now.view in
    let sees = c.arg_of-value.ensures.sees in
    let rests = c.requires.may.fits.rests in
    let sent = text g (goal.at.returns-in-Ok-clause-asked g c).After-line_of-text in
    let call : calls.Write c.line_of-text.result.now (is_err c.write-written.result) ≡ sends sees.0 false =
    ap (λ bytes. calls.Write bytes (is_err c.write-written.result)) sent
    ∙ ap (λ r. sends sees.0 (is_err r)) c.in-Ok.is in
    asked_once (sends sees.0 false) (record { closes = refl; others = refl }) refl
    (subst (λ k. g.H.Host.answers c.args.host.now k c.write-written.new.self) call c.write-written.ensures.answers)
    (c.write-written.ensures.counted ∙ ap (λ k. after_call k (g.H.Host.counts c.args.host.now)) call)
    (subst (Performs (sends sees.0 false ∷ []) (instructions.Write c.args.file c.args.number c.args.otherwise) Success
    c.args.rows.now v c.args.rows.now)
    (sym (c.give_back.ensures.view ∙ c.lend-resource.ensures.view))
    (makes_write c.args.file c.args.number c.args.otherwise c.row_in-object.result c.row_in-row.result sees.0
    c.args.rows.now v c.arg_of-value.new.hand.view rests.agenda c.row_in-object.ensures
    c.row_in-row.ensures sees.1.view_is))

pub returns-in-Err-clause-asked : goal.returns-in-Err-clause-asked
returns-in-Err-clause-asked g c =
    let v = c.args.hand.now.view in
    let sees = c.arg_of-value.ensures.sees in
    let rests = c.requires.may.fits.rests in
    let sent = text g (goal.at.returns-in-Err-clause-asked g c).After-line_of-text in
    let call : calls.Write c.line_of-text.result.now (is_err c.write-written.result) ≡ sends sees.0 true =
    ap (λ bytes. calls.Write bytes (is_err c.write-written.result)) sent
    ∙ ap (λ r. sends sees.0 (is_err r)) c.in-Err.is in
    asked_in_vain (sends sees.0 true) (record { closes = refl; others = refl }) refl
    (subst (λ k. g.H.Host.answers c.args.host.now k c.write-written.new.self) call c.write-written.ensures.answers)
    (c.write-written.ensures.counted ∙ ap (λ k. after_call k (g.H.Host.counts c.args.host.now)) call)
    c.count_host_fault.ensures
    (subst (Performs (sends sees.0 true ∷ []) (instructions.Write c.args.file c.args.number c.args.otherwise) Fault
    c.args.rows.now v c.args.rows.now)
    (sym (c.give_back.ensures.view ∙ c.lend-resource.ensures.view))
    (fails_to_write c.args.file c.args.number c.args.otherwise c.row_in-object.result c.row_in-row.result sees.0
    c.args.rows.now v c.arg_of-value.new.hand.view rests.agenda c.row_in-object.ensures
    c.row_in-row.ensures sees.1.view_is))
