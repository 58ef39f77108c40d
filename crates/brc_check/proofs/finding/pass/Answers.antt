use Rattle.std.proofs.Common.{refl, sym, ap, ◌∙◌, subst}
use Rattle.brc_model.specs.Paths.{Ended, At}
use Rattle.brc_check.specs.declared.visits.Visits.{Visits}
use Rattle.brc_check.specs.Entries.{end_of}
use Rattle.brc_check.specs.Searching.{HasPassed}
use Rattle.brc_check.proofs.Passing.{not_so, visit_read, passed-led, led-within, found-report, found-differ}
use Rattle.brc_check.proofs.Searches.{passed-added}
use Rattle.brc_check.proofs.finding.pass.Goals as goal

pub is_visited-requires-clause-within : goal.is_visited-requires-clause-within
is_visited-requires-clause-within c =
    led-within c.args.function.now c.args.wanted.at c.args.wanted.code c.args.visits.now c.args.turn c.in-To.next
    c.index-as_slice-turn.result c.in-To.state c.args.exit c.requires.searched
    (sym (rw c.as_slice-code.ensures at c.follow.ensures) ∙ ap (end_of c.index-as_slice-turn.result.at) c.in-To.is)

pub returns-then-is_visited : goal.returns-then-is_visited
returns-then-is_visited c =
    passed-led c.args.function.now c.args.wanted.at c.args.wanted.code c.args.visits.now c.args.turn
    c.index-as_slice-turn.result c.args.exit (At c.in-To.next c.in-To.state) c.requires.searched
    (visit_read c.args.visits.now.list c.as_slice.result.now c.args.turn c.index-as_slice-turn.result
    c.as_slice.ensures c.requires.within c.index-as_slice-turn.is)
    (sym (rw c.as_slice-code.ensures at c.follow.ensures) ∙ ap (end_of c.index-as_slice-turn.result.at) c.in-To.is)
    (c.if-is_visited.ensures.0 refl)

pub rival-requires-clause-within : goal.rival-requires-clause-within
rival-requires-clause-within c =
    led-within c.args.function.now c.args.wanted.at c.args.wanted.code c.args.visits.now c.args.turn c.in-To.next
    c.index-as_slice-turn.result c.in-To.state c.args.exit c.requires.searched
    (sym (rw c.as_slice-code.ensures at c.follow.ensures) ∙ ap (end_of c.index-as_slice-turn.result.at) c.in-To.is)

pub returns-in-Some : goal.returns-in-Some
returns-in-Some c =
    found-differ c.args.function.now c.args.wanted.at c.args.wanted.code c.args.visits.now c.args.turn c.in-To.next
    c.in-Some.first c.index-as_slice-turn.result c.in-To.state c.args.exit c.as_slice-in-Some.result.now
    c.as_slice-in-Some-2.result.now c.in_ok-exits-in-To.exits c.in_ok-others-in-To.others c.requires.searched
    (visit_read c.args.visits.now.list c.as_slice.result.now c.args.turn c.index-as_slice-turn.result
    c.as_slice.ensures c.requires.within c.index-as_slice-turn.is)
    (sym (rw c.as_slice-code.ensures at c.follow.ensures) ∙ ap (end_of c.index-as_slice-turn.result.at) c.in-To.is)
    (not_so c.if-is_visited.ensures.1)
    c.in-Some.ensures c.as_slice-in-Some.ensures c.in_ok-exits-in-To.ensures c.as_slice-in-Some-2.ensures
    c.in_ok-others-in-To.ensures

pub add-requires : goal.add-requires
add-requires c =
    led-within c.args.function.now c.args.wanted.at c.args.wanted.code c.args.visits.now c.args.turn c.in-To.next
    c.index-as_slice-turn.result c.in-To.state c.args.exit c.requires.searched
    (sym (rw c.as_slice-code.ensures at c.follow.ensures) ∙ ap (end_of c.index-as_slice-turn.result.at) c.in-To.is)

pub returns-in-Ends : goal.returns-in-Ends
returns-in-Ends c =
    passed-led c.args.function.now c.args.wanted.at c.args.wanted.code c.args.visits.now c.args.turn
    c.index-as_slice-turn.result c.args.exit Ended c.requires.searched
    (visit_read c.args.visits.now.list c.as_slice.result.now c.args.turn c.index-as_slice-turn.result
    c.as_slice.ensures c.requires.within c.index-as_slice-turn.is)
    (sym (rw c.as_slice-code.ensures at c.follow.ensures) ∙ ap (end_of c.index-as_slice-turn.result.at) c.in-Ends.is) tt

pub returns-in_ok-exits-in-Error : goal.returns-in_ok-exits-in-Error
returns-in_ok-exits-in-Error c =
    found-report c.args.function.now c.args.wanted.at c.args.wanted.code c.args.visits.now c.args.turn
    c.index-as_slice-turn.result c.args.exit c.in-Error.reported c.as_slice-in-Error.result.now
    c.in_ok-exits-in-Error.exits c.requires.searched
    (visit_read c.args.visits.now.list c.as_slice.result.now c.args.turn c.index-as_slice-turn.result
    c.as_slice.ensures c.requires.within c.index-as_slice-turn.is)
    (sym (rw c.as_slice-code.ensures at c.follow.ensures) ∙ ap (end_of c.index-as_slice-turn.result.at) c.in-Error.is)
    (c.if-not-is_wanted.ensures.0 refl) c.as_slice-in-Error.ensures c.in_ok-exits-in-Error.ensures

pub returns-in_ok-add-in-To : goal.returns-in_ok-add-in-To
returns-in_ok-add-in-To c =
    subst (λ (v : Visits). HasPassed c.args.function.now c.args.wanted.at c.args.wanted.code c.args.visits.now v
    c.args.turn c.args.exit) (sym c.in_ok-add-in-To.ensures)
    (passed-added c.args.function.now c.args.wanted.at c.args.wanted.code c.args.visits.now c.args.turn
    c.index-as_slice-turn.result
    (record { at = c.in-To.next; state = c.in-To.state; before = c.args.turn; exit = c.args.exit })
    c.requires.searched
    (visit_read c.args.visits.now.list c.as_slice.result.now c.args.turn c.index-as_slice-turn.result
    c.as_slice.ensures c.requires.within c.index-as_slice-turn.is) refl
    (sym (rw c.as_slice-code.ensures at c.follow.ensures) ∙ ap (end_of c.index-as_slice-turn.result.at) c.in-To.is)
    c.in_default.ensures)
