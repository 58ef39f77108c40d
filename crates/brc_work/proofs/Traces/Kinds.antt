-- `as`.
use Rattle.std.proofs.Common.{◌≡◌, ℕ, ◌+◌, Bool, true, false, cond, List, [], Option, Some, refl, sym, ap, ◌∙◌, subst}
use Rattle.brc_lang.specs.declared.kind.Kind.{Kind}
use Rattle.brc_lang.specs.declared.module.Instr.TheVariants as instructions
use Rattle.brc_model.specs.Actions.{Does}
use Rattle.brc_model.specs.Kinds.{kind_of_word, same_kind}
use Rattle.brc_model.specs.Threads.{row_of}
use Rattle.brc_model.specs.declared.actor.Context.{Context}
use Rattle.brc_model.specs.declared.actor.Place.{Place}
use Rattle.brc_model.specs.declared.actor.Place.TheVariants.{InCall}
use Rattle.brc_model.specs.declared.duty.Duty.TheVariants.{KindLoad}
use Rattle.brc_model.specs.declared.state.Exit.TheVariants.{Success, Fault}
use Rattle.brc_table.specs.declared.view.View.{View}
use Rattle.brc_table.specs.Views.{view_after, asking}
use Rattle.brc_work.specs.Traces.{Program, MakesTrace}
use Rattle.brc_work.specs.Performs.{IsBefore, Performs}
use Rattle.brc_work.proofs.Traces.Places.{begins_with, begins_one}
use Rattle.brc_work.proofs.Traces.Starting.{asks_kind}

module _ (from row word otherwise : ℕ) (kind seen : Kind) (rows : List (Option ℕ)) (v u : View) (none : v.actor.agenda
    ≡ [])
    (names : row_of rows from ≡ Some row) (is : u ≡ view_after (asking v row) word) (sees : seen ≡ kind_of_word word)
  where
    -- The thread goes on where the word found says.
    asked : (b : Bool) → same_kind seen kind ≡ b → (program : Program) (place : Place) (context : Context) (at : ℕ)
        → IsBefore (instructions.As from kind otherwise) program place context at rows
        → MakesTrace 1 [] program place v (InCall context (cond b (at + 1) otherwise) rows) u
    asked b answer program place context at before =
        let next = λ (found : ℕ).
        InCall context (cond (same_kind (kind_of_word found) kind) (at + 1) otherwise) rows in
        subst (λ (q : Place). MakesTrace 1 [] program place v q u)
        (ap (λ (k : Kind). InCall context (cond (same_kind k kind) (at + 1) otherwise) rows) (sym sees)
        ∙ ap (λ (c : Bool). InCall context (cond c (at + 1) otherwise) rows) answer)
        (subst (MakesTrace 1 [] program place v (next word)) (sym is)
        (begins_one before (asks_kind program place next v none row word
        (begins_with (instructions.As from kind otherwise) program place context at rows before v.layout v.thread
        v.actor.used
        from row
        (λ x. Does (KindLoad x) [] next) refl names))))

    -- The object is of the kind,
    pub is_of : same_kind seen kind ≡ true
        → Performs [] (instructions.As from kind otherwise) Success rows v rows u
    is_of same = asked true same

    -- or it isn't.
    pub is_not_of : same_kind seen kind ≡ false
        → Performs [] (instructions.As from kind otherwise) Fault rows v rows u
    is_not_of other = asked false other
