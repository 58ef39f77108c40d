-- What a hand does to a view that sets an object's mark and looks after it, and what that leaves.
use Rattle.std.specs.Prelude.{ℕ, ◌==◌, if◌then◌else◌, List, [], ◌∷◌}
use Rattle.brc_word.specs.Words.{mark_at}
use Rattle.brc_model.specs.Layout.{mark_bit}
use Rattle.brc_model.specs.Knowledge.{status_word}
use Rattle.brc_model.specs.declared.actor.Status.TheVariants.{Running}
use Rattle.brc_model.specs.declared.duty.Duty.{Duty}
use Rattle.brc_model.specs.declared.duty.Duty.TheVariants.{MergeSwap}
use Rattle.brc_model.specs.declared.duty.Reason.TheVariants.{Handed}
use Rattle.brc_table.specs.declared.view.View.{View}
use Rattle.brc_table.specs.Views.{view_after}
use Rattle.brc_effect.specs.Outcomes.{taken_answer}
use Rattle.brc_effect.specs.declared.outcomes.Looked.{Looked}
use Rattle.brc_effect.specs.declared.outcomes.Looked.TheVariants as looks

-- the row's mark in a mark word that the hand has found
abbrev pub mark_found : View → ℕ → ℕ → ℕ
mark_found v x found = mark_at found (mark_bit v.layout x)

-- A thread that runs will find the mark itself, and so may the exit of one that doesn't.
abbrev pub look_answer : ℕ → ℕ → Looked
look_answer said mark = if said == status_word Running then looks.Left else taken_answer mark

-- the hand has loaded the word of the thread of the object's block, and taken the mark back unless that thread runs
abbrev pub looked_after : View → ℕ → ℕ → View
looked_after v said found =
    let saw = view_after v said in if said == status_word Running then saw else view_after saw found

-- the hand has set the mark before that, in the mark word `before`
abbrev pub posted : View → ℕ → ℕ → ℕ → View
posted v before said found = looked_after (view_after v before) said found

-- what a look leaves: the hand that has claimed the mark merges the object
abbrev pub look_left : ℕ → Looked → List Duty
look_left x looks.Left = []
look_left x looks.Claimed = MergeSwap x Handed ∷ []
