-- The moves of a call's arguments, one by one.
use Rattle.std.proofs.Common.{◌≡◌, ℕ, suc, ◌+◌, ◌<◌, ◌≤◌, ◌++◌, List, ◌∷◌, length, sym, ap, ◌∙◌, append_assoc, append-nil, arith}
use Rattle.std.specs.Prelude.{Option, drop, slice_index_or}
use Rattle.std.proofs.lemmas.List.{drop_more, drop_all}
use Rattle.brc_lang.specs.declared.parameter.Argument.{Argument}
use Rattle.brc_model.specs.AbstractState.{Move}
use Rattle.brc_model.specs.Threads.{row_of}
use Rattle.brc_model.specs.Actions.{handed_row, handed_rows}

module _ (t depth : ℕ) (rows : List (Option ℕ)) (arguments : List Argument) where
  -- the moves of the arguments from this one on, of which the first is for the callee's variable `to`
  abbrev left_from : ℕ → ℕ → List Move
  left_from to k = handed_rows t depth rows to (drop k arguments)

  -- One argument's moves are added to those before it.
  pub handed_more : (before after : List Move) (to k : ℕ) (a : Argument) → k < length arguments
      → a ≡ slice_index_or arguments k a
      → before ++ left_from to k ≡ handed_rows t depth rows 1 arguments
      → after ≡ before ++ handed_row t depth to a (row_of rows a.from)
      → after ++ left_from (to + 1) (k + 1) ≡ handed_rows t depth rows 1 arguments
  handed_more before after to k a lt is all goes =
      let next : to + 1 ≡ suc to = omega arith in
      let here : List Move = handed_row t depth to a (row_of rows a.from) in
      let rest : List Move = handed_rows t depth rows (suc to) (drop (k + 1) arguments) in
      let split : drop k arguments ≡ a ∷ drop (k + 1) arguments =
      drop_more arguments k a lt ∙ ap (λ (x : Argument). x ∷ drop (k + 1) arguments) (sym is) in
      (λ i. goes i ++ handed_rows t depth rows (next i) (drop (k + 1) arguments))
      ∙ append_assoc before here rest
      ∙ ap (λ (ms : List Move). before ++ ms) (sym (ap (handed_rows t depth rows to) split)) ∙ all

  -- No argument is left at the end.
  pub handed_all : (moves : List Move) (to k : ℕ) → length arguments ≤ k
      → moves ++ left_from to k ≡ handed_rows t depth rows 1 arguments
      → moves ≡ handed_rows t depth rows 1 arguments
  handed_all moves to k past all =
      sym (append-nil moves)
      ∙ ap (λ (ms : List Move). moves ++ ms) (sym (ap (handed_rows t depth rows to) (drop_all k arguments past))) ∙ all
