-- A hand without work about a row has no duty about it, neither on its agenda nor aside.
use Rattle.std.proofs.Common.{◌≡◌, ℕ, ◌+◌, cond, List, [], ◌∷◌, ◌++◌, length, sym, ap, ◌∙◌, arith}
use Rattle.std.specs.Prelude.{count_by}
use Rattle.std.proofs.lemmas.List.Sums.{sum_by-append, sum_by-cons, length-filter}
use Rattle.brc_model.specs.declared.duty.Duty.{Duty}
use Rattle.brc_model.specs.References.{one_if}
use Rattle.brc_model.specs.OpenWork.{is_about, about_of}
use Rattle.brc_model.specs.Counting.{HasNoneAbout}
use Rattle.brc_table.specs.declared.view.View.{View}
use Rattle.brc_table.specs.Hands.{HasNoWork}

-- No duty of a thread is about the row, if none of all its work is.
none_about : (x : ℕ) (agenda aside : List Duty) → count_by (is_about x) (agenda ++ aside) ≡ 0
    → one_if (about_of x agenda) + count_by (is_about x) aside ≡ 0
none_about x [] aside none = omega (arith, none)
none_about x (d ∷ rest) aside none =
    let counted : Duty → ℕ = λ e. cond (is_about x e) 1 0 in
    omega (arith, none, sum_by-cons counted d (rest ++ aside), sum_by-append counted rest aside)

pub has_none : (v : View) (x : ℕ) → HasNoWork v x → HasNoneAbout v.actor x
has_none v x free =
    none_about x v.actor.agenda v.actor.aside (sym (length-filter (is_about x) (v.actor.agenda ++ v.actor.aside))
    ∙ ap length free)
