-- What is left once a hand has set an object's mark, and once it has looked after the object.
use Rattle.std.proofs.Common.{◌≡◌, ℕ, Bool, true, false, List, [], ◌∷◌, ◌++◌, refl, sym, ap, ◌∙◌, subst}
use Rattle.std.specs.Prelude.{◌==◌, if◌then◌else◌}
use Rattle.std.proofs.lemmas.Bool.{eq-eqb}
use Rattle.brc_model.specs.declared.duty.Duty.{Duty}
use Rattle.brc_model.specs.declared.duty.Duty.TheVariants.{SetMark, Look, TakeMark, MergeSwap}
use Rattle.brc_model.specs.declared.duty.Reason.TheVariants.{Handed}
use Rattle.brc_word.specs.Words.{mark_at}
use Rattle.brc_model.specs.Duties.{claimed}
use Rattle.brc_model.specs.declared.layout.Layout.{Layout}
use Rattle.brc_model.specs.Layout.{mark_bit}
use Rattle.brc_table.specs.declared.view.View.{View}
use Rattle.brc_table.specs.Views.{view_after}
use Rattle.brc_effect.specs.declared.outcomes.Looked.{Looked}
use Rattle.brc_effect.specs.declared.outcomes.Looked.TheVariants as looks
use Rattle.brc_effect.specs.Outcomes.{taken_answer}
use Rattle.brc_heap.specs.Marks.{mark_found, look_answer, look_left, looked_after, posted}
use Rattle.brc_heap.specs.Steps.{HasStepped}
use Rattle.brc_heap.proofs.Stepping.{IsPiece, plain_first, plain_begins, plain_on, stepped_then}

pub mark_stepped : {v : View} {x : ℕ} {rest : List Duty} → v.actor.agenda ≡ SetMark x ∷ rest
    → (found : ℕ) → HasStepped v (Look x ∷ rest) (view_after v found)
mark_stepped {v} {x} {rest} next found = plain_on found (plain_begins next refl) refl refl

-- The owner doesn't run: the mark is taken back next.
pub stopped : {v : View} {x : ℕ} {rest : List Duty} (said : ℕ) → v.actor.agenda ≡ Look x ∷ rest → (said == 1) ≡ false
    → HasStepped v (TakeMark x ∷ rest) (view_after v said)
stopped {v} {x} {rest} said next is =
    plain_on said (plain_begins next refl) refl (ap (λ (b : Bool). if b then [] else TakeMark x ∷ []) is)

taken_by : (x : ℕ) (set : Bool)
    → (if set then MergeSwap x Handed ∷ [] else []) ≡ look_left x (if set then looks.Claimed else looks.Left)
taken_by x true = refl
taken_by x false = refl

-- The mark was taken back, or was gone.
taken_on : (v : View) (x said found : ℕ) (rest : List Duty) → v.actor.agenda ≡ Look x ∷ rest → (said == 1) ≡ false
    → HasStepped v (look_left x (taken_answer (mark_found v x found)) ++ rest) (view_after (view_after v said) found)
taken_on v x said found rest next is =
    let at : HasStepped v (TakeMark x ∷ rest) (view_after v said) = stopped said next is in
    plain_on found at refl
    (ap (λ (layout : Layout). claimed x (mark_at found (mark_bit layout x))) at.keeps.layout
    ∙ taken_by x (mark_found v x found == 1))

look_by : (v : View) (x said found : ℕ) (rest : List Duty) (runs : Bool) → (said == 1) ≡ runs
    → v.actor.agenda ≡ Look x ∷ rest
    → HasStepped v (look_left x
    (if runs then looks.Left else if mark_found v x found == 1 then looks.Claimed else looks.Left)
    ++ rest)
    (if runs then view_after v said else view_after (view_after v said) found)
look_by v x said found rest true is next =
    plain_on said (plain_begins next refl) refl (ap (λ (b : Bool). if b then [] else TakeMark x ∷ []) is)
look_by v x said found rest false is next =
    taken_on v x said found rest next is

pub look_stepped : {v : View} {x : ℕ} {rest : List Duty} (said found : ℕ) → v.actor.agenda ≡ Look x ∷ rest
    → HasStepped v (look_left x (look_answer said (mark_found v x found)) ++ rest) (looked_after v said found)
look_stepped {v} {x} {rest} said found next = look_by v x said found rest (said == 1) refl next

-- The hand has looked: the owner runs, or the hand has taken the mark back or found it gone.
pub runs : {v u : View} {x : ℕ} {rest : List Duty} (said : ℕ) → u ≡ view_after v said → (said == 1) ≡ true
    → v.actor.agenda ≡ Look x ∷ rest → HasStepped v rest u
runs {v} {u} {x} {rest} said view is next =
    subst (HasStepped v rest) (sym view)
    (plain_on said (plain_begins next refl) refl (ap (λ (b : Bool). if b then [] else TakeMark x ∷ []) is))

pub taken_back : {v u w : View} {x : ℕ} {rest : List Duty} (answer : Looked) (said found : ℕ) → u ≡ view_after v said
    → w ≡ view_after u found → (said == 1) ≡ false → answer ≡ taken_answer (mark_found v x found)
    → v.actor.agenda ≡ Look x ∷ rest
    → HasStepped v (look_left x answer ++ rest) w
taken_back {v} {u} {w} {x} {rest} answer said found view after is one next =
    subst (λ (a : Looked). HasStepped v (look_left x a ++ rest) w) (sym one)
    (subst (HasStepped v (look_left x (taken_answer (mark_found v x found)) ++ rest))
    (sym (after ∙ ap (λ (z : View). view_after z found) view))
    (taken_on v x said found rest next is))

-- One after the other.
pub posted_stepped : {v : View} {x : ℕ} {rest : List Duty} (before said found : ℕ) → v.actor.agenda ≡ SetMark x ∷ rest
    → HasStepped v (look_left x (look_answer said (mark_found v x found)) ++ rest) (posted v before said found)
posted_stepped {v} {x} {rest} before said found next =
    let marked = mark_stepped next before in
    subst (λ (layout : Layout). HasStepped v
    (look_left x (look_answer said (mark_at found (mark_bit layout x))) ++ rest) (posted v before said found))
    marked.keeps.layout
    (stepped_then marked
    (look_stepped said found (marked.agenda ∙ plain_first (view_after v before).actor.head (Look x) rest refl)))

pub look_piece : (x : ℕ) (answer : Looked) → IsPiece x (look_left x answer)
look_piece x looks.Left = tt
look_piece x looks.Claimed = (eq-eqb x x refl, refl, refl)
