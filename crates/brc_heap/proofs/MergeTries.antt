-- What one try of a merge leaves, by the words that its steps found.
use Rattle.std.proofs.Common.{◌≡◌, ◌≢◌, ℕ, Bool, true, false, List, [], ◌∷◌, ◌++◌, Option, None, Some, refl, sym, ap, ◌∙◌, subst}
use Rattle.std.specs.Prelude.{◌==◌, if◌then◌else◌}
use Rattle.std.proofs.lemmas.Bool.{eq-eqb, eqb-true}
use Rattle.brc_word.specs.Words.{local_part, dead_word, merged_word}
use Rattle.brc_model.specs.declared.duty.Duty.{Duty}
use Rattle.brc_model.specs.declared.duty.Reason.{Reason}
use Rattle.brc_model.specs.declared.duty.Reason.TheVariants.{Own, Handed}
use Rattle.brc_model.specs.declared.duty.Duty.TheVariants.{SharedLoad, MergeSwap, MergeLoad, MergeExchange, Die}
use Rattle.brc_model.specs.Duties.{ready, once_merged}
use Rattle.brc_table.specs.declared.view.View.{View}
use Rattle.brc_table.specs.Views.{view_after, resumed, turned, open_work}
use Rattle.std.specs.List.{filter}
use Rattle.brc_model.specs.OpenWork.{is_about}
use Rattle.brc_heap.proofs.Turning.{none_aside, turned_itself}
use Rattle.brc_table.specs.Plays.{FindsKnown}
use Rattle.brc_effect.specs.declared.outcomes.MergeStep.{MergeStep}
use Rattle.brc_effect.specs.declared.outcomes.MergeStep.TheVariants as merge
use Rattle.brc_effect.specs.Outcomes.{merge_answer}
use Rattle.brc_heap.specs.Calls.{chained, chained_by, merge_tried, merge_begun, first_answer, merge_left, Leaves}
use Rattle.brc_heap.specs.Steps.{HasStepped, ended}
use Rattle.brc_heap.specs.Tries.{merge_dies, carries_of, swap_left, still_carried}
use Rattle.brc_heap.proofs.Stepping.{plain_first, die_first, plain_begins, plain_on, IsPiece}

-- ---- merges

swap_by : (x local : ℕ) (r : Reason) (none : Bool)
    → (if none then once_merged x r else MergeLoad x (local_part local) r ∷ [])
    ≡ swap_left x r (if none then None else Some (local_part local))
swap_by x local r true = refl
swap_by x local r false = refl

pub swap_stepped : {v : View} {x : ℕ} {r : Reason} {rest : List Duty} (local : ℕ) → v.actor.agenda
    ≡ MergeSwap x r ∷ rest
    → HasStepped v (swap_left x r (carries_of local) ++ rest) (view_after v local)
swap_stepped {v} {x} {r} {rest} local next =
    plain_on local (plain_begins next refl) refl (swap_by x local r (local == 0))

-- The hand has begun: it carries the count, or the object is merged already.
pub swapped : {v u : View} {x : ℕ} {r : Reason} {rest : List Duty} {carried : Option ℕ} (local : ℕ) → u
    ≡ view_after v local
    → carries_of local ≡ carried → v.actor.agenda ≡ MergeSwap x r ∷ rest
    → HasStepped v (swap_left x r carried ++ rest) u
swapped {v} {u} {x} {r} {rest} {carried} local view is next =
    subst (λ (c : Option ℕ). HasStepped v (swap_left x r c ++ rest) u) is
    (subst (HasStepped v (swap_left x r (carries_of local) ++ rest)) (sym view) (swap_stepped local next))

abbrev pub merge_next : ℕ → ℕ → Reason → MergeStep → List Duty
merge_next x c r merge.Kept = once_merged x r
merge_next x c r merge.Dying = Die x ∷ []
merge_next x c r merge.Again = MergeLoad x c r ∷ []

merge_own : (x c : ℕ) (same dead : Bool)
    → (if same then (if dead then Die x ∷ [] else []) else MergeLoad x c Own ∷ [])
    ≡ merge_next x c Own (if same then (if dead then merge.Dying else merge.Kept) else merge.Again)
merge_own x c true true = refl
merge_own x c true false = refl
merge_own x c false dead = refl

merge_handed : (x c : ℕ) (same dead : Bool)
    → ((if same then (if dead then merge.Dying else merge.Kept) else merge.Again) ≡ merge.Dying → ⊥)
    → (if same then SharedLoad x Handed ∷ [] else MergeLoad x c Handed ∷ [])
    ≡ merge_next x c Handed (if same then (if dead then merge.Dying else merge.Kept) else merge.Again)
merge_handed x c true true lives = absurd (lives refl)
merge_handed x c true false lives = refl
merge_handed x c false dead lives = refl

pub merge_loaded : {v : View} {x c : ℕ} {r : Reason} {rest : List Duty} (word : ℕ)
    → v.actor.agenda ≡ MergeLoad x c r ∷ rest → HasStepped v (MergeExchange x c word r ∷ rest) (view_after v word)
merge_loaded {v} {x} {c} {r} {rest} word next = plain_on word (plain_begins next refl) refl refl

-- A merge for a handed reference leaves that reference counted, so that the object lives.
dies_by : (same dead : Bool) → (if same then (if dead then merge.Dying else merge.Kept) else merge.Again) ≡ merge.Dying
    → (same ≡ true) × (dead ≡ true)
dies_by true true is = (refl, refl)
dies_by true false is = absurd cc
dies_by false dead is = absurd cc

pub own_dies : (v : View) (x c word found : ℕ) (r : Reason) (rest : List Duty) → v.actor.agenda ≡ MergeLoad x c r ∷ rest
    → FindsKnown (view_after v word) (view_after v word).actor.agenda found → merge_answer c word found ≡ merge.Dying
    → r ≡ Own
own_dies v x c word found Own rest next known dying = refl
own_dies v x c word found Handed rest next known dying =
    let has = (merge_loaded word next).agenda ∙ plain_first (view_after v word).actor.head
    (MergeExchange x c word Handed) rest refl
    in
    let lives : found ≡ word → merged_word word c ≢ dead_word =
    subst (λ (ds : List Duty). FindsKnown (view_after v word) ds found) has known in
    let (same, dead) = dies_by (found == word) (merged_word word c == dead_word) dying in
    absurd (lives (eqb-true found word same) (eqb-true (merged_word word c) dead_word dead))

pub merge_stepped : (v : View) (x c word found : ℕ) (r : Reason) (rest : List Duty)
    → v.actor.agenda ≡ MergeLoad x c r ∷ rest → (merge_answer c word found ≡ merge.Dying → r ≡ Own)
    → HasStepped v (merge_next x c r (merge_answer c word found) ++ rest) (resumed v (word ∷ found ∷ []))
merge_stepped v x c word found Own rest next own =
    plain_on found (merge_loaded word next) refl (merge_own x c (found == word) (merged_word word c == dead_word))
merge_stepped v x c word found Handed rest next own =
    plain_on found (merge_loaded word next) refl
    (merge_handed x c (found == word) (merged_word word c == dead_word)
    (λ dying. let wrong : Handed ≡ Own = own dying in cc))

-- The hand has tried: the object is chained, or what the answer says is left.
pub merge_dying : (v u w : View) (x c word found : ℕ) (r : Reason) (rest : List Duty) (answer : MergeStep)
    → answer ≡ merge_answer c word found → u ≡ resumed v (word ∷ found ∷ []) → answer ≡ merge.Dying
    → (answer ≡ merge.Dying → r ≡ Own) → (HasStepped v (Die x ∷ rest) u → HasStepped v rest w)
    → v.actor.agenda ≡ MergeLoad x c r ∷ rest → HasStepped v (merge_left x c r answer ++ rest) w
merge_dying v u w x c word found r rest answer said view dying own chains next =
    subst (λ (s : MergeStep). HasStepped v (merge_left x c r s ++ rest) w) (sym dying)
    (chains (subst (λ (s : MergeStep). HasStepped v (merge_next x c r s ++ rest) u) (sym said ∙ dying)
    (subst (HasStepped v (merge_next x c r (merge_answer c word found) ++ rest)) (sym view)
    (merge_stepped v x c word found r rest next (λ dies. own (said ∙ dies))))))

merge_alive : (x c : ℕ) (r : Reason) (answer : MergeStep) → answer ≢ merge.Dying
    → merge_next x c r answer ≡ merge_left x c r answer
merge_alive x c r merge.Kept other = refl
merge_alive x c r merge.Dying other = absurd (other refl)
merge_alive x c r merge.Again other = refl

pub merge_tried_once : (v u : View) (x c word found : ℕ) (r : Reason) (rest : List Duty) (answer : MergeStep)
    → answer ≡ merge_answer c word found → u ≡ resumed v (word ∷ found ∷ []) → answer ≢ merge.Dying
    → v.actor.agenda ≡ MergeLoad x c r ∷ rest → HasStepped v (merge_left x c r answer ++ rest) u
merge_tried_once v u x c word found r rest answer said view other next =
    subst (λ (ds : List Duty). HasStepped v (ds ++ rest) u)
    (ap (merge_next x c r) (sym said) ∙ merge_alive x c r answer other)
    (subst (HasStepped v (merge_next x c r (merge_answer c word found) ++ rest)) (sym view)
    (merge_stepped v x c word found r rest next (λ dies. absurd (other (said ∙ dies)))))

merge_chains : (u : View) (x c : ℕ) (r : Reason) (answer : MergeStep)
    → u.actor.agenda ≡ ready u.actor.head (merge_next x c r answer ++ []) → ended (merge_dies answer) u ≡ chained u
merge_chains u x c Own merge.Kept is = sym (ap (chained_by u) is)
merge_chains u x c Handed merge.Kept is =
    sym (ap (chained_by u) (is ∙ plain_first u.actor.head (SharedLoad x Handed) [] refl))
merge_chains u x c r merge.Dying is = sym (ap (chained_by u) (is ∙ die_first u.actor.head x []))
merge_chains u x c r merge.Again is = sym (ap (chained_by u) (is ∙ plain_first u.actor.head (MergeLoad x c r) [] refl))

-- With nothing behind the try, the object is chained exactly if its death comes next.
pub merge_chained : (v : View) (x c word found : ℕ) (r : Reason) (answer : MergeStep)
    → answer ≡ merge_answer c word found → v.actor.agenda ≡ MergeLoad x c r ∷ [] → (answer ≡ merge.Dying → r ≡ Own)
    → ended (merge_dies answer) (resumed v (word ∷ found ∷ [])) ≡ merge_tried v word found
merge_chained v x c word found r answer said next own =
    ap (λ (s : MergeStep). ended (merge_dies s) (resumed v (word ∷ found ∷ []))) said
    ∙ merge_chains (resumed v (word ∷ found ∷ [])) x c r (merge_answer c word found)
    (merge_stepped v x c word found r [] next (λ dies. own (said ∙ dies))).agenda

-- ---- what is left of a merge

pub merge_piece : (x c : ℕ) (r : Reason) (answer : MergeStep) → IsPiece x (merge_left x c r answer)
merge_piece x c Own merge.Kept = tt
merge_piece x c Handed merge.Kept = (eq-eqb x x refl, refl, refl)
merge_piece x c r merge.Dying = tt
merge_piece x c r merge.Again = (eq-eqb x x refl, refl, refl)

pub swap_piece : (x : ℕ) (r : Reason) (carried : Option ℕ) → IsPiece x (swap_left x r carried)
swap_piece x r (Some carried) = (eq-eqb x x refl, refl, refl)
swap_piece x Own None = tt
swap_piece x Handed None = (eq-eqb x x refl, refl, refl)

pub carries_none : (step : MergeStep) (carried : ℕ) → step ≢ merge.Again → still_carried step carried ≡ None
carries_none merge.Kept carried other = refl
carries_none merge.Dying carried other = refl
carries_none merge.Again carried other = absurd (other refl)

-- ---- the first turn

some_by : (none : Bool) (n carried : ℕ) → (if none then None else Some n) ≡ Some carried
    → (none ≡ false) × (carried ≡ n)
some_by true n carried is = absurd (let wrong : None ≡ Some carried = is in cc)
some_by false n carried is = (refl, let same : Some n ≡ Some carried = is in cc)

-- The hand carries a count: somebody owned the object.
pub some_of : (local carried : ℕ) → carries_of local ≡ Some carried
    → ((local == 0) ≡ false) × (carried ≡ local_part local)
some_of local carried is = some_by (local == 0) (local_part local) carried is

pub begun_some : {x : ℕ} {r : Reason} {carried : ℕ} {o : Option ℕ} {v u : View} → o ≡ Some carried
    → Leaves x (swap_left x r o) v u → Leaves x (MergeLoad x carried r ∷ []) v u
begun_some {x} {r} {v = v} {u = u} is = subst (λ (c : Option ℕ). Leaves x (swap_left x r c) v u) is

-- The hand is at the row already.
pub stays_there : {v u : View} {x : ℕ} {d : Duty} → Leaves x (d ∷ []) v u → is_about x d ≡ true → turned u x ≡ u
stays_there {v} {u} {x} {d} left about =
    turned_itself u x d left.agenda about (ap (filter (is_about x)) left.keeps.aside ∙ none_aside x (open_work v))

pub first_view : {u w : View} (v : View) (x local word found : ℕ) → (local == 0) ≡ false → u
    ≡ view_after (turned v x) local
    → turned u x ≡ u → w ≡ merge_tried (turned u x) word found → w ≡ merge_begun v x local word found
first_view {u} {w} v x local word found some view stays is =
    is
    ∙ (ap (λ (z : View). merge_tried z word found) (stays ∙ view)
    ∙ sym (ap (λ (b : Bool). if b then view_after (turned v x) local else merge_tried (view_after (turned v x) local)
    word found)
    some))

pub first_says : {answer : MergeStep} (local carried word found : ℕ) → (local == 0) ≡ false
    → carried ≡ local_part local → answer ≡ merge_answer carried word found → answer ≡ first_answer local word found
first_says local carried word found some is said =
    said
    ∙ (ap (λ (n : ℕ). merge_answer n word found) is
    ∙ sym (ap (λ (b : Bool). if b then merge.Kept else merge_answer (local_part local) word found) some))
