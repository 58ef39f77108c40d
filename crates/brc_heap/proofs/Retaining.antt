-- What a retain leaves of its hand's work.
use Rattle.std.proofs.Common.{◌≡◌, ℕ, Bool, true, false, List, [], ◌∷◌, ◌++◌, refl, sym, ap, ◌∙◌, subst}
use Rattle.std.specs.Prelude.{◌&&◌, nat_lt, if◌then◌else◌}
use Rattle.brc_word.specs.Words.{local_part, is_immortal_word, most_local}
use Rattle.brc_model.specs.declared.duty.Duty.{Duty}
use Rattle.brc_model.specs.declared.duty.Holding.TheVariants.{AsCaller}
use Rattle.brc_model.specs.declared.duty.Duty.TheVariants.{RetainLoad, RetainStore, RetainAdd}
use Rattle.brc_model.specs.Duties.{counts_locally}
use Rattle.brc_model.specs.Machine.{is_running}
use Rattle.brc_table.specs.declared.view.View.{View}
use Rattle.brc_table.specs.Views.{view_by, view_after, retaining}
use Rattle.brc_table.specs.Hands.{HasNoWork}
use Rattle.brc_heap.specs.Calls.{retained, Leaves}
use Rattle.brc_heap.specs.Steps.{HasStepped}
use Rattle.brc_heap.proofs.Leaving.{begun_works}
use Rattle.brc_heap.proofs.Stepping.{plain_begins, plain_on, plain_first, stepped_leaves}

abbrev retain_list : ℕ → ℕ → Bool → Bool → List Duty
retain_list x word immortal counts =
    if immortal then [] else if counts then RetainStore x AsCaller word ∷ [] else RetainAdd x AsCaller ∷ []

-- The load is followed by one step at most.
retained_by : (v u : View) (x word found : ℕ) (immortal counts : Bool)
    → HasStepped v (retain_list x word immortal counts ++ []) u → HasStepped v [] (view_after u found)
retained_by v u x word found true counts at =
    subst (HasStepped v []) (ap (λ (ds : List Duty). view_by u ds found) (sym at.agenda)) at
retained_by v u x word found false true at = plain_on found at refl refl
retained_by v u x word found false false at = plain_on found at refl refl

loaded : (v : View) (x word : ℕ)
    → HasStepped (retaining v x) (retain_list x word (is_immortal_word word)
    (counts_locally v.thread (is_running v.actor.status) word && nat_lt (local_part word) most_local) ++ [])
    (view_after (retaining v x) word)
loaded v x word = plain_on {d = RetainLoad x AsCaller} {rest = []} word (plain_begins refl refl) refl refl

retain_stepped : (v : View) (x word found : ℕ) → HasStepped (retaining v x) [] (retained v x word found)
retain_stepped v x word found =
    retained_by (retaining v x) (view_after (retaining v x) word) x word found (is_immortal_word word)
    (counts_locally v.thread (is_running v.actor.status) word && nat_lt (local_part word) most_local) (loaded v x word)

-- A retain leaves nothing to do.
pub retain_leaves : (v : View) (x word found : ℕ) → HasNoWork v x → Leaves x [] v (retained v x word found)
retain_leaves v x word found none =
    stepped_leaves (begun_works x v (RetainLoad x AsCaller) (retaining v x).references none)
    (retain_stepped v x word found) tt

pub retained_references : (v : View) (x word found : ℕ)
    → (retained v x word found).references ≡ (retaining v x).references
retained_references v x word found = (retain_stepped v x word found).keeps.references

-- ---- the chain

head_by : (v u : View) (x word found : ℕ) (immortal counts : Bool)
    → HasStepped v (retain_list x word immortal counts ++ []) u → (view_after u found).actor.head ≡ u.actor.head
head_by v u x word found true counts at = ap (λ (ds : List Duty). (view_by u ds found).actor.head) at.agenda
head_by v u x word found false true at =
    ap (λ (ds : List Duty). (view_by u ds found).actor.head)
    (at.agenda ∙ plain_first u.actor.head (RetainStore x AsCaller word) [] refl)
head_by v u x word found false false at =
    ap (λ (ds : List Duty). (view_by u ds found).actor.head)
    (at.agenda ∙ plain_first u.actor.head (RetainAdd x AsCaller) [] refl)

-- It chains nothing.
pub retained_head : (v : View) (x word found : ℕ) → (retained v x word found).actor.head ≡ v.actor.head
retained_head v x word found =
    head_by (retaining v x) (view_after (retaining v x) word) x word found (is_immortal_word word)
    (counts_locally v.thread (is_running v.actor.status) word && nat_lt (local_part word) most_local) (loaded v x word)
