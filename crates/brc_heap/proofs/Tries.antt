-- What one try of each piece of work leaves, by the words that its steps found.
use Rattle.std.proofs.Common.{◌≡◌, ◌≢◌, ◌⊎◌, inl, inr, ℕ, Bool, true, false, List, [], ◌∷◌, ◌++◌, refl, sym, ap, ◌∙◌, subst}
use Rattle.std.specs.Prelude.{◌==◌, if◌then◌else◌}
use Rattle.std.proofs.lemmas.Bool.{eq-eqb}
use Rattle.brc_word.specs.Words.{local_part, is_immortal_word, fresh_word, dead_word, released_word}
use Rattle.brc_model.specs.declared.duty.Duty.{Duty}
use Rattle.brc_model.specs.declared.duty.Holding.{Holding}
use Rattle.brc_model.specs.declared.duty.Holding.TheVariants.{AsCaller}
use Rattle.brc_model.specs.declared.duty.Reason.{Reason}
use Rattle.brc_model.specs.declared.duty.Reason.TheVariants.{Own}
use Rattle.brc_model.specs.declared.duty.Duty.TheVariants.{ReleaseLoad, ReleaseStore, DecideAtZero, SharedLoad, SharedExchange, SetMark, MergeSwap, Die}
use Rattle.brc_model.specs.Duties.{ready}
use Rattle.brc_model.specs.Machine.{is_running}
use Rattle.brc_table.specs.declared.view.View.{View}
use Rattle.brc_table.specs.Views.{view_by, view_after, resumed, releasing}
use Rattle.brc_table.specs.Hands.{HasNoWork}
use Rattle.brc_effect.specs.declared.outcomes.LocalRelease.{LocalRelease}
use Rattle.brc_effect.specs.declared.outcomes.LocalRelease.TheVariants as local
use Rattle.brc_effect.specs.declared.outcomes.ZeroStep.{ZeroStep}
use Rattle.brc_effect.specs.declared.outcomes.ZeroStep.TheVariants as zeros
use Rattle.brc_effect.specs.declared.outcomes.SharedRelease.{SharedRelease}
use Rattle.brc_effect.specs.declared.outcomes.SharedRelease.TheVariants as shared
use Rattle.brc_effect.specs.Outcomes.{zero_answer, shared_answer}
use Rattle.brc_heap.specs.Calls.{counts_here, released_locally, chained, chained_by, local_answer, local_left, zero_left, shared_left, WorksAt}
use Rattle.brc_effect.specs.Outcomes.{local_answer as local_release}
use Rattle.brc_heap.specs.Steps.{HasStepped, ended}
use Rattle.brc_heap.specs.Tries.{lowered, zero_dies, shared_dies}
use Rattle.brc_heap.proofs.Stepping.{plain_first, die_first, plain_begins, plain_on, IsPiece}
use Rattle.brc_heap.proofs.Leaving.{begun_works}

-- ---- the local word

-- what follows the load of the local word, before the store
abbrev loaded_next : ℕ → ℕ → Bool → Bool → List Duty
loaded_next x word immortal counts =
    if immortal then [] else if counts then ReleaseStore x word ∷ [] else SharedLoad x Own ∷ []

lowered_by : (v u : View) (x word : ℕ) (rest : List Duty) (immortal counts last : Bool)
    → HasStepped v (loaded_next x word immortal counts ++ rest) u → (local_part word == 1) ≡ last
    → HasStepped v (local_left x (if immortal then local.Skip
    else if counts then (if last then local.Zero else local.Kept) else local.Share) ++ rest)
    (if immortal then u else if counts then view_after u word else u)
lowered_by v u x word rest true counts last at is = at
lowered_by v u x word rest false true true at is =
    plain_on word at refl (ap (λ (b : Bool). if b then DecideAtZero x ∷ [] else []) is)
lowered_by v u x word rest false true false at is =
    plain_on word at refl (ap (λ (b : Bool). if b then DecideAtZero x ∷ [] else []) is)
lowered_by v u x word rest false false last at is = at

-- A hand that counts locally has stored the word next.
pub lowered_stepped : (v u : View) (x word : ℕ) (h : Holding) (rest : List Duty) → v.actor.agenda
    ≡ ReleaseLoad x h ∷ rest
    → u ≡ view_after v word → HasStepped v (local_left x (local_answer u word) ++ rest) (lowered u word)
lowered_stepped v u x word h rest next is =
    lowered_by v u x word rest (is_immortal_word word) (counts_here u word) (local_part word == 1)
    (loaded v u x word h rest next is) refl where
      counts_still : (v u : View) (x word : ℕ) (h : Holding) (rest : List Duty) → v.actor.agenda
          ≡ ReleaseLoad x h ∷ rest
          → u ≡ view_after v word → counts_here v word ≡ counts_here u word
      counts_still v u x word h rest next is =
          ap (λ (z : View). counts_here z word) (sym (is ∙ ap (λ (ds : List Duty). view_by v ds word) next))

      loaded : (v u : View) (x word : ℕ) (h : Holding) (rest : List Duty) → v.actor.agenda ≡ ReleaseLoad x h ∷ rest
          → u ≡ view_after v word
          → HasStepped v (loaded_next x word (is_immortal_word word) (counts_here u word) ++ rest) u
      loaded v u x word h rest next is =
          subst (HasStepped v (loaded_next x word (is_immortal_word word) (counts_here u word) ++ rest)) (sym is)
          (plain_on word (plain_begins next refl) refl
          (ap (λ (b : Bool). loaded_next x word (is_immortal_word word) b) (counts_still v u x word h rest next is)))

-- The code asks for the hand's thread and status, as the model does.
pub answered : {answer : LocalRelease} {thread : ℕ} {running : Bool} (u : View) (word : ℕ) → thread ≡ u.thread
    → running ≡ is_running u.actor.status → answer ≡ local_release thread running word → answer ≡ local_answer u word
answered {answer} {thread} {running} u word same runs is =
    is
    ∙ (ap (λ (t : ℕ). local_release t running word) same
    ∙ ap (λ (b : Bool). local_release u.thread b word) runs)

stores_by : (v u : View) (immortal counts last : Bool) (answer : LocalRelease)
    → answer ≡ (if immortal then local.Skip else if counts then (if last then local.Zero else local.Kept)
    else local.Share) → (answer ≡ local.Kept) ⊎ (answer ≡ local.Zero)
    → (if immortal then v else if counts then u else v) ≡ u
stores_by v u true counts last answer said (inl is) = absurd (let wrong : local.Skip ≡ local.Kept = sym said ∙ is in cc)
stores_by v u true counts last answer said (inr is) = absurd (let wrong : local.Skip ≡ local.Zero = sym said ∙ is in cc)
stores_by v u false true last answer said is = refl
stores_by v u false false last answer said (inl is) =
    absurd (let wrong : local.Share ≡ local.Kept = sym said ∙ is in cc)
stores_by v u false false last answer said (inr is) =
    absurd (let wrong : local.Share ≡ local.Zero = sym said ∙ is in cc)

stays_by : (v u : View) (immortal counts last : Bool) (answer : LocalRelease)
    → answer ≡ (if immortal then local.Skip else if counts then (if last then local.Zero else local.Kept)
    else local.Share) → (answer ≡ local.Skip) ⊎ (answer ≡ local.Share)
    → (if immortal then v else if counts then u else v) ≡ v
stays_by v u true counts last answer said is = refl
stays_by v u false true true answer said (inl is) = absurd (let wrong : local.Zero ≡ local.Skip = sym said ∙ is in cc)
stays_by v u false true true answer said (inr is) = absurd (let wrong : local.Zero ≡ local.Share = sym said ∙ is in cc)
stays_by v u false true false answer said (inl is) = absurd (let wrong : local.Kept ≡ local.Skip = sym said ∙ is in cc)
stays_by v u false true false answer said (inr is) =
    absurd (let wrong : local.Kept ≡ local.Share = sym said ∙ is in cc)
stays_by v u false false last answer said is = refl

-- The hand has stored the lowered count,
pub local_lowered : (v u w : View) (x word : ℕ) (h : Holding) (rest : List Duty) (answer : LocalRelease)
    → answer ≡ local_answer u word → (answer ≡ local.Kept) ⊎ (answer ≡ local.Zero) → w ≡ view_after u word
    → v.actor.agenda ≡ ReleaseLoad x h ∷ rest → u ≡ view_after v word → HasStepped v (local_left x answer ++ rest) w
local_lowered v u w x word h rest answer said stores view next is =
    subst (λ (a : LocalRelease). HasStepped v (local_left x a ++ rest) w) (sym said)
    (subst (HasStepped v (local_left x (local_answer u word) ++ rest))
    (stores_by u (view_after u word) (is_immortal_word word) (counts_here u word) (local_part word == 1) answer said
    stores
    ∙ sym view) (lowered_stepped v u x word h rest next is))

-- or nothing.
pub local_stays : (v u : View) (x word : ℕ) (h : Holding) (rest : List Duty) (answer : LocalRelease)
    → answer ≡ local_answer u word → (answer ≡ local.Skip) ⊎ (answer ≡ local.Share)
    → v.actor.agenda ≡ ReleaseLoad x h ∷ rest → u ≡ view_after v word → HasStepped v (local_left x answer ++ rest) u
local_stays v u x word h rest answer said stays next is =
    subst (λ (a : LocalRelease). HasStepped v (local_left x a ++ rest) u) (sym said)
    (subst (HasStepped v (local_left x (local_answer u word) ++ rest))
    (stays_by u (view_after u word) (is_immortal_word word) (counts_here u word) (local_part word == 1) answer said
    stays)
    (lowered_stepped v u x word h rest next is))

-- A hand that begins a release has put all other work aside.
pub releasing_works : (v : View) (x : ℕ) → HasNoWork v x → WorksAt x v (releasing v x)
releasing_works v x none =
    begun_works x v (ReleaseLoad x AsCaller) (releasing v x).references none

pub local_piece : (x : ℕ) (answer : LocalRelease) → IsPiece x (local_left x answer)
local_piece x local.Skip = tt
local_piece x local.Kept = tt
local_piece x local.Zero = (eq-eqb x x refl, refl, refl)
local_piece x local.Share = (eq-eqb x x refl, refl, refl)

-- With nothing behind it, an immortal object's release has nothing to do after its load.
here_by : (u : View) (word : ℕ) (immortal counts : Bool) → (immortal ≡ true → u.actor.agenda ≡ [])
    → (if immortal then u else if counts then view_after u word else u) ≡ (if counts then view_after u word else u)
here_by u word true true none = sym (ap (λ (ds : List Duty). view_by u ds word) (none refl))
here_by u word true false none = refl
here_by u word false counts none = refl

pub lowered_here : {u : View} (v : View) (x word : ℕ) → u ≡ view_after (releasing v x) word
    → lowered u word ≡ released_locally v x word
lowered_here {u} v x word is =
    ap (λ (z : View). lowered z word) is
    ∙ here_by (view_after (releasing v x) word) word (is_immortal_word word) (counts_here v word)
    (λ immortal. ap (λ (b : Bool). ready v.actor.head (loaded_next x word b (counts_here v word) ++ [])) immortal)

-- ---- the last local reference

abbrev pub zero_next : ℕ → ZeroStep → List Duty
zero_next x zeros.Dying = Die x ∷ []
zero_next x zeros.Merge = MergeSwap x Own ∷ []

zero_by : (x : ℕ) (fresh : Bool) → (if fresh then Die x ∷ [] else MergeSwap x Own ∷ [])
    ≡ zero_next x (if fresh then zeros.Dying else zeros.Merge)
zero_by x true = refl
zero_by x false = refl

pub zero_stepped : {v : View} {x : ℕ} {rest : List Duty} (word : ℕ) → v.actor.agenda ≡ DecideAtZero x ∷ rest
    → HasStepped v (zero_next x (zero_answer word) ++ rest) (view_after v word)
zero_stepped {v} {x} {rest} word next =
    plain_on word (plain_begins next refl) refl (zero_by x (word == fresh_word))

-- The hand has decided: the object is chained, or to be merged.
pub zero_dying : {v u w : View} {x : ℕ} {rest : List Duty} (word : ℕ) (answer : ZeroStep) → answer ≡ zero_answer word
    → u ≡ view_after v word → answer ≡ zeros.Dying → (HasStepped v (Die x ∷ rest) u → HasStepped v rest w)
    → v.actor.agenda ≡ DecideAtZero x ∷ rest → HasStepped v (zero_left x answer ++ rest) w
zero_dying {v} {u} {w} {x} {rest} word answer said view dying chains next =
    subst (λ (z : ZeroStep). HasStepped v (zero_left x z ++ rest) w) (sym dying)
    (chains (subst (λ (z : ZeroStep). HasStepped v (zero_next x z ++ rest) u) (sym said ∙ dying)
    (subst (HasStepped v (zero_next x (zero_answer word) ++ rest)) (sym view) (zero_stepped word next))))

pub zero_merges : {v u : View} {x : ℕ} {rest : List Duty} (word : ℕ) (answer : ZeroStep) → answer ≡ zero_answer word
    → u ≡ view_after v word → answer ≡ zeros.Merge
    → v.actor.agenda ≡ DecideAtZero x ∷ rest → HasStepped v (zero_left x answer ++ rest) u
zero_merges {v} {u} {x} {rest} word answer said view merges next =
    subst (λ (z : ZeroStep). HasStepped v (zero_left x z ++ rest) u) (sym merges)
    (subst (λ (z : ZeroStep). HasStepped v (zero_next x z ++ rest) u) (sym said ∙ merges)
    (subst (HasStepped v (zero_next x (zero_answer word) ++ rest)) (sym view) (zero_stepped word next)))

pub zero_piece : (x : ℕ) (answer : ZeroStep) → IsPiece x (zero_left x answer)
zero_piece x zeros.Dying = tt
zero_piece x zeros.Merge = (eq-eqb x x refl, refl, refl)

zero_chains : (u : View) (x : ℕ) (answer : ZeroStep) → u.actor.agenda ≡ ready u.actor.head (zero_next x answer ++ [])
    → ended (zero_dies answer) u ≡ chained u
zero_chains u x zeros.Dying is = sym (ap (chained_by u) (is ∙ die_first u.actor.head x []))
zero_chains u x zeros.Merge is = sym (ap (chained_by u) (is ∙ plain_first u.actor.head (MergeSwap x Own) [] refl))

-- With nothing behind the decision, the object is chained exactly if its death comes next.
pub zero_chained : (v : View) (x word : ℕ) (answer : ZeroStep) → answer ≡ zero_answer word
    → v.actor.agenda ≡ DecideAtZero x ∷ [] → ended (zero_dies answer) (view_after v word) ≡ chained (view_after v word)
zero_chained v x word answer said next =
    ap (λ (z : ZeroStep). ended (zero_dies z) (view_after v word)) said
    ∙ zero_chains (view_after v word) x (zero_answer word) (zero_stepped word next).agenda

-- ---- the shared word

abbrev pub shared_next : ℕ → Reason → SharedRelease → List Duty
shared_next x r shared.Kept = []
shared_next x r shared.Queued = SetMark x ∷ []
shared_next x r shared.Dying = Die x ∷ []
shared_next x r shared.Again = SharedLoad x r ∷ []

shared_by : (x : ℕ) (r : Reason) (same fresh dead : Bool)
    → (if same then (if fresh then SetMark x ∷ [] else if dead then Die x ∷ [] else []) else SharedLoad x r ∷ [])
    ≡ shared_next x r (if same then (if fresh then shared.Queued else if dead then shared.Dying else shared.Kept)
    else shared.Again)
shared_by x r true true dead = refl
shared_by x r true false true = refl
shared_by x r true false false = refl
shared_by x r false fresh dead = refl

pub shared_loaded : {v : View} {x : ℕ} {r : Reason} {rest : List Duty} (word : ℕ) → v.actor.agenda
    ≡ SharedLoad x r ∷ rest
    → HasStepped v (SharedExchange x r word ∷ rest) (view_after v word)
shared_loaded {v} {x} {r} {rest} word next = plain_on word (plain_begins next refl) refl refl

pub shared_stepped : {v : View} {x : ℕ} {r : Reason} {rest : List Duty} (word found : ℕ)
    → v.actor.agenda ≡ SharedLoad x r ∷ rest
    → HasStepped v (shared_next x r (shared_answer word found) ++ rest) (resumed v (word ∷ found ∷ []))
shared_stepped {v} {x} {r} {rest} word found next =
    plain_on found (shared_loaded word next) refl
    (shared_by x r (found == word) (word == fresh_word) (released_word word == dead_word))

-- The hand has tried: the object is chained, or what the answer says is left.
pub shared_dying : {v u w : View} {x : ℕ} {r : Reason} {rest : List Duty} (word found : ℕ) (answer : SharedRelease)
    → answer ≡ shared_answer word found → u ≡ resumed v (word ∷ found ∷ []) → answer ≡ shared.Dying
    → (HasStepped v (Die x ∷ rest) u → HasStepped v rest w)
    → v.actor.agenda ≡ SharedLoad x r ∷ rest → HasStepped v (shared_left x r answer ++ rest) w
shared_dying {v} {u} {w} {x} {r} {rest} word found answer said view dying chains next =
    subst (λ (s : SharedRelease). HasStepped v (shared_left x r s ++ rest) w) (sym dying)
    (chains (subst (λ (s : SharedRelease). HasStepped v (shared_next x r s ++ rest) u) (sym said ∙ dying)
    (subst (HasStepped v (shared_next x r (shared_answer word found) ++ rest)) (sym view)
    (shared_stepped word found next))))

shared_alive : (x : ℕ) (r : Reason) (answer : SharedRelease) → answer ≢ shared.Dying
    → shared_next x r answer ≡ shared_left x r answer
shared_alive x r shared.Kept other = refl
shared_alive x r shared.Queued other = refl
shared_alive x r shared.Dying other = absurd (other refl)
shared_alive x r shared.Again other = refl

pub shared_tried : {v u : View} {x : ℕ} {r : Reason} {rest : List Duty} (word found : ℕ) (answer : SharedRelease)
    → answer ≡ shared_answer word found → u ≡ resumed v (word ∷ found ∷ []) → answer ≢ shared.Dying
    → v.actor.agenda ≡ SharedLoad x r ∷ rest → HasStepped v (shared_left x r answer ++ rest) u
shared_tried {v} {u} {x} {r} {rest} word found answer said view other next =
    subst (λ (ds : List Duty). HasStepped v (ds ++ rest) u)
    (ap (shared_next x r) (sym said) ∙ shared_alive x r answer other)
    (subst (HasStepped v (shared_next x r (shared_answer word found) ++ rest)) (sym view)
    (shared_stepped word found next))

pub shared_piece : (x : ℕ) (r : Reason) (answer : SharedRelease) → IsPiece x (shared_left x r answer)
shared_piece x r shared.Kept = tt
shared_piece x r shared.Queued = (eq-eqb x x refl, refl, refl)
shared_piece x r shared.Dying = tt
shared_piece x r shared.Again = (eq-eqb x x refl, refl, refl)

shared_chains : (u : View) (x : ℕ) (r : Reason) (answer : SharedRelease)
    → u.actor.agenda ≡ ready u.actor.head (shared_next x r answer ++ []) → ended (shared_dies answer) u ≡ chained u
shared_chains u x r shared.Kept is = sym (ap (chained_by u) is)
shared_chains u x r shared.Queued is = sym (ap (chained_by u) (is ∙ plain_first u.actor.head (SetMark x) [] refl))
shared_chains u x r shared.Dying is = sym (ap (chained_by u) (is ∙ die_first u.actor.head x []))
shared_chains u x r shared.Again is = sym (ap (chained_by u) (is ∙ plain_first u.actor.head (SharedLoad x r) [] refl))

-- With nothing behind the try, the object is chained exactly if its death comes next.
pub shared_chained : (v : View) (x word found : ℕ) (r : Reason) (answer : SharedRelease)
    → answer ≡ shared_answer word found → v.actor.agenda ≡ SharedLoad x r ∷ []
    → ended (shared_dies answer) (resumed v (word ∷ found ∷ [])) ≡ chained (resumed v (word ∷ found ∷ []))
shared_chained v x word found r answer said next =
    ap (λ (s : SharedRelease). ended (shared_dies s) (resumed v (word ∷ found ∷ []))) said
    ∙ shared_chains (resumed v (word ∷ found ∷ [])) x r (shared_answer word found)
    (shared_stepped word found next).agenda
