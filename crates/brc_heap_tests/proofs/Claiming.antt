-- What a hand that claims a mark of its own block has to do next, step by step. The chain is settled behind it.
use Rattle.std.proofs.Common.{◌≡◌, ◌≢◌, ℕ, zero, suc, Bool, true, false, List, [], ◌∷◌, ◌++◌, refl, sym, ap, ◌∙◌, subst}
use Rattle.std.specs.Prelude.{◌==◌, if◌then◌else◌}
use Rattle.std.proofs.lemmas.Bool.{eq-eqb}
use Rattle.brc_word.specs.Words.{local_part, merged_word}
use Rattle.brc_model.specs.declared.duty.Duty.{Duty}
use Rattle.brc_model.specs.declared.duty.Duty.TheVariants.{MergeSwap, MergeLoad, MergeExchange, SharedLoad, SharedExchange, Settle}
use Rattle.brc_model.specs.declared.duty.Reason.TheVariants.{Handed}
use Rattle.brc_model.specs.declared.actor.Status.{Status}
use Rattle.brc_model.specs.declared.actor.Status.TheVariants.{Running, Gone}
use Rattle.brc_model.specs.Machine.{status_by}
use Rattle.brc_model.specs.Duties.{ready, claimed, once_merged, merge_result}
use Rattle.brc_heap.specs.Marks.{mark_found}
use Rattle.brc_table.specs.declared.view.View.{View}
use Rattle.brc_table.specs.Views.{view_by, view_after, claiming}

-- The hand runs, and this is what it has to do.
pub record Works (v : View) (work : List Duty) : Type 0 where
  pub status : v.actor.status ≡ Running
  pub agenda : v.actor.agenda ≡ work

pub never_gone : {v : View} {work : List Duty} → Works v work → v.actor.status ≢ Gone
never_gone works = λ gone. absurd (let e : Running ≡ Gone = sym works.status ∙ gone in cc)

-- A step leaves a running hand with what comes next.
works_next : (v : View) (d : Duty) (rest : List Duty) (found : ℕ) (work : List Duty) → Works v (d ∷ rest)
    → status_by Running d ≡ Running → (view_by v (d ∷ rest) found).actor.agenda ≡ work → Works (view_after v found) work
works_next v d rest found work works quiet next = record {
  status =
      ap (λ (ds : List Duty). (view_by v ds found).actor.status) works.agenda
      ∙ (ap (λ (s : Status). status_by s d) works.status ∙ quiet);
  agenda = ap (λ (ds : List Duty). (view_by v ds found).actor.agenda) works.agenda ∙ next;
}

claim_by : (head x : ℕ) → ready head ((claimed x 1 ++ Settle ∷ []) ++ []) ≡ MergeSwap x Handed ∷ Settle ∷ []
claim_by zero x = refl
claim_by (suc head) x = refl

-- The claim of a set mark leaves the merge to be done.
pub claim_next : (v : View) (x found : ℕ) → v.actor.status ≡ Running → mark_found v x found ≡ 1
    → Works (view_after (claiming v x) found) (MergeSwap x Handed ∷ Settle ∷ [])
claim_next v x found running set = record {
  status = running;
  agenda =
      ap (λ (mark : ℕ). ready v.actor.head ((claimed x mark ++ Settle ∷ []) ++ [])) set ∙ claim_by v.actor.head x;
}

swap_by : (head x local : ℕ) (rest : List Duty) (none : Bool) → none ≡ false
    → ready head ((if none then once_merged x Handed else MergeLoad x (local_part local) Handed ∷ []) ++ rest)
    ≡ MergeLoad x (local_part local) Handed ∷ rest
swap_by head x local rest true some = absurd cc
swap_by zero x local rest false some = refl
swap_by (suc head) x local rest false some = refl

pub swap_next : (v : View) (x local : ℕ) (rest : List Duty) → Works v (MergeSwap x Handed ∷ rest)
    → (local == 0) ≡ false → Works (view_after v local) (MergeLoad x (local_part local) Handed ∷ rest)
swap_next v x local rest works some =
    works_next v (MergeSwap x Handed) rest local (MergeLoad x (local_part local) Handed ∷ rest) works refl
    (swap_by v.actor.head x local rest (local == 0) some)

load_by : (head x c word : ℕ) (rest : List Duty)
    → ready head (MergeExchange x c word Handed ∷ rest) ≡ MergeExchange x c word Handed ∷ rest
load_by zero x c word rest = refl
load_by (suc head) x c word rest = refl

pub load_next : (v : View) (x c word : ℕ) (rest : List Duty) → Works v (MergeLoad x c Handed ∷ rest)
    → Works (view_after v word) (MergeExchange x c word Handed ∷ rest)
load_next v x c word rest works =
    works_next v (MergeLoad x c Handed) rest word (MergeExchange x c word Handed ∷ rest) works refl
    (load_by v.actor.head x c word rest)

won_by : (head x c word : ℕ) (rest : List Duty) (won : Bool) → won ≡ true
    → ready head ((if won then merge_result x Handed (merged_word word c) else MergeLoad x c Handed ∷ []) ++ rest)
    ≡ SharedLoad x Handed ∷ rest
won_by head x c word rest false is = absurd cc
won_by zero x c word rest true is = refl
won_by (suc head) x c word rest true is = refl

-- The merge that wins leaves the handed reference to be given up.
pub won_next : (v : View) (x c word found : ℕ) (rest : List Duty) → Works v (MergeExchange x c word Handed ∷ rest)
    → found ≡ word → Works (view_after v found) (SharedLoad x Handed ∷ rest)
won_next v x c word found rest works won =
    works_next v (MergeExchange x c word Handed) rest found (SharedLoad x Handed ∷ rest) works refl
    (won_by v.actor.head x c word rest (found == word) (eq-eqb found word won))

shared_by : (head x word : ℕ) (rest : List Duty)
    → ready head (SharedExchange x Handed word ∷ rest) ≡ SharedExchange x Handed word ∷ rest
shared_by zero x word rest = refl
shared_by (suc head) x word rest = refl

pub shared_next : (v : View) (x word : ℕ) (rest : List Duty) → Works v (SharedLoad x Handed ∷ rest)
    → Works (view_after v word) (SharedExchange x Handed word ∷ rest)
shared_next v x word rest works =
    works_next v (SharedLoad x Handed) rest word (SharedExchange x Handed word ∷ rest) works refl
    (shared_by v.actor.head x word rest)

-- ---- the steps of a claimed merge, one behind the other

moved : {v u : View} {work : List Duty} → u ≡ v → Works v work → Works u work
moved {v} {u} {work} same works = subst (λ (w : View). Works w work) (sym same) works

-- After the swap the shared word is to be loaded.
pub at_load : (v one two : View) (x found local : ℕ) → v.actor.status ≡ Running → mark_found v x found ≡ 1
    → one ≡ view_after (claiming v x) found → (local == 0) ≡ false → two ≡ view_after one local
    → Works two (MergeLoad x (local_part local) Handed ∷ Settle ∷ [])
at_load v one two x found local running set first some second =
    moved second (swap_next one x local (Settle ∷ []) (moved first (claim_next v x found running set)) some)

-- After the load it is to be exchanged, and after an exchange that wins the handed reference is given up.
pub at_exchange : (two three : View) (x c word : ℕ) → Works two (MergeLoad x c Handed ∷ Settle ∷ [])
    → three ≡ view_after two word → Works three (MergeExchange x c word Handed ∷ Settle ∷ [])
at_exchange two three x c word works third = moved third (load_next two x c word (Settle ∷ []) works)

pub at_release : (three four : View) (x c word found : ℕ)
    → Works three (MergeExchange x c word Handed ∷ Settle ∷ []) → found ≡ word → four ≡ view_after three found
    → Works four (SharedLoad x Handed ∷ Settle ∷ [])
at_release three four x c word found works won fourth =
    moved fourth (won_next three x c word found (Settle ∷ []) works won)

pub at_last : (four five : View) (x word : ℕ) → Works four (SharedLoad x Handed ∷ Settle ∷ [])
    → five ≡ view_after four word → Works five (SharedExchange x Handed word ∷ Settle ∷ [])
at_last four five x word works fifth = moved fifth (shared_next four x word (Settle ∷ []) works)
