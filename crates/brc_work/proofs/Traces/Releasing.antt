-- A hand that gives up a reference and settles makes the events of its thread.
use Rattle.std.proofs.Common.{◌≡◌, ℕ, zero, suc, Bool, true, false, cond, List, [], ◌∷◌, ◌++◌, Option, None, Some, inl, inr, refl, sym, ap, ◌∙◌, subst}
use Rattle.std.specs.Prelude.{slice_set}
use Rattle.std.proofs.lemmas.Bool.{cases_Bool}
use Rattle.brc_word.specs.Words.{is_immortal_word}
use Rattle.brc_host.specs.HostCalls.{HostCall}
use Rattle.brc_model.specs.Actions.{Does, always, with_row}
use Rattle.brc_model.specs.Duties.{ready}
use Rattle.brc_model.specs.Threads.{row_of}
use Rattle.brc_model.specs.declared.actor.Place.{Place}
use Rattle.brc_model.specs.declared.duty.Duty.{Duty}
use Rattle.brc_model.specs.declared.duty.Duty.TheVariants.{ReleaseLoad, ReleaseStore, SharedLoad, Settle}
use Rattle.brc_model.specs.declared.duty.Holding.{Holding}
use Rattle.brc_model.specs.declared.duty.Holding.TheVariants.{AsCaller}
use Rattle.brc_model.specs.declared.duty.Reason.TheVariants.{Own}
use Rattle.brc_table.specs.declared.view.View.{View}
use Rattle.brc_table.specs.Views.{view_after, releasing, field_emptied, field_emptied_by, without_reference}
use Rattle.brc_heap.specs.Calls.{released_locally, counts_here}
use Rattle.brc_free.specs.Works.{Refl as Unchanged, Next, HasWorked, closes_by, to_settle}
use Rattle.brc_work.specs.Performs.{MakesRelease, GivesUp}
use Rattle.brc_work.specs.Stopping.{settle_if}
use Rattle.brc_work.specs.Traces.{Program, Traces}
use Rattle.brc_work.proofs.Traces.Joining.{turns_to, traces_then, traces_before}
use Rattle.brc_work.proofs.Traces.Duties.{no_duty, IsSame, next_duties, starts_with, continues_with}
use Rattle.brc_work.proofs.Traces.Working.{WorksOn, goes_on, works_on, worked_off, comes_to_settle}

-- The duty that follows the load of the local word is none on a field.
after_load : (immortal counts : Bool) (head x word : ℕ) (u : View)
    → u.actor.agenda ≡ ready head (cond immortal [] (cond counts (ReleaseStore x word ∷ []) (SharedLoad x Own ∷ []))
    ++ [])
    → field_emptied u ≡ u
after_load true counts zero x word u is = ap (λ (ds : List Duty). field_emptied_by ds u) is
after_load true counts (suc head) x word u is = ap (λ (ds : List Duty). field_emptied_by ds u) is
after_load false true zero x word u is = ap (λ (ds : List Duty). field_emptied_by ds u) is
after_load false true (suc head) x word u is = ap (λ (ds : List Duty). field_emptied_by ds u) is
after_load false false zero x word u is = ap (λ (ds : List Duty). field_emptied_by ds u) is
after_load false false (suc head) x word u is = ap (λ (ds : List Duty). field_emptied_by ds u) is

-- It closes nothing.
no_close_after_load : (immortal counts : Bool) (head x word : ℕ) (u : View)
    → u.actor.agenda ≡ ready head (cond immortal [] (cond counts (ReleaseStore x word ∷ []) (SharedLoad x Own ∷ []))
    ++ [])
    → closes_by u.actor.agenda false ≡ []
no_close_after_load true counts zero x word u is = ap (λ (ds : List Duty). closes_by ds false) is
no_close_after_load true counts (suc head) x word u is = ap (λ (ds : List Duty). closes_by ds false) is
no_close_after_load false true zero x word u is = ap (λ (ds : List Duty). closes_by ds false) is
no_close_after_load false true (suc head) x word u is = ap (λ (ds : List Duty). closes_by ds false) is
no_close_after_load false false zero x word u is = ap (λ (ds : List Duty). closes_by ds false) is
no_close_after_load false false (suc head) x word u is = ap (λ (ds : List Duty). closes_by ds false) is

pub load_same : (x : ℕ) (holding : Holding) (v : View) (word : ℕ)
    → IsSame (releasing v x) (ReleaseLoad x holding) (ReleaseLoad x AsCaller) word
load_same x holding v word =
    record { event = refl; status = refl; head = refl; used = refl; locked = refl; lent = refl }

module _ {n : ℕ} (program : Program) (p : Place) (ds : List Duty) (w : View) (q : Place) (holding : Holding) (x : ℕ)
    (v : View) (later : Bool) (first : (word : ℕ)
    → Traces n [] program p ds w q (next_duties (releasing v x) (ReleaseLoad x holding) (settle_if later) word)
    (view_after (releasing v x) word)) where
  -- The hand has loaded the local word,
  loads : (word : ℕ) → WorksOn later n [] program p ds w q (view_after (releasing v x) word)
  loads word =
      goes_on program p ds w q (releasing v x) (ReleaseLoad x holding) (ReleaseLoad x AsCaller) [] word
      (load_same x holding v word) refl refl refl refl (first word)

  -- and stored it if it counts there.
  pub stores : (word : ℕ) → WorksOn later n [] program p ds w q (released_locally v x word)
  stores word =
      let loaded = view_after (releasing v x) word in
      elim (cases_Bool (counts_here v word)) [
        | inl counts ↦
            subst (WorksOn later n [] program p ds w q)
            (ap (λ (y : View). view_after y word) (after_load (is_immortal_word word) (counts_here v word)
            v.actor.head x word
            loaded refl)
            ∙ ap (λ (b : Bool). cond b (view_after loaded word) loaded) (sym counts))
            (subst (λ (cs : List HostCall). WorksOn later n cs program p ds w q
            (view_after (field_emptied loaded) word))
            (no_close_after_load (is_immortal_word word) (counts_here v word) v.actor.head x word loaded refl)
            (works_on program p ds w q [] loaded _ (view_after (field_emptied loaded) word) (loads word)
            (Next [] loaded word false Unchanged)))
        | inr shares ↦
            subst (WorksOn later n [] program p ds w q) (ap (λ (b : Bool). cond b (view_after loaded word) loaded)
            (sym shares))
            (loads
            word)
      ]

-- Where the thread settles behind it, all that dies by it is closed.
settles : {n : ℕ} (program : Program) (p : Place) (ds : List Duty) (w : View) (q : Place) (holding : Holding) (x : ℕ)
    (v : View) → ((word : ℕ) → Traces n [] program p ds w q
    (next_duties (releasing v x) (ReleaseLoad x holding) (settle_if true) word) (view_after (releasing v x) word))
    → (word : ℕ) (cs : List HostCall) (mid after : View) → HasWorked (released_locally v x word) [] [] mid
    → HasWorked (to_settle [] mid) cs [] after → after.actor.head ≡ 0 → Traces n cs program p ds w q [] after
settles program p ds w q holding x v first word cs mid after released settled empty =
    let off = works_on program p ds w q [] (released_locally v x word) [] mid
    (stores program p ds w q holding x v true first word) released.works in
    worked_off program p ds w q after (settled.agenda ∙ no_duty after.actor.head) empty
    (works_on program p ds w q [] (to_settle [] mid) cs after
    (comes_to_settle program p ds w q mid (released.agenda ∙ no_duty mid.actor.head) off) settled.works)

-- A reference is given up: by the first duty of an instruction, or by the next one of the thread's agenda.
pub releases : (x word : ℕ) (cs : List HostCall) (v mid after : View) → v.actor.agenda ≡ []
    → HasWorked (released_locally v x word) [] [] mid → HasWorked (to_settle [] mid) cs [] after → after.actor.head ≡ 0
    → MakesRelease cs x v after
releases x word cs v mid after none released settled empty =
    let references = without_reference v.layout x v.references in
    let rest = Settle ∷ [] in
    record {
      first = λ program place next holding is.
          settles program place [] v next holding x v (λ w.
          traces_before program place place next [] [] _ v (releasing v x) _
          (turns_to program place [] (ReleaseLoad x AsCaller ∷ []) v references v.in_field none)
          (starts_with program place (releasing v x) (ReleaseLoad x holding) (ReleaseLoad x AsCaller) rest [] w
          (load_same x holding v w) (always next) (is v.layout v.thread v.actor.used) refl))
          word cs mid after released settled empty;
      next = λ program place holding.
          let ds = ReleaseLoad x holding ∷ rest in
          settles program place ds v place holding x v (λ w.
          traces_then program place place place ds ds _ v (releasing v x) _
          (turns_to program place ds (ReleaseLoad x AsCaller ∷ []) v references v.in_field none)
          (continues_with program place (releasing v x) (ReleaseLoad x holding) (ReleaseLoad x AsCaller) rest [] w
          (load_same x holding v w) refl))
          word cs mid after released settled empty;
    }

-- Where a thread gives up the reference of a variable, it gives up this one.
pub gives_up : {cs : List HostCall} (from x : ℕ) (rows after_rows : List (Option ℕ)) (v u : View)
    → row_of rows from ≡ Some x
    → after_rows ≡ slice_set rows from None → MakesRelease cs x v u → GivesUp cs from rows v after_rows u
gives_up from x rows after_rows v u row emptied releases = record {
  emptied = emptied;
  makes = λ program place next holding is.
      releases.first program place next holding
      (λ layout t used. is layout t used
      ∙ ap (λ (o : Option ℕ).
      with_row o (λ (y : ℕ). Does (ReleaseLoad y holding) (Settle ∷ []) (always next))) row);
}
