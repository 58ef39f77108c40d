-- What one exit of a visit shows, case by case, and the functions of a module one by one.
use Rattle.std.proofs.Common.{◌≡◌, ℕ, ◌+◌, ◌<◌, ◌≤◌, true, false, List, length}
use Rattle.std.proofs.Common.{Option, refl, sym, ap, ◌∙◌, subst, inl, inr, arith}
use Rattle.std.specs.Prelude.{None, Some, slice_get, MatchOption, IsTrue}
use Rattle.std.specs.List.{slice_index_or}
use Rattle.std.proofs.lemmas.Bool.{cases_lt}
use Rattle.std.proofs.lemmas.Option.{same_Some, slice_get_read, slice_get_within, slice_get-get_or}
use Rattle.brc_lang.specs.declared.module.Function.{Function}
use Rattle.brc_lang.specs.declared.check_code.CheckCode.{CheckCode}
use Rattle.brc_lang.specs.declared.check_code.CheckCode.TheVariants.{StatesDiffer}
use Rattle.brc_model.specs.declared.state.State.{State}
use Rattle.brc_model.specs.declared.state.Exit.{Exit}
use Rattle.brc_model.specs.Paths.{PathEnd, At, Reports, follow, path_end}
use Rattle.brc_check.specs.declared.refused.Refused.{Refused}
use Rattle.brc_check.specs.declared.visits.Visit.{Visit}
use Rattle.brc_check.specs.declared.visits.Visits.{Visits}
use Rattle.brc_check.specs.PathTo.{PathsDiffer}
use Rattle.brc_check.specs.Refusal.{IsReported, IsRefusedFor}
use Rattle.brc_check.specs.Searching.{IsVisited, IsUnrivalled, IsRival, AreFirsts}
use Rattle.brc_check.specs.Searching.{AreLinked, IsPassed, IsSearchedTo, HasPassed}
use Rattle.brc_check.proofs.Steps.{arrives-within}
use Rattle.brc_check.proofs.Searches.{passed-none}

pub not_so : {A : Type 0} → (A → IsTrue false) → A → ⊥
not_so f a = let e : false ≡ true = f a in absurd cc

pub visit_read : (list read : List Visit) (number : ℕ) (v : Visit) → read ≡ list → number < length list
    → v ≡ slice_index_or read number v → slice_get list number ≡ Some v
visit_read list read number v same lt is =
    slice_get_read list (length list) number v refl lt (is ∙ ap (λ (r : List Visit). slice_index_or r number v) same)

-- The exit ends a path without what the search is for, or arrives at a point in a state that has a visit.
pub passed-led : (f : Function) (at : ℕ) (c : CheckCode) (visits : Visits) (turn : ℕ) (from : Visit)
    (exit : Exit) (p : PathEnd)
    → IsSearchedTo f at c visits turn → slice_get visits.list turn ≡ Some from
    → follow f.code (At from.at from.state) exit ≡ p → IsPassed visits.list at c p
    → HasPassed f at c visits visits turn exit
passed-led f at c visits turn from exit p searched here leads passed =
    passed-none f at c visits turn from exit searched here (subst (IsPassed visits.list at c) (sym leads) passed)

-- If the exit arrives at a point, then `firsts` has a place for it.
pub led-within : (f : Function) (at : ℕ) (c : CheckCode) (visits : Visits) (turn next : ℕ) (from : Visit)
    (s : State) (exit : Exit)
    → IsSearchedTo f at c visits turn → follow f.code (At from.at from.state) exit ≡ At next s
    → next < length visits.firsts
led-within f at c visits turn next from s exit searched leads =
    let within = arrives-within f.code from.at next from.state s exit leads in
    let same = searched.same_length in
    omega (arith, within, same)

-- ---- a point that may have a visit

pub rival-found : (visits : Visits) (at point : ℕ) (c : CheckCode) (o : Option ℕ) → AreFirsts visits
    → point < length visits.firsts → c ≡ StatesDiffer → point ≡ at
    → slice_index_or visits.firsts point None ≡ o
    → MatchOption o (IsUnrivalled visits.list at c point) (IsRival visits.list at c point)
rival-found visits at point c None firsts lt differ same e =
    λ is_differ is_same s is.
    firsts.unknown point is.number is.visit (slice_get-get_or visits.firsts point None lt ∙ ap Some e) is.listed
    is.is.same_point
rival-found visits at point c (Some number) firsts lt differ same e =
    let there = firsts.known point number (slice_get-get_or visits.firsts point None lt ∙ ap Some e) in
    record {
      differ = differ;
      same_point = same;
      within = slice_get_within visits.list number there.0 there.1;
      visit = there.0;
      listed = there.1;
      there = there.2;
    }

-- ---- what is found

-- the exits of a visit's path, as they are read back
abbrev pub ReadBack : List Visit → ℕ → (Visit → Function → PathEnd) → List Exit → Type 0
ReadBack list number end exits =
    (f : Function) (v : Visit) → AreLinked f list → slice_get list number ≡ Some v
    → path_end f exits ≡ end v f

abbrev pub there_at : Visit → Function → PathEnd
there_at v f = At v.at v.state

abbrev pub on_by : Exit → Visit → Function → PathEnd
on_by exit v f = follow f.code (At v.at v.state) exit

pub found-report : (f : Function) (at : ℕ) (c : CheckCode) (visits : Visits) (turn : ℕ) (from : Visit)
    (exit : Exit) (reported : CheckCode) (list : List Visit) (exits : List Exit)
    → IsSearchedTo f at c visits turn → slice_get visits.list turn ≡ Some from
    → follow f.code (At from.at from.state) exit ≡ Reports from.at reported → (from.at ≡ at) × (reported ≡ c)
    → list ≡ visits.list → ReadBack list turn (on_by exit) exits → path_end f exits ≡ Reports at c
found-report f at c visits turn from exit reported list exits searched here leads wanted same back =
    let read = subst (λ (l : List Visit). ReadBack l turn (on_by exit) exits) same back in
    read f from searched.linked here ∙ leads ∙ λ i. Reports (wanted.0 i) (wanted.1 i)

pub found-differ : (f : Function) (at : ℕ) (c : CheckCode) (visits : Visits) (turn next first : ℕ) (from : Visit)
    (s : State) (exit : Exit) (list second_list : List Visit) (exits others : List Exit)
    → IsSearchedTo f at c visits turn → slice_get visits.list turn ≡ Some from
    → follow f.code (At from.at from.state) exit ≡ At next s → (IsVisited visits.list next s → ⊥)
    → IsRival visits.list at c next first → list ≡ visits.list → ReadBack list first there_at exits
    → second_list ≡ visits.list → ReadBack second_list turn (on_by exit) others
    → (c ≡ StatesDiffer) × PathsDiffer f exits others at
found-differ f at c visits turn next first from s exit list second_list exits others searched here leads new rival
    same back second_same second_back =
    let read = subst (λ (l : List Visit). ReadBack l first there_at exits) same back in
    let second_read = subst (λ (l : List Visit). ReadBack l turn (on_by exit) others) second_same second_back in (
      rival.differ,
      record {
        one = rival.visit.state;
        other = s;
        first =
            read f rival.visit searched.linked rival.listed
            ∙ ap (λ (n : ℕ). At n rival.visit.state) (rival.there ∙ rival.same_point);
        second =
            second_read f from searched.linked here ∙ leads ∙ ap (λ (n : ℕ). At n s) rival.same_point;
        apart = λ e. new (record {
          number = first;
          visit = rival.visit;
          listed = rival.listed;
          is = record { same_point = rival.there; same_state = e };
        });
      },
    )

-- ---- function by function

-- the refusal isn't for one of the first functions
abbrev pub NoneReported : List Function → Refused → ℕ → Type 0
NoneReported functions r to =
    (k : ℕ) (f : Function) → k < to → slice_get functions k ≡ Some f → f.name ≡ r.function
    → IsReported f r.at r.code → ⊥

pub none-more : (functions : List Function) (r : Refused) (to : ℕ) (f : Function) → NoneReported functions r to
    → to < length functions → f ≡ slice_index_or functions to f
    → (f.name ≡ r.function → IsReported f r.at r.code → ⊥) → NoneReported functions r (to + 1)
none-more functions r to f before lt is_f here k g less e =
    elim (cases_lt k to) [
      | inl earlier ↦ before k g earlier e
      | inr from ↦
          let same : k ≡ to = omega (arith, from, less) in
          let function : f ≡ g =
          same_Some f g (sym (slice_get_read functions (length functions) to f refl lt is_f)
          ∙ ap (slice_get functions) (sym same) ∙ e) in
          subst (λ (h : Function). h.name ≡ r.function → IsReported h r.at r.code → ⊥) function here
    ]

-- there is no refusal that is for none of the functions
pub none-left : (functions listed : List Function) (r : Refused) (to : ℕ) → functions ≡ listed → length functions ≤ to
    → NoneReported functions r to → IsRefusedFor listed r → ⊥
none-left functions listed r to same all none refused =
    let here : IsRefusedFor functions r = subst (λ (fs : List Function). IsRefusedFor fs r) (sym same) refused in
    let at = here.listed in
    let lt = at.1 in
    none at.0 here.function (omega (arith, lt, all))
    (slice_get_read functions (length functions) at.0 here.function refl at.1 (sym at.2)) here.named here.reported
