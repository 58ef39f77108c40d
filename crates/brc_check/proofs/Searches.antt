-- The search for a path to a refusal, turn by turn.
use Rattle.std.proofs.Common.{◌≡◌, ◌≢◌, ℕ, zero, suc, ◌+◌, ◌-◌, ◌<◌, ◌≤◌, cond, List, [], ◌∷◌, ◌++◌, length, fold}
use Rattle.std.proofs.Common.{Option, refl, sym, ap, ◌∙◌, subst, inl, inr, arith}
use Rattle.std.specs.Prelude.{None, Some, ◌⊎◌, replicate, is_none, slice_get}
use Rattle.std.specs.Prelude.{slice_set, MatchOption, Result, Ok, Err, IfOk}
use Rattle.std.specs.declared.alloc.AllocError.{AllocError}
use Rattle.std.specs.List.{slice_index_or}
use Rattle.std.proofs.lemmas.Bool.{cases_lt, cases_eq}
use Rattle.std.proofs.lemmas.List.{length-set, length-replicate}
use Rattle.std.proofs.lemmas.Option.{none-some, same_Some, slice_get_within, slice_get-get_or}
use Rattle.brc_lang.specs.declared.module.Function.{Function}
use Rattle.brc_lang.specs.declared.check_code.CheckCode.{CheckCode}
use Rattle.brc_model.specs.declared.state.State.{State}
use Rattle.brc_model.specs.declared.state.Exit.{Exit}
use Rattle.brc_model.specs.declared.state.Exit.TheVariants.{Success, Fault}
use Rattle.brc_model.specs.SlotStates.{entry_of}
use Rattle.brc_model.specs.Paths.{PathEnd, At, Ended, Reports, follow, path_end}
use Rattle.brc_model.proofs.Basics.Lists.{slice_get-set_same, slice_get-set_other}
use Rattle.brc_check.specs.declared.path.Path.{Path}
use Rattle.brc_check.specs.declared.visits.Visit.{Visit}
use Rattle.brc_check.specs.declared.visits.Visits.{Visits}
use Rattle.brc_check.specs.PathTo.{LeadsTo}
use Rattle.brc_check.specs.Refusal.{IsReported}
use Rattle.brc_check.specs.Searching.{first_visit, first_visits, added, IsVisit, IsVisited, AreFirsts}
use Rattle.brc_check.specs.Searching.{IsUnrivalled, IsChained, IsLinked, AreLinked, IsPassed, IsSearchedTo, HasPassed}
use Rattle.brc_check.proofs.Pushing.{push-kept, push-last, push-cases}
use Rattle.brc_check.proofs.Steps.{arrives-within}

-- ---- the first visit of each point

-- the point had no visit
firsts-found : (visits : Visits) (v : Visit) → v.at < length visits.firsts → AreFirsts visits
    → AreFirsts (record {
      list = visits.list ++ v ∷ [];
      firsts = slice_set visits.firsts v.at (Some (length visits.list));
    })
firsts-found visits v lt firsts =
    let n = length visits.list in
    let here : slice_get (slice_set visits.firsts v.at (Some n)) v.at ≡ Some (Some n) =
    slice_get-set_same visits.firsts v.at (Some n) lt in
    let other : (at : ℕ) → at ≢ v.at
    → slice_get (slice_set visits.firsts v.at (Some n)) at ≡ slice_get visits.firsts at =
    λ at ne. slice_get-set_other visits.firsts v.at at (Some n) ne in
    record {
      known = λ at number e. elim (cases_eq at v.at) [
        | inl same ↦
            let is : n ≡ number =
            same_Some n number (same_Some (Some n) (Some number) (sym here
            ∙ ap (slice_get (slice_set visits.firsts v.at (Some n))) (sym same) ∙ e)) in
            (v, ap (slice_get (visits.list ++ v ∷ [])) (sym is) ∙ push-last visits.list v, sym same)
        | inr ne ↦
            let old = firsts.known at number (sym (other at ne) ∙ e) in
            (old.0, push-kept visits.list v number old.0 old.1, old.2)
      ];
      unknown = λ at number u e is same. elim (cases_eq at v.at) [
        | inl eq ↦
            absurd (none-some n (sym (same_Some (Some n) None (sym here
            ∙ ap (slice_get (slice_set visits.firsts v.at (Some n))) (sym eq) ∙ e))))
        | inr ne ↦ elim (push-cases visits.list v number u is) [
          | inl old ↦ firsts.unknown at number u (sym (other at ne) ∙ e) old same
          | inr new ↦ ne (sym same ∙ ap (λ (w : Visit). w.at) new.1)
        ]
      ];
    }

-- the point had one
firsts-kept : (visits : Visits) (v : Visit) (n : ℕ) → slice_get visits.firsts v.at ≡ Some (Some n) → AreFirsts visits
    → AreFirsts (record { list = visits.list ++ v ∷ []; firsts = visits.firsts })
firsts-kept visits v n here firsts = record {
  known = λ at number e.
      let old = firsts.known at number e in
      (old.0, push-kept visits.list v number old.0 old.1, old.2);
  unknown = λ at number u e is same. elim (push-cases visits.list v number u is) [
    | inl old ↦ firsts.unknown at number u e old same
    | inr new ↦
        let eq : v.at ≡ at = sym (ap (λ (w : Visit). w.at) new.1) ∙ same in
        none-some n (sym (same_Some (Some n) None (sym here ∙ ap (slice_get visits.firsts) eq ∙ e)))
  ];
}

firsts-added : (visits : Visits) (v : Visit) → v.at < length visits.firsts → AreFirsts visits
    → AreFirsts (added visits v)
firsts-added visits v lt firsts =
    elim (slice_index_or visits.firsts v.at None) as (λ o. slice_index_or visits.firsts v.at None ≡ o
    → AreFirsts (record {
      list = visits.list ++ v ∷ [];
      firsts = cond (is_none o) (slice_set visits.firsts v.at (Some (length visits.list))) visits.firsts;
    })) [
      | None ↦ λ e. firsts-found visits v lt firsts
      | Some n ↦ λ e. firsts-kept visits v n (slice_get-get_or visits.firsts v.at None lt ∙ ap Some e) firsts
    ] refl

length-firsts : (visits : Visits) (v : Visit) → length (added visits v).firsts ≡ length visits.firsts
length-firsts visits v =
    elim (slice_index_or visits.firsts v.at None) as (λ o.
    length (cond (is_none o) (slice_set visits.firsts v.at (Some (length visits.list))) visits.firsts)
    ≡ length visits.firsts) [
      | None ↦ length-set visits.firsts v.at (Some (length visits.list))
      | Some n ↦ refl
    ]

-- ---- visits that are kept

abbrev AreKept : List Visit → List Visit → Type 0
AreKept old new = (number : ℕ) (v : Visit) → slice_get old number ≡ Some v → slice_get new number ≡ Some v

visited-kept : (old new : List Visit) (at : ℕ) (s : State) → AreKept old new → IsVisited old at s → IsVisited new at s
visited-kept old new at s kept is =
    record { number = is.number; visit = is.visit; listed = kept is.number is.visit is.listed; is = is.is }

passed-kept : (old new : List Visit) (at : ℕ) (c : CheckCode) (p : PathEnd) → AreKept old new → IsPassed old at c p
    → IsPassed new at c p
passed-kept old new at c (At next s) kept is = visited-kept old new next s kept is
passed-kept old new at c Ended kept is = tt
passed-kept old new at c (Reports point d) kept is = is

-- ---- one visit more

visited-cases : (list : List Visit) (v : Visit) (at : ℕ) (s : State) → IsVisited (list ++ v ∷ []) at s
    → IsVisited list at s ⊎ IsVisit v at s
visited-cases list v at s is =
    elim (push-cases list v is.number is.visit is.listed) [
      | inl old ↦ inl (record { number = is.number; visit = is.visit; listed = old; is = is.is })
      | inr new ↦ inr (subst (λ (u : Visit). IsVisit u at s) new.1 is.is)
    ]

chained-added : (list : List Visit) (v : Visit) → v.before < length list → IsChained list → IsChained (list ++ v ∷ [])
chained-added list v lt chained number u e =
    elim (push-cases list v (suc number) u e) [
      | inl old ↦ chained number u old
      | inr new ↦
          let same : u.before ≡ v.before = ap (λ (w : Visit). w.before) new.1 in
          let long = new.0 in
          omega (arith, same, long, lt)
    ]

linked-added : (f : Function) (list : List Visit) (v : Visit) → IsLinked f.code list v → AreLinked f list
    → AreLinked f (list ++ v ∷ [])
linked-added f list v link linked = record {
  begins = push-kept list v 0 (first_visit (entry_of f.parameters)) linked.begins;
  linked = λ number u e.
      let old : IsLinked f.code list u =
      elim (push-cases list v (suc number) u e) [
        | inl old ↦ linked.linked number u old
        | inr new ↦ subst (IsLinked f.code list) (sym new.1) link
      ] in
      record { from = old.from; listed = push-kept list v u.before old.from old.listed; leads = old.leads };
}

alike-added : (list : List Visit) (v : Visit) (at : ℕ)
    → (v.at ≡ at → (s : State) → IsVisited list at s → ⊥)
    → ((s t : State) → IsVisited list at s → IsVisited list at t → s ≡ t)
    → (s t : State) → IsVisited (list ++ v ∷ []) at s → IsVisited (list ++ v ∷ []) at t → s ≡ t
alike-added list v at fresh alike s t is_s is_t =
    elim (visited-cases list v at s is_s) [
      | inl old_s ↦ elim (visited-cases list v at t is_t) [
        | inl old_t ↦ alike s t old_s old_t
        | inr new_t ↦ absurd (fresh new_t.same_point s old_s)
      ]
      | inr new_s ↦ elim (visited-cases list v at t is_t) [
        | inl old_t ↦ absurd (fresh new_s.same_point t old_t)
        | inr new_t ↦ sym new_s.same_state ∙ new_t.same_state
      ]
    ]

-- The exit arrives at a point in a state that no visit has, and the search adds a visit of them.
pub passed-added : (f : Function) (at : ℕ) (c : CheckCode) (visits : Visits) (turn : ℕ) (from v : Visit)
    → IsSearchedTo f at c visits turn → slice_get visits.list turn ≡ Some from → v.before ≡ turn
    → follow f.code (At from.at from.state) v.exit ≡ At v.at v.state
    → IsUnrivalled visits.list at c v.at → HasPassed f at c visits (added visits v) turn v.exit
passed-added f at c visits turn from v searched here before leads fresh =
    let kept : AreKept visits.list (visits.list ++ v ∷ []) = push-kept visits.list v in
    let within : v.at < length f.code = arrives-within f.code from.at v.at from.state v.state v.exit leads in
    let same = searched.same_length in
    let earlier = slice_get_within visits.list turn from here in
    let link : IsLinked f.code visits.list v =
    record { from = from; listed = ap (slice_get visits.list) before ∙ here; leads = leads } in
    record {
      searched = record {
        same_length = length-firsts visits v ∙ same;
        within = λ number u e. elim (push-cases visits.list v number u e) [
          | inl old ↦ searched.within number u old
          | inr new ↦ subst (λ (w : Visit). w.at < length f.code) (sym new.1) within
        ];
        firsts = firsts-added visits v (omega (arith, within, same)) searched.firsts;
        chained = chained-added visits.list v (omega (arith, before, earlier)) searched.chained;
        linked = linked-added f visits.list v link searched.linked;
        alike = λ differ.
            alike-added visits.list v at
            (λ e s is. fresh differ e s (subst (λ (n : ℕ). IsVisited visits.list n s) (sym e) is))
            (searched.alike differ);
        passed = λ k u exit lt e. elim (push-cases visits.list v k u e) [
          | inl old ↦
              passed-kept visits.list (visits.list ++ v ∷ []) at c (follow f.code (At u.at u.state) exit) kept
              (searched.passed k u exit lt old)
          | inr new ↦ absurd (let long = new.0 in omega (arith, long, lt, earlier))
        ];
      };
      kept = kept;
      passed = λ u e.
          let same_visit : from ≡ u = same_Some from u (sym here ∙ e) in
          let leads_to : follow f.code (At u.at u.state) v.exit ≡ At v.at v.state =
          subst (λ (w : Visit). follow f.code (At w.at w.state) v.exit ≡ At v.at v.state) same_visit leads in
          subst (IsPassed (visits.list ++ v ∷ []) at c) (sym leads_to) (record {
            number = length visits.list;
            visit = v;
            listed = push-last visits.list v;
            is = record { same_point = refl; same_state = refl };
          });
    }

-- the exit leads nowhere new
pub passed-none : (f : Function) (at : ℕ) (c : CheckCode) (visits : Visits) (turn : ℕ) (from : Visit)
    (exit : Exit)
    → IsSearchedTo f at c visits turn → slice_get visits.list turn ≡ Some from
    → IsPassed visits.list at c (follow f.code (At from.at from.state) exit)
    → HasPassed f at c visits visits turn exit
passed-none f at c visits turn from exit searched here passed = record {
  searched = searched;
  kept = λ number v e. e;
  passed = λ v e.
      subst (λ (u : Visit). IsPassed visits.list at c (follow f.code (At u.at u.state) exit))
      (same_Some from v (sym here ∙ e)) passed;
}

-- ---- both exits

visit-at : (list : List Visit) (number : ℕ) → number < length list
    → (v : Visit) × (slice_get list number ≡ Some v)
visit-at [] number lt = absurd (omega (arith, lt))
visit-at (v ∷ list) zero lt = (v, refl)
visit-at (v ∷ list) (suc number) lt = visit-at list number (omega (arith, lt))

pub searched-both : (f : Function) (at : ℕ) (c : CheckCode) (visits once twice : Visits) (turn : ℕ)
    → turn < length visits.list → HasPassed f at c visits once turn Success
    → HasPassed f at c once twice turn Fault → IsSearchedTo f at c twice (turn + 1)
searched-both f at c visits once twice turn lt first second = record {
  same_length = second.searched.same_length;
  within = second.searched.within;
  firsts = second.searched.firsts;
  chained = second.searched.chained;
  linked = second.searched.linked;
  alike = second.searched.alike;
  passed = λ k v exit less e. elim (cases_lt k turn) [
    | inl before ↦ second.searched.passed k v exit before e
    | inr from ↦
        let same : k ≡ turn = omega (arith, from, less) in
        let here = visit-at visits.list turn lt in
        let now : slice_get once.list turn ≡ Some here.0 = first.kept turn here.0 here.1 in
        let is : here.0 ≡ v =
        same_Some here.0 v (sym (second.kept turn here.0 now) ∙ ap (slice_get twice.list) (sym same) ∙ e) in
        subst (λ (u : Visit). IsPassed twice.list at c (follow f.code (At u.at u.state) exit)) is
        (elim exit as (λ x. IsPassed twice.list at c (follow f.code (At here.0.at here.0.state) x)) [
          | Success ↦
              passed-kept once.list twice.list at c (follow f.code (At here.0.at here.0.state) Success) second.kept
              (first.passed here.0 here.1)
          | Fault ↦ second.passed here.0 now
        ])
  ];
}

-- ---- the whole search

only-first : (entry : State) (number : ℕ) (v : Visit) → slice_get (first_visit entry ∷ []) number ≡ Some v
    → first_visit entry ≡ v
only-first entry zero v e = same_Some (first_visit entry) v e
only-first entry (suc number) v e = absurd (none-some v e)

first-state : (entry : State) (at : ℕ) (s : State) → IsVisited (first_visit entry ∷ []) at s → entry ≡ s
first-state entry at s is =
    ap (λ (v : Visit). v.state) (only-first entry is.number is.visit is.listed) ∙ is.is.same_state

some-replicate : (n k m : ℕ) → slice_get (replicate n None) k ≡ Some (Some m) → ⊥
some-replicate zero k m e = none-some (Some m) e
some-replicate (suc n) zero m e = none-some m (same_Some None (Some m) e)
some-replicate (suc n) (suc k) m e = some-replicate n k m e

first-known : (entry : State) (count at number : ℕ)
    → slice_get (first_visits entry count).firsts at ≡ Some (Some number)
    → (v : Visit) × (slice_get (first_visit entry ∷ []) number ≡ Some v) × (v.at ≡ at)
first-known entry count zero number e = (
  first_visit entry,
  ap (slice_get (first_visit entry ∷ [])) (sym (same_Some 0 number (same_Some (Some 0) (Some number) e))),
  refl,
)
first-known entry count (suc at) number e = absurd (some-replicate (count - 1) at number e)

first-unknown : (entry : State) (count at number : ℕ) (v : Visit)
    → slice_get (first_visits entry count).firsts at ≡ Some None
    → slice_get (first_visit entry ∷ []) number ≡ Some v → v.at ≡ at → ⊥
first-unknown entry count zero number v e is same = none-some 0 (sym (same_Some (Some 0) None e))
first-unknown entry count (suc at) number v e is same =
    let eq : 0 ≡ suc at = ap (λ (u : Visit). u.at) (only-first entry number v is) ∙ same in omega (arith, eq)

first-firsts : (entry : State) (count : ℕ) → AreFirsts (first_visits entry count)
first-firsts entry count = record { known = first-known entry count; unknown = first-unknown entry count }

pub searched-first : (f : Function) (at : ℕ) (c : CheckCode) (visits : Visits) → 0 < length f.code
    → visits ≡ first_visits (entry_of f.parameters) (length f.code) → IsSearchedTo f at c visits 0
searched-first f at c visits some begun = rw begun (record {
  same_length =
      let n : length (replicate {A = Option ℕ} (length f.code - 1) None) ≡ length f.code - 1 =
      length-replicate (length f.code - 1) None in
      omega (arith, n, some);
  within = λ number v e.
      subst (λ (u : Visit). u.at < length f.code) (only-first (entry_of f.parameters) number v e) some;
  firsts = first-firsts (entry_of f.parameters) (length f.code);
  chained = λ number v e. absurd (none-some v e);
  linked = record { begins = refl; linked = λ number v e. absurd (none-some v e) };
  alike = λ differ s t is_s is_t.
      sym (first-state (entry_of f.parameters) at s is_s) ∙ first-state (entry_of f.parameters) at t is_t;
  passed = λ k v exit lt. absurd (omega (arith, lt));
})

passes-more : (f : Function) (at : ℕ) (c : CheckCode) (visits : Visits) (turns : ℕ)
    → IsSearchedTo f at c visits turns → length visits.list ≤ turns → (p : PathEnd) (exit : Exit)
    → IsPassed visits.list at c p → IsPassed visits.list at c (follow f.code p exit)
passes-more f at c visits turns searched all (At next s) exit is =
    let within = slice_get_within visits.list is.number is.visit is.listed in
    let end : At is.visit.at is.visit.state ≡ At next s = λ i. At (is.is.same_point i) (is.is.same_state i) in
    subst (λ (p : PathEnd). IsPassed visits.list at c (follow f.code p exit)) end
    (searched.passed is.number is.visit exit (omega (arith, within, all)) is.listed)
passes-more f at c visits turns searched all Ended exit is = tt
passes-more f at c visits turns searched all (Reports point d) exit is = is

passes-all : (f : Function) (at : ℕ) (c : CheckCode) (visits : Visits) (turns : ℕ)
    → IsSearchedTo f at c visits turns → length visits.list ≤ turns → (exits : List Exit) (p : PathEnd)
    → IsPassed visits.list at c p → IsPassed visits.list at c (fold (follow f.code) p exits)
passes-all f at c visits turns searched all [] p is = is
passes-all f at c visits turns searched all (e ∷ es) p is =
    passes-all f at c visits turns searched all es (follow f.code p e)
    (passes-more f at c visits turns searched all p e is)

passes : (f : Function) (at : ℕ) (c : CheckCode) (visits : Visits) (turns : ℕ)
    → IsSearchedTo f at c visits turns → length visits.list ≤ turns → (exits : List Exit) (p : PathEnd)
    → path_end f exits ≡ p → IsPassed visits.list at c p
passes f at c visits turns searched all exits p e =
    let entry = entry_of f.parameters in
    subst (IsPassed visits.list at c) e (passes-all f at c visits turns searched all exits (At 0 entry) (record {
      number = 0;
      visit = first_visit entry;
      listed = searched.linked.begins;
      is = record { same_point = refl; same_state = refl };
    }))

-- If each visit has had its turn, then no path of the function reports what the search is for.
pub searched-all : (f : Function) (at : ℕ) (c : CheckCode) (visits : Visits) (turns : ℕ)
    → IsSearchedTo f at c visits turns → length visits.list ≤ turns → IsReported f at c → ⊥
searched-all f at c visits turns searched all reported =
    elim reported [
      | inl m ↦ passes f at c visits turns searched all m.exits (Reports at c) m.reports refl refl
      | inr d ↦
          d.1.apart (searched.alike d.0 d.1.one d.1.other
          (passes f at c visits turns searched all d.1.first.exits (At at d.1.one) d.1.first.reaches)
          (passes f at c visits turns searched all d.1.second.exits (At at d.1.other) d.1.second.reaches))
    ]

-- ---- the result of the second exit

pub second-exit : (f : Function) (at : ℕ) (c : CheckCode) (visits once twice : Visits) (turn : ℕ)
    (r : Result (Option Path) AllocError)
    → turn < length visits.list → HasPassed f at c visits once turn Success
    → IfOk r (λ found. MatchOption found (HasPassed f at c once twice turn Fault) (LeadsTo f at c))
    → IfOk r (λ found. MatchOption found (IsSearchedTo f at c twice (turn + 1)) (LeadsTo f at c))
second-exit f at c visits once twice turn (Ok None) lt first second =
    searched-both f at c visits once twice turn lt first second
second-exit f at c visits once twice turn (Ok (Some path)) lt first second = second
second-exit f at c visits once twice turn (Err refused) lt first second = tt
