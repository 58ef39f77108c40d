-- The exits of a path, read back from visit to visit.
use Rattle.std.proofs.Common.{◌≡◌, ℕ, zero, suc, ◌<◌, List, [], ◌∷◌}
use Rattle.std.proofs.Common.{◌++◌, length, fold, refl, sym, ap, ◌∙◌, subst, arith}
use Rattle.std.specs.Prelude.{Some, slice_get, reverse, Result, IfOk}
use Rattle.std.specs.List.{slice_index_or}
use Rattle.std.proofs.lemmas.List.{reverse-append}
use Rattle.std.proofs.lemmas.Result.{IfOk-weaker}
use Rattle.std.specs.declared.alloc.AllocError.{AllocError}
use Rattle.std.proofs.lemmas.Option.{same_Some, slice_get_read}
use Rattle.brc_lang.specs.declared.module.Function.{Function}
use Rattle.brc_model.specs.declared.state.Exit.{Exit}
use Rattle.brc_model.specs.SlotStates.{entry_of}
use Rattle.brc_model.specs.Paths.{PathEnd, At, follow, path_end}
use Rattle.brc_check.specs.declared.visits.Visit.{Visit}
use Rattle.brc_check.specs.Searching.{first_visit, IsChained, AreLinked}

-- the exits, read backwards, lead from the visit of one number to that of the other
abbrev pub IsBackTo : List Visit → ℕ → List Exit → ℕ → Type 0
IsBackTo list number back at =
    (f : Function) (from v : Visit) → AreLinked f list → slice_get list number ≡ Some v
    → slice_get list at ≡ Some from
    → fold (follow f.code) (At from.at from.state) (reverse back) ≡ At v.at v.state

pub back_none : (list : List Visit) (number : ℕ) → IsBackTo list number [] number
back_none list number f from v linked is_v is_from =
    ap (λ (u : Visit). At u.at u.state) (same_Some from v (sym is_from ∙ is_v))

-- one visit further back
pub back_more : (list : List Visit) (number : ℕ) (back : List Exit) (at : ℕ) (here : Visit)
    → IsBackTo list number back (suc at) → slice_get list (suc at) ≡ Some here
    → IsBackTo list number (back ++ here.exit ∷ []) here.before
back_more list number back at here is_back is_here f from v linked is_v is_from =
    let link = linked.linked at here is_here in
    let same : link.from ≡ from = same_Some link.from from (sym link.listed ∙ is_from) in
    let leads : follow f.code (At from.at from.state) here.exit ≡ At here.at here.state =
    subst (λ (u : Visit). follow f.code (At u.at u.state) here.exit ≡ At here.at here.state) same link.leads in
    ap (fold (follow f.code) (At from.at from.state)) (reverse-append back (here.exit ∷ []))
    ∙ ap (λ (p : PathEnd). fold (follow f.code) p (reverse back)) leads
    ∙ is_back f here v linked is_v is_here

-- at the first visit the exits are those of the whole path
pub back_all : (list : List Visit) (number : ℕ) (back : List Exit) → IsBackTo list number back 0
    → (f : Function) (v : Visit) → AreLinked f list → slice_get list number ≡ Some v
    → path_end f (reverse back) ≡ At v.at v.state
back_all list number back is_back f v linked is_v =
    is_back f (first_visit (entry_of f.parameters)) v linked is_v linked.begins

-- ---- one turn of the loop that goes back

read_at : (list : List Visit) (at : ℕ) (v : Visit) → at < length list → v ≡ slice_index_or list at v
    → slice_get list at ≡ Some v
read_at list at v lt is = slice_get_read list (length list) at v refl lt is

pub before-less : (list : List Visit) (at : ℕ) (v : Visit) → IsChained list → 0 < at → at < length list
    → v ≡ slice_index_or list at v → v.before < at
before-less list zero v chained some lt is = absurd (omega (arith, some))
before-less list (suc at) v chained some lt is =
    let le = chained at v (read_at list (suc at) v lt is) in omega (arith, le)

-- what is known at each turn
pub record IsBackWithin (list : List Visit) (number : ℕ) (back : List Exit) (at : ℕ) : Type 0 where
  pub within : at < length list
  pub is_back : IsBackTo list number back at

pub back-turn : (list : List Visit) (number : ℕ) (back : List Exit) (at : ℕ) (v : Visit) → IsChained list
    → IsBackWithin list number back at → 0 < at → v ≡ slice_index_or list at v
    → IsBackWithin list number (back ++ v.exit ∷ []) v.before
back-turn list number back zero v chained back_to some is = absurd (omega (arith, some))
back-turn list number back (suc at) v chained back_to some is = record {
  within =
      let less = before-less list (suc at) v chained some back_to.within is in
      let within = back_to.within in
      omega (arith, less, within);
  is_back = back_more list number back at v back_to.is_back (read_at list (suc at) v back_to.within is);
}

pub back-last : (list : List Visit) (number : ℕ) (back : List Exit) (at : ℕ) (r : Result (List Exit) AllocError)
    → IsBackWithin list number back at → at ≡ 0 → IfOk r (λ exits. exits ≡ reverse back)
    → (f : Function) (v : Visit) → AreLinked f list → slice_get list number ≡ Some v
    → IfOk r (λ exits. path_end f exits ≡ At v.at v.state)
back-last list number back at r back_to first turned f v linked is_v =
    IfOk-weaker r (λ exits. exits ≡ reverse back) (λ exits. path_end f exits ≡ At v.at v.state)
    (λ exits e. ap (path_end f) e
    ∙ back_all list number back (subst (IsBackTo list number back) first back_to.is_back) f v linked is_v)
    turned
