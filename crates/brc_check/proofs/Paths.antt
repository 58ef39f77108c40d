-- Paths, step by step, and states of points with which they agree.
use Rattle.std.proofs.Common.{◌≡◌, ℕ, List, [], ◌∷◌, ◌++◌, Option, fold, refl, sym, ap, ◌∙◌, subst, inl, inr}
use Rattle.std.specs.Prelude.{Some}
use Rattle.std.proofs.lemmas.List.Sums.{fold-append}
use Rattle.std.proofs.lemmas.Option.{same_Some}
use Rattle.brc_lang.specs.declared.module.Function.{Function}
use Rattle.brc_lang.specs.declared.check_code.CheckCode.{CheckCode}
use Rattle.brc_model.specs.declared.state.State.{State}
use Rattle.brc_model.specs.declared.state.Exit.{Exit}
use Rattle.brc_model.specs.SlotStates.{entry_of}
use Rattle.brc_model.specs.Paths.{PathEnd, At, Ended, Reports, follow, path_end, ReportsCode, IsAcceptableFunction}
use Rattle.brc_model.specs.Tables.{Reaches, IsTrueEntry}
use Rattle.brc_check.specs.Entries.{StaysOn, IsClosed, IsErrorAt}

-- ---- one step more

pub path_end-more : (f : Function) (exits : List Exit) (e : Exit)
    → path_end f (exits ++ e ∷ []) ≡ follow f.code (path_end f exits) e
path_end-more f exits e = fold-append (follow f.code) (At 0 (entry_of f.parameters)) exits (e ∷ [])

path_end-from : (f : Function) (at : ℕ) (s : State) (e : Exit) (p : PathEnd) (r : Reaches f at s)
    → follow f.code (At at s) e ≡ p → path_end f (r.exits ++ e ∷ []) ≡ p
path_end-from f at s e p r h = path_end-more f r.exits e ∙ ap (λ (q : PathEnd). follow f.code q e) r.reaches ∙ h

pub begins : (f : Function) → Reaches f 0 (entry_of f.parameters)
begins f = record { exits = []; reaches = refl }

pub reaches-more : (f : Function) (at next : ℕ) (s t : State) (e : Exit) → Reaches f at s
    → follow f.code (At at s) e ≡ At next t → Reaches f next t
reaches-more f at next s t e r h =
    record { exits = r.exits ++ e ∷ []; reaches = path_end-from f at s e (At next t) r h }

pub reports-more : (f : Function) (at point : ℕ) (s : State) (reported : CheckCode) (e : Exit) → Reaches f at s
    → follow f.code (At at s) e ≡ Reports point reported → ReportsCode f point reported
reports-more f at point s reported e r h =
    record { exits = r.exits ++ e ∷ []; reports = path_end-from f at s e (Reports point reported) r h }

-- ---- closed states

stays-follow : (f : Function) (states : ℕ → Option State) → IsClosed f states → (p : PathEnd) (e : Exit)
    → StaysOn states p → StaysOn states (follow f.code p e)
stays-follow f states closed (At at s) e on = closed.goes_on at s e on
stays-follow f states closed Ended e on = tt
stays-follow f states closed (Reports at c) e on = on

stays-fold : (f : Function) (states : ℕ → Option State) → IsClosed f states
    → (exits : List Exit) (p : PathEnd)
    → StaysOn states p → StaysOn states (fold (follow f.code) p exits)
stays-fold f states closed [] p on = on
stays-fold f states closed (e ∷ es) p on =
    stays-fold f states closed es (follow f.code p e) (stays-follow f states closed p e on)

stays : (f : Function) (states : ℕ → Option State) → IsClosed f states → (exits : List Exit) (p : PathEnd)
    → path_end f exits ≡ p → StaysOn states p
stays f states closed exits p e = subst (StaysOn states) e
    (stays-fold f states closed exits (At 0 (entry_of f.parameters)) closed.begins)

-- closed states have the state of each path
pub closed-reached : (f : Function) (states : ℕ → Option State) → IsClosed f states → (at : ℕ) (s : State)
    → Reaches f at s → states at ≡ Some s
closed-reached f states closed at s r = stays f states closed r.exits (At at s) r.reaches

pub closed-acceptable : (f : Function) (states : ℕ → Option State) → IsClosed f states
    → IsAcceptableFunction f
closed-acceptable f states closed = record {
  reports_none = λ at reported m. stays f states closed m.exits (Reports at reported) m.reports;
  states_agree =
      λ exits others at s t g h. same_Some s t
      (sym (stays f states closed exits (At at s) g) ∙ stays f states closed others (At at t) h);
}

-- ---- true states

-- the true states of an acceptable function have no error
pub no_error : (f : Function) (states : ℕ → Option State) (at : ℕ) (reported : CheckCode)
    → IsAcceptableFunction f
    → ((k : ℕ) → IsTrueEntry f k (states k)) → IsErrorAt f states at reported → ⊥
no_error f states at reported accepted true_entries error =
    elim error [
      | inl m ↦
          accepted.reports_none at reported (reports-more f at at m.state reported m.exit
          ((true_entries at m.state).0 m.is_given)
          m.reports)
      | inr other ↦ elim other.1 [
        | inl d ↦
            d.apart ((true_entries at d.arriving).1
            (reaches-more f d.before at d.state d.arriving d.exit ((true_entries d.before d.state).0 d.is_given)
            d.leads))
        | inr d ↦ d.1 ((true_entries 0 (entry_of f.parameters)).1 (begins f))
      ]
    ]
