-- How paths of an outline and walks along its image follow each other.
use Rattle.std.proofs.Common.{◌≡◌, ℕ, zero, suc, List, [], ◌∷◌, ◌++◌, inl, inr, refl, sym, ap, ◌∙◌, subst, arith}
use Rattle.std.specs.Prelude.{Option, None, Some, slice_get}
use Rattle.std.specs.List.{fold, AllByRecursion}
use Rattle.std.proofs.lemmas.List.Sums.{fold-append}
use Rattle.brc_lang.specs.declared.module.Function.{Function}
use Rattle.brc_lang.specs.declared.module.Module.{Module}
use Rattle.brc_lang.specs.declared.check_code.CheckCode.{CheckCode}
use Rattle.brc_model.specs.declared.state.State.{State}
use Rattle.brc_model.specs.declared.state.Exit.{Exit}
use Rattle.brc_model.specs.SlotStates.{entry_of}
use Rattle.brc_model.specs.Paths.{PathEnd, At, Ended, Reports, follow, path_end, ReportsCode}
use Rattle.brc_model.specs.Paths.{IsAcceptable, IsAcceptableFunction}
use Rattle.brc_c_outline.specs.declared.outline.Broken.{Broken}
use Rattle.brc_c_outline.specs.declared.outline.Outline.{Outline}
use Rattle.brc_c_outline.specs.declared.outline.Point.{Point}
use Rattle.brc_c_outline.specs.Outlines.{point_at, goes, goes_from, led_to, broken_in, IsThat, Breaks, IsBroken}
use Rattle.brc_c_outline.specs.Outlines.{IsUnbroken, IsStartOf, HasWay, ShowsBroken, Labels, label_at, IsWithin}
use Rattle.brc_c_outline.specs.Outlines.{StaysIn, IsClosed, IsImage, Shows}

-- ---- from paths to walks

-- a walk reaches the point
record IsReached (f : Function) (o : Outline) (p : ℕ) : Type 0 where
  pub point : Point
  pub listed : point_at o p ≡ Some point
  pub exits : List Exit
  pub arrives : path_end f exits ≡ At point.start point.state

nowhere : (o : Outline) (choices : List ℕ) (p : ℕ) → fold (goes o) None choices ≡ Some p → ⊥
nowhere o [] p e = cc
nowhere o (choice ∷ choices) p e = nowhere o choices p e

goes_on : (f : Function) (o : Outline) (choices : List ℕ) (p : ℕ)
    → ((q : ℕ) → IsReached f o q → fold (goes o) (Some q) choices ≡ Some p → IsReached f o p)
    → (way : Option ℕ) → ((to : ℕ) → way ≡ Some to → IsReached f o to) → fold (goes o) way choices ≡ Some p
    → IsReached f o p
goes_on f o choices p rest None there e = absurd (nowhere o choices p e)
goes_on f o choices p rest (Some to) there e = rest to (there to refl) e

-- what starts at a point reaches it
starts : (f : Function) (o : Outline) (p : ℕ) (exits : List Exit) (point : Option Point) → point_at o p ≡ point
    → IsStartOf point (path_end f exits) → IsReached f o p
starts f o p exits None listed start = absurd start
starts f o p exits (Some point) listed start =
    record { point = point; listed = listed; exits = exits; arrives = start }

-- a way leads from a point that is reached to another one
goes_along : (f : Function) (o : Outline) (q : ℕ) (r : IsReached f o q) (to : ℕ) → HasWay f o r.point to
    → IsReached f o to
goes_along f o q r to (exits, goes_there) =
    starts f o to (r.exits ++ exits) (point_at o to) refl
    (subst (IsStartOf (point_at o to))
    (sym (fold-append (follow f.code) _ r.exits exits
    ∙ ap (λ (end : PathEnd). fold (follow f.code) end exits) r.arrives))
    goes_there)

goes_by : (f : Function) (o : Outline) (q : ℕ) (r : IsReached f o q) → IsImage f o → (choice to : ℕ)
    → slice_get r.point.ways.items choice ≡ Some to → IsReached f o to
goes_by f o q r i choice to e = goes_along f o q r to ((i.shows q r.point r.listed).ways choice to e)

reached : (f : Function) (o : Outline) → IsImage f o → (choices : List ℕ) (q : ℕ) → IsReached f o q → (p : ℕ)
    → fold (goes o) (Some q) choices ≡ Some p → IsReached f o p
reached f o i [] q here p e = let same : q ≡ p = grind arith in subst (IsReached f o) same here
reached f o i (choice ∷ choices) q here p e =
    goes_on f o choices p (λ r there led. reached f o i choices r there p led)
    (slice_get here.point.ways.items choice) (goes_by f o q here i choice)
    (subst (λ point. fold (goes o) (goes_from point choice) choices ≡ Some p) here.listed e)

first_reached : (f : Function) (o : Outline) → IsImage f o → IsReached f o 0
first_reached f o i = starts f o 0 [] (point_at o 0) refl i.begins.starts

-- what is broken at the point is reported by a walk
reports_it : (f : Function) (o : Outline) (p at : ℕ) (code : CheckCode) (r : IsReached f o p) (broken : Option Broken)
    → ShowsBroken f r.point broken → IsThat broken at code → ReportsCode f at code
reports_it f o p at code r None shown that = absurd that
reports_it f o p at code r (Some b) (exits, shown) that =
    record {
      exits = r.exits ++ exits;
      reports = fold-append (follow f.code) _ r.exits exits
          ∙ (ap (λ (end : PathEnd). fold (follow f.code) end exits) r.arrives
          ∙ (shown ∙ (ap (λ (n : ℕ). Reports n b.code) that.0 ∙ ap (Reports at) that.1)));
    }

-- a rule that is broken where choices lead is reported by a walk
pub path_has_walk : (f : Function) (o : Outline) (at : ℕ) (code : CheckCode) → IsImage f o → IsBroken o at code
    → ReportsCode f at code
path_has_walk f o at code i broken =
    let r = reached f o i broken.choices 0 (first_reached f o i) broken.p broken.leads in
    reports_it f o broken.p at code r r.point.broken (i.shows broken.p r.point r.listed).broken
    (subst (λ (point : Option Point). IsThat (broken_in point) at code) r.listed broken.breaks)

-- ---- from walks to paths

ended : (f : Function) (exits : List Exit) → fold (follow f.code) Ended exits ≡ Ended
ended f [] = refl
ended f (exit ∷ exits) = ended f exits

reported : (f : Function) (at : ℕ) (code : CheckCode) (exits : List Exit)
    → fold (follow f.code) (Reports at code) exits ≡ Reports at code
reported f at code [] = refl
reported f at code (exit ∷ exits) = reported f at code exits

-- choices lead to the point of an instruction that a walk reaches in its state
record IsOnPath (o : Outline) (l : Labels) (at : ℕ) (s : State) : Type 0 where
  pub choices : List ℕ
  pub p : ℕ
  pub leads : led_to o choices ≡ Some p
  pub labelled : label_at l at ≡ Some (record { point = p; state = s })

within : (o : Outline) (l : Labels) (choices : List ℕ) (p q at : ℕ) (s : State) → led_to o choices ≡ Some p
    → IsWithin o p q → label_at l at ≡ Some (record { point = q; state = s }) → IsOnPath o l at s
within o l choices p q at s leads (inl same) labelled =
    record { choices = choices; p = q; leads = leads ∙ ap Some (sym same); labelled = labelled }
within o l choices p q at s leads (inr (choice, goes_there)) labelled =
    record {
      choices = choices ++ choice ∷ [];
      p = q;
      leads = fold-append (goes o) (Some 0) choices (choice ∷ []) ∙ (ap (λ here. goes o here choice) leads
          ∙ goes_there);
      labelled = labelled;
    }

stays : (f : Function) (o : Outline) (l : Labels) (choices : List ℕ) (p : ℕ) → led_to o choices ≡ Some p
    → (exits : List Exit) (at : ℕ) (code : CheckCode)
    → ((next : ℕ) (s : State) → IsOnPath o l next s → fold (follow f.code) (At next s) exits ≡ Reports at code
    → IsBroken o at code)
    → (end : PathEnd) → StaysIn o l p end → fold (follow f.code) end exits ≡ Reports at code → IsBroken o at code
stays f o l choices p leads exits at code rest (At next s) (q, labelled, there) e =
    rest next s (within o l choices p q next s leads there labelled) e
stays f o l choices p leads exits at code rest Ended here e = absurd (let same = sym (ended f exits) ∙ e in cc)
stays f o l choices p leads exits at code rest (Reports n c) breaks e =
    let same : Reports n c ≡ Reports at code = sym (reported f n c exits) ∙ e in
    let there : n ≡ at = grind arith in
    let so : c ≡ code = grind arith in
    record {
      choices = choices;
      p = p;
      leads = leads;
      breaks = subst (λ (m : ℕ). Breaks o p m code) there (subst (Breaks o p n) so breaks);
    }

walked : (f : Function) (o : Outline) (i : IsImage f o) (exits : List Exit) (next : ℕ) (s : State)
    → IsOnPath o i.labels next s → (at : ℕ) (code : CheckCode)
    → fold (follow f.code) (At next s) exits ≡ Reports at code → IsBroken o at code
walked f o i [] next s on at code e = absurd cc
walked f o i (exit ∷ exits) next s on at code e =
    stays f o i.labels on.choices on.p on.leads exits at code
    (λ n t there led. walked f o i exits n t there at code led) (follow f.code (At next s) exit)
    (subst (IsClosed f o i.labels next) on.labelled (i.closed next) exit) e

-- a code that a walk reports is that of a rule which is broken where choices lead
pub walk_is_path : (f : Function) (o : Outline) (at : ℕ) (code : CheckCode) → IsImage f o → ReportsCode f at code
    → IsBroken o at code
walk_is_path f o at code i reports =
    walked f o i reports.exits 0 _
    (record { choices = []; p = 0; leads = refl; labelled = i.begins.labelled }) at code reports.reports

-- ---- accepted modules

all_at : {A : Type 0} (P : A → Type 0) (items : List A) (k : ℕ) (item : A) → AllByRecursion P items
    → slice_get items k ≡ Some item → P item
all_at P [] k item all e = absurd cc
all_at P (first ∷ items) zero item all e = let same : first ≡ item = cc in subst P same all.0
all_at P (first ∷ items) (suc k) item all e = all_at P items k item all.1 e

pub accepted_unbroken : (m : Module) (o : Outline) → Shows m o → IsAcceptable m → IsUnbroken o
accepted_unbroken m o shown accepted at code broken =
    (all_at IsAcceptableFunction m.functions shown.number shown.function accepted shown.listed).reports_none at code
    (path_has_walk shown.function o at code shown.image broken)
