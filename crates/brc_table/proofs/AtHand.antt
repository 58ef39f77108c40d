-- A hand that has put all its work aside, and what it then has at hand: references, and items that it borrows.
use Rattle.std.proofs.Common.{◌≡◌, ℕ, suc, ◌+◌, ◌≤◌, true, Option, List, length, inl, inr, refl, sym, ap, ◌∙◌, subst, arith}
use Rattle.std.specs.Prelude.{◌==◌}
use Rattle.std.proofs.lemmas.Bool.{cases_Bool, eq-eqb, false≢true}
use Rattle.std.proofs.lemmas.List.Sums.{length-filter}
use mathlib.Core.Option.{some}
use lib.ListN.{get_elem?}
use Rattle.brc_model.specs.declared.duty.Holding.TheVariants.{ByVariable, AsCaller}
use Rattle.brc_model.specs.declared.actor.Status.TheVariants.{Running}
use Rattle.brc_model.specs.declared.layout.Layout.{Layout}
use Rattle.brc_model.specs.Layout.{is_immortal_row, IsCounted}
use Rattle.brc_model.specs.References.{one_if}
use Rattle.brc_model.specs.Moves.{gain}
use Rattle.brc_model.specs.Machine.{Machine, with_moves}
use Rattle.brc_model.specs.Accounts.{Account, HoldsNone}
use Rattle.brc_model.specs.OpenWork.{is_about}
use Rattle.brc_model.specs.declared.address.Address.TheVariants.{Field}
use Rattle.brc_model.specs.Counting.{with_account, with_one_more, IsReady, HasNoneAbout, MayGiveUp, IsAtHand}
use Rattle.brc_model.specs.CountingLaws.{ImmortalsAreFree}
use Rattle.brc_table.specs.Plan.{Plan}
use Rattle.brc_table.specs.declared.view.View.{View}
use Rattle.brc_table.specs.Views.{open_work, rested}
use Rattle.brc_table.specs.Rule.{Stands}
use Rattle.brc_table.specs.Hands.{HoldsOne, KeepsLock, MayUse, HasNoWork}
use Rattle.brc_table.specs.Begins.{Passes}
use Rattle.brc_table.proofs.Accounts.{with_account_same, with_account_other, one_more_else, immortal_apart}
use Rattle.brc_table.proofs.Passing.{passes_on}

-- What is known of a hand that runs and has put all its work aside, with none of it about the row.
pub record Rests (plan : Plan) (words : List ℕ) (views : List View) (id : ℕ) (v : View) (x : ℕ) : Type 0 where
  pub stands : Stands plan words views
  pub here : get_elem? views id ≡ some (rested v)
  pub running : v.actor.status ≡ Running
  pub free : HasNoWork v x

-- The machine's thread is ready.
pub is_ready : (plan : Plan) (words : List ℕ) (views : List View) (id : ℕ) (v : View)
    → (stands : Stands plan words views) → get_elem? views id ≡ some (rested v) → v.actor.status ≡ Running
    → IsReady stands.machine v.thread (rested v).actor
is_ready plan words views id v stands here running =
    record { found = stands.same_actor id (rested v) here; running = running; agenda = refl }

-- None of the thread's work is about the row.
pub alone : (v : View) (x : ℕ) → HasNoWork v x → HasNoneAbout (rested v).actor x
alone v x free = omega (arith, ap length free, length-filter (is_about x) (open_work v))

-- ---- free references

-- The rule holds with accounts in which the thread has this many references to the object, or more.
pub record HasSome (plan : Plan) (words : List ℕ) (views : List View) (t x least : ℕ) (before : Machine) : Type 0 where
  pub stands : Stands plan words views
  pub fields : (y : ℕ) → stands.machine.memory (Field y) ≡ before.memory (Field y)
  pub more : least ≤ stands.accounts t AsCaller x

-- In these it has one.
abbrev pub HasOne : Plan → List ℕ → List View → ℕ → ℕ → Machine → Type 0
HasOne plan words views t x before = HasSome plan words views t x 1 before

-- The rule holds as well with one reference more to an immortal object: views don't list it, and no word changes.
gains_one : ImmortalsAreFree → (plan : Plan) (words : List ℕ) (views : List View) (id : ℕ) (v : View) (x : ℕ)
    (least : ℕ)
    → (rests : Rests plan words views id v x) → is_immortal_row v.layout x ≡ true
    → least ≤ rests.stands.accounts v.thread AsCaller x
    → HasSome plan words views v.thread x (suc least) rests.stands.machine
gains_one law plan words views id v x least rests immortal enough =
    let old = rests.stands in
    let m = old.machine in
    let p = old.accounts in
    let t = v.thread in
    let more = with_one_more (p t) AsCaller x in
    let immortal' : is_immortal_row m.layout x ≡ true =
    subst (λ (l : Layout). is_immortal_row l x ≡ true) (old.same_layout id (rested v) rests.here) immortal in
    record {
      stands = record {
        accounts = with_account p t more;
        machine = with_moves m (gain t AsCaller x);
        counts =
            law p (1 + m.layout.workers) m t (rested v).actor x old.counts
            (is_ready plan words views id v old rests.here rests.running) (alone v x rests.free) immortal';
        layout_is = old.layout_is;
        plain = old.plain;
        lines = old.lines;
        length_is = old.length_is;
        reads = old.reads;
        same_actor = old.same_actor;
        lends_none = old.lends_none;
        same_layout = old.same_layout;
        first_kinds = old.first_kinds;
        kinds_seen = old.kinds_seen;
        cells_seen = old.cells_seen;
        holding = λ other w y is counted.
            one_more_else p t x w.thread AsCaller y (immortal_apart m.layout x y immortal' counted)
            ∙ old.holding other w y is counted;
        no_variables = λ u depth i y. one_more_else p t x u (ByVariable depth i) y refl ∙ old.no_variables u depth i y;
        one_hand = old.one_hand;
        idle = λ u low none.
            let rest = old.idle u low none in (
              rest.0,
              subst HoldsNone (sym (with_account_other p t more u (λ e. none id (rested v) rests.here (sym e)))) rest.1,
            );
        given_out = old.given_out;
        joined = old.joined;
        threads = old.threads;
      };
      fields = λ y. refl;
      more =
          subst (λ (a : Account). suc least ≤ a AsCaller x) (sym (with_account_same p t more))
          (let one : one_if (x == x) ≡ 1 = ap one_if (eq-eqb x x refl) in omega (arith, one, enough));
    }

-- If the hand holds the object, the rule holds with accounts in which its thread has a reference to it.
pub has_one : ImmortalsAreFree → (plan : Plan) (words : List ℕ) (views : List View) (id : ℕ) (v : View) (x : ℕ)
    → (rests : Rests plan words views id v x) → HoldsOne v x
    → HasOne plan words views v.thread x rests.stands.machine
has_one law plan words views id v x rests (inl immortal) =
    gains_one law plan words views id v x 0 rests immortal (omega arith)
has_one law plan words views id v x rests (inr one) =
    elim (cases_Bool (is_immortal_row v.layout x)) [
      | inl immortal ↦ gains_one law plan words views id v x 0 rests immortal (omega arith)
      | inr counted ↦
          let old = rests.stands in
          let counted' : IsCounted old.machine.layout x =
          subst (λ (l : Layout). IsCounted l x) (old.same_layout id (rested v) rests.here) counted in
          record {
            stands = old;
            fields = λ y. refl;
            more = omega (arith, one, old.holding id (rested v) x rests.here counted');
          }
    ]

-- The rule holds with accounts in which the thread has a reference to the object that it may give up.
pub record CanGiveUp (plan : Plan) (words : List ℕ) (views : List View) (v : View) (x : ℕ) (before : Machine)
    : Type 0 where
  pub stands : Stands plan words views
  pub fields : (y : ℕ) → stands.machine.memory (Field y) ≡ before.memory (Field y)
  pub more : 1 ≤ stands.accounts v.thread AsCaller x
  pub keeps : MayGiveUp (stands.accounts v.thread) (rested v).actor x

-- If the hand holds the object, and keeps a reference to it if it has locked it, the rule holds so. The account gets
-- two references to an immortal object.
pub can_give_up : ImmortalsAreFree → (plan : Plan) (words : List ℕ) (views : List View) (id : ℕ) (v : View) (x : ℕ)
    → (rests : Rests plan words views id v x) → HoldsOne v x → KeepsLock v x
    → CanGiveUp plan words views v x rests.stands.machine
can_give_up law plan words views id v x rests holding keeps =
    elim (cases_Bool (is_immortal_row v.layout x)) [
      | inl immortal ↦
          let one = gains_one law plan words views id v x 0 rests immortal (omega arith) in
          let again : Rests plan words views id v x =
          record { stands = one.stands; here = rests.here; running = rests.running; free = rests.free } in
          let two = gains_one law plan words views id v x 1 again immortal one.more in
          record {
            stands = two.stands;
            fields = λ y. two.fields y ∙ one.fields y;
            more = omega (arith, two.more);
            keeps = λ e. two.more;
          }
      | inr counted ↦
          let one = has_one law plan words views id v x rests holding in
          let s = one.stands in
          let counted' : IsCounted s.machine.layout x =
          subst (λ (l : Layout). IsCounted l x) (s.same_layout id (rested v) rests.here) counted in
          record {
            stands = s;
            fields = one.fields;
            more = one.more;
            keeps = λ e.
                elim (keeps e) [
                  | inl immortal ↦ absurd (false≢true (sym counted ∙ immortal))
                  | inr two ↦ omega (arith, s.holding id (rested v) x rests.here counted', two)
                ];
          }
    ]

-- What is passed on from there is passed on.
pub with_spare : {plan : Plan} {words : List ℕ} {views after : List View} {v : View} {x : ℕ} {before : Machine}
    {taken : List ℕ} {locked : Option ℕ} (spare : CanGiveUp plan words views v x before)
    → Passes plan words after taken locked spare.stands.machine → Passes plan words after taken locked before
with_spare {before = before} spare next = passes_on before spare.stands.machine (λ y which. spare.fields y) next

-- What is passed on from there is passed on.
pub with_one : {plan : Plan} {words : List ℕ} {views after : List View} {t x : ℕ} {before : Machine}
    {taken : List ℕ} {locked : Option ℕ} (one : HasOne plan words views t x before)
    → Passes plan words after taken locked one.stands.machine → Passes plan words after taken locked before
with_one {before = before} one next = passes_on before one.stands.machine (λ y which. one.fields y) next

-- ---- borrowed items

-- The rule holds with accounts in which the thread has a reference to the object, or the object is an item of the list
-- that the thread has locked.
pub record HasAtHand (plan : Plan) (words : List ℕ) (views : List View) (v : View) (x : ℕ) (before : Machine)
    : Type 0 where
  pub stands : Stands plan words views
  pub fields : (y : ℕ) → stands.machine.memory (Field y) ≡ before.memory (Field y)
  pub at_hand : IsAtHand (stands.accounts v.thread) stands.machine (rested v).actor x

-- If the hand may use the object, the rule holds so. What the hand has seen in a cell of its locked list is still
-- there.
pub has_at_hand : ImmortalsAreFree → (plan : Plan) (words : List ℕ) (views : List View) (id : ℕ) (v : View) (x : ℕ)
    → (rests : Rests plan words views id v x) → MayUse v x
    → HasAtHand plan words views v x rests.stands.machine
has_at_hand law plan words views id v x rests (inl holding) =
    let one = has_one law plan words views id v x rests holding in
    record { stands = one.stands; fields = one.fields; at_hand = inl one.more }
has_at_hand law plan words views id v x rests (inr borrowed) =
    let old = rests.stands in
    let list = borrowed.list in
    let cell = borrowed.cell in
    let word = old.cells_seen id list cell (suc x) (rested v) rests.here (inl borrowed.locked) borrowed.seen in
    record {
      stands = old;
      fields = λ y. refl;
      at_hand =
          inr (record { list = list; cell = cell; locked = borrowed.locked; word = omega (arith, word) });
    }

-- What is passed on from there is passed on.
pub with_at_hand : {plan : Plan} {words : List ℕ} {views after : List View} {v : View} {x : ℕ} {before : Machine}
    {taken : List ℕ} {locked : Option ℕ} (usable : HasAtHand plan words views v x before)
    → Passes plan words after taken locked usable.stands.machine → Passes plan words after taken locked before
with_at_hand {before = before} usable next =
    passes_on before usable.stands.machine (λ y which. usable.fields y) next
