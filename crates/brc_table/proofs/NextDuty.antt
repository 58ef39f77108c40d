-- The duty that comes next: where its word is, and what its step leaves of the thread.
use Rattle.std.proofs.Common.{◌≡◌, ℕ, zero, suc, ◌+◌, ◌*◌, ◌<◌, ◌≤◌, ◌^◌, ◌⊎◌, Bool, true, List, [], ◌∷◌, inl, inr, refl, sym, ap, ◌∙◌, subst, arith, cond}
use Rattle.std.proofs.lemmas.Bool.{eq-eqb, ne_eqb}
use Rattle.brc_model.specs.declared.duty.Duty.{Duty}
use Rattle.brc_model.specs.declared.duty.Duty.TheVariants.{SetMark, Look, TakeMark, Die, Settle, SettleCell, TakeField, CloseResource, Leave, Scan, TakeFound, Finish, ClaimMark, MarksLoad, BirthField, LockGate, CellLoad, CellSwap, LendField, ReturnField}
use Rattle.brc_model.specs.declared.layout.Layout.{Layout}
use Rattle.brc_model.specs.Counting.{IsPlainLayout}
use Rattle.brc_word.specs.Words.{marks_of_word, lowest_mark}
use Rattle.brc_model.specs.Duties.{address_of, new_head, found_row}
use Rattle.brc_model.specs.Layout.{block_of, block_size, row_count}
use Rattle.brc_model.specs.Within.{Suits}
use Rattle.brc_model.specs.declared.address.Address.{Address}
use Rattle.brc_model.specs.declared.address.Address.TheVariants.{Marks, ThreadWord}
use Rattle.brc_model.specs.Machine.{status_by, used_by}
use Rattle.brc_model.specs.OpenWork.{is_about}
use Rattle.brc_model.specs.FieldLaws.{FieldUse, use_of}
use Rattle.brc_model.specs.Stores.{Overwrites}
use Rattle.brc_effect.specs.declared.access.Access.{Access}
use Rattle.brc_effect.specs.declared.access.Access.TheVariants.{Store}
use Rattle.brc_table.specs.declared.view.View.{View}
use Rattle.brc_effect.specs.Accesses.{IfStored}
use Rattle.brc_effect.specs.Effects.{IsIndexed}
use Rattle.brc_table.specs.Accesses.{HasAccess, HasCell, HasChain, HasNextRow, HasUsedRow, IsNext, row_of}
use Rattle.brc_table.specs.DutySteps.{OverwritesFirst, said}
use Rattle.brc_table.specs.Rule.{reading}
use Rattle.brc_table.specs.Places.{HasWord, IsObjectWord, IsTableWord, FewFirstRows}
use Rattle.brc_table.specs.Plays.{overwritten, overwritten_by}
use Rattle.brc_table.specs.Uses.{first_use, first_due, held_after}
use Rattle.brc_table.specs.Views.{RowsAreThere, view_by, view_after}
use Rattle.brc_table.proofs.Places.{mark_has}
use Rattle.brc_table.proofs.Bare.{IsLike, alike}
use Rattle.brc_table.proofs.Duties.{first_there, rows_few}
use Rattle.brc_table.proofs.ExitDuties.{own_row_there}
use Rattle.brc_table.proofs.ThreadWords.{block_there}
use Rattle.brc_table.proofs.ThreadsAllowed.{IsOnThread}

-- ---- duties with an operation

-- Their word is an object's, or a thread's.
pub word_of : (layout : Layout) (t head : ℕ) (d : Duty) → HasAccess d
    → IsObjectWord (address_of layout t head d)
    ⊎ (IsOnThread layout t head d × ((running : Bool) (n found : ℕ) → Suits t running n d found))
word_of layout t head (Look x) has = inr (
  record { thread = block_of layout x; address = refl; says = λ found. refl; kind = inl (λ found. refl) },
  λ running n found. tt,
)
word_of layout t head (Leave i n) has = inr (
  record { thread = t; address = refl; says = λ found. refl; kind = inr (refl, λ found. omega arith) },
  λ running n found. tt,
)
word_of layout t head Finish has = inr (
  record { thread = t; address = refl; says = λ found. refl; kind = inr (refl, λ found. omega arith) },
  λ running n found. tt,
)
word_of layout t head (TakeField x) has = absurd has
word_of layout t head (CloseResource x) has = absurd has
word_of layout t head (BirthField x h) has = absurd has
word_of layout t head (LendField x) has = absurd has
word_of layout t head (ReturnField x) has = absurd has
word_of layout t head _ has = inl tt

pub table_word_of : (layout : Layout) (t head : ℕ) (d : Duty) → HasAccess d
    → IsTableWord (address_of layout t head d)
table_word_of layout t head (TakeField x) has = absurd has
table_word_of layout t head (CloseResource x) has = absurd has
table_word_of layout t head (BirthField x h) has = absurd has
table_word_of layout t head (LendField x) has = absurd has
table_word_of layout t head (ReturnField x) has = absurd has
table_word_of layout t head _ has = tt

-- A mark word of a hand's block is there, if the hand has used a row of it.
own_word_there : (v : View) (w : ℕ) → RowsAreThere v → marks_of_word * w < v.actor.used
    → HasWord v.layout (Marks v.thread w)
own_word_there v w rows low = (omega (arith, rows.thread), omega (arith, low, rows.used))

-- Their word is there, if their row is.
pub word_there : (v : View) (d : Duty) → IsPlainLayout v.layout → RowsAreThere v → HasAccess d
    → HasCell v.layout d
    → HasChain d v.actor.head → HasUsedRow d v.actor.used
    → (is_about (row_of d) d ≡ true → row_of d < row_count v.layout)
    → HasWord v.layout (address_of v.layout v.thread v.actor.head d)
word_there v (Look x) plain rows has cell chain used row =
    let low = block_there v.layout x plain in omega (arith, low)
word_there v (Leave i n) plain rows has cell chain used row = omega (arith, rows.thread)
word_there v Finish plain rows has cell chain used row = omega (arith, rows.thread)
word_there v Settle plain rows has cell chain used row = omega (arith, rows.head, chain)
word_there v (Scan w n) plain rows has cell chain used row = own_word_there v w rows used
word_there v (MarksLoad w) plain rows has cell chain used row = own_word_there v w rows used
word_there v (TakeFound w marks) plain rows has cell chain used row =
    mark_has v.layout (found_row v.layout v.thread w marks) plain
    (own_row_there v (marks_of_word * w + lowest_mark marks) rows used.1)
word_there v (SetMark x) plain rows has cell chain used row = mark_has v.layout x plain (row (eq-eqb x x refl))
word_there v (TakeMark x) plain rows has cell chain used row = mark_has v.layout x plain (row (eq-eqb x x refl))
word_there v (ClaimMark x) plain rows has cell chain used row = mark_has v.layout x plain (row (eq-eqb x x refl))
word_there v (SettleCell x i n) plain rows has cell chain used row = (row (eq-eqb x x refl), cell)
word_there v (CellLoad x i) plain rows has cell chain used row = (row (eq-eqb x x refl), cell)
word_there v (TakeField x) plain rows has cell chain used row = absurd has
word_there v (CloseResource x) plain rows has cell chain used row = absurd has
word_there v (BirthField x h) plain rows has cell chain used row = absurd has
word_there v (LockGate x) plain rows has cell chain used row = absurd has
word_there v (CellSwap x i y h) plain rows has cell chain used row = absurd has
word_there v (LendField x) plain rows has cell chain used row = absurd has
word_there v (ReturnField x) plain rows has cell chain used row = absurd has
word_there v d plain rows has cell chain used row = row (eq-eqb (row_of d) (row_of d) refl)

-- What they do with fields doesn't depend on what they find.
pub use_same : (d : Duty) → HasAccess d → (found : ℕ) → use_of d found ≡ use_of d 0
use_same (LockGate x) has found = absurd has
use_same _ has found = refl

-- If the duty chains a row that is there, the row plus 1 is a number of 32 bits.
pub next_row_low : (layout : Layout) (t head : ℕ) (d : Duty) → IsPlainLayout layout → FewFirstRows layout
    → HasWord layout (address_of layout t head d) → HasNextRow d
next_row_low layout t head (Die x) plain few there = omega (arith, rows_few layout plain few, there)
next_row_low layout t head _ plain few there = tt

-- A thread has room for its numbers.
pub block_few : (layout : Layout) (t : ℕ) → IsPlainLayout layout → FewFirstRows layout → block_size layout t < 2 ^ 31
block_few layout zero plain few = omega (arith, few)
block_few layout (suc t) plain few = omega (arith, plain.few_rows)

-- ---- the first duty of an agenda

pub record Coming (d : Duty) (ds : List Duty) : Type 0 where
  pub first : Duty
  pub rest : List Duty
  pub is : ds ≡ first ∷ rest
  pub like : IsLike first d
  pub back : IsLike d first

pub coming : (d : Duty) (ds : List Duty) → IsNext d ds → Coming d ds
coming d [] next = absurd next
coming d (e ∷ rest) next =
    record { first = e; rest = rest; is = refl; like = alike e d next; back = alike d e (sym next) }

module _ (u : View) (d : Duty) (next : IsNext d u.actor.agenda) (has : HasAccess d) where
  abbrev c : Coming d u.actor.agenda
  c = coming d u.actor.agenda next

  -- The row that the duty names is there.
  pub next_there : RowsAreThere u → is_about (row_of d) d ≡ true → row_of d < row_count u.layout
  next_there rows this =
      first_there u (row_of d) c.first c.rest rows c.is (c.like.about (row_of d) ∙ this)

  -- The operation overwrites what the hand knows.
  pub before_next : (a : Access) → IfStored a (λ b. b ≡ overwritten_by u.thread (d ∷ []))
      → IfStored a (λ b. b ≡ overwritten u)
  before_next (Store word b) before =
      before ∙ (sym (c.like.before u.thread c.rest [])
      ∙ sym (ap (overwritten_by u.thread) c.is))
  before_next _ before = tt

  -- What its word says.
  pub said_next : (word : ℕ)
      → said u u.actor.agenda word ≡ reading (address_of u.layout u.thread u.actor.head d) word
  said_next word =
      ap (λ (ds : List Duty). said u ds word) c.is
      ∙ ap (λ (a : Address). reading a word) (c.like.address u.layout u.thread u.actor.head)

  pub says_next : (a : Access)
      → IfStored a (λ b. reading (address_of u.layout u.thread u.actor.head d) b ≡ b)
      → IfStored a (λ b. said u u.actor.agenda b ≡ b)
  says_next (Store word b) says = said_next b ∙ says
  says_next _ says = tt

  pub overwrites_next : (found : ℕ) → OverwritesFirst u.thread u.actor.agenda found → Overwrites u.thread d found
  overwrites_next found first =
      c.like.overwrites u.thread found (subst (λ (ds : List Duty). OverwritesFirst u.thread ds found) c.is first)

  pub knows_next : (a : Access) → IfStored a (λ b. (found : ℕ) → Overwrites u.thread d found → found ≡ b)
      → IfStored a (λ b. (found : ℕ) → OverwritesFirst u.thread u.actor.agenda found → found ≡ b)
  knows_next (Store word b) knows = λ found first. knows found (overwrites_next found first)
  knows_next _ knows = tt

  pub fields_next : (fields : List (ℕ × ℕ)) (found : ℕ)
      → held_after fields (first_use u.actor.agenda found) (first_due u.actor.agenda found)
      ≡ held_after fields (use_of d 0) (first_due (d ∷ []) found)
  fields_next fields found =
      ap (λ (ds : List Duty). held_after fields (first_use ds found) (first_due ds found)) c.is
      ∙ (ap (λ (s : FieldUse). held_after fields s (first_due (c.first ∷ c.rest) found))
      (c.like.fields found ∙ use_same d has found)
      ∙ ap (held_after fields (use_of d 0)) (c.like.due c.rest [] found))

  -- The hand after the step, and its thread.
  pub view_next : (found : ℕ) → view_after u found ≡ view_by u (c.first ∷ c.rest) found
  view_next found = ap (λ (ds : List Duty). view_by u ds found) c.is

  pub status_next : (found : ℕ) → (view_after u found).actor.status ≡ status_by u.actor.status d
  status_next found = ap (λ (v : View). v.actor.status) (view_next found) ∙ c.like.status u.actor.status

  pub head_next : (found : ℕ) → (view_after u found).actor.head ≡ new_head u.actor.head d found
  head_next found = ap (λ (v : View). v.actor.head) (view_next found) ∙ c.like.head u.actor.head found

  pub used_next : (found : ℕ) → (view_after u found).actor.used ≡ used_by u.actor.used d
  used_next found = ap (λ (v : View). v.actor.used) (view_next found) ∙ c.like.used u.actor.used

-- A word of an object says what it is, and so does one of a thread that is started.
says_itself : (a : Address) (before : ℕ) → ((t : ℕ) → a ≡ ThreadWord t → 0 < before) → reading a before ≡ before
says_itself (ThreadWord t) before started =
    ap (λ (b : Bool). cond b 1 before) (ne_eqb before 0 (λ same. omega (arith, started t refl, same)))
says_itself _ before started = refl

-- A store knows what its word says.
pub stored_says : (layout : Layout) (t head : ℕ) (d : Duty) (access : Access)
    → ((l : Layout) (at : ℕ) → IfStored access (λ b. address_of l t head d ≡ ThreadWord at → 0 < b))
    → IfStored access (λ b. reading (address_of layout t head d) b ≡ b)
stored_says layout t head d (Store word b) started =
    says_itself (address_of layout t head d) b (λ at is. started layout at is)
stored_says layout t head d _ started = tt

-- The mark word that the duty names has no large number, if the thread has used a row of it.
pub index_small : (layout : Layout) (t used : ℕ) (d : Duty) → IsPlainLayout layout → FewFirstRows layout
    → used ≤ block_size layout t → HasUsedRow d used → IsIndexed d
index_small layout t used (Scan w n) plain few most low = omega (arith, block_few layout t plain few, most, low)
index_small layout t used (TakeFound w marks) plain few most low =
    (low.0, omega (arith, block_few layout t plain few, most, low.1))
index_small layout t used _ plain few most low = tt
