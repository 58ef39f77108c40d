-- What each call does to its hand's view, from the words that its steps find. A call's steps are those of the model:
-- each is the hand's next duty, which finds some word (`view_after`).
use Rattle.std.specs.Prelude.{◌≡◌, ◌≢◌, ◌⊎◌, ◌<◌, ◌≤◌, ◌++◌, true, ℕ, ◌+◌, ◌*◌, ◌==◌, Bool, if◌then◌else◌, List, [], ◌∷◌, None, Some}
use Rattle.brc_word.specs.Words.{owner_part, most_local, half, local_part, is_immortal_word, free_word}
use Rattle.brc_lang.specs.declared.kind.Kind.{Kind}
use Rattle.brc_lang.specs.declared.kind.Kind.TheVariants as kinds
use Rattle.brc_model.specs.declared.duty.Duty.{Duty}
use Rattle.brc_model.specs.declared.duty.Reason.{Reason}
use Rattle.brc_model.specs.declared.duty.Reason.TheVariants.{Own}
use Rattle.brc_model.specs.declared.duty.Duty.TheVariants.{DecideAtZero, SharedLoad, SetMark, MergeSwap, MergeLoad, Die}
use Rattle.brc_model.specs.Kinds.{kind_number}
use Rattle.brc_model.specs.Duties.{counts_locally, once_merged, resources_of}
use Rattle.brc_model.specs.Machine.{is_running}
use Rattle.brc_model.specs.declared.layout.Layout.{Layout}
use Rattle.brc_model.specs.FirstRows.{first_kind_word}
use Rattle.brc_model.specs.declared.address.Address.TheVariants.{Local}
use Rattle.brc_table.specs.declared.view.View.{View}
use Rattle.brc_model.specs.declared.event.WordEvent.{WordEvent}
use Rattle.brc_table.specs.Views.{view_after, resumed, turned, field_filled, asking, retaining, releasing, bearing, work_about, open_work, with_work, rested, next_row, is_given}
use Rattle.brc_table.specs.KnownWords.{knows_kind}
use Rattle.brc_table.specs.Hands.{TableState, HandState, MayWait, carried_of}
use Rattle.brc_heap.specs.Steps.{Keeps}
use Rattle.brc_effect.specs.Outcomes.{local_answer as local_release, merge_answer}
use Rattle.brc_effect.specs.declared.outcomes.LocalRelease.{LocalRelease}
use Rattle.brc_effect.specs.declared.outcomes.LocalRelease.TheVariants as local
use Rattle.brc_effect.specs.declared.outcomes.ZeroStep.{ZeroStep}
use Rattle.brc_effect.specs.declared.outcomes.ZeroStep.TheVariants as zero
use Rattle.brc_effect.specs.declared.outcomes.SharedRelease.{SharedRelease}
use Rattle.brc_effect.specs.declared.outcomes.SharedRelease.TheVariants as shared
use Rattle.brc_effect.specs.declared.outcomes.MergeStep.{MergeStep}
use Rattle.brc_effect.specs.declared.outcomes.MergeStep.TheVariants as merge

-- ---- retain

-- the hand has retained the object: it loaded the local word, and then stored it or added to the shared word, whose
-- value was `found` (an immortal object needs no second step)
abbrev pub retained : View → ℕ → ℕ → ℕ → View
retained v x word found = resumed (retaining v x) (word ∷ found ∷ [])

-- the step on the row's local word that found the one value and left the other
abbrev pub local_event : ℕ → ℕ → ℕ → WordEvent
local_event x found left = record { address = Local x; found = found; left = left }

-- A running owner's retain stores the local word, unless the object is immortal, nobody owns it any more, or its local
-- count is the greatest that the owner reaches by counting.
abbrev pub RetainsOwn : ℕ → ℕ → ℕ → View → View → Type 0
RetainsOwn x word found v u =
    (is_immortal_word word ≡ true) ⊎ (owner_part word ≡ 0) ⊎ (most_local ≤ local_part word)
    ⊎ (u.trace ≡ (v.trace ++ local_event x word word ∷ []) ++ local_event x found (word + 1) ∷ [])

-- ---- release

-- The hand counts the object locally, having loaded this local word.
abbrev pub counts_here : View → ℕ → Bool
counts_here v word = counts_locally v.thread (is_running v.actor.status) word

-- the hand has loaded the local word, and stored it with one less if it counts there
abbrev pub released_locally : View → ℕ → ℕ → View
released_locally v x word =
    let loaded = view_after (releasing v x) word in if counts_here v word then view_after loaded word else loaded

-- how the release ends that has loaded it
abbrev pub local_answer : View → ℕ → LocalRelease
local_answer v word = local_release v.thread (is_running v.actor.status) word

-- If the object dies, the hand chains it at once.
abbrev pub chained_by : View → List Duty → View
chained_by v (Die x ∷ rest) = view_after v free_word
chained_by v _ = v

abbrev pub chained : View → View
chained v = chained_by v v.actor.agenda

-- the hand has looked at the shared word of an object whose last local reference is gone
abbrev pub decided : View → ℕ → ℕ → View
decided v x word = chained (view_after (turned v x) word)

-- the hand has loaded the shared word, and exchanged it if it was still the same
abbrev pub released_shared : View → ℕ → ℕ → ℕ → View
released_shared v x word found = chained (resumed (turned v x) (word ∷ found ∷ []))

-- ---- merge

-- the hand has loaded the shared word, and exchanged it for the merged one if it was still the same
abbrev pub merge_tried : View → ℕ → ℕ → View
merge_tried v word found = chained (resumed v (word ∷ found ∷ []))

-- the hand's first turn: it has swapped the local word, which was `local`, for nobody's. If nobody owned the object, it
-- is merged already.
abbrev pub merge_begun : View → ℕ → ℕ → ℕ → ℕ → View
merge_begun v x local word found =
    let swapped = view_after (turned v x) local in if local == 0 then swapped else merge_tried swapped word found

abbrev pub first_answer : ℕ → ℕ → ℕ → MergeStep
first_answer local word found = if local == 0 then merge.Kept else merge_answer (local_part local) word found

-- The hand has a merge of the row to begin, and carries nothing from it. It merges because the row's last local
-- reference is gone, or because it has claimed the row's mark, and so has a handed reference to give up.
pub record MergeIsFirst (r : Reason) (hand : HandState) (x : ℕ) : Type 0 where
  pub duty : work_about x hand.view ≡ MergeSwap x r ∷ []
  pub none : carried_of hand x ≡ None

-- The hand has begun a merge of the row, and remembers what it carries.
pub record MergeIsBegun (r : Reason) (hand : HandState) (x carried : ℕ) : Type 0 where
  pub duty : work_about x hand.view ≡ MergeLoad x carried r ∷ []
  pub begun : carried_of hand x ≡ Some carried

-- One or the other.
abbrev pub Merges : Reason → HandState → ℕ → Type 0
Merges r hand x = MergeIsFirst r hand x ⊎ ((carried : ℕ) × MergeIsBegun r hand x carried)

-- ---- kinds

-- The hand has loaded the row's kind word. It is the word that the hand has seen there before, if it has. If the hand
-- has locked the object, the word says whether the object's field has a resource. That of an object that is there from
-- the start is its first one.
pub record SeesKind (heap : TableState) (x word : ℕ) (v u : View) : Type 0 where
  pub view_is : u ≡ view_after (asking v x) word
  pub seen : knows_kind x word u ≡ true
  pub stays : (before : ℕ) → 0 < before → knows_kind x before v ≡ true → word ≡ before
  pub field : v.actor.locked ≡ Some x → v.in_field ≡ resources_of word
  pub first : 0 < first_kind_word heap.lines heap.layout x → word ≡ first_kind_word heap.lines heap.layout x

-- ---- births

-- the kind word of a new object
abbrev pub kind_word : Kind → ℕ → ℕ
kind_word kind arg = kind_number kind * half + arg

-- An object of this kind may be born with this argument: the value of a number, or how many cells a list has, at most
-- this many. Files and sockets have none.
abbrev pub IsBornWith : ℕ → Kind → ℕ → Type 0
IsBornWith cells kinds.Num arg = Unit {0}
IsBornWith cells kinds.List arg = arg ≤ cells
IsBornWith cells kinds.File arg = arg ≡ 0
IsBornWith cells kinds.Sock arg = arg ≡ 0
IsBornWith cells _ arg = ⊥

-- the hand has stored the kind word of a new object, put its resource into its field if the kind has one, and stored
-- its first local word
abbrev pub born : View → ℕ → View
born v word = view_after (field_filled (view_after (bearing v word) 0)) 0

-- a hand that has used one row more, and holds a reference to its object
abbrev pub with_newborn : View → View
with_newborn v = record v {
  actor = record v.actor { used = v.actor.used + 1 };
  references = next_row v ∷ v.references;
}

-- The hand has given birth to the next object of its block, and holds its only reference. Its other work and its chain
-- are as they were.
pub record HasBorn (v u : View) : Type 0 where
  pub keeps : Keeps (with_work (with_newborn v) u.actor.agenda u.actor.aside) u
  pub head : u.actor.head ≡ v.actor.head
  pub waits : MayWait u.actor.agenda
  pub work : open_work u ≡ open_work v

-- ---- hands

-- The thread's hand was given out, or there is no worker of this number.
abbrev pub IsTaken : Layout → View → ℕ → Type 0
IsTaken layout main thread = (thread ≡ 0) ⊎ (layout.workers < thread) ⊎ (is_given thread main ≡ true)

-- Main has given out the thread's hand. It holds what it held before, and its work and its chain are as they were.
pub record HasGiven (thread : ℕ) (v u : View) : Type 0 where
  pub keeps : Keeps (record (rested v) { given = thread ∷ v.given }) u
  pub head : u.actor.head ≡ v.actor.head
  pub agenda : u.actor.agenda ≡ []

-- ---- what a call leaves

-- The hand with view v works at the row x, with view u: all other work is aside, and beside its references the hand has
-- kept the rest.
abbrev pub WorksAt : ℕ → View → View → Type 0
WorksAt x v u = Keeps (record (turned v x) { references = u.references }) u

-- After a call about the row x, this is left of the hand's work about it, and comes next. All other work is aside, and
-- as it was.
pub record Leaves (x : ℕ) (left : List Duty) (v u : View) : Type 0 where
  pub keeps : WorksAt x v u
  pub waits : MayWait u.actor.agenda
  pub agenda : u.actor.agenda ≡ left
  pub left_is : work_about x u ≡ left
  pub others : (y : ℕ) → y ≢ x → work_about y u ≡ work_about y v

-- what a release through the local word leaves
abbrev pub local_left : ℕ → LocalRelease → List Duty
local_left x local.Skip = []
local_left x local.Kept = []
local_left x local.Zero = DecideAtZero x ∷ []
local_left x local.Share = SharedLoad x Own ∷ []

abbrev pub zero_left : ℕ → ZeroStep → List Duty
zero_left x zero.Dying = []
zero_left x zero.Merge = MergeSwap x Own ∷ []

-- what a release through the shared word leaves: to set the object's mark, or to try again
abbrev pub shared_left : ℕ → Reason → SharedRelease → List Duty
shared_left x r shared.Kept = []
shared_left x r shared.Queued = SetMark x ∷ []
shared_left x r shared.Dying = []
shared_left x r shared.Again = SharedLoad x r ∷ []

-- what a merge leaves: a handed reference is still to be given up, or the merge has to be tried again
abbrev pub merge_left : ℕ → ℕ → Reason → MergeStep → List Duty
merge_left x carried r merge.Kept = once_merged x r
merge_left x carried r merge.Dying = []
merge_left x carried r merge.Again = MergeLoad x carried r ∷ []
