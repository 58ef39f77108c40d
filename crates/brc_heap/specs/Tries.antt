-- The pieces of work that a hand may have to do next, and what one try of each leaves.
use Rattle.std.specs.Prelude.{◌≡◌, Bool, true, false, if◌then◌else◌, ◌==◌, ℕ, List, [], ◌∷◌, Option, None, Some}
use Rattle.brc_word.specs.Words.{local_part, is_immortal_word}
use Rattle.brc_model.specs.declared.duty.Duty.{Duty}
use Rattle.brc_model.specs.declared.duty.Holding.{Holding}
use Rattle.brc_model.specs.declared.duty.Reason.{Reason}
use Rattle.brc_model.specs.declared.duty.Duty.TheVariants.{ReleaseLoad, DecideAtZero, SharedLoad, SetMark, Look, MergeSwap, MergeLoad}
use Rattle.brc_model.specs.Duties.{once_merged}
use Rattle.brc_table.specs.declared.view.View.{View}
use Rattle.brc_table.specs.Views.{view_after}
use Rattle.brc_effect.specs.declared.outcomes.ZeroStep.{ZeroStep}
use Rattle.brc_effect.specs.declared.outcomes.ZeroStep.TheVariants as zero_step
use Rattle.brc_effect.specs.declared.outcomes.SharedRelease.{SharedRelease}
use Rattle.brc_effect.specs.declared.outcomes.SharedRelease.TheVariants as shared
use Rattle.brc_effect.specs.declared.outcomes.MergeStep.{MergeStep}
use Rattle.brc_effect.specs.declared.outcomes.MergeStep.TheVariants as merge
use Rattle.brc_heap.specs.Calls.{counts_here}

-- ---- what comes next

-- The hand with view v has begun to release the row's object: it has loaded this local word.
pub record LoadedLocal (x word : ℕ) (v u : View) : Type 0 where
  pub holding : Holding
  pub rest : List Duty
  pub next : v.actor.agenda ≡ ReleaseLoad x holding ∷ rest
  pub is : u ≡ view_after v word

-- The first duty is to decide what becomes of the object of row x, whose last local reference is gone.
pub record DecidesNext (x : ℕ) (ds : List Duty) : Type 0 where
  pub rest : List Duty
  pub next : ds ≡ DecideAtZero x ∷ rest

-- The first duty is to give up a reference to the object of row x in its shared word.
pub record GivesUpNext (x : ℕ) (ds : List Duty) : Type 0 where
  pub reason : Reason
  pub rest : List Duty
  pub next : ds ≡ SharedLoad x reason ∷ rest

-- The first duty is to begin a merge of row x.
pub record MergesNext (x : ℕ) (ds : List Duty) : Type 0 where
  pub reason : Reason
  pub rest : List Duty
  pub next : ds ≡ MergeSwap x reason ∷ rest

-- The first duty is to load the shared word of row x, to which c local references are to be added.
pub record CarriesNext (x c : ℕ) (ds : List Duty) : Type 0 where
  pub reason : Reason
  pub rest : List Duty
  pub next : ds ≡ MergeLoad x c reason ∷ rest

-- The first duty is to set the mark of row x.
pub record MarksNext (x : ℕ) (ds : List Duty) : Type 0 where
  pub rest : List Duty
  pub next : ds ≡ SetMark x ∷ rest

-- The first duty is to look whether the thread of row x still runs.
pub record LooksNext (x : ℕ) (ds : List Duty) : Type 0 where
  pub rest : List Duty
  pub next : ds ≡ Look x ∷ rest

-- ---- what a try makes

-- the hand has stored the local word that it loaded with one less, if it counts there and the object isn't immortal
abbrev pub lowered : View → ℕ → View
lowered v word = if is_immortal_word word then v else if counts_here v word then view_after v word else v

-- Says whether the object dies, so that the hand chains it at once.
abbrev pub zero_dies : ZeroStep → Bool
zero_dies zero_step.Dying = true
zero_dies zero_step.Merge = false

abbrev pub shared_dies : SharedRelease → Bool
shared_dies shared.Dying = true
shared_dies _ = false

abbrev pub merge_dies : MergeStep → Bool
merge_dies merge.Dying = true
merge_dies _ = false

-- the local count that the hand carries from the local word, unless nobody owned the object
abbrev pub carries_of : ℕ → Option ℕ
carries_of local = if local == 0 then None else Some (local_part local)

-- what the swap of the local word leaves: the carried count is to be added, or the object is merged already
abbrev pub swap_left : ℕ → Reason → Option ℕ → List Duty
swap_left x r (Some carried) = MergeLoad x carried r ∷ []
swap_left x r None = once_merged x r

-- what the hand still carries after a try to add the count
abbrev pub still_carried : MergeStep → ℕ → Option ℕ
still_carried merge.Again carried = Some carried
still_carried _ carried = None
