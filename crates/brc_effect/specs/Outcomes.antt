-- How the steps of a release and of a merge end, by the words found.
use Rattle.std.specs.Prelude.{ℕ, Bool, ◌==◌, if◌then◌else◌}
use Rattle.brc_word.specs.declared.values.TheConstants.{SET}
use Rattle.brc_word.specs.Words.{is_immortal_word, local_part, fresh_word, dead_word, released_word, merged_word}
use Rattle.brc_model.specs.Duties.{counts_locally}
use Rattle.brc_effect.specs.declared.outcomes.LocalRelease.{LocalRelease}
use Rattle.brc_effect.specs.declared.outcomes.LocalRelease.TheVariants as local
use Rattle.brc_effect.specs.declared.outcomes.ZeroStep.{ZeroStep}
use Rattle.brc_effect.specs.declared.outcomes.ZeroStep.TheVariants as zero
use Rattle.brc_effect.specs.declared.outcomes.SharedRelease.{SharedRelease}
use Rattle.brc_effect.specs.declared.outcomes.SharedRelease.TheVariants as shared
use Rattle.brc_effect.specs.declared.outcomes.MergeStep.{MergeStep}
use Rattle.brc_effect.specs.declared.outcomes.MergeStep.TheVariants as merge
use Rattle.brc_effect.specs.declared.outcomes.Looked.{Looked}
use Rattle.brc_effect.specs.declared.outcomes.Looked.TheVariants as looks

-- a release that has loaded this local word
abbrev pub local_answer : ℕ → Bool → ℕ → LocalRelease
local_answer thread running word =
    if is_immortal_word word then local.Skip
    else if counts_locally thread running word then (if local_part word == 1 then local.Zero else local.Kept)
    else local.Share

-- a look at the shared word of an object whose last local reference is gone
abbrev pub zero_answer : ℕ → ZeroStep
zero_answer word = if word == fresh_word then zero.Dying else zero.Merge

-- a release that has loaded the shared word, and found another word, or the same, as it exchanged that
abbrev pub shared_answer : ℕ → ℕ → SharedRelease
shared_answer word found =
    if found == word
    then (if word == fresh_word then shared.Queued
    else if released_word word == dead_word then shared.Dying
    else shared.Kept)
    else shared.Again

-- a merge that has loaded the shared word, and found another word, or the same, as it exchanged that
abbrev pub merge_answer : ℕ → ℕ → ℕ → MergeStep
merge_answer carried word found =
    if found == word then (if merged_word word carried == dead_word then merge.Dying else merge.Kept) else merge.Again

-- a mark that was taken
abbrev pub taken_answer : ℕ → Looked
taken_answer mark = if mark == SET then looks.Claimed else looks.Left
