-- Going on with work that comes next, or that was put aside.
use Rattle.std.specs.Prelude.{◌≢◌, ℕ}
use Rattle.brc_model.specs.declared.actor.Status.TheVariants.{Gone}
use Rattle.brc_table.specs.declared.view.View.{View}
use Rattle.brc_table.specs.declared.work.Work.{Work}
use Rattle.brc_table.specs.declared.work.Work.TheVariants.{Next, Aside}
use Rattle.brc_table.specs.Views.{turned}
use Rattle.brc_table.specs.Calls.{CanAct}

-- the hand's view as it goes on with its work about the row
abbrev pub turned_to : Work → View → ℕ → View
turned_to Next v x = v
turned_to Aside v x = turned v x

-- The hand may go on with work that is there.
abbrev pub MayGoOn : Work → View → Type 0
MayGoOn Next v = v.actor.status ≢ Gone
MayGoOn Aside v = CanAct v
