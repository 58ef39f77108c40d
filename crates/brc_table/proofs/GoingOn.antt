-- A hand goes on with work: with the duty that comes next, or with work that it turns to.
use Rattle.std.proofs.Common.{◌≡◌, ◌≢◌, ℕ, ◌<◌, true}
use Rattle.brc_model.specs.declared.actor.Status.TheVariants.{Gone}
use Rattle.brc_model.specs.declared.duty.Duty.{Duty}
use Rattle.brc_model.specs.Layout.{row_count}
use Rattle.brc_model.specs.CountingLaws.{WorkIsPutAside, WorkIsTakenBack}
use Rattle.brc_model.specs.OpenWork.{is_about}
use Rattle.brc_table.specs.Plan.{Plan}
use Rattle.brc_table.specs.declared.view.View.{View}
use Rattle.brc_table.specs.declared.work.Work.{Work}
use Rattle.brc_table.specs.declared.work.Work.TheVariants.{Next, Aside}
use Rattle.brc_table.specs.Accesses.{HasAccess, IsNext, row_of}
use Rattle.brc_table.specs.Begins.{Becomes}
use Rattle.brc_table.specs.Turns.{MayGoOn, turned_to}
use Rattle.brc_table.specs.Views.{RowsAreThere, work_about}
use Rattle.brc_table.proofs.Becoming.{turned_becomes}
use Rattle.brc_table.proofs.Changing.{itself_becomes}
use Rattle.brc_table.proofs.NextDuty.{coming, next_there}

-- The hand may become what it goes on with,
pub goes_on_becomes : WorkIsPutAside → WorkIsTakenBack → (plan : Plan) (work : Work) (v : View) (x : ℕ)
    → MayGoOn work v → Becomes plan v (turned_to work v x)
goes_on_becomes put take plan Next v x may = itself_becomes plan v
goes_on_becomes put take plan Aside v x may = turned_becomes put take plan v x may.1

-- its thread isn't gone,
pub goes_on_alive : (work : Work) (v : View) (x : ℕ) → MayGoOn work v → (turned_to work v x).actor.status ≢ Gone
goes_on_alive Next v x may = may
goes_on_alive Aside v x may = may.0

-- and the row of the duty that it does then is there.
pub goes_on_row : (work : Work) (v : View) (d : Duty) → HasAccess d → RowsAreThere v
    → IsNext d (turned_to work v (row_of d)).actor.agenda → is_about (row_of d) d ≡ true → row_of d < row_count v.layout
goes_on_row Next v d has rows next this = next_there v d next has rows this
goes_on_row Aside v d has rows next this =
    let c = coming d (work_about (row_of d) v) next in rows.work (row_of d) c.first c.rest c.is
