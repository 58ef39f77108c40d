-- How a thread's exit goes on.
use Rattle.std.proofs.Common.{◌≡◌, ℕ, zero, suc, Bool, None, List, [], ◌∷◌, ◌++◌, refl, ap, ◌∙◌}
use Rattle.std.specs.Prelude.{not, if◌then◌else◌}
use Rattle.std.specs.List.{filter}
use Rattle.brc_host.specs.HostCalls.{HostCall}
use Rattle.brc_model.specs.declared.duty.Duty.{Duty}
use Rattle.brc_model.specs.declared.duty.Duty.TheVariants.{Finish}
use Rattle.brc_model.specs.Duties.{ready}
use Rattle.brc_model.specs.Layout.{root_row}
use Rattle.brc_model.specs.OpenWork.{is_about}
use Rattle.brc_table.specs.declared.view.View.{View}
use Rattle.brc_table.specs.Views.{view_by, view_after, open_work, without_one, without_reference}
use Rattle.brc_table.specs.Calls.{IsFree, MayLeave}
use Rattle.brc_model.proofs.Basics.Blocks.{root_counted}
use Rattle.brc_free.specs.Works.{HasWorked, HasReleased, ComesToSettle, AtOnce, to_settle}

-- With no other work, nothing is aside after the release of the root.
pub nothing_aside : (v : View) (x : ℕ) → v.actor.agenda ≡ [] → v.actor.aside ≡ []
    → filter (λ d. not (is_about x d)) (open_work v) ≡ []
nothing_aside v x idle none =
    ap (λ (ds : List Duty). filter (λ d. not (is_about x d)) (ds ++ v.actor.aside)) idle
    ∙ ap (λ (ds : List Duty). filter (λ d. not (is_about x d)) ds) none

-- The hand settles next,
pub comes_at_once : {v u : View} {x : ℕ} → IsFree v → HasReleased x v u → ComesToSettle u []
comes_at_once {v} {u} {x} free released =
    AtOnce (released.keeps.status ∙ free.running)
    (released.keeps.aside ∙ nothing_aside v x free.agenda free.aside) released.agenda

-- and holds nothing.
pub holds_none : (v u : View) → v.references ≡ root_row ∷ []
    → u.references ≡ without_reference v.layout root_row v.references → u.references ≡ []
holds_none v u root is =
    is
    ∙ (ap (λ (b : Bool). if b then v.references else without_one root_row v.references) (root_counted v.layout)
    ∙ ap (without_one root_row) root)

-- Once it has settled it may leave.
pub may_leave : {v u w : View} {cs : List HostCall} → IsFree v → v.references ≡ root_row ∷ []
    → v.actor.locked ≡ None → HasReleased root_row v u → HasWorked (to_settle [] u) cs [] w → w.actor.head ≡ 0
    → MayLeave w
may_leave {v} {u} {w} free root unlocked released at empty = record {
  free = record {
    running = at.keeps.status ∙ (released.keeps.status ∙ free.running);
    agenda = at.agenda;
    aside = at.keeps.aside ∙ (released.keeps.aside ∙ nothing_aside v root_row free.agenda free.aside);
  };
  holds_none = at.keeps.references ∙ holds_none v u root released.keeps.references;
  unlocked = at.keeps.locked ∙ (released.keeps.locked ∙ unlocked);
  settled = empty;
}

-- To say that it is gone comes last,
pub finish_first : (head : ℕ) → ready head (Finish ∷ []) ≡ Finish ∷ []
finish_first zero = refl
finish_first (suc head) = refl

-- and then nothing is left.
pub finished : (v u w : View) (cs : List HostCall) → HasWorked v cs (Finish ∷ []) u → w ≡ view_after u 2
    → w ≡ view_by u (Finish ∷ []) 2
finished v u w cs at is = is ∙ ap (λ (ds : List Duty). view_by u ds 2) (at.agenda ∙ finish_first u.actor.head)
