use Rattle.std.proofs.Common.{refl}
use Rattle.brc_check.proofs.Same.{each_kind, each_var, same_slots}
use Rattle.brc_check.proofs.state.same_slots.Goals as goal

-- the numbers of two states decide whether the states are equal
pub returns : goal.returns
returns c =
    same_slots _ c.args.one.now c.args.other.now c.eq.result
    (each_var _
    (each_var _ refl (each_kind _ refl refl refl refl refl refl) (each_kind _ refl refl refl refl refl refl)
    (each_kind _ refl refl refl refl refl refl))
    (each_kind _ (each_var _ refl (each_kind _ refl refl refl refl refl refl)
    (each_kind _ refl refl refl refl refl refl) (each_kind _ refl refl refl refl refl refl))
    (each_var _ refl (each_kind _ refl refl refl refl refl refl) (each_kind _ refl refl refl refl refl refl)
    (each_kind _ refl refl refl refl refl refl))
    (each_var _ refl (each_kind _ refl refl refl refl refl refl) (each_kind _ refl refl refl refl refl refl)
    (each_kind _ refl refl refl refl refl refl))
    (each_var _ refl (each_kind _ refl refl refl refl refl refl) (each_kind _ refl refl refl refl refl refl)
    (each_kind _ refl refl refl refl refl refl))
    (each_var _ refl (each_kind _ refl refl refl refl refl refl) (each_kind _ refl refl refl refl refl refl)
    (each_kind _ refl refl refl refl refl refl))
    (each_var _ refl (each_kind _ refl refl refl refl refl refl) (each_kind _ refl refl refl refl refl refl)
    (each_kind _ refl refl refl refl refl refl)))
    (each_kind _ (each_var _ refl (each_kind _ refl refl refl refl refl refl)
    (each_kind _ refl refl refl refl refl refl) (each_kind _ refl refl refl refl refl refl))
    (each_var _ refl (each_kind _ refl refl refl refl refl refl) (each_kind _ refl refl refl refl refl refl)
    (each_kind _ refl refl refl refl refl refl))
    (each_var _ refl (each_kind _ refl refl refl refl refl refl) (each_kind _ refl refl refl refl refl refl)
    (each_kind _ refl refl refl refl refl refl))
    (each_var _ refl (each_kind _ refl refl refl refl refl refl) (each_kind _ refl refl refl refl refl refl)
    (each_kind _ refl refl refl refl refl refl))
    (each_var _ refl (each_kind _ refl refl refl refl refl refl) (each_kind _ refl refl refl refl refl refl)
    (each_kind _ refl refl refl refl refl refl))
    (each_var _ refl (each_kind _ refl refl refl refl refl refl) (each_kind _ refl refl refl refl refl refl)
    (each_kind _ refl refl refl refl refl refl)))
    (each_kind _ (each_var _ refl (each_kind _ refl refl refl refl refl refl)
    (each_kind _ refl refl refl refl refl refl) (each_kind _ refl refl refl refl refl refl))
    (each_var _ refl (each_kind _ refl refl refl refl refl refl) (each_kind _ refl refl refl refl refl refl)
    (each_kind _ refl refl refl refl refl refl))
    (each_var _ refl (each_kind _ refl refl refl refl refl refl) (each_kind _ refl refl refl refl refl refl)
    (each_kind _ refl refl refl refl refl refl))
    (each_var _ refl (each_kind _ refl refl refl refl refl refl) (each_kind _ refl refl refl refl refl refl)
    (each_kind _ refl refl refl refl refl refl))
    (each_var _ refl (each_kind _ refl refl refl refl refl refl) (each_kind _ refl refl refl refl refl refl)
    (each_kind _ refl refl refl refl refl refl))
    (each_var _ refl (each_kind _ refl refl refl refl refl refl) (each_kind _ refl refl refl refl refl refl)
    (each_kind _ refl refl refl refl refl refl))))
    c.eq.ensures
