-- What an image promises: its walks are the paths of its outline.
use Rattle.std.specs.Prelude.{◌≡◌, ℕ, List, Some}
use Rattle.brc_lang.specs.declared.module.Function.{Function}
use Rattle.brc_lang.specs.declared.module.Module.{Module}
use Rattle.brc_lang.specs.declared.check_code.CheckCode.{CheckCode}
use Rattle.brc_model.specs.Paths.{ReportsCode, IsAcceptable}
use Rattle.brc_c_outline.specs.declared.outline.Outline.{Outline}
use Rattle.brc_c_outline.specs.Outlines.{IsImage, IsBroken, IsUnbroken, Shows}

-- if choices lead to a point that breaks a rule, some walk along the module reports it, at the instruction that the
-- point names
abbrev pub EveryPathHasItsWalk : Type 0
EveryPathHasItsWalk = (f : Function) (o : Outline) (at : ℕ) (code : CheckCode) → IsImage f o
    → IsBroken o at code → ReportsCode f at code

-- if a walk along the module reports a code, choices lead to a point that breaks this rule there
abbrev pub EveryWalkIsAPath : Type 0
EveryWalkIsAPath = (f : Function) (o : Outline) (at : ℕ) (code : CheckCode) → IsImage f o
    → ReportsCode f at code → IsBroken o at code

-- no path breaks a rule of an outline that an accepted module shows
abbrev pub AcceptedIsUnbroken : Type 0
AcceptedIsUnbroken = (m : Module) (o : Outline) → Shows m o → IsAcceptable m → IsUnbroken o
